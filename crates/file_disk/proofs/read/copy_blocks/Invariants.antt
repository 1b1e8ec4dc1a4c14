-- The blocks before this one are copied.
use Rattle.std.proofs.Common.{◌≡◌, ◌*◌, length}
use Rattle.data_crypt.specs.Parts.{blocks_joined}
use Rattle.disk_tree.specs.DiskTree.{file_blocks}
use Rattle.file_disk.proofs.read.copy_blocks.Given as goal

abbrev pub invariant-each : goal.invariant-each
invariant-each l = record {
  copied : l.text.items ≡ blocks_joined (file_blocks l.disk l.fn.file) l.fn.from l.i;
  size : length l.text.items ≡ 4096 * l.i;
}
