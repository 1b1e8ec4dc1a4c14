-- The blocks before this one are stored again.
use Rattle.std.proofs.Common.{◌≡◌}
use Rattle.number_map.specs.Numbered.{changed}
use Rattle.data_crypt.specs.Blocks.{read_block, stored_block}
use Rattle.data_crypt.specs.Parts.{edited, rewritten}
use Rattle.disk_tree.specs.Nodes.{on_body, with_blocks}
use Rattle.data_crypt.specs.Ciphers.{seal_by}
use Rattle.file_disk.proofs.write.rewrite_blocks.Given as goal

abbrev pub invariant-each : goal.invariant-each
invariant-each l =
    l.disk ≡ changed l.fn.disk l.fn.file (on_body
    (with_blocks (edited (rewritten (stored_block (seal_by l.cipher))
    (read_block (seal_by l.cipher)) l.fn.had l.fn.offset l.bytes) l.first l.j)))
