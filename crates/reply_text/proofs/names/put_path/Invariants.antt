use Rattle.std.proofs.Common.{◌≡◌, ◌≤◌, ◌++◌, ◌-◌, length, take}
use Rattle.std.specs.List.{flat_map}
use Rattle.reply_text.specs.Names.{part_text}
use Rattle.reply_text.proofs.names.put_path.Given as goal

-- the words and the parts so far are written
abbrev pub invariant-parts : goal.invariant-parts
invariant-parts l = record {
  within : l.index ≤ length l.path;
  written : l.text.items ≡ l.fn.text.items ++ (l.words ++ flat_map part_text (take l.index l.path));
}

abbrev pub decreases-parts : goal.decreases-parts
decreases-parts l = length l.path - l.index
