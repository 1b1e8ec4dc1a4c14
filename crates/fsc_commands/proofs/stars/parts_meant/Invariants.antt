use Rattle.std.proofs.Common.{◌≡◌, take, map}
use Rattle.std.specs.List.{All}
use Rattle.mount_model.specs.Carried.{IsPart}
use Rattle.fsc_commands.specs.Steps.{names_in}
use Rattle.fsc_commands.specs.Stars.{resolved_part}
use Rattle.fsc_commands.proofs.stars.parts_meant.Given as goal

-- the parts so far are what they mean
abbrev pub invariant-parts : goal.invariant-parts
invariant-parts l = record {
  told : l.meant ≡ map (resolved_part (names_in l.told)) (take l.part-index l.parts);
  each : All IsPart l.meant;
}
