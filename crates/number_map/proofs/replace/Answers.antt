-- One slot has a value before and after.
use Rattle.number_map.proofs.SlotLemmas.{count_written}
use Rattle.number_map.proofs.replace.Goals as goal

pub returns-clause-counted : goal.returns-clause-counted
returns-clause-counted g c = count_written c.args.slots.now.slots c.args.key c.args.value c.requires
