use Rattle.std.proofs.Common.{[], refl, sym, ◌∙◌}
use Rattle.blake2_core.proofs.Following.{Follows-Holds, state_after_none}
use Rattle.blake2_core.proofs.Blake2b.new.Goals as goal

pub returns-clause-empty : goal.returns-clause-empty
returns-clause-empty c = Follows-Holds _ [] 0 refl record {
  counted = refl;
  absorbed = c.first_state.ensures ∙ sym (state_after_none c.args.size []);
  kept = refl;
  offset = refl;
}
