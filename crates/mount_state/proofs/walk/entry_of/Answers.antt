use Rattle.std.proofs.Common.{ℕ, Option, sym, ap, subst, ◌∙◌}
use Rattle.std.specs.Result.{result_ok}
use Rattle.mount_model.specs.declared.reply.Refusal.TheVariants.{NotFound}
use Rattle.mount_state.specs.PassedEntries.{CachesOnly, found_entry}
use Rattle.mount_state.proofs.PassedEntryLemmas.{ok_of_or}
use Rattle.mount_state.proofs.walk.entry_of.Goals as goal

pub returns-in-Ok-true-clause-brought : goal.returns-in-Ok-true-clause-brought
returns-in-Ok-true-clause-brought g c =
    subst (λ (o : Option ℕ). CachesOnly c.args.state.now.names c.resolved_number.new.state.names (found_entry c.args.dir c.args.part.now o))
    (sym (ap result_ok c.ok_or.ensures.value ∙ ok_of_or c.resolved_number.result NotFound)) c.resolved_number.ensures.brought
