use Rattle.std.proofs.Common.{ℕ, List, [], ◌∷◌, ◌++◌, ap, ◌∙◌}
use Rattle.mount_model.specs.declared.call.Op.TheVariants.{MetaLoad}
use Rattle.fsc_commands.specs.CommandSteps.{call_of_caller}
use Rattle.fsc_commands.proofs.WorkLemmas.{one_call}
use Rattle.fsc_commands.proofs.work.Work.load_policy.Goals as goal

pub returns : goal.returns
returns g c =
    one_call _ c.loaded_policy-loaded.result (ap (λ (name : List ℕ). call_of_caller c.args.self.now.turn.uid (MetaLoad name)) c.in_ok-name.ensures.value)
    c.in_ok-placed.ensures.answered.reached_by_call c.in_ok-placed.ensures.answered.shown c.in_ok-placed.ensures.answered.one_fewer
    (c.in_ok-push.ensures.appended ∙ ap (λ l. l ++ c.in_ok-placed.placed ∷ []) c.in_ok-placed.ensures.answered.unlisted)
    (record { number = c.in_ok-placed.ensures.same.number; port = c.in_ok-placed.ensures.same.port; entries = c.in_ok-placed.ensures.same.entries })
    c.loaded_policy-loaded.ensures
