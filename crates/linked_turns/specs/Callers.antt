-- Callers before their first commands, and what they have received in the end.
use Rattle.std.specs.Prelude.{ℕ, ◌+◌, Bool, true, false, List, [], ◌∷◌, map}
use Rattle.script_lang.specs.declared.commands.Section.{Section}
use Rattle.reply_text.specs.Logged.{PlacedLogged}
use Rattle.fsc_session.specs.Runners.{RunnerView, runner_view}
use Rattle.mount_links.specs.declared.step.LinkStep.{LinkStep}
use Rattle.mount_links.specs.Linked.{own_parts, far_parts}
use Rattle.mount_links.specs.ShownParts.{logged_load}
use Rattle.linked_turns.specs.declared.runners.LinkedRunner.{LinkedRunner}
use Rattle.linked_turns.specs.Parts.{is_even}

-- the runners of these callers
abbrev pub runners_of : List LinkedRunner → List RunnerView
runners_of callers = map (λ caller. caller.runner) callers

-- a runner, and what became of its calls
pub record LinkedView : Type 0 where
  pub runner : RunnerView
  pub steps : List LinkStep

abbrev pub view_of : LinkedRunner → LinkedView
view_of caller = record { runner = caller.runner; steps = caller.steps.items }

-- a caller of this number before the first command of its section
abbrev pub fresh_view : ℕ → Section → LinkedView
fresh_view number section = record { runner = runner_view number section 0 [] []; steps = [] }

-- those of all sections, of which the first has the number k
abbrev pub fresh_views : ℕ → List Section → List LinkedView
fresh_views k [] = []
fresh_views k (section ∷ more) = fresh_view k section ∷ fresh_views (k + 1) more

-- the shown entries of a caller's calls on mount 0
abbrev pub even_part : Bool → LinkedRunner → PlacedLogged
even_part true caller = caller.runner.entries
even_part false caller = far_parts caller.steps.items caller.runner.entries

abbrev pub even_logged_calls : LinkedRunner → PlacedLogged
even_logged_calls caller = even_part (is_even caller.runner.caller) caller

-- and on mount 1
abbrev pub odd_part : Bool → LinkedRunner → PlacedLogged
odd_part true caller = []
odd_part false caller = own_parts logged_load caller.steps.items caller.runner.entries

abbrev pub odd_logged_calls : LinkedRunner → PlacedLogged
odd_logged_calls caller = odd_part (is_even caller.runner.caller) caller
