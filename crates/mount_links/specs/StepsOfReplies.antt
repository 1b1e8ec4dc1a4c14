-- The step that the replies determine: a caller's call and its replies determine its step.
use Rattle.std.specs.Prelude.{◌≡◌, ◌⊎◌, ℕ, List, [], ◌∷◌, if◌then◌else◌}
use Rattle.mount_model.specs.declared.reply.Reply.{Reply}
use Rattle.mount_model.specs.History.{MountEntry, is_out_of_memory}
use Rattle.mount_model.specs.Port.{PlacedCalls}
use Rattle.mount_links.specs.declared.asked.Asked.{Asked}
use Rattle.mount_links.specs.declared.asked.Asked.TheVariants.{Load, Store, Other}
use Rattle.mount_links.specs.declared.step.LinkStep.{LinkStep}
use Rattle.mount_links.specs.declared.step.LinkStep.TheVariants.{Alone, Followed, Looked, NotMade}
use Rattle.mount_links.specs.Linked.{own_part, far_part}
use Rattle.mount_links.specs.LinkSteps.{asked_of, is_link}
use Rattle.mount_links.specs.LinkCalls.{load_call, IsStep}

-- the step of a call that asks for this. It depends on the place and the reply of the first call on the
-- own mount, and the place of the one on the far mount, if there is one
abbrev pub step_of_replies : Asked → ℕ → Reply → ℕ → LinkStep
step_of_replies (Load label) place first there
    = if is_link label first then Followed label first there else Alone
step_of_replies (Store label) place first there =
    if is_link label first then Followed label first there
    else if is_out_of_memory first then NotMade label
    else Looked label place first
step_of_replies Other place first there = Alone

-- the step is the one that the replies determine, and a call on the far mount is the caller's own
pub record IsStepOfReplies (step : LinkStep) (x : ℕ × MountEntry) : Type 0 where
  pub first : ℕ × MountEntry
  pub others : PlacedCalls
  pub on_own : own_part load_call step x ≡ first ∷ others
  pub there : ℕ
  pub on_far : (far_part step x ≡ []) ⊎ (far_part step x ≡ (there, x.1) ∷ [])
  pub said : step ≡ step_of_replies (asked_of x.1.call.op) first.0 first.1.reply there

abbrev pub StepsAreOfReplies : Type 0
StepsAreOfReplies = (step : LinkStep) (x : ℕ × MountEntry) → IsStep step x → IsStepOfReplies step x
