-- The calls that a caller's calls on two mounts make on its ports to them.
use Rattle.std.specs.Prelude.{◌≡◌, ⊤, ℕ, List, [], ◌∷◌, ◌++◌}
use Rattle.mount_model.specs.declared.call.Call.{Call}
use Rattle.mount_model.specs.declared.call.Op.TheVariants.{MetaLoad}
use Rattle.mount_model.specs.History.{MountEntry}
use Rattle.mount_model.specs.Port.{PlacedCalls}
use Rattle.script_words.specs.Records.{record_name}
use Rattle.script_words.specs.declared.record_words.Record.TheVariants.{Protector}
use Rattle.mount_links.specs.declared.step.LinkStep.{LinkStep}
use Rattle.mount_links.specs.Linked.{own_part, own_parts, far_part, far_parts}
use Rattle.mount_links.specs.LinkSteps.{asked_of, IsStepOf}

-- loading the record of a protector, for the user of a call
abbrev pub load_call : List ℕ → Call → Call
load_call label call = record { uid = call.uid; op = MetaLoad (record_name (Protector label)) }

-- this is the step of the caller's call
abbrev pub IsStep : LinkStep → ℕ × MountEntry → Type 0
IsStep step x = IsStepOf (asked_of x.1.call.op) x.1.reply step

-- each of the calls has its step
abbrev pub AreSteps : List LinkStep → PlacedCalls → Type 0
AreSteps [] [] = ⊤
AreSteps (step ∷ steps) (x ∷ xs) = IsStep step x × AreSteps steps xs
AreSteps steps xs = ⊥

-- the ports to both mounts, how many calls are left, and the steps of the calls so far
pub record LinkView (P Q : Type 0) : Type 0 where
  pub own : P
  pub far : Q
  pub left : ℕ
  pub steps : List LinkStep

abbrev pub link_view : {P Q : Type 0} → P → Q → ℕ → List LinkStep → LinkView P Q
link_view own far left steps = record { own = own; far = far; left = left; steps = steps }

-- the ports are as after the step of one call
pub record AfterOneCall {P Q : Type 0} (own_after_calls : PlacedCalls → P → Type 0)
    (far_after_calls : PlacedCalls → Q → Type 0) (step : LinkStep) (x : ℕ × MountEntry) (own : P) (far : Q)
    : Type 0 where
  pub is_step : IsStep step x
  pub on_own : own_after_calls (own_part load_call step x) own
  pub on_far : far_after_calls (far_part step x) far

-- these calls turn the first port into the second: each has its step, and the two ports are as after the
-- calls that these steps make
pub record LinkAfterCalls {P Q : Type 0} (own_after_calls : P → PlacedCalls → P → Type 0)
    (far_after_calls : Q → PlacedCalls → Q → Type 0)
    (old : LinkView P Q) (calls : PlacedCalls) (new : LinkView P Q) : Type 0 where
  pub steps : List LinkStep
  pub are_steps : AreSteps steps calls
  pub kept : new.steps ≡ old.steps ++ steps
  pub on_own : own_after_calls old.own (own_parts load_call steps calls) new.own
  pub on_far : far_after_calls old.far (far_parts steps calls) new.far
