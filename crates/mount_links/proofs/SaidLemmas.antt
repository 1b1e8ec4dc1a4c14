-- The step of a call is the one that the replies determine.
use Rattle.std.proofs.Common.{◌≡◌, ℕ, Bool, true, false, cond, List, [], ◌∷◌, ◌⊎◌, inl, inr, refl, ap, sym, ◌∙◌, subst}
use Rattle.mount_model.specs.declared.reply.Reply.{Reply}
use Rattle.mount_model.specs.declared.reply.Reply.TheVariants.{Refused}
use Rattle.mount_model.specs.declared.reply.Refusal.TheVariants.{NoMemory}
use Rattle.mount_model.specs.History.{MountEntry, is_out_of_memory}
use Rattle.mount_links.specs.declared.asked.Asked.{Asked}
use Rattle.mount_links.specs.declared.asked.Asked.TheVariants.{Load, Store, Other}
use Rattle.mount_links.specs.declared.step.LinkStep.{LinkStep}
use Rattle.mount_links.specs.declared.step.LinkStep.TheVariants.{Alone, Followed, Looked, NotMade}
use Rattle.mount_links.specs.LinkSteps.{asked_of, is_link, IsStepOf}
use Rattle.mount_links.specs.StepsOfReplies.{IsStepOfReplies, StepsAreOfReplies, step_of_replies}

-- of a call that asks for this: by the reply of the first call on the own mount
abbrev Said : LinkStep → ℕ × MountEntry → Asked → Type 0
Said step x asked = (asked_of x.1.call.op ≡ asked) → IsStepOf asked x.1.reply step → IsStepOfReplies step x

alone_said : (x : ℕ × MountEntry) (asked : Asked) → asked_of x.1.call.op ≡ asked
    → Alone ≡ step_of_replies asked x.0 x.1.reply 0 → IsStepOfReplies Alone x
alone_said x asked asks said = record {
  first = x;
  others = [];
  on_own = refl;
  there = 0;
  on_far = inl refl;
  said = said ∙ ap (λ (a : Asked). step_of_replies a x.0 x.1.reply 0) (sym asks);
}

followed_said : (x : ℕ × MountEntry) (asked : Asked) (label : List ℕ) (reply : Reply) (there : ℕ) → asked_of x.1.call.op ≡ asked
    → Followed label reply there ≡ step_of_replies asked x.0 reply there → IsStepOfReplies (Followed label reply there) x
followed_said x asked label reply there asks said = record {
  first = _;
  others = [];
  on_own = refl;
  there = there;
  on_far = inr refl;
  said = said ∙ ap (λ (a : Asked). step_of_replies a x.0 reply there) (sym asks);
}

said_of : (asked : Asked) (step : LinkStep) (x : ℕ × MountEntry) → Said step x asked
said_of Other Alone x asks is = alone_said x Other asks refl
said_of Other (Followed label reply there) x asks is = absurd (cc is)
said_of Other (Looked label place reply) x asks is = absurd (cc is)
said_of Other (NotMade label) x asks is = absurd (cc is)
said_of (Load label) Alone x asks is = alone_said x (Load label) asks (rw is refl)
said_of (Load label) (Followed named reply there) x asks is =
    followed_said x (Load label) named reply there asks (rw is.1 (ap (λ (l : List ℕ). Followed l reply there) is.0))
said_of (Load label) (Looked named place reply) x asks is = absurd is
said_of (Load label) (NotMade named) x asks is = absurd is
said_of (Store label) Alone x asks is = absurd is
said_of (Store label) (Followed named reply there) x asks is =
    followed_said x (Store label) named reply there asks (rw is.1 (ap (λ (l : List ℕ). Followed l reply there) is.0))
said_of (Store label) (Looked named place reply) x asks is = record {
  first = _;
  others = x ∷ [];
  on_own = refl;
  there = 0;
  on_far = inl refl;
  said = rw (asks, is.1, is.2) (ap (λ (l : List ℕ). Looked l place reply) is.0);
}
said_of (Store label) (NotMade named) x asks is = record {
  first = _;
  others = [];
  on_own = refl;
  there = 0;
  on_far = inl refl;
  said = rw asks (ap (λ (l : List ℕ). NotMade l) is.0);
}

pub steps_are_said : StepsAreOfReplies
steps_are_said step x is = said_of (asked_of x.1.call.op) step x refl is
