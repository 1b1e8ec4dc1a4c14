-- How the contract of a call makes its entry.
use Rattle.std.proofs.Common.{◌≡◌, ◌≢◌, ℕ, Bool, true, false, cond, IsTrue, inl, inr, refl, sym, ap, subst, ◌∙◌, ⊎_elim}
use Rattle.std.proofs.lemmas.Bool.{true≢false}
use Rattle.call_history.specs.Entries.{entry}
use Rattle.user_claims.specs.Claims.{ClaimSet}
use Rattle.mount_model.specs.declared.call.Call.{Call}
use Rattle.mount_model.specs.declared.call.Op.{Op}
use Rattle.mount_model.specs.declared.reply.Reply.{Reply}
use Rattle.mount_model.specs.declared.reply.Reply.TheVariants.{Refused}
use Rattle.mount_model.specs.declared.reply.Refusal.TheVariants.{NoMemory}
use Rattle.mount_model.specs.PlainMount.{PlainMount}
use Rattle.mount_model.specs.Answer.{answer_of, answer_to}
use Rattle.mount_model.specs.Step.{takes_memory, IsMountStep}
use Rattle.mount_model.specs.History.{MountEntry, mount_after_entry}
use Rattle.mount_model.specs.ClaimHistory.{is_refused, claims_after_op}
use Rattle.mount_model.specs.Lawful.{ReportsClaims}
use Rattle.mount_model.proofs.StepLemmas.{mount_after_entry-step}
use Rattle.mount_state.specs.AnswerOf.{IsAnswerOf, IsAnswerOrNoMemory, IsExpectedRefusal}
use Rattle.mount_state.specs.SameBut.{IsSame}
use Rattle.mount_state.specs.SameButCaches.{SameButCaches}
use Rattle.mount_state.specs.Represents.{Represents}
use Rattle.mount_state.specs.declared.state.MountState.{MountState}
use Rattle.mount_shared.specs.Made.{TakesStep, IsMade}

-- ---- a step

pub step_given : (m : PlainMount) (e : MountEntry) (new : MountState) → IsAnswerOf (answer_of m e.who e.call) e.reply new
    → TakesStep m e new
step_given m e new given =
    let step : IsMountStep m e.who e.call e.reply (answer_of m e.who e.call).mount = inl (given.0, refl) in
    let left : (answer_of m e.who e.call).mount ≡ mount_after_entry m e =
    mount_after_entry-step m e (answer_of m e.who e.call).mount step in (
      subst (IsMountStep m e.who e.call e.reply) left step,
      subst (Represents new) left given.1,
    )

pub step_given_or_none : (m : PlainMount) (e : MountEntry) (new : MountState) → IsTrue (takes_memory e.call.op)
    → IsAnswerOrNoMemory m (answer_of m e.who e.call) e.reply new → TakesStep m e new
step_given_or_none m e new takes answered = ⊎_elim
    (λ given. step_given m e new given)
    (λ wanting.
    let step : IsMountStep m e.who e.call e.reply m = inr (takes, wanting.0, refl) in
    let left : m ≡ mount_after_entry m e = mount_after_entry-step m e m step in
    (subst (IsMountStep m e.who e.call e.reply) left step, subst (Represents new) left wanting.1))
    answered

-- ---- the entry

same_either : (b : Bool) (cs : ClaimSet) → cond b cs cs ≡ cs
same_either true cs = refl
same_either false cs = refl

abbrev pub call_with : ℕ → Op → Call
call_with uid o = record { uid = uid; op = o }

-- what differs in nothing differs in nothing but cached keys and names
pub all_kept : (old new : MountState) → IsSame old new → SameButCaches old new
all_kept old new same = record {
  disk = same.disk;
  next_node = same.next_node;
  ring = same.ring;
  meta = same.meta;
  keys = tt;
  pins = same.pins;
  handles = same.handles;
  modes = same.modes;
  names = tt;
}

-- a state differs from itself in nothing
pub itself : (s : MountState) → SameButCaches s s
itself s = record { disk = refl; next_node = refl; ring = refl; meta = refl; keys = tt; pins = refl; handles = refl; modes = refl; names = tt }

-- after a refusal nothing differs but cached keys and names
abbrev pub Keeps : MountState → MountState → Reply → Type 0
Keeps old new reply = is_refused reply ≡ true → SameButCaches old new

-- an operation that takes no memory is never out of memory
abbrev pub IsSure : Op → Reply → Type 0
IsSure o reply = takes_memory o ≡ false → reply ≢ Refused NoMemory

-- it holds trivially for one that takes memory
pub takes_some : (o : Op) (reply : Reply) → IsTrue (takes_memory o) → IsSure o reply
takes_some o reply takes none = absurd (true≢false (sym takes ∙ none))

-- an answer that is a refusal is the reply
abbrev pub IsDueOf : MountState → ℕ → ℕ → Op → Reply → Type 0
IsDueOf old caller uid o reply = (m : PlainMount) → Represents old m → IsExpectedRefusal (answer_to m caller uid o) reply

module _ (old new : MountState) (caller : ℕ) where
  abbrev EntryOf : ℕ → Reply → Op → Type 0
  EntryOf uid reply o = IsMade old (entry caller (call_with uid o) reply) new

  -- of an operation that makes no claims
  made_else : (uid : ℕ) (o : Op) (reply : Reply) → ((cs : ClaimSet) → claims_after_op cs uid o ≡ cs)
      → ReportsClaims old.ring.claims uid o reply → new.ring ≡ old.ring
      → Keeps old new reply → IsSure o reply → IsDueOf old caller uid o reply
      → ((m : PlainMount) → Represents old m → TakesStep m (entry caller (call_with uid o) reply) new)
      → EntryOf uid reply o
  made_else uid o reply none tells same keeps sure due step = record {
    represents = λ m st agrees. step m st;
    claims = ap (λ ring. ring.claims) same
        ∙ sym (ap (cond (is_refused reply) old.ring.claims) (none old.ring.claims)
        ∙ same_either (is_refused reply) old.ring.claims);
    told = tells;
    refused = keeps;
    sure = sure;
    due = due;
  }

  -- the same of a call, whose answer is given
  pub made_given : (call : Call) (o : Op) (reply : Reply) → call.op ≡ o → ((cs : ClaimSet) → claims_after_op cs call.uid o ≡ cs)
      → ReportsClaims old.ring.claims call.uid o reply → new.ring ≡ old.ring
      → Keeps old new reply → IsSure o reply
      → ((m : PlainMount) → Represents old m → IsAnswerOf (answer_to m caller call.uid o) reply new)
      → IsMade old (entry caller call reply) new
  made_given call o reply is none tells same keeps sure represents = subst (EntryOf call.uid reply) (sym is)
      (made_else call.uid o reply none tells same keeps sure (λ m st _. (represents m st).0)
      (λ m st. step_given m (entry caller (call_with call.uid o) reply) new (represents m st)))

  -- or there may be no memory for it
  pub made_given_or_none : (call : Call) (o : Op) (reply : Reply) → call.op ≡ o → IsTrue (takes_memory o)
      → ((cs : ClaimSet) → claims_after_op cs call.uid o ≡ cs)
      → ReportsClaims old.ring.claims call.uid o reply → new.ring ≡ old.ring
      → Keeps old new reply → IsDueOf old caller call.uid o reply
      → ((m : PlainMount) → Represents old m → IsAnswerOrNoMemory m (answer_to m caller call.uid o) reply new)
      → IsMade old (entry caller call reply) new
  made_given_or_none call o reply is takes none tells same keeps due represents = subst (EntryOf call.uid reply) (sym is)
      (made_else call.uid o reply none tells same keeps (takes_some o reply takes) due
      (λ m st. step_given_or_none m (entry caller (call_with call.uid o) reply) new takes (represents m st)))
