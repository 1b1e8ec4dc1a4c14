-- What a run's entries are, and that answers determine them.
use Rattle.std.proofs.Common.{◌≡◌, ◌≢◌, ℕ, Bool, false, cond, [], ◌∷◌, ◌++◌, Some, None, get_or, drop, length, refl, ap, sym, ◌∙◌, arith}
use Rattle.std.proofs.lemmas.List.Elements.{All-head, All-tail}
use Rattle.call_history.specs.Entries.{entry}
use Rattle.mount_model.specs.declared.call.Call.{Call}
use Rattle.mount_model.specs.declared.reply.Reply.{Reply}
use Rattle.mount_model.specs.declared.reply.Reply.TheVariants as reply
use Rattle.mount_model.specs.declared.reply.Reply.TheVariants.{Refused}
use Rattle.mount_model.specs.declared.reply.Refusal.TheVariants as refusal
use Rattle.mount_model.specs.declared.reply.Refusal.TheVariants.{NoMemory}
use Rattle.mount_model.specs.PlainMount.{PlainMount}
use Rattle.mount_model.specs.Answer.{answer_of}
use Rattle.mount_model.specs.History.{History, MountEntry, IsLegalFrom, NeverOutOfMemory, mount_after_entry, is_out_of_memory}
use Rattle.mount_model.proofs.StepLemmas.{answered-step}
use Rattle.fsc_commands.specs.Steps.{Steps, Reaches, next_of}
use Rattle.fsc_commands.specs.Steps.Steps.{Done, Ask}
use Rattle.fsc_session.specs.Session.{AreNextCalls}
use Rattle.fsc_session.specs.Serial.{serial_entries}

abbrev HadMemory : MountEntry → Type 0
HadMemory e = e.reply ≢ Refused NoMemory

pub given_reply : (reply : Reply) → reply ≢ Refused NoMemory → is_out_of_memory reply ≡ false
given_reply (reply.Added id) h = refl
given_reply (reply.Removed others busy) h = refl
given_reply (reply.Status state by_self users) h = refl
given_reply reply.Done h = refl
given_reply (reply.PolicyIs policy) h = refl
given_reply (reply.Names names more) h = refl
given_reply (reply.Stat kind node size encrypted keyed) h = refl
given_reply (reply.Opened number) h = refl
given_reply (reply.Content bytes) h = refl
given_reply (reply.Target bytes) h = refl
given_reply (reply.Held version bytes) h = refl
given_reply (reply.Stored version) h = refl
given_reply (reply.Refused refusal.NoKey) h = refl
given_reply (reply.Refused refusal.Access) h = refl
given_reply (reply.Refused refusal.Quota) h = refl
given_reply (reply.Refused refusal.Inval) h = refl
given_reply (reply.Refused refusal.Exists) h = refl
given_reply (reply.Refused refusal.NotFound) h = refl
given_reply (reply.Refused refusal.NotDir) h = refl
given_reply (reply.Refused refusal.IsDir) h = refl
given_reply (reply.Refused refusal.NotEmpty) h = refl
given_reply (reply.Refused refusal.XDev) h = refl
given_reply (reply.Refused refusal.NoData) h = refl
given_reply (reply.Refused refusal.BadHandle) h = refl
given_reply (reply.Refused refusal.NameTooLong) h = refl
given_reply (reply.Refused refusal.TooBig) h = refl
given_reply (reply.Refused refusal.NoSpace) h = refl
given_reply (reply.Refused refusal.NoKeyClash) h = refl
given_reply (reply.Refused (refusal.Changed version)) h = refl
given_reply (reply.Refused refusal.NoMemory) h = absurd (h refl)

pub left_when_given : (m after : PlainMount) (want : Bool) → want ≡ false → cond want m after ≡ after
left_when_given m after want h = rw h refl

pub played_from : {A : Type 0} (m : PlainMount) (steps : Steps A) (h : History) (value : A) → Reaches steps h (Done value)
    → IsLegalFrom m h → NeverOutOfMemory h → h ≡ serial_entries m steps
played_from m steps [] value so legal never = sym (ap (serial_entries m) so)
played_from m (Done other) (e ∷ es) value so legal never = absurd so
played_from m (Ask who call next) (e ∷ es) value so legal never =
    let given = All-head HadMemory e es never in
    let same : e.reply ≡ (answer_of m e.who e.call).reply = answered-step m e _ legal.0 given in
    let left : mount_after_entry m e ≡ (answer_of m e.who e.call).mount = left_when_given m _ _ (given_reply e.reply given) in
    let rest : es ≡ serial_entries (mount_after_entry m e) (next e.reply) = played_from (mount_after_entry m e) (next e.reply) es value so.2 legal.1 (All-tail HadMemory e es never) in
    ap (λ (es : History). e ∷ es) (rest ∙ ap (λ (n : PlainMount). serial_entries n (next e.reply)) left)
    ∙ ap (λ (r : Reply). entry e.who e.call r ∷ serial_entries (answer_of m e.who e.call).mount (next r)) same
    ∙ ap (λ (who : ℕ). entry who e.call (answer_of m who e.call).reply ∷ serial_entries (answer_of m who e.call).mount (next (answer_of m who e.call).reply)) so.0
    ∙ ap (λ (call : Call). entry who call (answer_of m who call).reply ∷ serial_entries (answer_of m who call).mount (next (answer_of m who call).reply)) so.1

-- ---- each entry makes the next call

some_given : {A : Type 0} (x y : A) → Some x ≡ Some y → x ≡ y
some_given x y same = cc same

pub next_calls : {A : Type 0} (steps : Steps A) (es : History) (value : A) → Reaches steps es (Done value) → AreNextCalls steps es
next_calls steps [] value so = record {
  each = λ before after e whole. absurd (none before e after whole);
  whole = ap (λ s. next_of s []) so;
}
  where
    none : (before : History) (e : MountEntry) (after : History) → [] ≡ before ++ e ∷ after → ⊥
    none [] e after whole = let long = ap length whole in omega (arith, long)
    none (x ∷ xs) e after whole = let long = ap length whole in omega (arith, long)
next_calls (Done other) (x ∷ es) value so = absurd so
next_calls (Ask who call next) (x ∷ es) value so =
    let rest = next_calls (next x.reply) es value so.2 in
    record {
      each = λ before after e whole. each rest so before after e whole;
      whole = rest.whole;
    }
  where
    each : AreNextCalls (next x.reply) es → Reaches (Ask who call next) (x ∷ es) (Done value) → (before after : History) (e : MountEntry)
        → x ∷ es ≡ before ++ e ∷ after → next_of (Ask who call next) before ≡ Some (e.who, e.call)
    each rest so [] after e whole =
        let first : x ≡ e = ap (λ (l : History). get_or l 0 x) whole in
        ap (λ (w : ℕ). Some (w, call)) (sym so.0) ∙ ap (λ (c : Call). Some (x.who, c)) (sym so.1) ∙ ap (λ (y : MountEntry). Some (y.who, y.call)) first
    each rest so (y ∷ before) after e whole =
        let first : x ≡ y = ap (λ (l : History). get_or l 0 x) whole in
        ap (λ (z : MountEntry). next_of (next z.reply) before) (sym first) ∙ rest.each before after e (ap (drop 1) whole)

ends : {A : Type 0} (steps : Steps A) → next_of steps [] ≡ None → (value : A) × (steps ≡ Done value)
ends (Done value) none = (value, refl)
ends (Ask who call next) none = absurd (cc none)

pub next_calls_reach : {A : Type 0} (steps : Steps A) (es : History) → AreNextCalls steps es → (value : A) × Reaches steps es (Done value)
next_calls_reach steps [] next = ends steps next.whole
next_calls_reach (Done value) (e ∷ es) next = let wrong = next.each [] es e refl in absurd (cc wrong)
next_calls_reach {A} (Ask who call more) (e ∷ es) next =
    let first : (who, call) ≡ (e.who, e.call) = some_given (who, call) (e.who, e.call) (next.each [] es e refl) in
    let rest = next_calls_reach (more e.reply) es (record {
      each = λ before after f whole. next.each (e ∷ before) after f (ap (λ (l : History). e ∷ l) whole);
      whole = next.whole;
    }) in
    (rest.0, (sym (ap (λ (p : ℕ × Call). p.0) first), sym (ap (λ (p : ℕ × Call). p.1) first), rest.1))
