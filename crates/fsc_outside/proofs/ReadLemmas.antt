-- Calls of a source, one after another, and how a reading ends.
use Rattle.std.proofs.Common.{◌≡◌, ℕ, ◌<◌, ◌≤◌, List, [], ◌∷◌, ◌++◌, length, take, All, Option, Some, None, Result, Ok, Err}
use Rattle.std.proofs.Common.{sym, ap, ◌∙◌, subst, inr, arith, append-nil, length-append}
use Rattle.std.proofs.lemmas.List.Elements.{All-nil, All-cons, All-append, All-head, All-tail}
use Rattle.std.specs.Io.KnownBytes.{Consumes, Keeps, ReadConsumes}
use Rattle.fsc_outside.specs.Causes.{HasCause}
use Rattle.fsc_outside.specs.States.{SourceState}
use Rattle.fsc_outside.specs.Reads.{ReadCall, AreReads, ReturnsBytes, bytes_of_calls, read_call}
use Rattle.fsc_outside.specs.Reads.ReadCall.{Gave, Faulted}
use Rattle.fsc_outside.specs.ReadLaws.{Consumes-on, bytes_of_more}
use Rattle.fsc_outside.specs.Input.{EndsReading, LimitsLines}
use Rattle.fsc_outside.specs.WholeTexts.{ReadToEnd}
use Rattle.fsc_outside.specs.Reading.{AfterReading, max_read_bytes}
use Rattle.fsc_outside.specs.declared.input.InputLimits.{InputLimits}
use Rattle.fsc_outside.specs.declared.input.InputFault.{InputFault}
use Rattle.fsc_outside.specs.declared.input.InputFault.TheVariants.{ReadFault, TooLong, NoMemory}

-- ---- one call

kept_none : (a b : Option (List ℕ)) → Keeps a b → Consumes a b []
kept_none None b kept = tt
kept_none (Some old) None kept = absurd kept
kept_none (Some old) (Some new) kept = sym kept

-- a call is one read
pub is_read : {E : Type 0} → (old new : SourceState) (piece : List ℕ) (result : Result ℕ E)
    → ReadConsumes old.left new.left result piece → HasCause old.faults new.faults result
    → AreReads old (read_call piece result ∷ []) new
is_read old new piece (Ok count) bytes cause = record {
  bytes = subst (Consumes old.left new.left) (sym (append-nil (take count piece))) bytes.0;
  faults = cause.quiet;
}
is_read old new piece (Err fault) bytes cause = record {
  bytes = kept_none old.left new.left bytes;
  faults = cause.failed;
}

-- one that failed consumes nothing
pub kept_on : (a b c : Option (List ℕ)) (bytes : List ℕ) → Consumes a b bytes → Keeps b c → Consumes a c bytes
kept_on a b c bytes given kept = subst (Consumes a c) (append-nil bytes) (Consumes-on a b c bytes [] given (kept_none b c kept))

-- ---- many calls

-- calls that each gave something are no more than the bytes
few_calls : (calls : List ReadCall) → All ReturnsBytes calls → length calls ≤ length (bytes_of_calls calls)
few_calls [] each = omega arith
few_calls (Gave bytes ∷ calls) each =
    let some : 0 < length bytes = All-head ReturnsBytes (Gave bytes) calls each in
    let more = few_calls calls (All-tail ReturnsBytes (Gave bytes) calls each) in
    omega (arith, some, more, length-append bytes (bytes_of_calls calls))
few_calls (Faulted ∷ calls) each = absurd (All-head ReturnsBytes Faulted calls each)

module _ {S : Type 0} (after_calls : S → List ReadCall → S → Type 0)
    (by_more : (first second third : S) (calls more : List ReadCall) → after_calls first calls second → after_calls second more third
    → after_calls first (calls ++ more) third) where
  -- a reading continues with a call that gave some bytes
  pub reads_on : (first second third : S) (limits : InputLimits) (text piece : List ℕ)
      → AfterReading limits (λ calls. after_calls first calls second) text [] → after_calls second (Gave piece ∷ []) third → 0 < length piece
      → length (text ++ piece) ≤ max_read_bytes limits → AfterReading limits (λ calls. after_calls first calls third) (text ++ piece) []
  reads_on first second third limits text piece so call some fits =
      let calls : List ReadCall = so.calls ++ Gave piece ∷ [] in
      let each : All ReturnsBytes calls =
      All-append ReturnsBytes so.calls (Gave piece ∷ []) so.each (All-cons ReturnsBytes (Gave piece) [] some (All-nil ReturnsBytes)) in
      let given : bytes_of_calls calls ≡ text ++ piece =
      bytes_of_more so.calls (Gave piece ∷ []) ∙ ap (λ bytes. bytes ++ (piece ++ [])) so.given ∙ ap (λ bytes. text ++ bytes) (append-nil piece) in
      record {
        calls = calls;
        reached_by_call = subst (λ made. after_calls first made third) (sym (append-nil calls)) (by_more first second third so.calls (Gave piece ∷ [])
            (subst (λ made. after_calls first made second) (append-nil so.calls) so.reached_by_call) call);
        each = each;
        given = given;
        few = omega (arith, few_calls calls each, ap length given, ap length (append-nil calls), fits);
      }

  -- and ends with one more
  pub reads_last : (first second third : S) (limits : InputLimits) (text : List ℕ) (last : ReadCall)
      → AfterReading limits (λ calls. after_calls first calls second) text [] → after_calls second (last ∷ []) third
      → length text ≤ limits.bytes → AfterReading limits (λ calls. after_calls first calls third) text (last ∷ [])
  reads_last first second third limits text last so call fits = record {
    calls = so.calls;
    reached_by_call = by_more first second third so.calls (last ∷ []) (subst (λ made. after_calls first made second) (append-nil so.calls) so.reached_by_call) call;
    each = so.each;
    given = so.given;
    few = omega (arith, few_calls so.calls so.each, ap length so.given, length-append so.calls (last ∷ []), fits);
  }

-- ---- a whole text

pub whole_ends : (limits : InputLimits) (AfterReads : List ReadCall → Type 0) (old new : SourceState) (text : List ℕ)
    (result : Result (List ℕ) InputFault) → LimitsLines limits.lines text result → ReadToEnd old new text
    → length text ≤ limits.bytes → new.faults ≡ old.faults → AfterReading limits AfterReads text (Gave [] ∷ [])
    → EndsReading limits AfterReads old new result
whole_ends limits AfterReads old new text (Ok same) limited gave short quiet calls =
    subst (λ xs. EndsReading limits AfterReads old new (Ok xs)) (sym limited.0) (record {
      gave = gave;
      within = record { bytes = short; lines = limited.1 };
      quiet = quiet;
      calls = calls;
    })
whole_ends limits AfterReads old new text (Err TooLong) limited gave short quiet calls = record {
  bytes = text;
  gave = inr (record { gave = gave; size = short; lines = limited; calls = calls });
  quiet = quiet;
}
whole_ends limits AfterReads old new text (Err ReadFault) limited gave short quiet calls = absurd limited
whole_ends limits AfterReads old new text (Err NoMemory) limited gave short quiet calls = absurd limited
