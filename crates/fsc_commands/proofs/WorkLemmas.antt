-- A command's work, part after part.
use Rattle.std.proofs.Common.{rules, ◌≡◌, ℕ, ◌+◌, ◌≤◌, ◌++◌, [], ◌∷◌, Some, None, Ok, Err, refl, ap, sym, subst, ◌∙◌, arith, length-append}
use Rattle.std.specs.Prelude.{Option, Result}
use Rattle.std.specs.Result.{IsErrAnd}
use Rattle.call_history.specs.Placed.{entries_of}
use Rattle.mount_model.specs.Port.{PlacedCalls}
use Rattle.mount_model.specs.declared.call.Call.{Call}
use Rattle.mount_model.specs.declared.reply.Reply.{Reply}
use Rattle.reply_text.specs.Logged.{LoggedEntry, logged_entry}
use Rattle.reply_text.specs.declared.outcome.Outcome.{Outcome}
use Rattle.session_records.specs.declared.stop.Stop.{Stop}
use Rattle.session_records.specs.declared.stop.Stop.TheVariants.{Ended, NoMemory}
use Rattle.fsc_commands.specs.declared.work.Caller.{Caller}
use Rattle.fsc_commands.specs.Steps.{Reaches}
use Rattle.fsc_commands.specs.Steps.Steps.{Done, Ask}
use Rattle.fsc_commands.specs.CommandSteps.{CommandSteps, end_with, when_ok}
use Rattle.fsc_commands.specs.MadeCalls.{MadeCalls, MadePart, Begun, entry_of_logged}
use Rattle.session_records.specs.Stopped.{Gives}
use Rattle.fsc_commands.specs.Work.{WorkResult, WorkedPart}
use Rattle.fsc_commands.specs.Callers.{IsSameCaller}
use Rattle.fsc_commands.proofs.StepsLemmas.{entries_of-append, grown_twice, Reaches-on}

same_still : {P : Type 0} {who : P → ℕ} {old middle new : Caller P} → IsSameCaller who old middle → IsSameCaller who middle new → IsSameCaller who old new
same_still first second = record {
  number = second.number ∙ first.number;
  port = second.port ∙ first.port;
  entries = second.entries ∙ first.entries;
}

-- a part that is one call, after whose reply the work goes on or ends
pub one_call : {P A : Type 0} {after_calls : P → PlacedCalls → P → Type 0} {who left : P → ℕ} {old new : Caller P} {caller : ℕ} {call wanted : Call} {placed : ℕ × LoggedEntry}
    (told : Reply → Result A Outcome) (result : Result A Stop) → call ≡ wanted → after_calls old.port.now (entry_of_logged caller call placed ∷ []) new.port.now → placed ≡ (placed.0, logged_entry (entry_of_logged caller call placed).1)
    → left new.port.now + 1 ≡ left old.port.now → new.entries.now ≡ old.entries.now ++ placed ∷ [] → IsSameCaller who old new → Gives result (told placed.1.reply)
    → WorkedPart after_calls who left old new 1 (λ next. Ask caller wanted (λ reply. when_ok (told reply) next)) result
one_call {old = old} {caller = caller} {call} {placed = placed} told (Ok value) is reached_by_call shown fewer listed same gives = record {
  ends = record {
    made = entry_of_logged caller call placed ∷ [];
    reached_by_call = reached_by_call;
    follows = λ next. (refl, is, ap (λ got. when_ok got next) gives);
    grown = listed ∙ ap (λ p. old.entries.now ++ p ∷ []) shown;
    few = search rules;
    counted = fewer;
  };
  same = same;
}
one_call {old = old} {caller = caller} {call} {placed = placed} told (Err (Ended outcome)) is reached_by_call shown fewer listed same gives = record {
  ends = record {
    made = entry_of_logged caller call placed ∷ [];
    reached_by_call = reached_by_call;
    follows = λ next. (refl, is, ap (λ got. when_ok got next) gives);
    grown = listed ∙ ap (λ p. old.entries.now ++ p ∷ []) shown;
    few = search rules;
    counted = fewer;
  };
  same = same;
}
one_call {old = old} {caller = caller} {call} {placed = placed} told (Err NoMemory) is reached_by_call shown fewer listed same gives = record {
  ends = record {
    made = entry_of_logged caller call placed ∷ [];
    reached_by_call = reached_by_call;
    begins = λ next. (when_ok (told placed.1.reply) next, (refl, is, refl));
    few = search rules;
  };
  same = same;
}

-- a part that stops stops the work
pub stops : {P A : Type 0} {after_calls : P → PlacedCalls → P → Type 0} {who left : P → ℕ} {old new : Caller P} {most : ℕ} {steps : (A → CommandSteps) → CommandSteps} {next : A → CommandSteps}
    (all : ℕ) (stop : Stop) → most ≤ all → WorkedPart after_calls who left old new most steps (Err stop) → WorkResult after_calls who left old new all (steps next) (Err stop)
stops {next = next} all (Ended outcome) low part =
    let few = part.ends.few in
    record {
      ends = record {
        made = part.ends.made;
        reached_by_call = part.ends.reached_by_call;
        follows = part.ends.follows next;
        grown = part.ends.grown;
        few = omega (arith, few, low);
        counted = part.ends.counted;
      };
      same = part.same;
    }
stops {next = next} all NoMemory low part =
    let few = part.ends.few in
    record {
      ends = record {
        made = part.ends.made;
        rest = (part.ends.begins next).0;
        reached_by_call = part.ends.reached_by_call;
        begins = (part.ends.begins next).1;
        few = omega (arith, few, low);
      };
      same = part.same;
    }

-- ---- a part, and then the rest of the work

made_then : {P A : Type 0} (after_calls : P → PlacedCalls → P → Type 0) (left : P → ℕ)
    (by_more : (first second third : P) (e f : PlacedCalls) → after_calls first e second → after_calls second f third → after_calls first (e ++ f) third)
    (old middle new : Caller P) (most rest all : ℕ) (steps : (A → CommandSteps) → CommandSteps) (next : A → CommandSteps) (value : A) (outcome : Option Outcome)
    → most + rest ≤ all
    → MadePart (after_calls old.port.now) middle.port.now (left middle.port.now) (left old.port.now) most steps (Ok value) old.entries.now middle.entries.now
    → MadeCalls (after_calls middle.port.now) new.port.now (left new.port.now) (left middle.port.now) rest (next value) outcome middle.entries.now new.entries.now
    → MadeCalls (after_calls old.port.now) new.port.now (left new.port.now) (left old.port.now) all (steps next) outcome old.entries.now new.entries.now
made_then after_calls left by_more old middle new most rest all steps next value outcome low part more =
    let few = part.few in
    let few' = more.few in
    let counted = part.counted in
    let counted' = more.counted in
    let sum = length-append part.made more.made in
    record {
      made = part.made ++ more.made;
      reached_by_call = by_more old.port.now middle.port.now new.port.now part.made more.made part.reached_by_call more.reached_by_call;
      follows = subst (λ es. Reaches (steps next) es (Done outcome)) (sym (entries_of-append part.made more.made))
          (Reaches-on (steps next) (next value) (Done outcome) (entries_of part.made) (entries_of more.made) (part.follows next) more.follows);
      grown = grown_twice old.entries.now middle.entries.now new.entries.now part.made more.made part.grown more.grown;
      few = omega (arith, few, few', sum, low);
      counted = omega (arith, counted, counted', sum);
    }

begun_then : {P A : Type 0} (after_calls : P → PlacedCalls → P → Type 0) (left : P → ℕ)
    (by_more : (first second third : P) (e f : PlacedCalls) → after_calls first e second → after_calls second f third → after_calls first (e ++ f) third)
    (old middle new : Caller P) (most rest all : ℕ) (steps : (A → CommandSteps) → CommandSteps) (next : A → CommandSteps) (value : A)
    → most + rest ≤ all
    → MadePart (after_calls old.port.now) middle.port.now (left middle.port.now) (left old.port.now) most steps (Ok value) old.entries.now middle.entries.now
    → Begun (after_calls middle.port.now) new.port.now rest (next value) → Begun (after_calls old.port.now) new.port.now all (steps next)
begun_then after_calls left by_more old middle new most rest all steps next value low part more =
    let few = part.few in
    let few' = more.few in
    let sum = length-append part.made more.made in
    record {
      made = part.made ++ more.made;
      rest = more.rest;
      reached_by_call = by_more old.port.now middle.port.now new.port.now part.made more.made part.reached_by_call more.reached_by_call;
      begins = subst (λ es. Reaches (steps next) es more.rest) (sym (entries_of-append part.made more.made))
          (Reaches-on (steps next) (next value) more.rest (entries_of part.made) (entries_of more.made) (part.follows next) more.begins);
      few = omega (arith, few, few', sum, low);
    }

-- work goes on with what a part got
pub goes_on : {P A : Type 0} {after_calls : P → PlacedCalls → P → Type 0} {who left : P → ℕ}
    (by_more : (first second third : P) (e f : PlacedCalls) → after_calls first e second → after_calls second f third → after_calls first (e ++ f) third)
    {old middle new : Caller P} {most rest : ℕ} {steps : (A → CommandSteps) → CommandSteps} {next : A → CommandSteps} {value : A}
    (all : ℕ) (result : Result (Option Outcome) Stop) → most + rest ≤ all → WorkedPart after_calls who left old middle most steps (Ok value)
    → WorkResult after_calls who left middle new rest (next value) result → WorkResult after_calls who left old new all (steps next) result
goes_on {after_calls = after_calls} {left = left} by_more {old} {middle} {new} {most} {rest} {steps} {next} {value} all (Ok outcome) low part more = record {
  ends = made_then after_calls left by_more old middle new most rest all steps next value outcome low part.ends more.ends;
  same = same_still part.same more.same;
}
goes_on {after_calls = after_calls} {left = left} by_more {old} {middle} {new} {most} {rest} {steps} {next} {value} all (Err (Ended outcome)) low part more = record {
  ends = made_then after_calls left by_more old middle new most rest all steps next value (Some outcome) low part.ends more.ends;
  same = same_still part.same more.same;
}
goes_on {after_calls = after_calls} {left = left} by_more {old} {middle} {new} {most} {rest} {steps} {next} {value} all (Err NoMemory) low part more = record {
  ends = begun_then after_calls left by_more old middle new most rest all steps next value low part.ends more.ends;
  same = same_still part.same more.same;
}

-- ---- work that ends without a call

-- with nothing: a pause
pub passes : {P : Type 0} {after_calls : P → PlacedCalls → P → Type 0} {who left : P → ℕ} (by_none : (port : P) → after_calls port [] port) (caller : Caller P)
    → WorkResult after_calls who left caller caller 4 (Done None) (Ok None)
passes by_none caller = record {
  ends = record { made = []; reached_by_call = by_none caller.port.now; follows = refl; grown = search rules; few = search rules; counted = search rules };
  same = record { number = refl; port = refl; entries = refl };
}

-- with an outcome
pub ends_now : {P : Type 0} {after_calls : P → PlacedCalls → P → Type 0} {who left : P → ℕ} (by_none : (port : P) → after_calls port [] port) (caller : Caller P) (outcome : Outcome)
    → WorkResult after_calls who left caller caller 0 (end_with outcome) (Err (Ended outcome))
ends_now by_none caller outcome = record {
  ends = record { made = []; reached_by_call = by_none caller.port.now; follows = refl; grown = search rules; few = search rules; counted = search rules };
  same = record { number = refl; port = refl; entries = refl };
}

-- out of memory
pub stops_now : {P : Type 0} {after_calls : P → PlacedCalls → P → Type 0} {who left : P → ℕ} (by_none : (port : P) → after_calls port [] port) (caller : Caller P) (steps : CommandSteps)
    → WorkResult after_calls who left caller caller 0 steps (Err NoMemory)
stops_now by_none caller steps = record {
  ends = record { made = []; rest = steps; reached_by_call = by_none caller.port.now; begins = refl; few = search rules };
  same = record { number = refl; port = refl; entries = refl };
}

-- a bound on the number of calls may be raised
pub by_more_calls : {P : Type 0} {after_calls : P → PlacedCalls → P → Type 0} {who left : P → ℕ} {old new : Caller P} {most : ℕ} {steps : CommandSteps}
    (all : ℕ) (result : Result (Option Outcome) Stop) → most ≤ all → WorkResult after_calls who left old new most steps result → WorkResult after_calls who left old new all steps result
by_more_calls all (Ok outcome) low work =
    let few = work.ends.few in
    record {
      ends = record { made = work.ends.made; reached_by_call = work.ends.reached_by_call; follows = work.ends.follows; grown = work.ends.grown; few = omega (arith, few, low); counted = work.ends.counted };
      same = work.same;
    }
by_more_calls all (Err (Ended outcome)) low work =
    let few = work.ends.few in
    record {
      ends = record { made = work.ends.made; reached_by_call = work.ends.reached_by_call; follows = work.ends.follows; grown = work.ends.grown; few = omega (arith, few, low); counted = work.ends.counted };
      same = work.same;
    }
by_more_calls all (Err NoMemory) low work =
    let few = work.ends.few in
    record {
      ends = record { made = work.ends.made; rest = work.ends.rest; reached_by_call = work.ends.reached_by_call; begins = work.ends.begins; few = omega (arith, few, low) };
      same = work.same;
    }

-- ---- in an answer

-- a proof about the error that `?` returns is enough
pub by_err : {P : Type 0} {after_calls : P → PlacedCalls → P → Type 0} {who left : P → ℕ} {old new : Caller P} {most : ℕ} {steps : CommandSteps} {stop : Stop}
    (result : Result (Option Outcome) Stop) → IsErrAnd result (λ error. error ≡ stop)
    → WorkResult after_calls who left old new most steps (Err stop) → WorkResult after_calls who left old new most steps result
by_err (Ok outcome) is work = absurd is
by_err {after_calls = after_calls} {who} {left} {old} {new} {most} {steps} (Err error) is work = subst (λ s. WorkResult after_calls who left old new most steps (Err s)) (sym is) work

-- if a step was allowed
pub allowed : {P A : Type 0} {after_calls : P → PlacedCalls → P → Type 0} {who left : P → ℕ} {old new : Caller P} {most : ℕ} {got : Result A Outcome} {value : A}
    (after : A → CommandSteps) (result : Result (Option Outcome) Stop) → Ok value ≡ got → WorkResult after_calls who left old new most (after value) result → WorkResult after_calls who left old new most (when_ok got after) result
allowed {after_calls = after_calls} {who} {left} {old} {new} {most} after result is work = subst (λ g. WorkResult after_calls who left old new most (when_ok g after) result) is work

-- if it was refused
pub refused : {P A : Type 0} {after_calls : P → PlacedCalls → P → Type 0} {who left : P → ℕ} {got : Result A Outcome} {outcome : Outcome}
    (after : A → CommandSteps) (by_none : (port : P) → after_calls port [] port) (caller : Caller P) → Err outcome ≡ got → WorkResult after_calls who left caller caller 0 (when_ok got after) (Err (Ended outcome))
refused {after_calls = after_calls} {who} {left} {outcome = outcome} after by_none caller is =
    subst (λ g. WorkResult after_calls who left caller caller 0 (when_ok g after) (Err (Ended outcome))) is (ends_now by_none caller outcome)
