-- The callers of a script before their first calls.
use Rattle.std.proofs.Common.{◌≡◌, ◌<◌, ◌≤◌, ℕ, zero, suc, ◌+◌, List, [], ◌∷◌, ◌++◌, length, Some, refl, ap, sym, ◌∙◌, subst, arith, ⊎_elim, length-append, get_or}
use Rattle.std.specs.Prelude.{slice_get}
use Rattle.std.proofs.lemmas.Bool.{cases_lt}
use Rattle.std.proofs.lemmas.Option.{slice_get-get_or}
use Rattle.script_lang.specs.declared.commands.Section.{Section}
use Rattle.next_calls.specs.Callers.{CallerView}
use Rattle.next_calls.specs.EntriesSoFar.{Awaits}
use Rattle.log_check.specs.Reading.{IsCaller, AreCallers}

-- the first `count` of them
pub record AreFirst (seed : List ℕ) (script : List Section) (count : ℕ) (callers : List CallerView) : Type 0 where
  pub many : length callers ≡ count
  pub each : (number : ℕ) (caller : CallerView) → slice_get callers number ≡ Some caller → IsCaller seed script [] number caller

pub first_none : (seed : List ℕ) (script : List Section) → AreFirst seed script 0 []
first_none seed script = record { many = refl; each = λ number caller here. absurd (cc here) }

some_same : {A : Type 0} {x y : A} → Some x ≡ Some y → x ≡ y
some_same same = cc same

before_last : (callers : List CallerView) (last other : CallerView) (n : ℕ) → n < length callers → slice_get (callers ++ last ∷ []) n ≡ Some other → slice_get callers n ≡ Some other
before_last (caller ∷ callers) last other zero below here = here
before_last (caller ∷ callers) last other (suc n) below here = before_last callers last other n (omega arith) here
before_last [] last other n below here = absurd (omega arith)

at_last : (callers : List CallerView) (last other : CallerView) (n : ℕ) → length callers ≤ n → slice_get (callers ++ last ∷ []) n ≡ Some other → (n ≡ length callers) × (other ≡ last)
at_last [] last other zero above here = (refl, sym (some_same here))
at_last [] last other (suc n) above here = absurd (cc here)
at_last (caller ∷ callers) last other zero above here = absurd (omega arith)
at_last (caller ∷ callers) last other (suc n) above here =
    let rest = at_last callers last other n (omega arith) here in
    (ap suc rest.0, rest.1)

pub first_more : (seed : List ℕ) (script : List Section) (count : ℕ) (callers : List CallerView) (caller : CallerView) (section : Section)
    → AreFirst seed script count callers → slice_get script count ≡ Some section → caller.caller ≡ count → caller.section ≡ section → Awaits seed caller []
    → AreFirst seed script (count + 1) (callers ++ caller ∷ [])
first_more seed script count callers caller section are here numbered own awaits = record {
  many = let sum = length-append callers (caller ∷ []) in let many = are.many in omega (arith, sum, many);
  each = λ number other at. ⊎_elim
      (λ (low : number < length callers). are.each number other (before_last callers caller other number low at))
      (λ (high : length callers ≤ number).
      let last = at_last callers caller other number high at in
      let is : count ≡ number = sym (last.0 ∙ are.many) in
      subst (λ (n : ℕ). IsCaller seed script [] n other) is
      (subst (IsCaller seed script [] count) (sym last.1)
      (record { numbered = numbered; section = here ∙ ap (λ (s : Section). Some s) (sym own); awaits = awaits })))
      (cases_lt number (length callers));
}

pub first_all : (seed : List ℕ) (script : List Section) (count : ℕ) (callers : List CallerView) → count ≡ length script → AreFirst seed script count callers
    → AreCallers seed script [] callers
first_all seed script count callers all are = record { many = are.many ∙ all; each = are.each }

-- the section that was read at a number
pub section_there : (script read : List Section) (number : ℕ) (section : Section) → read ≡ script → number < length script → section ≡ get_or read number section
    → slice_get script number ≡ Some section
section_there script read number section same within at =
    slice_get-get_or script number section within ∙ ap (λ (s : Section). Some s) (ap (λ (l : List Section). get_or l number section) (sym same) ∙ sym at)

pub one_more : {A : Type 0} (xs ys : List A) (x : A) (n : ℕ) → ys ≡ xs ++ x ∷ [] → length xs ≡ n → length ys ≡ n + 1
one_more xs ys x n same long = let sum = length-append xs (x ∷ []) in let whole = ap length same in omega (arith, sum, whole, long)
