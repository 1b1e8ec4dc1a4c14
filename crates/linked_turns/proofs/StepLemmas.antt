-- What a command of a caller does to the mounts.
use Rattle.std.proofs.Common.{◌≡◌, ℕ, ◌≤◌, Bool, true, false, List, [], ◌∷◌, ◌++◌, length, refl, ap, sym, ◌∙◌, subst, Result, Ok, Err, IfOk, OnOk, ⊎_elim, arith, append-nil}
use Rattle.std.proofs.lemmas.Bool.{cases_eq}
use Rattle.std.proofs.lemmas.List.Elements.{All-nil}
use Rattle.call_history.specs.Entries.{by}
use Rattle.call_history.proofs.Placing.{by-cons_own, by-cons_other}
use Rattle.mount_model.specs.History.{History, MountEntry}
use Rattle.mount_model.specs.Port.{PlacedCalls}
use Rattle.mount_shared.specs.SerialCalls.{SerialView, SerialAfterCalls, serial_view}
use Rattle.reply_text.specs.Ranges.{EntryIsInRange}
use Rattle.fsc_session.specs.Running.{RunnerStep}
use Rattle.mount_links.specs.declared.step.LinkStep.{LinkStep}
use Rattle.mount_links.specs.declared.step.LinkStep.TheVariants.{Alone, Followed, Looked, NotMade}
use Rattle.mount_links.specs.Linked.{own_part, own_parts, far_part, far_parts}
use Rattle.mount_links.specs.LinkCalls.{AreSteps, LinkAfterCalls, LinkView, link_view, load_call}
use Rattle.linked_turns.specs.declared.runners.LinkedRunner.{LinkedRunner}
use Rattle.linked_turns.specs.Parts.{AreLinked, HasParts, IsLinkedStep, is_even, part_0, part_1, parts_0, parts_1}
use Rattle.script_runs.specs.InRange.{RangedAfterCalls}
use Rattle.script_runs.specs.MountPlaces.{At, Goes, at}
use Rattle.script_runs.proofs.RoundLemmas.{goes_by, taken_by}
use Rattle.linked_turns.specs.Turns.{LinkedTurnOf}

-- ---- whose calls these are

by-shorter : (c : ℕ) (xs : PlacedCalls) → length (by c xs) ≤ length xs
by-shorter c [] = omega arith
by-shorter c (x ∷ xs) = ⊎_elim
    (λ own. let same = ap length (by-cons_own c x xs own) in let more = by-shorter c xs in omega (arith, same, more))
    (λ other. let same = ap length (by-cons_other c x xs other) in let more = by-shorter c xs in omega (arith, same, more))
    (cases_eq x.1.who c)

-- if all calls are one caller's, the first is, and so are the others
first_own : (c : ℕ) (x : ℕ × MountEntry) (xs : PlacedCalls) → by c (x ∷ xs) ≡ x ∷ xs → (x.1.who ≡ c) × (by c xs ≡ xs)
first_own c x xs all = ⊎_elim
    (λ own. (own, let both = sym (by-cons_own c x xs own) ∙ all in cc both))
    (λ other. let long = ap length (sym (by-cons_other c x xs other) ∙ all) in let short = by-shorter c xs in absurd (omega (arith, long, short)))
    (cases_eq x.1.who c)

-- the calls on the own mount determine whose they are
pub own_tells : (c : ℕ) (steps : List LinkStep) (made : PlacedCalls) → AreSteps steps made
    → by c (own_parts load_call steps made) ≡ own_parts load_call steps made → by c made ≡ made
own_tells c [] [] are all = refl
own_tells c [] (x ∷ xs) are all = absurd are
own_tells c (step ∷ steps) [] are all = absurd are
own_tells c (Alone ∷ steps) (x ∷ xs) are all =
    let first = first_own c x (own_parts load_call steps xs) all in
    by-cons_own c x xs first.0 ∙ ap (λ (l : PlacedCalls). x ∷ l) (own_tells c steps xs are.1 first.1)
own_tells c (Followed label reply there ∷ steps) (x ∷ xs) are all =
    let first = first_own c _ (own_parts load_call steps xs) all in
    by-cons_own c x xs first.0 ∙ ap (λ (l : PlacedCalls). x ∷ l) (own_tells c steps xs are.1 first.1)
own_tells c (Looked label place reply ∷ steps) (x ∷ xs) are all =
    let first = first_own c _ (x ∷ own_parts load_call steps xs) all in
    let second = first_own c x (own_parts load_call steps xs) first.1 in
    by-cons_own c x xs second.0 ∙ ap (λ (l : PlacedCalls). x ∷ l) (own_tells c steps xs are.1 second.1)
own_tells c (NotMade label ∷ steps) (x ∷ xs) are all =
    let first = first_own c _ (own_parts load_call steps xs) all in
    by-cons_own c x xs first.0 ∙ ap (λ (l : PlacedCalls). x ∷ l) (own_tells c steps xs are.1 first.1)

-- calls on mount 0 went there as they are
abbrev alone : PlacedCalls → List LinkStep
alone [] = []
alone (x ∷ xs) = Alone ∷ alone xs

-- what holds of the calls that one caller made
record OfCaller (steps : List LinkStep) (made even odd : PlacedCalls) : Type 0 where
  linked : AreLinked steps made
  even_is : even ≡ parts_0 steps made
  odd_is : odd ≡ parts_1 steps made

of_even : (c : ℕ) (made : PlacedCalls) → is_even c ≡ true → by c made ≡ made → OfCaller (alone made) made made []
of_even c [] even own = record { linked = tt; even_is = refl; odd_is = refl }
of_even c (x ∷ xs) even own =
    let first = first_own c x xs own in
    let rest = of_even c xs even first.1 in
    let here : is_even x.1.who ≡ true = ap is_even first.0 ∙ even in
    record {
      linked = (subst (λ b. IsLinkedStep b Alone x) (sym here) refl, rest.linked);
      even_is = ap (λ (l : PlacedCalls). x ∷ l) rest.even_is ∙ ap (λ b. part_0 b Alone x ++ parts_0 (alone xs) xs) (sym here);
      odd_is = rest.odd_is ∙ ap (λ b. part_1 b Alone x ++ parts_1 (alone xs) xs) (sym here);
    }

of_odd : (c : ℕ) (steps : List LinkStep) (made : PlacedCalls) → is_even c ≡ false → by c made ≡ made → AreSteps steps made
    → OfCaller steps made (far_parts steps made) (own_parts load_call steps made)
of_odd c [] [] odd own are = record { linked = tt; even_is = refl; odd_is = refl }
of_odd c [] (x ∷ xs) odd own are = absurd are
of_odd c (step ∷ steps) [] odd own are = absurd are
of_odd c (step ∷ steps) (x ∷ xs) odd own are =
    let first = first_own c x xs own in
    let rest = of_odd c steps xs odd first.1 are.1 in
    let here : is_even x.1.who ≡ false = ap is_even first.0 ∙ odd in
    record {
      linked = (subst (λ b. IsLinkedStep b step x) (sym here) are.0, rest.linked);
      even_is = ap (λ (l : PlacedCalls). far_part step x ++ l) rest.even_is ∙ ap (λ b. part_0 b step x ++ parts_0 steps xs) (sym here);
      odd_is = ap (λ (l : PlacedCalls). own_part load_call step x ++ l) rest.odd_is ∙ ap (λ b. part_1 b step x ++ parts_1 steps xs) (sym here);
    }

-- ---- what they do to the mounts

goes_nowhere : {M : Type 0} (reaches : History → M → Type 0) (caller : ℕ) (mount : At M) → Goes reaches caller mount [] mount
goes_nowhere reaches caller mount = record {
  placed = refl;
  given = omega arith;
  own = refl;
  reached_by = λ history so. subst (λ h. reaches h mount.machine) (sym (append-nil history)) so;
}

module _ {M N : Type 0} (reaches_0 : History → M → Type 0) (reaches_1 : History → N → Type 0) where
  pub even_turn : (seed : List ℕ) (machine : M) (places left : ℕ) (odd : At N) (old new : LinkedRunner) (port port' : SerialView M) (machine' : M) (places' : ℕ)
      (left' before_left : ℕ) (more : Bool) → is_even old.runner.caller ≡ true → port ≡ serial_view machine places old.runner.caller left
      → machine' ≡ port'.machine → places' ≡ port'.places → new.steps.items ≡ old.steps.items
      → RunnerStep (RangedAfterCalls (SerialAfterCalls reaches_0) port) port' left' before_left seed more old.runner new.runner
      → LinkedTurnOf reaches_0 reaches_1 seed (at machine places) odd old (at machine' places') odd new
  even_turn seed machine places left odd old new port port' machine' places' left' before_left more even is one two kept stepped =
      let goes = goes_by reaches_0 old.runner.caller left (at machine places) stepped.made port' (at machine' places') one two
      (subst (λ p. SerialAfterCalls reaches_0 p stepped.made port') is stepped.reached_by_call.reached_by_call) in
      let all = of_even old.runner.caller stepped.made even goes.own in
      record {
        taken = taken_by (RangedAfterCalls (SerialAfterCalls reaches_0) port) port' left' before_left seed more old.runner new.runner stepped goes.own;
        all = alone stepped.made;
        linked = all.linked;
        even_is = all.even_is;
        odd_is = all.odd_is;
        made = stepped.made;
        even = stepped.made;
        odd = [];
        steps = [];
        even_goes = goes;
        odd_goes = goes_nowhere reaches_1 old.runner.caller odd;
        even_ranged = stepped.reached_by_call.ranged;
        odd_ranged = All-nil EntryIsInRange;
        kept = kept ∙ sym (append-nil old.steps.items);
        parts = subst (λ b. HasParts b [] stepped.made stepped.made []) (sym even) (refl, refl);
      }

  pub odd_turn : (seed : List ℕ) (even : At M) (odd : At N) (own_left far_left left : ℕ) (old new : LinkedRunner)
      (port port' : LinkView (SerialView N) (SerialView M)) (even' : At M) (odd' : At N) (left' before_left : ℕ) (more : Bool)
      → is_even old.runner.caller ≡ false
      → port ≡ link_view (serial_view odd.machine odd.places old.runner.caller own_left) (serial_view even.machine even.places old.runner.caller far_left) left []
      → odd'.machine ≡ port'.own.machine → odd'.places ≡ port'.own.places → even'.machine ≡ port'.far.machine → even'.places ≡ port'.far.places
      → new.steps.items ≡ old.steps.items ++ port'.steps
      → RunnerStep (LinkAfterCalls (RangedAfterCalls (SerialAfterCalls reaches_1)) (RangedAfterCalls (SerialAfterCalls reaches_0)) port) port' left' before_left seed more
      old.runner new.runner
      → LinkedTurnOf reaches_0 reaches_1 seed even odd old even' odd' new
  odd_turn seed even odd own_left far_left left old new port port' even' odd' left' before_left more is_odd is one two three four kept stepped =
      let after_calls = subst (λ p. LinkAfterCalls (RangedAfterCalls (SerialAfterCalls reaches_1)) (RangedAfterCalls (SerialAfterCalls reaches_0)) p stepped.made port') is stepped.reached_by_call in
      let own_goes = goes_by reaches_1 old.runner.caller own_left odd (own_parts load_call after_calls.steps stepped.made) port'.own odd'
      one two after_calls.on_own.reached_by_call in
      let own = own_tells old.runner.caller after_calls.steps stepped.made after_calls.are_steps own_goes.own in
      let all = of_odd old.runner.caller after_calls.steps stepped.made is_odd own after_calls.are_steps in
      record {
        taken = taken_by (LinkAfterCalls (RangedAfterCalls (SerialAfterCalls reaches_1)) (RangedAfterCalls (SerialAfterCalls reaches_0)) port) port' left' before_left seed more
            old.runner new.runner stepped own;
        all = after_calls.steps;
        linked = all.linked;
        even_is = all.even_is;
        odd_is = all.odd_is;
        made = stepped.made;
        even = far_parts after_calls.steps stepped.made;
        odd = own_parts load_call after_calls.steps stepped.made;
        steps = after_calls.steps;
        even_goes = goes_by reaches_0 old.runner.caller far_left even (far_parts after_calls.steps stepped.made) port'.far even'
            three four after_calls.on_far.reached_by_call;
        odd_goes = own_goes;
        even_ranged = after_calls.on_far.ranged;
        odd_ranged = after_calls.on_own.ranged;
        kept = kept ∙ ap (λ (l : List LinkStep). old.steps.items ++ l) after_calls.kept;
        parts = subst (λ b. HasParts b after_calls.steps stepped.made (far_parts after_calls.steps stepped.made) (own_parts load_call after_calls.steps stepped.made)) (sym is_odd) (after_calls.are_steps, refl, refl);
      }

-- ---- what follows from a call's clauses if it had memory

pub ok_then : {T E A : Type 0} {P Q R : T → Type 0} (r : Result T E) → IfOk r P → IfOk r Q → OnOk r A → ((x : T) → P x → Q x → A → R x) → IfOk r R
ok_then (Ok x) p q a then = then x p q a
ok_then (Err e) p q a then = tt
