-- The parts of callers' calls on two mounts, and what holds after a turn.
use Rattle.std.proofs.Common.{◌≡◌, ◌≢◌, ℕ, ◌+◌, Bool, true, false, List, [], ◌∷◌, ◌++◌, length, map, take, drop, set, Some, None, refl, ap, ap₂, sym, ◌∙◌, subst, append_assoc}
use Rattle.std.specs.Prelude.{slice_get}
use Rattle.std.specs.Option.{option_map}
use Rattle.std.proofs.lemmas.List.{length-map, map-set}
use Rattle.std.proofs.lemmas.Option.{slice_get_within, slice_get-map}
use Rattle.call_history.specs.Entries.{by}
use Rattle.mount_model.specs.History.{History}
use Rattle.mount_model.specs.Port.{PlacedCalls}
use Rattle.script_lang.specs.declared.commands.Section.{Section}
use Rattle.fsc_commands.specs.Steps.{Steps}
use Rattle.fsc_session.specs.Runners.{RunnerView, state_of}
use Rattle.fsc_session.specs.Rotation.{Waiting, round_steps}
use Rattle.mount_links.specs.declared.step.LinkStep.{LinkStep}
use Rattle.mount_links.specs.StepLaws.{AreSteps-append, own_parts-append, far_parts-append}
use Rattle.script_runs.specs.RangeLaws.{are_in_range-append}
use Rattle.script_runs.specs.Turns.{Rotates}
use Rattle.script_runs.specs.MountPlaces.{At}
use Rattle.script_runs.proofs.RoundLemmas.{stands_on}
use Rattle.script_runs.proofs.TurnLemmas.{each_set, other_behind, own_behind, past_set, rotates_on, turns_in}
use Rattle.linked_turns.specs.declared.runners.LinkedRunner.{LinkedRunner}
use Rattle.linked_turns.specs.Callers.{runners_of}
use Rattle.linked_turns.specs.Parts.{AreLinked, HasParts, is_even, part_0, part_1, parts_0, parts_1}
use Rattle.linked_turns.specs.Turns.{Rotating, LinkedTurnOf, sections_of}

-- ---- the runners

abbrev runner_of : LinkedRunner → RunnerView
runner_of caller = caller.runner

pub runner_at : (callers : List LinkedRunner) (j : ℕ) (caller : LinkedRunner) → slice_get callers j ≡ Some caller
    → slice_get (runners_of callers) j ≡ Some caller.runner
runner_at callers j caller here = slice_get-map runner_of callers j ∙ ap (option_map runner_of) here

pub nobody_at : (callers : List LinkedRunner) (j : ℕ) → slice_get callers j ≡ None → slice_get (runners_of callers) j ≡ None
nobody_at callers j none = slice_get-map runner_of callers j ∙ ap (option_map runner_of) none

pub count_of : (callers : List LinkedRunner) → length (runners_of callers) ≡ length callers
count_of callers = length-map callers runner_of

pub same_count : (callers old : List LinkedRunner) → length (runners_of callers) ≡ length (sections_of old)
    → length callers ≡ length old
same_count callers old same =
    sym (length-map callers runner_of) ∙ same ∙ length-map (runners_of old) (λ runner. runner.section)
    ∙ length-map old runner_of

-- ---- the parts on both mounts

-- parts of calls after parts of calls
parts_on : (b : Bool) (s t : List LinkStep) (m n e f o p : PlacedCalls) → HasParts b s m e o → HasParts b t n f p
    → HasParts b (s ++ t) (m ++ n) (e ++ f) (o ++ p)
parts_on true s t m n e f o p x y = (ap₂ (λ (l r : PlacedCalls). l ++ r) x.0 y.0, ap₂ (λ (l r : PlacedCalls). l ++ r) x.1 y.1)
parts_on false s t m n e f o p x y = (
  AreSteps-append s t m n x.0 y.0,
  ap₂ (λ (l r : PlacedCalls). l ++ r) x.1 y.1 ∙ sym (far_parts-append s t m n x.0),
  ap₂ (λ (l r : PlacedCalls). l ++ r) x.2 y.2 ∙ sym (own_parts-append s t m n x.0),
)

-- the same parts of the same calls, in other terms
pub parts_as : (b : Bool) (s t : List LinkStep) (m n e f o p : PlacedCalls) → s ≡ t → m ≡ n → e ≡ f → o ≡ p → HasParts b s m e o → HasParts b t n f p
parts_as b s t m n e f o p one two three four x =
    subst (λ l. HasParts b t n f l) four (subst (λ l. HasParts b t n l o) three (subst (λ l. HasParts b t l e o) two (subst (λ l. HasParts b l m e o) one x)))

-- what became of calls after calls
AreLinked-append : (s t : List LinkStep) (e f : PlacedCalls) → AreLinked s e → AreLinked t f → AreLinked (s ++ t) (e ++ f)
AreLinked-append [] t [] f p q = q
AreLinked-append [] t (x ∷ e) f p q = absurd p
AreLinked-append (a ∷ s) t [] f p q = absurd p
AreLinked-append (a ∷ s) t (x ∷ e) f p q = (p.0, AreLinked-append s t e f p.1 q)

parts_0-append : (s t : List LinkStep) (e f : PlacedCalls) → AreLinked s e → parts_0 (s ++ t) (e ++ f) ≡ parts_0 s e ++ parts_0 t f
parts_0-append [] t [] f p = refl
parts_0-append [] t (x ∷ e) f p = absurd p
parts_0-append (a ∷ s) t [] f p = absurd p
parts_0-append (a ∷ s) t (x ∷ e) f p =
    ap (λ (l : PlacedCalls). part_0 (is_even x.1.who) a x ++ l) (parts_0-append s t e f p.1)
    ∙ sym (append_assoc (part_0 (is_even x.1.who) a x) (parts_0 s e) (parts_0 t f))

parts_1-append : (s t : List LinkStep) (e f : PlacedCalls) → AreLinked s e → parts_1 (s ++ t) (e ++ f) ≡ parts_1 s e ++ parts_1 t f
parts_1-append [] t [] f p = refl
parts_1-append [] t (x ∷ e) f p = absurd p
parts_1-append (a ∷ s) t [] f p = absurd p
parts_1-append (a ∷ s) t (x ∷ e) f p =
    ap (λ (l : PlacedCalls). part_1 (is_even x.1.who) a x ++ l) (parts_1-append s t e f p.1)
    ∙ sym (append_assoc (part_1 (is_even x.1.who) a x) (parts_1 s e) (parts_1 t f))

-- ---- a turn

module _ {M N : Type 0} (reaches_0 : History → M → Type 0) (reaches_1 : History → N → Type 0)
    (seed : List ℕ) (script : List Section) (whole : Steps (List Waiting)) where
  pub goes_on : (last : List Waiting → Steps (List Waiting)) (n i : ℕ) (callers : List LinkedRunner)
      (old new : LinkedRunner) (even_mount : At M) (odd_mount : At N) (even_mount' : At M) (odd_mount' : At N) → slice_get callers i ≡ Some old
      → Rotating reaches_0 reaches_1 seed script whole
      (round_steps seed n i (map state_of (take i (runners_of callers))) (map state_of (drop i (runners_of callers))) last)
      (turns_in n i) callers even_mount odd_mount
      → LinkedTurnOf reaches_0 reaches_1 seed even_mount odd_mount old even_mount' odd_mount' new
      → Rotating reaches_0 reaches_1 seed script whole
      (round_steps seed n (i + 1) (map state_of (take (i + 1) (runners_of (set callers i new))))
      (map state_of (drop (i + 1) (runners_of (set callers i new)))) last)
      (turns_in n (i + 1)) (set callers i new) even_mount' odd_mount'
  goes_on last n i callers old new even_mount odd_mount even_mount' odd_mount' here before turn =
      let within = slice_get_within callers i old here in
      let there = runner_at callers i old here in
      let number : old.runner.caller ≡ i = (before.rotates.each i old.runner there).caller in
      let own : by i turn.made ≡ turn.made = subst (λ c. by c turn.made ≡ turn.made) number turn.taken.own in
      let own_even : by i turn.even ≡ turn.even =
      subst (λ c. by c turn.even ≡ turn.even) number turn.even_goes.own in
      let own_odd : by i turn.odd ≡ turn.odd = subst (λ c. by c turn.odd ≡ turn.odd) number turn.odd_goes.own in
      let told = before.told ++ turn.made in
      let even = before.even ++ turn.even in
      let odd = before.odd ++ turn.odd in
      record {
        told = told;
        even = even;
        odd = odd;
        even_stands = stands_on reaches_0 old.runner.caller before.even turn.even even_mount even_mount'
            before.even_stands turn.even_goes;
        odd_stands = stands_on reaches_1 old.runner.caller before.odd turn.odd odd_mount odd_mount'
            before.odd_stands turn.odd_goes;
        even_ranged = are_in_range-append before.even turn.even before.even_ranged turn.even_ranged;
        odd_ranged = are_in_range-append before.odd turn.odd before.odd_ranged turn.odd_ranged;
        rotates = subst (λ (rs : List RunnerView). Rotates seed script whole
            (round_steps seed n (i + 1) (map state_of (take (i + 1) rs)) (map state_of (drop (i + 1) rs)) last)
            (turns_in n (i + 1)) rs told)
            (sym (map-set runner_of callers i new))
            (rotates_on seed script whole last n i (runners_of callers) old.runner new.runner before.told turn.made
            there before.rotates turn.taken);
        parts = each_set (λ j caller. HasParts (is_even j) caller.steps.items (by j told) (by j even) (by j odd))
            callers i new within
            (parts_as (is_even i) (old.steps.items ++ turn.steps) new.steps.items _ _ _ _ _ _ (sym turn.kept)
            (sym (own_behind i before.told turn.made own)) (sym (own_behind i before.even turn.even own_even))
            (sym (own_behind i before.odd turn.odd own_odd))
            (parts_on (is_even i) old.steps.items turn.steps (by i before.told) turn.made (by i before.even) turn.even
            (by i before.odd) turn.odd (before.parts i old here)
            (subst (λ c. HasParts (is_even c) turn.steps turn.made turn.even turn.odd) number turn.parts)))
            (λ j caller differ at. let apart : j ≢ i = λ same. differ (sym same) in
            parts_as (is_even j) caller.steps.items caller.steps.items _ _ _ _ _ _ refl
            (sym (other_behind i j before.told turn.made own apart))
            (sym (other_behind i j before.even turn.even own_even apart))
            (sym (other_behind i j before.odd turn.odd own_odd apart)) (before.parts j caller at));
        others = past_set (λ j. (by j even ≡ []) × (by j odd ≡ [])) callers i new within
            (λ j apart none. (
              other_behind i j before.even turn.even own_even apart ∙ (before.others j none).0,
              other_behind i j before.odd turn.odd own_odd apart ∙ (before.others j none).1,
            ));
        steps = before.steps ++ turn.all;
        linked = AreLinked-append before.steps turn.all before.told turn.made before.linked turn.linked;
        even_is = ap₂ (λ (l r : PlacedCalls). l ++ r) before.even_is turn.even_is
            ∙ sym (parts_0-append before.steps turn.all before.told turn.made before.linked);
        odd_is = ap₂ (λ (l r : PlacedCalls). l ++ r) before.odd_is turn.odd_is
            ∙ sym (parts_1-append before.steps turn.all before.told turn.made before.linked);
      }

  -- the mounts are as before if the rotation is stated in other terms
  pub retold : (rest rest' : Steps (List Waiting)) (turns turns' : ℕ → ℕ) (callers : List LinkedRunner)
      (even_mount : At M) (odd_mount : At N)
      → ((told : PlacedCalls) → Rotates seed script whole rest turns (runners_of callers) told
      → Rotates seed script whole rest' turns' (runners_of callers) told)
      → Rotating reaches_0 reaches_1 seed script whole rest turns callers even_mount odd_mount
      → Rotating reaches_0 reaches_1 seed script whole rest' turns' callers even_mount odd_mount
  retold rest rest' turns turns' callers even_mount odd_mount on r = record {
    told = r.told;
    even = r.even;
    odd = r.odd;
    even_stands = r.even_stands;
    odd_stands = r.odd_stands;
    even_ranged = r.even_ranged;
    odd_ranged = r.odd_ranged;
    rotates = on r.told r.rotates;
    parts = r.parts;
    others = r.others;
    steps = r.steps;
    linked = r.linked;
    even_is = r.even_is;
    odd_is = r.odd_is;
  }
