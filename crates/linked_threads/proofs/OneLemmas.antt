-- One caller that ran its section on the mounts.
use Rattle.std.proofs.Common.{◌≡◌, ℕ, ◌+◌, ◌*◌, mul_assoc, true, false, List, [], ◌∷◌, ◌++◌, length, Some, refl, sym, ap₂, ◌∙◌, subst, ⊎_elim, arith}
use Rattle.std.specs.Prelude.{slice_get}
use Rattle.std.proofs.lemmas.Bool.{cases_eq}
use Rattle.std.proofs.lemmas.List.Elements.{All-nil}
use Rattle.std.proofs.lemmas.List.Sums.{sum_by-cons}
use Rattle.turn_lock.specs.Passes.{SharedView}
use Rattle.call_history.specs.Entries.{by}
use Rattle.mount_model.specs.History.{History}
use Rattle.mount_model.specs.Port.{PlacedCalls}
use Rattle.mount_shared.specs.SharedCalls.{MountPass, PassAfterCalls}
use Rattle.script_lang.specs.declared.commands.Section.{Section}
use Rattle.reply_text.specs.Ranges.{EntryIsInRange}
use Rattle.reply_text.specs.Logged.{PlacedLogged, logged_calls}
use Rattle.fsc_session.specs.Session.{IsRunOfSection, notes_of_section}
use Rattle.mount_links.specs.declared.step.LinkStep.{LinkStep}
use Rattle.mount_links.specs.Linked.{own_parts, far_parts}
use Rattle.mount_links.specs.LinkCalls.{LinkAfterCalls, LinkView, link_view, load_call}
use Rattle.mount_links.specs.ShownParts.{logged_load}
use Rattle.mount_links.proofs.ShownLemmas.{shows_both}
use Rattle.linked_turns.specs.declared.output.LinkedOutput.{LinkedOutput}
use Rattle.linked_turns.specs.Parts.{HasParts, is_even}
use Rattle.linked_turns.proofs.StepLemmas.{own_tells}
use Rattle.linked_turns.proofs.EndLemmas.{none_parts}
use Rattle.linked_turns.proofs.TurnLemmas.{parts_as}
use Rattle.script_runs.specs.InRange.{AreInRange, RangedAfterCalls}
use Rattle.script_runs.specs.Passes.{max_calls_of_sections, calls_of}
use Rattle.script_runs.proofs.PassLemmas.{called_by, one_from, one_noted, one_section, others_none, shows_same}
use Rattle.linked_threads.specs.Threaded.{OnBoth, both, CanRunOnBoth, HaveRun}

-- ---- calls of one caller alone

-- if each command may make twice as many calls, all may
pub twice_needed : (most : ℕ) (sections : List Section) → 2 * max_calls_of_sections most sections ≡ max_calls_of_sections (2 * most) sections
twice_needed most [] = refl
twice_needed most (section ∷ more) =
    let rest = twice_needed most more in
    let one : max_calls_of_sections most (section ∷ more) ≡ most * length section.commands + max_calls_of_sections most more = sum_by-cons _ section more in
    let two : max_calls_of_sections (2 * most) (section ∷ more) ≡ 2 * most * length section.commands + max_calls_of_sections (2 * most) more = sum_by-cons _ section more in
    let flat : 2 * most * length section.commands ≡ 2 * (most * length section.commands) = mul_assoc 2 most (length section.commands) in
    omega (arith, rest, one, two, flat)

-- the parts of one caller's calls are those of each caller
only_of : (who : ℕ) (steps : List LinkStep) (made even odd : PlacedCalls) → by who made ≡ made → by who even ≡ even
    → by who odd ≡ odd → HasParts (is_even who) steps made even odd
    → (c : ℕ) → (s : List LinkStep) × HasParts (is_even c) s (by c made) (by c even) (by c odd)
only_of who steps made even odd own own_even own_odd parts c = ⊎_elim
    (λ same. (
      steps,
      subst (λ w. HasParts (is_even w) steps (by w made) (by w even) (by w odd)) (sym same)
          (parts_as (is_even who) steps steps _ _ _ _ _ _ refl (sym own) (sym own_even) (sym own_odd) parts),
    ))
    (λ differ. (
      [],
      parts_as (is_even c) [] [] _ _ _ _ _ _ refl (sym (others_none who c made own differ))
          (sym (others_none who c even own_even differ)) (sym (others_none who c odd own_odd differ)) (none_parts (is_even c)),
    ))
    (cases_eq c who)

-- ---- a caller with an even number

module _ (lawful_0 lawful_1 : History → Type 0) (seed : List ℕ) (shared : OnBoth SharedView) (even odd : MountPass) (sections : List Section) (section : Section)
    (can : CanRunOnBoth shared (both even odd) sections) (one : length sections ≡ 1) (here : slice_get sections 0 ≡ Some section)
    (told : LinkedOutput) (entries : PlacedLogged) (placed : PlacedCalls) (shown : entries ≡ logged_calls placed)
    (ran : IsRunOfSection seed even.who section placed) (noted : told.notes.items ≡ notes_of_section seed even.who section placed) where
  pub even_runs : (new : MountPass) → is_even even.who ≡ true → RangedAfterCalls (PassAfterCalls lawful_0) even placed new → by new.who new.mine ≡ new.mine
      → told.even.items ≡ entries → told.odd.items ≡ [] → HaveRun seed (both even odd) sections (both new odd) told
  even_runs new parity after_calls own told_even told_odd =
      let called = called_by lawful_0 even new placed can.on_even.no_past can.on_even.no_own after_calls.reached_by_call own in
      let none : calls_of odd ≡ [] = ap₂ (λ (a b : PlacedCalls). a ++ b) can.on_odd.no_past can.on_odd.no_own in
      subst (λ (s : List Section). HaveRun seed (both even odd) s (both new odd) told) (sym (one_section sections section one here))
      (record {
        made = placed;
        even_as_before = called.as_before;
        odd_as_before = record { same_table = refl; same_caller = refl; same_high = refl };
        called = record {
          run = one_from seed even.who section placed called.own ran;
          parts = only_of even.who [] placed (calls_of new) (calls_of odd) called.own
              (subst (λ (l : PlacedCalls). by even.who l ≡ l) (sym called.all) called.own)
              (subst (λ (l : PlacedCalls). by even.who l ≡ l) (sym none) refl)
              (subst (λ b. HasParts b [] placed (calls_of new) (calls_of odd)) (sym parity) (called.all, none));
        };
        even_ranged = subst AreInRange (sym called.all) after_calls.ranged;
        odd_ranged = subst AreInRange (sym none) (All-nil EntryIsInRange);
        shows_even = shows_same told.even.items placed (calls_of new) (told_even ∙ shown) called.all;
        shows_odd = shows_same told.odd.items [] (calls_of odd) told_odd none;
        noted = one_noted seed even.who section placed told.notes.items called.own noted;
      })

  -- ---- a caller with an odd number

  pub odd_runs : (even' odd' : MountPass) (port port' : LinkView MountPass MountPass) (left : ℕ) → is_even even.who ≡ false → port ≡ link_view odd even left []
      → LinkAfterCalls (RangedAfterCalls (PassAfterCalls lawful_1)) (RangedAfterCalls (PassAfterCalls lawful_0)) port placed port' → odd' ≡ port'.own → even' ≡ port'.far
      → by odd'.who odd'.mine ≡ odd'.mine → by even'.who even'.mine ≡ even'.mine
      → told.even.items ≡ far_parts port'.steps entries → told.odd.items ≡ own_parts logged_load port'.steps entries
      → HaveRun seed (both even odd) sections (both even' odd') told
  odd_runs even' odd' port port' left parity is reached_by_call is_own is_far own_odd own_even told_even told_odd =
      let after_calls = subst (λ p. LinkAfterCalls (RangedAfterCalls (PassAfterCalls lawful_1)) (RangedAfterCalls (PassAfterCalls lawful_0)) p placed port') is reached_by_call in
      let on_odd = subst (λ p. RangedAfterCalls (PassAfterCalls lawful_1) odd (own_parts load_call after_calls.steps placed) p) (sym is_own) after_calls.on_own in
      let on_even = subst (λ p. RangedAfterCalls (PassAfterCalls lawful_0) even (far_parts after_calls.steps placed) p) (sym is_far) after_calls.on_far in
      let odds = called_by lawful_1 odd odd' (own_parts load_call after_calls.steps placed) can.on_odd.no_past can.on_odd.no_own on_odd.reached_by_call own_odd in
      let evens = called_by lawful_0 even even' (far_parts after_calls.steps placed) can.on_even.no_past can.on_even.no_own on_even.reached_by_call own_even in
      let odds_own = subst (λ (w : ℕ). by w (own_parts load_call after_calls.steps placed) ≡ own_parts load_call after_calls.steps placed) can.same_caller odds.own in
      let own = own_tells even.who after_calls.steps placed after_calls.are_steps odds_own in
      let both_show = shows_both after_calls.steps placed in
      subst (λ (s : List Section). HaveRun seed (both even odd) s (both even' odd') told) (sym (one_section sections section one here))
      (record {
        made = placed;
        even_as_before = evens.as_before;
        odd_as_before = odds.as_before;
        called = record {
          run = one_from seed even.who section placed own ran;
          parts = only_of even.who after_calls.steps placed (calls_of even') (calls_of odd') own
              (subst (λ (l : PlacedCalls). by even.who l ≡ l) (sym evens.all) evens.own)
              (subst (λ (l : PlacedCalls). by even.who l ≡ l) (sym odds.all) odds_own)
              (subst (λ b. HasParts b after_calls.steps placed (calls_of even') (calls_of odd')) (sym parity) (after_calls.are_steps, evens.all, odds.all));
        };
        even_ranged = subst AreInRange (sym evens.all) on_even.ranged;
        odd_ranged = subst AreInRange (sym odds.all) on_odd.ranged;
        shows_even = shows_same told.even.items (far_parts after_calls.steps placed) (calls_of even')
            (told_even ∙ ap₂ (λ (s : List LinkStep) (l : PlacedLogged). far_parts s l) after_calls.kept shown ∙ both_show.on_far) evens.all;
        shows_odd = shows_same told.odd.items (own_parts load_call after_calls.steps placed) (calls_of odd')
            (told_odd ∙ ap₂ (λ (s : List LinkStep) (l : PlacedLogged). own_parts logged_load s l) after_calls.kept shown ∙ both_show.on_own) odds.all;
        noted = one_noted seed even.who section placed told.notes.items own noted;
      })
