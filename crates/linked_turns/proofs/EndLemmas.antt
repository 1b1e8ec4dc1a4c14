-- Callers before their first commands, and what they have received in the end.
use Rattle.std.proofs.Common.{◌≡◌, ℕ, zero, suc, ◌+◌, ◌<◌, ◌^◌, Bool, true, false, List, [], ◌∷◌, length, map, Some, refl, ap, ap₂, sym, ◌∙◌, subst, ⊎_elim}
use Rattle.std.specs.Prelude.{slice_get, All}
use Rattle.std.proofs.lemmas.List.{length-map}
use Rattle.std.proofs.lemmas.List.Elements.{All-nil}
use Rattle.std.proofs.lemmas.Option.{slice_get_cases}
use Rattle.call_history.specs.Entries.{by, entries_by, entries_with_places}
use Rattle.call_history.proofs.Placing.{length-numbered}
use Rattle.reply_text.specs.Ranges.{EntryIsInRange}
use Rattle.reply_text.specs.Logged.{PlacedLogged, logged_calls, logged_history}
use Rattle.fsc_session.proofs.ShownRuns.{numbered-shown}
use Rattle.call_history.specs.Placed.{entries_of}
use Rattle.mount_model.specs.History.{History, IsLegal, NeverOutOfMemory}
use Rattle.mount_model.specs.Port.{PlacedCalls}
use Rattle.script_lang.specs.declared.commands.Section.{Section}
use Rattle.fsc_commands.specs.Steps.{Steps, Reaches}
use Rattle.fsc_commands.specs.Steps.Steps.{Done}
use Rattle.fsc_session.specs.Asking.{AsksRightly}
use Rattle.reply_text.specs.declared.notes.Note.{Note}
use Rattle.fsc_session.specs.Runners.{RunnerView}
use Rattle.fsc_session.specs.Rotation.{Waiting, longest, rotation_steps}
use Rattle.mount_links.specs.declared.step.LinkStep.{LinkStep}
use Rattle.mount_links.specs.Linked.{own_parts, far_parts}
use Rattle.mount_links.specs.ShownParts.{logged_load}
use Rattle.mount_links.proofs.ShownLemmas.{shows_both}
use Rattle.script_runs.specs.Callers.{fresh_runners, noted_by, logged_calls_of}
use Rattle.script_runs.specs.MountPlaces.{At}
use Rattle.script_runs.proofs.CallerLemmas.{alike, noted_all, rotates_first, run_of}
use Rattle.linked_turns.specs.declared.runners.LinkedRunner.{LinkedRunner}
use Rattle.linked_turns.specs.LinkedRuns.{IsLinkedLogOf}
use Rattle.linked_turns.specs.LinkedSerial.{histories, linked_calls, linked_histories}
use Rattle.linked_turns.specs.TwoMounts.{two}
use Rattle.linked_turns.specs.Parts.{HasParts, is_even}
use Rattle.linked_turns.proofs.SerialLemmas.{GoesOn, calls_from, linked_from}
use Rattle.linked_turns.proofs.TurnLemmas.{nobody_at, runner_at}
use Rattle.mount_model.specs.PlainMount.{empty_mount}
use Rattle.linked_turns.specs.Callers.{LinkedView, view_of, fresh_view, fresh_views, even_part, even_logged_calls, odd_part, odd_logged_calls, runners_of}
use Rattle.linked_turns.specs.Turns.{Rotating, sections_of, states_of}

-- ---- before the first turn

pub fresh_callers : (k : ℕ) (script : List Section) (callers : List LinkedRunner)
    → map view_of callers ≡ fresh_views k script → runners_of callers ≡ fresh_runners k script
fresh_callers k [] [] is = refl
fresh_callers k [] (c ∷ cs) is = absurd (cc is)
fresh_callers k (section ∷ more) [] is = absurd (cc is)
fresh_callers k (section ∷ more) (c ∷ cs) is =
    let view : view_of c ≡ fresh_view k section = cc is in
    let rest : map view_of cs ≡ fresh_views (k + 1) more = cc is in
    ap₂ (λ (r : RunnerView) (l : List RunnerView). r ∷ l) (ap (λ (v : LinkedView). v.runner) view)
    (fresh_callers (k + 1) more cs rest)

fresh_steps : (k j : ℕ) (script : List Section) (callers : List LinkedRunner) (caller : LinkedRunner)
    → map view_of callers ≡ fresh_views k script → slice_get callers j ≡ Some caller → caller.steps.items ≡ []
fresh_steps k j script [] caller is here = absurd (cc here)
fresh_steps k j [] (c ∷ cs) caller is here = absurd (cc is)
fresh_steps k zero (section ∷ more) (c ∷ cs) caller is here =
    let same : c ≡ caller = cc here in
    let view : view_of c ≡ fresh_view k section = cc is in
    ap (λ (x : LinkedRunner). x.steps.items) (sym same) ∙ ap (λ (v : LinkedView). v.steps) view
fresh_steps k (suc j) (section ∷ more) (c ∷ cs) caller is here =
    let rest : map view_of cs ≡ fresh_views (k + 1) more = cc is in fresh_steps (k + 1) j more cs caller rest here

-- without calls there are no parts
pub none_parts : (b : Bool) → HasParts b [] [] [] []
none_parts true = (refl, refl)
none_parts false = (tt, refl, refl)

pub before_all : {M N : Type 0} (reaches_0 : History → M → Type 0) (reaches_1 : History → N → Type 0) (seed : List ℕ)
    (whole : Steps (List Waiting)) (script : List Section) (callers : List LinkedRunner) (even : At M) (odd : At N) → map view_of callers ≡ fresh_views 0 script
    → even.places ≡ 0 → odd.places ≡ 0 → All AsksRightly script → reaches_0 [] even.machine → reaches_1 [] odd.machine
    → Rotating reaches_0 reaches_1 seed (sections_of callers) whole whole (λ j. 0) callers even odd
before_all reaches_0 reaches_1 seed whole script callers even odd is none_even none_odd asked led_even led_odd = record {
  told = [];
  even = [];
  odd = [];
  even_stands = record { placed = refl; given = none_even; reached_by = led_even };
  odd_stands = record { placed = refl; given = none_odd; reached_by = led_odd };
  even_ranged = All-nil EntryIsInRange;
  odd_ranged = All-nil EntryIsInRange;
  rotates = rotates_first seed whole script (runners_of callers) (fresh_callers 0 script callers is) asked;
  parts = λ j caller here. subst (λ (l : List LinkStep). HasParts (is_even j) l [] [] [])
      (sym (fresh_steps 0 j script callers caller is here)) (none_parts (is_even j));
  others = λ j none. (refl, refl);
  steps = [];
  linked = tt;
  even_is = refl;
  odd_is = refl;
}

-- ---- after the last

-- the shown entries of a caller's calls on mount 0 and on mount 1
even_shows : (b : Bool) (r : LinkedRunner) (made even odd : PlacedCalls) → HasParts b r.steps.items made even odd → r.runner.entries ≡ logged_calls made
    → even_part b r ≡ logged_calls even
even_shows true r made even odd parts shown = shown ∙ ap logged_calls (sym parts.0)
even_shows false r made even odd parts shown =
    ap (far_parts r.steps.items) shown ∙ (shows_both r.steps.items made).on_far ∙ ap logged_calls (sym parts.1)

odd_shows : (b : Bool) (r : LinkedRunner) (made even odd : PlacedCalls) → HasParts b r.steps.items made even odd → r.runner.entries ≡ logged_calls made
    → odd_part b r ≡ logged_calls odd
odd_shows true r made even odd parts shown = ap logged_calls (sym parts.1)
odd_shows false r made even odd parts shown =
    ap (own_parts logged_load r.steps.items) shown ∙ (shows_both r.steps.items made).on_own ∙ ap logged_calls (sym parts.2)

-- a history whose shown entries are a vector is short
pub short_of : (history : History) (told : PlacedLogged) → told ≡ entries_with_places 0 (logged_history history)
    → length told < 2 ^ 64 → length history < 2 ^ 64
short_of history told in_place few =
    subst (λ (n : ℕ). n < 2 ^ 64)
    (ap length in_place ∙ length-numbered 0 (logged_history history) ∙ length-map history _) few

module _ {M N : Type 0} (reaches_0 : History → M → Type 0) (reaches_1 : History → N → Type 0)
    (lawful_0 lawful_1 : History → Type 0) (law_0 : (h : History) (m : M) → reaches_0 h m → lawful_0 h)
    (law_1 : (h : History) (m : N) → reaches_1 h m → lawful_1 h) (seed : List ℕ) (script : List Section)
    (whole : Steps (List Waiting)) (callers : List LinkedRunner) (even_mount : At M) (odd_mount : At N)
    (rounds : ℕ) (all : rounds ≡ longest script)
    (ended : Rotating reaches_0 reaches_1 seed script whole (Done (states_of callers)) (λ j. rounds) callers even_mount odd_mount) where
  parts_of : (c : ℕ) → (steps : List LinkStep) × HasParts (is_even c) steps (by c ended.told) (by c ended.even) (by c ended.odd)
  parts_of c = ⊎_elim
      (λ there. (there.0.steps.items, ended.parts c there.0 there.2))
      (λ past. let none = ended.others c past.1 in (
        [],
        subst (λ l. HasParts (is_even c) [] (by c ended.told) (by c ended.even) l) (sym none.1)
            (subst (λ l. HasParts (is_even c) [] (by c ended.told) l []) (sym none.0)
            (subst (λ l. HasParts (is_even c) [] l [] []) (sym (ended.rotates.others c (nobody_at callers c past.1)))
            (none_parts (is_even c)))),
      ))
      (slice_get_cases callers c).1

  -- the shown entries of all callers on a mount are those of its history
  pub even_history : (c : ℕ) → by c (logged_calls_of even_logged_calls callers) ≡ entries_by c (logged_history (entries_of ended.even))
  even_history c =
      alike even_logged_calls ended.even callers
      (λ j r at. let turn = ended.rotates.each j r.runner (runner_at callers j r at) in
      ap (λ w. even_part (is_even w) r) turn.caller
      ∙ even_shows (is_even j) r (by j ended.told) (by j ended.even) (by j ended.odd) (ended.parts j r at) turn.run.shown)
      (λ j none. (ended.others j none).0) c
      ∙ ap (by c) (ap logged_calls ended.even_stands.placed ∙ sym (numbered-shown 0 (entries_of ended.even)))

  pub odd_history : (c : ℕ) → by c (logged_calls_of odd_logged_calls callers) ≡ entries_by c (logged_history (entries_of ended.odd))
  odd_history c =
      alike odd_logged_calls ended.odd callers
      (λ j r at. let turn = ended.rotates.each j r.runner (runner_at callers j r at) in
      ap (λ w. odd_part (is_even w) r) turn.caller
      ∙ odd_shows (is_even j) r (by j ended.told) (by j ended.even) (by j ended.odd) (ended.parts j r at) turn.run.shown)
      (λ j none. (ended.others j none).1) c
      ∙ ap (by c) (ap logged_calls ended.odd_stands.placed ∙ sym (numbered-shown 0 (entries_of ended.odd)))

  -- and if no call was out of memory, both are a function of script and seed
  serial_of : whole ≡ rotation_steps seed script → IsLegal (entries_of ended.even) → IsLegal (entries_of ended.odd)
      → NeverOutOfMemory (entries_of ended.even) → NeverOutOfMemory (entries_of ended.odd)
      → histories (entries_of ended.even) (entries_of ended.odd) ≡ linked_histories seed script
  serial_of is legal_even legal_odd never_even never_odd =
      let even_is = ap (λ (l : PlacedCalls). entries_of l) ended.even_is in
      let odd_is = ap (λ (l : PlacedCalls). entries_of l) ended.odd_is in
      ap₂ histories even_is odd_is
      ∙ linked_from (two empty_mount empty_mount) (rotation_steps seed script) ended.told ended.steps (states_of callers)
      (subst (λ s. Reaches s (entries_of ended.told) (Done (states_of callers))) is ended.rotates.order) ended.linked
      (subst (GoesOn empty_mount) even_is (record { legal = legal_even; never = never_even }))
      (subst (GoesOn empty_mount) odd_is (record { legal = legal_odd; never = never_odd }))

  calls_of : whole ≡ rotation_steps seed script → IsLegal (entries_of ended.even) → IsLegal (entries_of ended.odd)
      → NeverOutOfMemory (entries_of ended.even) → NeverOutOfMemory (entries_of ended.odd) → entries_of ended.told ≡ linked_calls seed script
  calls_of is legal_even legal_odd never_even never_odd =
      calls_from (two empty_mount empty_mount) (rotation_steps seed script) ended.told ended.steps (states_of callers)
      (subst (λ s. Reaches s (entries_of ended.told) (Done (states_of callers))) is ended.rotates.order) ended.linked
      (subst (GoesOn empty_mount) (ap (λ (l : PlacedCalls). entries_of l) ended.even_is) (record { legal = legal_even; never = never_even }))
      (subst (GoesOn empty_mount) (ap (λ (l : PlacedCalls). entries_of l) ended.odd_is) (record { legal = legal_odd; never = never_odd }))

  -- so the shown entries of both histories are those of the run
  pub tells_linked : (even_entries odd_entries : PlacedLogged) (notes : List Note) → whole ≡ rotation_steps seed script
      → even_entries ≡ entries_with_places 0 (logged_history (entries_of ended.even)) → odd_entries ≡ entries_with_places 0 (logged_history (entries_of ended.odd))
      → notes ≡ noted_by (runners_of callers) → length even_entries < 2 ^ 64 → length odd_entries < 2 ^ 64
      → IsLinkedLogOf lawful_0 lawful_1 seed script even_entries odd_entries notes
  tells_linked even_entries odd_entries notes is even_is odd_is notes_are few_even few_odd = record {
    even = entries_of ended.even;
    odd = entries_of ended.odd;
    run = record {
      told = ended.told;
      calls = record {
        lawful_even = law_0 (entries_of ended.even) even_mount.machine ended.even_stands.reached_by;
        lawful_odd = law_1 (entries_of ended.odd) odd_mount.machine ended.odd_stands.reached_by;
        linked = record {
          callers = run_of seed script whole (runners_of callers) ended.told rounds all ended.rotates;
          parts = λ c. (
            (parts_of c).0,
            subst (λ l. HasParts (is_even c) (parts_of c).0 (by c ended.told) (by c l) (entries_by c (entries_of ended.odd))) ended.even_stands.placed
                (subst (λ l. HasParts (is_even c) (parts_of c).0 (by c ended.told) (by c ended.even) (by c l)) ended.odd_stands.placed (parts_of c).1),
          );
          short_even = short_of (entries_of ended.even) even_entries even_is few_even;
          short_odd = short_of (entries_of ended.odd) odd_entries odd_is few_odd;
          ranged_even = ended.even_ranged;
          ranged_odd = ended.odd_ranged;
        };
      };
      order = (states_of callers, subst (λ s. Reaches s (entries_of ended.told) (Done (states_of callers))) is ended.rotates.order);
      steps = ended.steps;
      linked = ended.linked;
      even_is = sym ended.even_stands.placed ∙ ended.even_is;
      odd_is = sym ended.odd_stands.placed ∙ ended.odd_is;
      serial = serial_of is;
      serial_calls = calls_of is;
    };
    even_in_place = even_is;
    odd_in_place = odd_is;
    noted = notes_are ∙ noted_all seed script whole (runners_of callers) ended.told rounds all ended.rotates;
  }
