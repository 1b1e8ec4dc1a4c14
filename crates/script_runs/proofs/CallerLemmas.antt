-- Callers before their first commands, and what they have received in the end.
use Rattle.std.proofs.Common.{◌≡◌, ◌≢◌, ℕ, zero, suc, ◌+◌, ◌≤◌, max, List, [], ◌∷◌, ◌++◌, length, map, Some, None, refl, ap, ap₂, sym, ◌∙◌, subst, ⊎_elim, arith, append-nil, append_assoc}
use Rattle.std.specs.Prelude.{slice_get, All}
use Rattle.std.specs.List.{fold}
use Rattle.std.proofs.lemmas.Option.{slice_get_past, slice_get_within, slice_get_cases, get_or_from_slice_get}
use Rattle.call_history.specs.Entries.{by}
use Rattle.reply_text.specs.Logged.{PlacedLogged, logged_calls}
use Rattle.reply_text.specs.declared.notes.Note.{Note}
use Rattle.fsc_session.proofs.ShownRuns.{by-shown}
use Rattle.call_history.proofs.Placing.{by-append, by-by, by-by_other}
use Rattle.mount_model.specs.Port.{PlacedCalls}
use Rattle.script_lang.specs.declared.commands.Section.{Section}
use Rattle.fsc_commands.specs.Steps.{Steps}
use Rattle.fsc_commands.specs.Steps.Steps.{Done}
use Rattle.fsc_session.specs.Asking.{AsksRightly}
use Rattle.fsc_session.specs.Session.{IsRunOfSection, notes_of_section}
use Rattle.fsc_session.specs.ScriptRun.{IsRunOfCaller, notes_by}
use Rattle.fsc_session.specs.Runners.{RunnerView, runner_view, state_of}
use Rattle.fsc_session.specs.Rotation.{Waiting, fresh, longest}
use Rattle.fsc_session.proofs.RunLemmas.{run_is_whole, notes_are_whole}
use Rattle.script_runs.specs.Callers.{fresh_runners, noted_by, sections_of, logged_calls_of}
use Rattle.script_runs.specs.Turns.{InTurn, Rotates}

-- ---- before the first turn

pub fresh_states : (k : ℕ) (script : List Section) → map state_of (fresh_runners k script) ≡ map fresh script
fresh_states k [] = refl
fresh_states k (section ∷ more) = ap (λ (l : List Waiting). fresh section ∷ l) (fresh_states (k + 1) more)

pub fresh_sections : (k : ℕ) (script : List Section) → sections_of (fresh_runners k script) ≡ script
fresh_sections k [] = refl
fresh_sections k (section ∷ more) = ap (λ (l : List Section). section ∷ l) (fresh_sections (k + 1) more)

fresh_get : (k j : ℕ) (script : List Section) (runner : RunnerView) → slice_get (fresh_runners k script) j ≡ Some runner
    → (section : Section) × (slice_get script j ≡ Some section) × (runner ≡ runner_view (k + j) section 0 [] [])
fresh_get k j [] runner here = absurd (cc here)
fresh_get k zero (section ∷ more) runner here =
    let first : k ≡ k + 0 = omega arith in
    let is : runner_view k section 0 [] [] ≡ runner = cc here in
    (section, refl, sym is ∙ ap (λ w. runner_view w section 0 [] []) first)
fresh_get k (suc j) (section ∷ more) runner here =
    let rest = fresh_get (k + 1) j more runner here in
    let next : k + 1 + j ≡ k + suc j = omega arith in
    (rest.0, rest.1, rest.2 ∙ ap (λ w. runner_view w rest.0 0 [] []) next)

fresh_turn : (seed : List ℕ) (j : ℕ) (script : List Section) (section : Section) → AsksRightly section → slice_get script j ≡ Some section
    → InTurn seed script [] 0 j (runner_view j section 0 [] [])
fresh_turn seed j script section asked here = record {
  caller = refl;
  section = here;
  asked = asked;
  next = omega arith;
  run = record { shown = refl; run = refl };
}

fresh_at : (seed : List ℕ) (j : ℕ) (script : List Section) (runner : RunnerView) → All AsksRightly script → slice_get (fresh_runners 0 script) j ≡ Some runner
    → InTurn seed script [] 0 j runner
fresh_at seed j script runner asked here =
    let at = fresh_get 0 j script runner here in
    let own : 0 + j ≡ j = omega arith in
    let rightly : AsksRightly at.0 =
    subst AsksRightly (get_or_from_slice_get script j at.0 at.0 at.1) (asked j at.0 (slice_get_within script j at.0 at.1)) in
    subst (InTurn seed script [] 0 j) (sym (at.2 ∙ ap (λ w. runner_view w at.0 0 [] []) own)) (fresh_turn seed j script at.0 rightly at.1)

length-fresh : (k : ℕ) (script : List Section) → length (fresh_runners k script) ≡ length script
length-fresh k [] = refl
length-fresh k (section ∷ more) = ap suc (length-fresh (k + 1) more)

pub rotates_first : (seed : List ℕ) (whole : Steps (List Waiting)) (script : List Section) (runners : List RunnerView)
    → runners ≡ fresh_runners 0 script → All AsksRightly script
    → Rotates seed (sections_of runners) whole whole (λ j. 0) runners []
rotates_first seed whole script runners is asked =
    subst (λ rs. Rotates seed (sections_of rs) whole whole (λ j. 0) rs []) (sym is)
    (subst (λ sections. Rotates seed sections whole whole (λ j. 0) (fresh_runners 0 script) [])
    (sym (fresh_sections 0 script))
    (record {
      count = length-fresh 0 script;
      each = λ j runner here. fresh_at seed j script runner asked here;
      others = λ j none. refl;
      order = refl;
    }))

-- ---- after the last

-- one caller more
pub shown_by-more : {A : Type 0} (shown : A → PlacedLogged) (callers : List A) (caller : A)
    → logged_calls_of shown (callers ++ caller ∷ []) ≡ logged_calls_of shown callers ++ shown caller
shown_by-more shown [] caller = append-nil (shown caller)
shown_by-more shown (first ∷ more) caller =
    ap (λ (l : PlacedLogged). shown first ++ l) (shown_by-more shown more caller)
    ∙ sym (append_assoc (shown first) (logged_calls_of shown more) (shown caller))

pub noted_by-more : (runners : List RunnerView) (runner : RunnerView)
    → noted_by (runners ++ runner ∷ []) ≡ noted_by runners ++ runner.notes
noted_by-more [] runner = append-nil runner.notes
noted_by-more (first ∷ more) runner =
    ap (λ (l : List Note). first.notes ++ l) (noted_by-more more runner)
    ∙ sym (append_assoc first.notes (noted_by more) runner.notes)

module _ {A : Type 0} (shown : A → PlacedLogged) where
  -- if no caller is this one
  told_none : (told : PlacedLogged) (k c : ℕ) (callers : List A)
      → ((j : ℕ) (r : A) → slice_get callers j ≡ Some r → (shown r ≡ by (k + j) told) × (c ≢ k + j))
      → by c (logged_calls_of shown callers) ≡ []
  told_none told k c [] each = refl
  told_none told k c (r ∷ rs) each =
      let first = each 0 r refl in
      by-append c (shown r) (logged_calls_of shown rs)
      ∙ ap₂ (λ (a b : PlacedLogged). a ++ b) (ap (by c) first.0 ∙ by-by_other c (k + 0) told first.1)
      (told_none told (k + 1) c rs (λ j s here.
      let rest = each (suc j) s here in
      let next : k + suc j ≡ k + 1 + j = omega arith in
      (rest.0 ∙ ap (λ w. by w told) next, λ same. rest.1 (same ∙ sym next))))

  told_own : (told : PlacedLogged) (k i : ℕ) (callers : List A) (caller : A) → slice_get callers i ≡ Some caller
      → ((j : ℕ) (r : A) → slice_get callers j ≡ Some r → shown r ≡ by (k + j) told)
      → by (k + i) (logged_calls_of shown callers) ≡ by (k + i) told
  told_own told k i [] caller here each = absurd (cc here)
  told_own told k zero (r ∷ rs) caller here each =
      by-append (k + 0) (shown r) (logged_calls_of shown rs)
      ∙ ap₂ (λ (a b : PlacedLogged). a ++ b) (ap (by (k + 0)) (each 0 r refl) ∙ by-by (k + 0) told)
      (told_none told (k + 1) (k + 0) rs (λ j s there. let next : k + suc j ≡ k + 1 + j = omega arith in
      (each (suc j) s there ∙ ap (λ w. by w told) next, λ same. omega (arith, same))))
      ∙ append-nil (by (k + 0) told)
  told_own told k (suc i) (r ∷ rs) caller here each =
      let next : k + suc i ≡ k + 1 + i = omega arith in
      by-append (k + suc i) (shown r) (logged_calls_of shown rs)
      ∙ ap₂ (λ (a b : PlacedLogged). a ++ b)
      (ap (by (k + suc i)) (each 0 r refl) ∙ by-by_other (k + suc i) (k + 0) told (λ same. omega (arith, same)))
      (ap (λ w. by w (logged_calls_of shown rs)) next
      ∙ told_own told (k + 1) i rs caller here (λ j s there. let on : k + suc j ≡ k + 1 + j = omega arith in
      each (suc j) s there ∙ ap (λ w. by w told) on)
      ∙ ap (λ w. by w told) (sym next))

  -- callers each of which has the shown entries of its part of these calls have those of all of them
  pub alike : (told : PlacedCalls) (callers : List A)
      → ((j : ℕ) (r : A) → slice_get callers j ≡ Some r → shown r ≡ logged_calls (by j told))
      → ((j : ℕ) → slice_get callers j ≡ None → by j told ≡ [])
      → (c : ℕ) → by c (logged_calls_of shown callers) ≡ by c (logged_calls told)
  alike told callers each others c = ⊎_elim
      (λ there. let here : 0 + c ≡ c = omega arith in
      subst (λ w. by w (logged_calls_of shown callers) ≡ by w (logged_calls told)) here
      (told_own (logged_calls told) 0 c callers there.0 there.2 own))
      (λ past. told_none (logged_calls told) 0 c callers (λ j r there. (
        own j r there,
        λ same.
            let within = slice_get_within callers j r there in
            let over = past.0 in omega (arith, same, within, over),
      ))
      ∙ sym (by-shown c told ∙ ap logged_calls (others c past.1)))
      (slice_get_cases callers c).1
    where
      own : (j : ℕ) (r : A) → slice_get callers j ≡ Some r → shown r ≡ by (0 + j) (logged_calls told)
      own j r there = let same : j ≡ 0 + j = omega arith in
          each j r there ∙ sym (by-shown j told) ∙ ap (λ w. by w (logged_calls told)) same

-- runners of which each has its caller's notes have those of all callers
noted_from : (seed : List ℕ) (told : PlacedCalls) (k : ℕ) (script : List Section) (runners : List RunnerView) → length runners ≡ length script
    → ((j : ℕ) (r : RunnerView) → slice_get runners j ≡ Some r
    → (slice_get script j ≡ Some r.section) × (r.notes ≡ notes_of_section seed (k + j) r.section (by (k + j) told)))
    → noted_by runners ≡ notes_by seed k script told
noted_from seed told k [] [] count each = refl
noted_from seed told k (section ∷ more) [] count each = absurd (omega (arith, count))
noted_from seed told k [] (r ∷ rs) count each = absurd (omega (arith, count))
noted_from seed told k (section ∷ more) (r ∷ rs) count each =
    let first = each 0 r refl in
    let here = first.0 in
    let is : r.section ≡ section = cc here in
    let own : k + 0 ≡ k = omega arith in
    ap₂ (λ (a b : List Note). a ++ b)
    (first.1 ∙ ap₂ (λ (w : ℕ) (s : Section). notes_of_section seed w s (by w told)) own is)
    (noted_from seed told (k + 1) more rs (omega (arith, count)) (λ j s at. let rest = each (suc j) s at in let next : k + suc j ≡ k + 1 + j = omega arith in
    (rest.0, rest.1 ∙ ap (λ (w : ℕ). notes_of_section seed w s.section (by w told)) next)))

abbrev longest_from : ℕ → List Section → ℕ
longest_from most script = fold (λ (most : ℕ) (section : Section). max most (length section.commands)) most script

longest_from-le : (most : ℕ) (script : List Section) → most ≤ longest_from most script
longest_from-le most [] = omega arith
longest_from-le most (section ∷ more) = let rest = longest_from-le (max most (length section.commands)) more in omega (arith, rest)

-- no section has more commands than the longest
longest-le : (most : ℕ) (script : List Section) (j : ℕ) (section : Section) → slice_get script j ≡ Some section → length section.commands ≤ longest_from most script
longest-le most [] j section here = absurd (cc here)
longest-le most (first ∷ more) zero section here =
    let is : first ≡ section = cc here in
    let long = ap (λ (s : Section). length s.commands) is in
    let rest = longest_from-le (max most (length first.commands)) more in omega (arith, rest, long)
longest-le most (first ∷ more) (suc j) section here = longest-le (max most (length first.commands)) more j section here

module _ (seed : List ℕ) (script : List Section) (whole : Steps (List Waiting)) (runners : List RunnerView)
    (told : PlacedCalls) (rounds : ℕ) (all : rounds ≡ longest script)
    (ended : Rotates seed script whole (Done (map state_of runners)) (λ j. rounds) runners told) where
  -- each runner ran all commands of its section
  done_all : (j : ℕ) (r : RunnerView) → slice_get runners j ≡ Some r → length r.section.commands ≤ r.next
  done_all j r here =
      let turn = ended.each j r here in
      let most = longest-le 0 script j r.section turn.section in
      let at = turn.next in
      omega (arith, most, at, all)

  -- each caller ran its section
  pub run_of : (c : ℕ) → IsRunOfCaller seed c (slice_get script c) (by c told)
  run_of c = ⊎_elim
      (λ there. let r = there.0 in let turn = ended.each c r there.2 in
      subst (λ s. IsRunOfCaller seed c s (by c told)) (sym turn.section)
      (subst (λ w. IsRunOfSection seed w r.section (by c told)) turn.caller
      (run_is_whole seed r.caller r.section r.next (by c told) r.notes (done_all c r there.2) turn.run.run)))
      (λ past. let over = past.0 in let count = ended.count in
      subst (λ s. IsRunOfCaller seed c s (by c told)) (sym (slice_get_past script c (omega (arith, over, count))))
      (ended.others c past.1))
      (slice_get_cases runners c).1

  -- and noted what its run's notes are
  pub noted_all : noted_by runners ≡ notes_by seed 0 script told
  noted_all =
      noted_from seed told 0 script runners ended.count
      (λ j r at. let turn = ended.each j r at in let own : j ≡ 0 + j = omega arith in (
        turn.section,
        notes_are_whole seed r.caller r.section r.next (by j told) r.notes (done_all j r at) turn.run.run
            ∙ ap (λ (w : ℕ). notes_of_section seed w r.section (by j told)) turn.caller
            ∙ ap (λ (w : ℕ). notes_of_section seed w r.section (by w told)) own,
      ))
