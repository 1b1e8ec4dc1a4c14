-- If no caller awaits anything, the history is a run, whose notes are the callers'; otherwise it is none.
use Rattle.std.proofs.Common.{◌≡◌, ℕ, Bool, suc, ◌+◌, List, [], ◌∷◌, ◌++◌, length, Option, Some, None, refl, ap, ap₂, sym, ◌∙◌, subst, arith, get_or, add-zero}
use Rattle.std.specs.Prelude.{All, slice_get, option_map}
use Rattle.std.specs.List.{flat_map}
use Rattle.std.proofs.lemmas.Option.{slice_get_within, get_or_from_slice_get, slice_get-get_or}
use Rattle.call_history.specs.Entries.{by, entries_with_places}
use Rattle.call_history.specs.Placed.{entries_of}
use Rattle.mount_model.specs.declared.call.Call.{Call}
use Rattle.mount_model.specs.Port.{PlacedCalls}
use Rattle.mount_model.specs.History.{History, entries_by}
use Rattle.script_lang.specs.declared.commands.Section.{Section}
use Rattle.reply_text.specs.Notes.{notes_text}
use Rattle.reply_text.specs.declared.notes.Note.{Note}
use Rattle.fsc_session.specs.Session.{IsRunOfSection, section_steps, notes_of_section, next_call}
use Rattle.fsc_session.specs.ScriptRun.{IsRunOf, IsRunOfCaller, notes_by, notes_of}
use Rattle.fsc_session.specs.Meaning.{IsBegunBy, Follows}
use Rattle.next_calls.specs.Callers.{CallerView}
use Rattle.log_check.specs.Endings.{IsEnded}
use Rattle.log_check.specs.Reading.{IsCaller, AreCallers}
use Rattle.log_check.specs.Stops.{IsRead, IsBlocked}
use Rattle.log_check.specs.Verdicts.{IsCertified, IsRefusedAt}
use Rattle.log_check.proofs.FollowLemmas.{none_next}
use Rattle.log_check.proofs.ReadingLemmas.{pair, at_number}
use Rattle.log_check.proofs.StopLemmas.{certified, refused}

some_same : {A : Type 0} {x y : A} → Some x ≡ Some y → x ≡ y
some_same same = cc same

abbrev pub AwaitNothing : List CallerView → Type 0
AwaitNothing callers = All (λ (caller : CallerView). caller.waiting ≡ None) callers

-- one of them
awaits_nothing : (callers : List CallerView) (n : ℕ) (caller : CallerView) → AwaitNothing callers → slice_get callers n ≡ Some caller → caller.waiting ≡ None
awaits_nothing callers n caller nothing here =
    subst (λ (v : CallerView). v.waiting ≡ None) (get_or_from_slice_get callers n caller caller here) (nothing n caller (slice_get_within callers n caller here))

-- ---- a run

caller_ran : (seed : List ℕ) (script : List Section) (h : History) (n : ℕ) (caller : CallerView) (section : Section) → IsCaller seed script h n caller
    → slice_get script n ≡ Some section → caller.waiting ≡ None
    → IsRunOfSection seed n section (entries_by n h) × (caller.notes ≡ notes_of_section seed n section (entries_by n h))
caller_ran seed script h n caller section own is none =
    let same : caller.section ≡ section = some_same (sym own.section ∙ is) in
    subst (λ (s : Section). IsRunOfSection seed n s (entries_by n h) × (caller.notes ≡ notes_of_section seed n s (entries_by n h))) same
    (subst (λ (k : ℕ). IsRunOfSection seed k caller.section (entries_by n h) × (caller.notes ≡ notes_of_section seed k caller.section (entries_by n h))) own.numbered
    (own.awaits.whole none))

pub ended_run : (seed : List ℕ) (script : List Section) (h : History) (callers : List CallerView) → Follows seed script h → AreCallers seed script h callers
    → AwaitNothing callers → IsRunOf seed script h
ended_run seed script h callers follows are nothing c = by_section (slice_get script c) refl (follows c)
  where
    by_section : (at : Option Section) → slice_get script c ≡ at → IsBegunBy seed c at (entries_by c h) → IsRunOfCaller seed c at (entries_by c h)
    by_section None is begun = begun
    by_section (Some section) is begun =
        let within = slice_get_within script c section is in
        let many = are.many in
        let at = at_number callers c (omega (arith, within, many)) in
        (caller_ran seed script h c at.0 section (are.each c at.0 at.1) is (awaits_nothing callers c at.0 nothing at.1)).0

-- ---- its notes

notes_alike : (seed : List ℕ) (k : ℕ) (sections : List Section) (callers : List CallerView) (placed : PlacedCalls) → length callers ≡ length sections
    → ((i : ℕ) (caller : CallerView) (section : Section) → slice_get callers i ≡ Some caller → slice_get sections i ≡ Some section
    → caller.notes ≡ notes_of_section seed (k + i) section (by (k + i) placed))
    → notes_by seed k sections placed ≡ flat_map (λ (caller : CallerView). caller.notes) callers
notes_alike seed k [] [] placed long each = refl
notes_alike seed k [] (caller ∷ callers) placed long each = absurd (omega (arith, long))
notes_alike seed k (section ∷ sections) [] placed long each = absurd (omega (arith, long))
notes_alike seed k (section ∷ sections) (caller ∷ callers) placed long each =
    ap₂ (λ (a b : List Note). a ++ b)
    (sym (each 0 caller section refl refl ∙ ap (λ (n : ℕ). notes_of_section seed n section (by n placed)) (add-zero k)))
    (notes_alike seed (k + 1) sections callers placed (omega (arith, long)) (λ i other its here there.
    let next : k + suc i ≡ k + 1 + i = omega arith in
    each (suc i) other its here there ∙ ap (λ (n : ℕ). notes_of_section seed n its (by n placed)) next))

pub ended_notes : (seed : List ℕ) (script : List Section) (h : History) (callers : List CallerView) → AreCallers seed script h callers
    → AwaitNothing callers → notes_of seed script h ≡ flat_map (λ (caller : CallerView). caller.notes) callers
ended_notes seed script h callers are nothing =
    notes_alike seed 0 script callers (entries_with_places 0 h) are.many (λ i caller section here there.
    let none : i ≡ 0 + i = omega arith in
    subst (λ (n : ℕ). caller.notes ≡ notes_of_section seed n section (by n (entries_with_places 0 h))) none
    (caller_ran seed script h i caller section (are.each i caller here) there (awaits_nothing callers i caller nothing here)).1)

-- ---- no run

no_call : (n : ℕ) (waiting : Option Call) → option_map (λ (call : Call). pair n call) waiting ≡ None → waiting ≡ None
no_call n None is = refl
no_call n (Some call) is = absurd (cc is)

run_ended : (seed : List ℕ) (script : List Section) (h : History) (callers : List CallerView) → AreCallers seed script h callers
    → IsRunOf seed script h → AwaitNothing callers
run_ended seed script h callers are run n d within =
    let caller : CallerView = get_or callers n d in
    let own = are.each n caller (slice_get-get_or callers n d within) in
    let whole = subst (λ (at : Option Section). IsRunOfCaller seed n at (entries_by n h)) own.section (run n) in
    let none = none_next (section_steps seed n caller.section) (entries_of (entries_by n h)) whole.0 whole.1 in
    no_call caller.caller caller.waiting
    (sym own.awaits.comes ∙ ap (λ (k : ℕ). next_call seed k caller.section (entries_of (entries_by n h))) own.numbered ∙ none)

-- ---- the verdict

module _ (strict : Bool) where
  pub ends_certified : (seed : List ℕ) (script : List Section) (text : List ℕ) (place : ℕ) (rest : List ℕ) (h : History) (callers : List CallerView)
      → IsRead strict seed script text place rest h → AreCallers seed script h callers → IsEnded callers rest → IsCertified strict seed script text
  ends_certified seed script text place rest h callers read are ended =
      certified strict seed script text place rest h read (ended_run seed script h callers read.follows are ended.0)
      (ended.1 ∙ ap notes_text (sym (ended_notes seed script h callers are ended.0)))

  pub ends_refused : (seed : List ℕ) (script : List Section) (text : List ℕ) (place : ℕ) (rest : List ℕ) (h : History) (callers : List CallerView)
      → IsRead strict seed script text place rest h → AreCallers seed script h callers → IsBlocked strict seed script h place rest → (IsEnded callers rest → ⊥)
      → IsRefusedAt strict seed script text place
  ends_refused seed script text place rest h callers read are blocked not_ended =
      refused strict seed script text place rest h read blocked (λ run notes.
      let nothing = run_ended seed script h callers are run in
      not_ended (nothing, notes ∙ ap notes_text (ended_notes seed script h callers are nothing)))
