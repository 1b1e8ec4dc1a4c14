-- Passes that are cut, run and joined, and the calls that callers make by them.
use Rattle.std.proofs.Common.{◌≡◌, ◌≢◌, ℕ, zero, suc, ◌+◌, ◌<◌, false, List, [], ◌∷◌, ◌++◌, length, Some, refl, sym, ap, ap₂, ◌∙◌, subst, arith, append-nil, length-append}
use Rattle.std.specs.Prelude.{slice_get, All, ◌==◌}
use Rattle.std.proofs.Math.Seq.{drop-append_seam, take-append_seam}
use Rattle.std.proofs.lemmas.List.Elements.{All-take, All-drop}
use Rattle.std.proofs.lemmas.List.Sums.{sum_by-append}
use Rattle.turn_lock.specs.Passes.{SharedView, first_pass}
use Rattle.turn_lock.specs.PassParts.{under, over, lower_part, upper_part}
use Rattle.call_history.specs.Entries.{by}
use Rattle.call_history.proofs.Placing.{by-by_other}
use Rattle.reply_text.specs.Logged.{PlacedLogged, logged_calls}
use Rattle.reply_text.specs.declared.notes.Note.{Note}
use Rattle.fsc_session.proofs.ShownRuns.{by-shown}
use Rattle.mount_model.specs.History.{History}
use Rattle.mount_model.specs.Port.{PlacedCalls}
use Rattle.mount_shared.specs.SharedCalls.{MountPass, PassAfterCalls}
use Rattle.script_lang.specs.declared.commands.Section.{Section}
use Rattle.fsc_session.specs.Asking.{AsksRightly}
use Rattle.fsc_session.specs.Session.{IsRunOfSection, notes_of_section}
use Rattle.fsc_session.specs.ScriptRun.{IsRunOfCaller, notes_by}
use Rattle.script_runs.specs.Passes.{AreHalves, CanRun, IsAsBefore, RunFrom, Shows, max_calls_of_sections, calls_of}

-- ---- before the first call

pub positive : (n : ℕ) → false ≡ (n == 0) → 0 < n
positive zero is = absurd (cc is)
positive (suc n) is = omega arith

pub first_runs : (most : ℕ) (shared : SharedView) (script : List Section) (pass : MountPass) (numbers calls : ℕ)
    → pass ≡ first_pass shared.table numbers calls → numbers ≡ length script → calls ≡ max_calls_of_sections most script
    → 0 < length script → All AsksRightly script → CanRun most shared pass script
first_runs most shared script pass numbers calls is count needed some asked =
    subst (λ p. CanRun most shared p script) (sym is) (record {
      belongs = refl;
      some_section = some;
      numbers = omega (arith, count);
      calls = omega (arith, needed);
      no_past = refl;
      no_own = refl;
      asked = asked;
    })

pub halves : (most : ℕ) (shared : SharedView) (old lower upper : MountPass) (first others : List Section) (at give : ℕ)
    → CanRun most shared old (first ++ others) → 0 < length first → 0 < length others
    → give ≡ max_calls_of_sections most others → at ≡ old.who + length first → lower ≡ lower_part at give old
    → upper ≡ upper_part at give old → AreHalves most shared old lower upper first others
halves most shared old lower upper first others at give can some_first some_others given border low up =
    let numbers = can.numbers in
    let calls = can.calls in
    let long = length-append first others in
    let needed : max_calls_of_sections most (first ++ others) ≡ max_calls_of_sections most first + max_calls_of_sections most others =
    sum_by-append _ first others in
    subst (λ p. AreHalves most shared old p upper first others) (sym low)
    (subst (λ p. AreHalves most shared old (lower_part at give old) p first others) (sym up)
    (record {
      lower_runs = record {
        belongs = can.belongs;
        some_section = some_first;
        numbers = sym border;
        calls = omega (arith, needed, calls, given);
        no_past = ap (under at) can.no_past;
        no_own = can.no_own;
        asked = subst (All AsksRightly) (take-append_seam first others)
            (All-take AsksRightly (length first) (first ++ others) can.asked);
      };
      upper_runs = record {
        belongs = can.belongs;
        some_section = some_others;
        numbers = omega (arith, numbers, border, long);
        calls = omega (arith, given);
        no_past = ap (over at) can.no_past;
        no_own = refl;
        asked = subst (All AsksRightly) (drop-append_seam first others)
            (All-drop AsksRightly (length first) (first ++ others) can.asked);
      };
      one_table = refl;
      lowest = refl;
      next = refl;
      highest = refl;
    }))

-- ---- one caller

pub others_none : (who c : ℕ) (xs : PlacedCalls) → by who xs ≡ xs → c ≢ who → by c xs ≡ []
others_none who c xs own differ = ap (by c) (sym own) ∙ by-by_other c who xs differ

pub one_section : (sections : List Section) (section : Section) → length sections ≡ 1
    → slice_get sections 0 ≡ Some section → sections ≡ section ∷ []
one_section [] section one here = absurd (omega (arith, one))
one_section (x ∷ []) section one here = ap (λ (s : Section). s ∷ []) (cc here)
one_section (x ∷ y ∷ more) section one here = absurd (omega (arith, one))

pub one_from : (seed : List ℕ) (who : ℕ) (section : Section) (xs : PlacedCalls) → by who xs ≡ xs
    → IsRunOfSection seed who section xs → RunFrom seed who (section ∷ []) xs
one_from seed who section xs own ran = record {
  each = each;
  none = λ c below. others_none who c xs own (λ same. omega (arith, same, below));
}
  where
    each : (i : ℕ) → IsRunOfCaller seed (who + i) (slice_get (section ∷ []) i) (by (who + i) xs)
    each zero = let same : who ≡ who + 0 = omega arith in
        subst (λ (w : ℕ). IsRunOfSection seed w section (by w xs)) same
        (subst (IsRunOfSection seed who section) (sym own) ran)
    each (suc i) = others_none who (who + suc i) xs own (λ same. omega (arith, same))

-- what a pass has that made its first calls
pub record Called (old new : MountPass) (calls : PlacedCalls) : Type 0 where
  pub as_before : IsAsBefore old new
  pub all : calls_of new ≡ calls
  pub own : by old.who calls ≡ calls

pub called_by : (lawful : History → Type 0) (old new : MountPass) (calls : PlacedCalls) → old.past ≡ [] → old.mine ≡ []
    → PassAfterCalls lawful old calls new → by new.who new.mine ≡ new.mine → Called old new calls
called_by lawful old new calls no_past no_own after_calls own =
    let mine : new.mine ≡ calls = after_calls.made ∙ ap (λ (l : PlacedCalls). l ++ calls) no_own in
    let past : new.past ≡ [] = after_calls.same_past ∙ no_past in
    record {
      as_before = record {
        same_table = after_calls.same_table;
        same_caller = after_calls.same_caller;
        same_high = after_calls.same_high;
      };
      all = ap₂ (λ (a b : PlacedCalls). a ++ b) past mine;
      own = subst (λ (w : ℕ). by w calls ≡ calls) after_calls.same_caller
          (subst (λ (xs : PlacedCalls). by new.who xs ≡ xs) mine own);
    }

pub one_noted : (seed : List ℕ) (who : ℕ) (section : Section) (made : PlacedCalls) (notes : List Note)
    → by who made ≡ made → notes ≡ notes_of_section seed who section made → notes ≡ notes_by seed who (section ∷ []) made
one_noted seed who section made notes own are =
    are ∙ ap (notes_of_section seed who section) (sym own)
    ∙ sym (append-nil (notes_of_section seed who section (by who made)))

pub shows_same : (told : PlacedLogged) (placed calls : PlacedCalls) → told ≡ logged_calls placed → calls ≡ placed
    → Shows told calls
shows_same told placed calls is all c =
    ap (by c) is ∙ by-shown c placed ∙ ap (λ (l : PlacedCalls). logged_calls (by c l)) (sym all)
