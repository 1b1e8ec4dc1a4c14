-- A turn of a caller in rotation, and what holds after it.
use Rattle.std.proofs.Common.{◌≡◌, ◌≢◌, ℕ, zero, suc, ◌+◌, ◌<◌, ◌≤◌, min, Bool, true, false, cond, List, [], ◌∷◌, ◌++◌, length, map, take, drop, set, Some, None, Option, refl, ap, ap₂, sym, ◌∙◌, subst, ⊎_elim, arith, append-nil}
use Rattle.std.specs.Prelude.{slice_get, nat_lt}
use Rattle.std.proofs.Math.Seq.{drop-cons, take-suc-set}
use Rattle.std.proofs.lemmas.Bool.{cases_eq, cases_Bool, leb-true, leb-false, lt-ltb, le-ltb}
use Rattle.std.proofs.lemmas.List.{drop-set-lt, map-append, length-set}
use Rattle.std.proofs.lemmas.Option.{slice_get_past, slice_get_within, slice_get_cases, get_or_from_slice_get}
use Rattle.call_history.specs.Entries.{by}
use Rattle.call_history.specs.Placed.{entries_of}
use Rattle.call_history.proofs.Placing.{by-append, by-by_other}
use Rattle.mount_model.specs.History.{History}
use Rattle.mount_model.specs.Port.{PlacedCalls}
use Rattle.script_lang.specs.declared.commands.Section.{Section}
use Rattle.script_lang.specs.declared.commands.Command.{Command}
use Rattle.fsc_commands.specs.Steps.{Steps, Reaches, names_from, names_in}
use Rattle.fsc_commands.specs.Steps.Steps.{Done}
use Rattle.fsc_commands.specs.Commands.{command_steps}
use Rattle.fsc_session.specs.Asking.{AsksRightly}
use Rattle.reply_text.specs.Logged.{PlacedLogged, logged_calls}
use Rattle.fsc_session.specs.Running.{StepMakes}
use Rattle.fsc_session.specs.Runners.{HasRun, RunnerView, state_of}
use Rattle.fsc_session.specs.Rotation.{Waiting, waiting, turn_of, turn_steps, round_steps}
use Rattle.fsc_commands.proofs.StepsLemmas.{entries_of-append, Reaches-on, Reaches-and_then, names_in-append, names_from-shown}
use Rattle.script_runs.specs.Turns.{InTurn, Rotates, RunnerTurn}

-- ---- lists with one element changed

module _ {A : Type 0} where
  get-set_same : (xs : List A) (i : ℕ) (x : A) → i < length xs → slice_get (set xs i x) i ≡ Some x
  get-set_same [] i x below = absurd (omega (arith, below))
  get-set_same (y ∷ ys) zero x below = refl
  get-set_same (y ∷ ys) (suc i) x below = get-set_same ys i x (omega (arith, below))

  get-set_other : (xs : List A) (i j : ℕ) (x : A) → i ≢ j → slice_get (set xs i x) j ≡ slice_get xs j
  get-set_other [] i j x differ = refl
  get-set_other (y ∷ ys) zero zero x differ = absurd (differ refl)
  get-set_other (y ∷ ys) zero (suc j) x differ = refl
  get-set_other (y ∷ ys) (suc i) zero x differ = refl
  get-set_other (y ∷ ys) (suc i) (suc j) x differ = get-set_other ys i j x (λ same. differ (ap suc same))

  -- what holds of the new element in its place and of the others in theirs holds of each
  pub each_set : (P : ℕ → A → Type 0) (xs : List A) (i : ℕ) (new : A) → i < length xs → P i new
      → ((j : ℕ) (x : A) → i ≢ j → slice_get xs j ≡ Some x → P j x)
      → (j : ℕ) (x : A) → slice_get (set xs i new) j ≡ Some x → P j x
  each_set P xs i new within first others j x here = ⊎_elim
      (λ (same : i ≡ j).
      let is : new ≡ x =
      let both = sym (get-set_same xs i new within) ∙ ap (slice_get (set xs i new)) same ∙ here in cc both in
      subst (P j) is (subst (λ k. P k new) same first))
      (λ (differ : i ≢ j). others j x differ (sym (get-set_other xs i j new differ) ∙ here))
      (cases_eq i j)

  still_there : (xs : List A) (new : A) (i c : ℕ) → i < length xs → i ≡ c → slice_get (set xs i new) c ≡ None → ⊥
  still_there xs new i c within same none =
      let both = sym (get-set_same xs i new within) ∙ ap (slice_get (set xs i new)) same ∙ none in cc both

  -- and so of each place after the last
  pub past_set : (P : ℕ → Type 0) (xs : List A) (i : ℕ) (new : A) → i < length xs
      → ((j : ℕ) → j ≢ i → slice_get xs j ≡ None → P j) → (j : ℕ) → slice_get (set xs i new) j ≡ None → P j
  past_set P xs i new within others j none = others j (λ same. still_there xs new i j within (sym same) none)
      (sym (get-set_other xs i j new (λ same. still_there xs new i j within same none)) ∙ none)

-- the lesser of a number and n, or n itself
min_below : (n m k : ℕ) → k ≡ min n m → k < m → k ≡ n
min_below n m k is below = omega (arith, is, below)

-- ---- the turn

-- if the caller has a command n, its steps were made; and if it has none, nothing was
turn_made : (seed : List ℕ) (n caller : ℕ) (more : Bool) (old new : RunnerView) (made : PlacedCalls) (next : Waiting → Steps (List Waiting))
    → old.caller ≡ caller → old.next ≡ min n (length old.section.commands) → new.section ≡ old.section → new.entries ≡ old.entries ++ logged_calls made
    → StepMakes seed more old new made
    → Reaches (turn_steps seed n caller (state_of old) next) (entries_of made) (next (state_of new))
turn_made seed n caller false old new made next who at section grown so =
    let past : length old.section.commands ≤ n = not_there old.section.commands old.next n at so.2 in
    subst (λ (es : PlacedCalls). Reaches (turn_steps seed n caller (state_of old) next) (entries_of es) (next (state_of new))) (sym so.0)
    (ap (λ (o : Option Command). turn_of seed n caller (state_of old) o next) (slice_get_past old.section.commands n past)
    ∙ ap (λ (r : RunnerView). next (state_of r)) (sym so.1))
  where
    not_there : (commands : List Command) (k n : ℕ) → k ≡ min n (length commands) → slice_get commands k ≡ None → length commands ≤ n
    not_there commands k n is none = ⊎_elim
        (λ there. let wrong = sym there.2 ∙ none in absurd (cc wrong))
        (λ past. let over = past.0 in omega (arith, is, over))
        (slice_get_cases commands k).1
turn_made seed n caller true old new made next who at section grown so =
    let command = so.0 in
    let within = slice_get_within old.section.commands old.next command so.1 in
    let same : old.next ≡ n = min_below n (length old.section.commands) old.next at within in
    let here : slice_get old.section.commands n ≡ Some command = ap (slice_get old.section.commands) (sym same) ∙ so.1 in
    let uid = old.section.uid in
    let names = names_in old.entries in
    let outcome = so.3.0 in
    let follows : Reaches (command_steps seed caller uid n names command.verb) (entries_of made) (Done outcome) =
    subst (λ (c : ℕ). Reaches (command_steps seed c uid n names command.verb) (entries_of made) (Done outcome)) who
    (subst (λ (k : ℕ). Reaches (command_steps seed old.caller uid k names command.verb) (entries_of made) (Done outcome)) same so.3.1) in
    let state : waiting old.section (names_from names (entries_of made)) ≡ state_of new =
    ap₂ (λ (s : Section) (told : List (List ℕ)). waiting s told) (sym section)
    (sym (names_from-shown names made) ∙ sym (names_in-append old.entries (logged_calls made)) ∙ ap (λ (l : PlacedLogged). names_in l) (sym grown)) in
    subst (λ (o : Option Command). Reaches (turn_of seed n caller (state_of old) o next) (entries_of made) (next (state_of new))) (sym here)
    (subst (λ (w : Waiting). Reaches (turn_of seed n caller (state_of old) (Some command) next) (entries_of made) (next w)) state
    (Reaches-and_then names (command_steps seed caller uid n names command.verb) (λ told outcome. next (waiting old.section told)) (entries_of made) outcome follows))

-- ---- what holds after a turn

-- the number of turns that caller j had, if those below i had theirs in round n
abbrev pub turns_in : ℕ → ℕ → ℕ → ℕ
turns_in n i j = cond (nat_lt j i) (n + 1) n

turns_own : (n i : ℕ) → turns_in n (i + 1) i ≡ n + 1
turns_own n i = ap (λ (b : Bool). cond b (n + 1) n) (lt-ltb i (i + 1) (omega arith))

turns_before : (n i : ℕ) → turns_in n i i ≡ n
turns_before n i = ap (λ (b : Bool). cond b (n + 1) n) (le-ltb i i (omega arith))

turns_other : (n i j : ℕ) → i ≢ j → turns_in n (i + 1) j ≡ turns_in n i j
turns_other n i j differ = ⊎_elim
    (λ (low : nat_lt j i ≡ true). let l = leb-true (suc j) i low in
    ap (λ (b : Bool). cond b (n + 1) n) (lt-ltb j (i + 1) (omega (arith, l)) ∙ sym low))
    (λ (high : nat_lt j i ≡ false). let h = leb-false (suc j) i high in
    ap (λ (b : Bool). cond b (n + 1) n) (le-ltb j (i + 1) (above i j differ h) ∙ sym high))
    (cases_Bool (nat_lt j i))
  where
    above : (i j : ℕ) → i ≢ j → i < suc j → i + 1 ≤ j
    above i j differ h = ⊎_elim (λ (low : nat_lt i j ≡ true). let l = leb-true (suc i) j low in omega (arith, l))
        (λ (high : nat_lt i j ≡ false). let g = leb-false (suc i) j high in absurd (differ (omega (arith, g, h)))) (cases_Bool (nat_lt i j))

next_turn : (seed : List ℕ) (n : ℕ) (more : Bool) (old new : RunnerView) (made : PlacedCalls) → StepMakes seed more old new made
    → new.section ≡ old.section → old.next ≡ min n (length old.section.commands) → new.next ≡ min (n + 1) (length new.section.commands)
next_turn seed n false old new made so section at =
    let past = past_end old.section.commands old.next so.2 in
    let long = ap (λ (s : Section). length s.commands) section in
    let same = ap (λ (r : RunnerView). r.next) so.1 in
    omega (arith, past, long, same, at)
  where
    past_end : (commands : List Command) (k : ℕ) → slice_get commands k ≡ None → length commands ≤ k
    past_end commands k none = ⊎_elim
        (λ there. let wrong = sym there.2 ∙ none in absurd (cc wrong)) (λ past. past.0) (slice_get_cases commands k).1
next_turn seed n true old new made so section at =
    let within = slice_get_within old.section.commands old.next so.0 so.1 in
    let long = ap (λ (s : Section). length s.commands) section in
    let up = so.2 in
    omega (arith, within, long, up, at)

-- ---- the calls of one caller after those of all

none_by : (caller other : ℕ) (made : PlacedCalls) → by caller made ≡ made → other ≢ caller → by other made ≡ []
none_by caller other made own differ = ap (by other) (sym own) ∙ by-by_other other caller made differ

pub own_behind : (i : ℕ) (told made : PlacedCalls) → by i made ≡ made → by i (told ++ made) ≡ by i told ++ made
own_behind i told made own = by-append i told made ∙ ap (λ (l : PlacedCalls). by i told ++ l) own

pub other_behind : (i j : ℕ) (told made : PlacedCalls) → by i made ≡ made → j ≢ i → by j (told ++ made) ≡ by j told
other_behind i j told made own differ =
    by-append j told made ∙ ap (λ (l : PlacedCalls). by j told ++ l) (none_by i j made own differ)
    ∙ append-nil (by j told)

-- another caller's part is as before
unmoved : (seed : List ℕ) (script : List Section) (told made : PlacedCalls) (i turns j : ℕ) (runner : RunnerView)
    → by i made ≡ made → j ≢ i → InTurn seed script told turns j runner
    → InTurn seed script (told ++ made) turns j runner
unmoved seed script told made i turns j runner own differ before = record {
  caller = before.caller;
  section = before.section;
  asked = before.asked;
  next = before.next;
  run = subst (HasRun seed runner) (sym (other_behind i j told made own differ)) before.run;
}

moved : (seed : List ℕ) (script : List Section) (told made : PlacedCalls) (n i : ℕ) (old new : RunnerView)
    → by i made ≡ made → RunnerTurn seed old new made → InTurn seed script told n i old
    → InTurn seed script (told ++ made) (n + 1) i new
moved seed script told made n i old new own taken before = record {
  caller = taken.caller ∙ before.caller;
  section = before.section ∙ ap Some (sym taken.section);
  asked = subst AsksRightly (sym taken.section) before.asked;
  next = next_turn seed n taken.more old new made taken.step taken.section before.next;
  run = subst (HasRun seed new) (sym (own_behind i told made own)) (taken.run (by i told) before.run);
}

-- the runners after one more turn
pub rotates_on : (seed : List ℕ) (script : List Section) (whole : Steps (List Waiting))
    (last : List Waiting → Steps (List Waiting)) (n i : ℕ) (runners : List RunnerView) (old new : RunnerView)
    (told made : PlacedCalls) → slice_get runners i ≡ Some old
    → Rotates seed script whole
    (round_steps seed n i (map state_of (take i runners)) (map state_of (drop i runners)) last)
    (turns_in n i) runners told
    → RunnerTurn seed old new made
    → Rotates seed script whole
    (round_steps seed n (i + 1) (map state_of (take (i + 1) (set runners i new)))
    (map state_of (drop (i + 1) (set runners i new))) last)
    (turns_in n (i + 1)) (set runners i new) (told ++ made)
rotates_on seed script whole last n i runners old new told made here before taken =
    let within = slice_get_within runners i old here in
    let mine : InTurn seed script told n i old =
    subst (λ t. InTurn seed script told t i old) (turns_before n i) (before.each i old here) in
    let own : by i made ≡ made = subst (λ c. by c made ≡ made) mine.caller taken.own in
    let next : suc i ≡ i + 1 = omega arith in
    let front : map state_of (take (i + 1) (set runners i new)) ≡ map state_of (take i runners) ++ state_of new ∷ [] =
    ap (λ k. map state_of (take k (set runners i new))) (sym next)
    ∙ ap (map state_of) (take-suc-set runners i new within)
    ∙ map-append state_of (take i runners) (new ∷ []) in
    let behind : map state_of (drop (i + 1) (set runners i new)) ≡ map state_of (drop (suc i) runners) =
    ap (λ k. map state_of (drop k (set runners i new))) (sym next)
    ∙ ap (map state_of) (drop-set-lt (suc i) runners i new (omega arith)) in
    let first : drop i runners ≡ old ∷ drop (suc i) runners =
    drop-cons runners i old within
    ∙ ap (λ r. r ∷ drop (suc i) runners) (get_or_from_slice_get runners i old old here) in
    let step : Reaches (round_steps seed n i (map state_of (take i runners)) (map state_of (drop i runners)) last)
    (entries_of made)
    (round_steps seed n (i + 1) (map state_of (take i runners) ++ state_of new ∷ [])
    (map state_of (drop (suc i) runners)) last) =
    subst (λ (rs : List RunnerView).
    Reaches (round_steps seed n i (map state_of (take i runners)) (map state_of rs) last) (entries_of made)
    (round_steps seed n (i + 1) (map state_of (take i runners) ++ state_of new ∷ [])
    (map state_of (drop (suc i) runners)) last)) (sym first)
    (turn_made seed n i taken.more old new made
    (λ come. round_steps seed n (i + 1) (map state_of (take i runners) ++ come ∷ [])
    (map state_of (drop (suc i) runners)) last)
    mine.caller mine.next taken.section taken.grown taken.step) in
    record {
      count = length-set runners i new ∙ before.count;
      each = each_set (λ j runner. InTurn seed script (told ++ made) (turns_in n (i + 1) j) j runner)
          runners i new within
          (subst (λ t. InTurn seed script (told ++ made) t i new) (sym (turns_own n i))
          (moved seed script told made n i old new own taken mine))
          (λ j runner differ there.
          unmoved seed script told made i (turns_in n (i + 1) j) j runner own (λ e. differ (sym e))
          (subst (λ t. InTurn seed script told t j runner) (sym (turns_other n i j differ))
          (before.each j runner there)));
      others = past_set (λ j. by j (told ++ made) ≡ []) runners i new within
          (λ j apart none. other_behind i j told made own apart ∙ before.others j none);
      order = subst (λ (es : History). Reaches whole es
          (round_steps seed n (i + 1) (map state_of (take (i + 1) (set runners i new)))
          (map state_of (drop (i + 1) (set runners i new))) last))
          (sym (entries_of-append told made))
          (Reaches-on whole
          (round_steps seed n i (map state_of (take i runners)) (map state_of (drop i runners)) last)
          (round_steps seed n (i + 1) (map state_of (take (i + 1) (set runners i new)))
          (map state_of (drop (i + 1) (set runners i new))) last)
          (entries_of told) (entries_of made) before.order
          (subst (λ (a : List Waiting).
          Reaches (round_steps seed n i (map state_of (take i runners)) (map state_of (drop i runners)) last)
          (entries_of made)
          (round_steps seed n (i + 1) a (map state_of (drop (i + 1) (set runners i new))) last)) (sym front)
          (subst (λ (a : List Waiting).
          Reaches (round_steps seed n i (map state_of (take i runners)) (map state_of (drop i runners)) last)
          (entries_of made)
          (round_steps seed n (i + 1) (map state_of (take i runners) ++ state_of new ∷ []) a last)) (sym behind)
          step)));
    }
