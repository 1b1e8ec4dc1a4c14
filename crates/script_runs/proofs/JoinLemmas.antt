-- Callers of two halves that ran, whose passes are joined.
use Rattle.std.proofs.Common.{◌≡◌, ℕ, zero, suc, ◌+◌, ◌-◌, ◌<◌, ◌≤◌, true, false, leb, List, [], ◌∷◌, ◌++◌, length, None, refl, sym, ap, ap₂, ◌∙◌, subst, ⊎_elim, arith, append-nil, zero-add}
use Rattle.std.specs.Prelude.{slice_get}
use Rattle.std.proofs.lemmas.Bool.{cases_Bool, leb-true, leb-false}
use Rattle.std.proofs.lemmas.Option.{slice_get_past}
use Rattle.turn_lock.specs.Passes.{SharedView}
use Rattle.turn_lock.specs.PassParts.{with_other}
use Rattle.call_history.specs.Entries.{by}
use Rattle.call_history.proofs.Placing.{by-append}
use Rattle.reply_text.specs.Logged.{PlacedLogged, logged_calls}
use Rattle.reply_text.specs.declared.notes.Note.{Note}
use Rattle.mount_model.specs.Port.{PlacedCalls}
use Rattle.mount_shared.specs.SharedCalls.{MountPass}
use Rattle.script_lang.specs.declared.commands.Section.{Section}
use Rattle.fsc_session.specs.ScriptRun.{IsRunOfCaller, notes_by}
use Rattle.fsc_session.proofs.NoteLemmas.{notes_by-alike, notes_by-append}
use Rattle.script_runs.specs.Passes.{AreHalves, IsAsBefore, RunFrom, Shows, calls_of}

-- ---- numbers below and above

pub below_or_above : (c n : ℕ) (P : Type 0) → (c < n → P) → (n ≤ c → P) → P
below_or_above c n P low high = ⊎_elim
    (λ (is : leb (suc c) n ≡ true). let below = leb-true (suc c) n is in low (omega (arith, below)))
    (λ (is : leb (suc c) n ≡ false). let above = leb-false (suc c) n is in high (omega (arith, above)))
    (cases_Bool (leb (suc c) n))

get_first : (xs ys : List Section) (i : ℕ) → i < length xs → slice_get (xs ++ ys) i ≡ slice_get xs i
get_first [] ys i below = absurd (omega (arith, below))
get_first (x ∷ xs) ys zero below = refl
get_first (x ∷ xs) ys (suc i) below = get_first xs ys i (omega (arith, below))

get_others : (xs ys : List Section) (i : ℕ) → slice_get (xs ++ ys) (length xs + i) ≡ slice_get ys i
get_others [] ys i = ap (slice_get ys) (zero-add i)
get_others (x ∷ xs) ys i =
    let next : suc (length xs) + i ≡ suc (length xs + i) = omega arith in
    ap (slice_get (x ∷ (xs ++ ys))) next ∙ get_others xs ys i

-- ---- calls of a caller of one half, of which the other has none

none_first : (xs ys : PlacedCalls) → xs ++ ys ≡ [] → xs ≡ []
none_first [] ys none = refl
none_first (x ∷ xs) ys none = let long = ap length none in absurd (omega (arith, long))

none_second : (xs ys : PlacedCalls) → xs ++ ys ≡ [] → ys ≡ []
none_second [] ys none = none
none_second (x ∷ xs) ys none = let long = ap length none in absurd (omega (arith, long))

pub behind_low : (c : ℕ) (xs ys : PlacedCalls) → by c ys ≡ [] → by c xs ≡ by c (xs ++ ys)
behind_low c xs ys none =
    sym (by-append c xs ys ∙ ap (λ (l : PlacedCalls). by c xs ++ l) none ∙ append-nil (by c xs))

pub behind_high : (c : ℕ) (xs ys : PlacedCalls) → by c xs ≡ [] → by c ys ≡ by c (xs ++ ys)
behind_high c xs ys none = sym (by-append c xs ys ∙ ap (λ (l : PlacedCalls). l ++ by c ys) none)

pub joined_low : (c : ℕ) (low up : MountPass) → by c (calls_of up) ≡ []
    → by c (calls_of low) ≡ by c (calls_of (with_other low up))
joined_low c low up none =
    by-append c low.past low.mine
    ∙ ap (λ (l : PlacedCalls). l ++ by c low.mine) (behind_low c low.past (calls_of up) none)
    ∙ sym (by-append c (low.past ++ calls_of up) low.mine)

pub joined_high : (c : ℕ) (low up : MountPass) → by c (calls_of low) ≡ []
    → by c (calls_of up) ≡ by c (calls_of (with_other low up))
joined_high c low up none =
    let parts : by c low.past ++ by c low.mine ≡ [] = sym (by-append c low.past low.mine) ∙ none in
    behind_high c low.past (calls_of up) (none_first (by c low.past) (by c low.mine) parts)
    ∙ sym (append-nil (by c (low.past ++ calls_of up)))
    ∙ ap (λ (l : PlacedCalls). by c (low.past ++ calls_of up) ++ l)
    (sym (none_second (by c low.past) (by c low.mine) parts))
    ∙ sym (by-append c (low.past ++ calls_of up) low.mine)

-- ---- the passes

pub border_of : (most : ℕ) (shared : SharedView) (old lower upper : MountPass) (first others : List Section)
    → AreHalves most shared old lower upper first others → upper.who ≡ old.who + length first
border_of most shared old lower upper first others cut =
    let numbers = cut.lower_runs.numbers in
    let next = cut.next in
    let lowest = cut.lowest in omega (arith, numbers, next, lowest)

pub as_before_both : (most : ℕ) (shared : SharedView) (old lower upper lower' upper' : MountPass)
    (first others : List Section) → AreHalves most shared old lower upper first others → IsAsBefore lower lower'
    → IsAsBefore upper upper' → IsAsBefore old (with_other lower' upper')
as_before_both most shared old lower upper lower' upper' first others cut one two = record {
  same_table = one.same_table ∙ cut.one_table;
  same_caller = one.same_caller ∙ cut.lowest;
  same_high = two.same_high ∙ cut.highest;
}

-- the shown entries of the calls of both halves
pub shows_both : (border : ℕ) (told more : PlacedLogged) (low up : MountPass) → Shows told (calls_of low)
    → Shows more (calls_of up) → ((c : ℕ) → c < border → by c (calls_of up) ≡ [])
    → ((c : ℕ) → border ≤ c → by c (calls_of low) ≡ []) → Shows (told ++ more) (calls_of (with_other low up))
shows_both border told more low up one two none_up none_low c =
    below_or_above c border (by c (told ++ more) ≡ logged_calls (by c (calls_of (with_other low up))))
    (λ below. by-append c told more
    ∙ ap₂ (λ (a b : PlacedLogged). a ++ b) (one c) (two c ∙ ap logged_calls (none_up c below))
    ∙ append-nil (logged_calls (by c (calls_of low)))
    ∙ ap logged_calls (joined_low c low up (none_up c below)))
    (λ above. by-append c told more
    ∙ ap₂ (λ (a b : PlacedLogged). a ++ b) (one c ∙ ap logged_calls (none_low c above)) (two c)
    ∙ ap logged_calls (joined_high c low up (none_low c above)))

-- ---- the calls of both halves

-- callers from the next number on made none of the first half's
pub none_above : (seed : List ℕ) (who border : ℕ) (first : List Section) (one : PlacedCalls)
    → border ≡ who + length first → RunFrom seed who first one → (c : ℕ) → border ≤ c → by c one ≡ []
none_above seed who border first one next ran c above =
    let i : ℕ = c - who in
    let is : who + i ≡ c = omega (arith, next, above) in
    let past : slice_get first i ≡ None = slice_get_past first i (omega (arith, next, above)) in
    subst (λ (n : ℕ). by n one ≡ []) is
    (subst (λ s. IsRunOfCaller seed (who + i) s (by (who + i) one)) past (ran.each i))

-- if each caller of a half has its calls among all, all are a run of both
module _ (seed : List ℕ) (who border : ℕ) (first others : List Section) (one two all : PlacedCalls)
    (next : border ≡ who + length first) (ran_one : RunFrom seed who first one) (ran_two : RunFrom seed border others two)
    (low : (c : ℕ) → by c two ≡ [] → by c one ≡ by c all) (high : (c : ℕ) → by c one ≡ [] → by c two ≡ by c all) where
  each_low : (i : ℕ) → i < length first → IsRunOfCaller seed (who + i) (slice_get (first ++ others) i) (by (who + i) all)
  each_low i below =
      subst (λ s. IsRunOfCaller seed (who + i) s (by (who + i) all)) (sym (get_first first others i below))
      (subst (IsRunOfCaller seed (who + i) (slice_get first i))
      (low (who + i) (ran_two.none (who + i) (omega (arith, next, below)))) (ran_one.each i))

  each_high : (j : ℕ) → IsRunOfCaller seed (who + (length first + j)) (slice_get (first ++ others) (length first + j))
      (by (who + (length first + j)) all)
  each_high j =
      let c : ℕ = who + (length first + j) in
      let is : border + j ≡ c = omega (arith, next) in
      subst (λ s. IsRunOfCaller seed c s (by c all)) (sym (get_others first others j))
      (subst (IsRunOfCaller seed c (slice_get others j))
      (high c (none_above seed who border first one next ran_one c (omega (arith, next))))
      (subst (λ (w : ℕ). IsRunOfCaller seed w (slice_get others j) (by w two)) is (ran_two.each j)))

  pub run_both : RunFrom seed who (first ++ others) all
  run_both = record {
    each = λ i. below_or_above i (length first)
        (IsRunOfCaller seed (who + i) (slice_get (first ++ others) i) (by (who + i) all))
        (λ below. each_low i below)
        (λ above. let is : length first + (i - length first) ≡ i = omega (arith, above) in
        subst (λ (n : ℕ). IsRunOfCaller seed (who + n) (slice_get (first ++ others) n) (by (who + n) all)) is
        (each_high (i - length first)));
    none = λ c below. sym (low c (ran_two.none c (omega (arith, next, below)))) ∙ ran_one.none c below;
  }

  pub noted_both : (notes more : List Note) → notes ≡ notes_by seed who first one → more ≡ notes_by seed border others two
      → notes ++ more ≡ notes_by seed who (first ++ others) all
  noted_both notes more are_one are_two =
      ap₂ (λ (a b : List Note). a ++ b)
      (are_one ∙ notes_by-alike seed who first one all (λ i below.
      low (who + i) (ran_two.none (who + i) (omega (arith, next, below)))))
      (are_two ∙ notes_by-alike seed border others two all (λ i below.
      high (border + i) (none_above seed who border first one next ran_one (border + i) (omega arith)))
      ∙ ap (λ (w : ℕ). notes_by seed w others all) next)
      ∙ sym (notes_by-append seed who first others all)
