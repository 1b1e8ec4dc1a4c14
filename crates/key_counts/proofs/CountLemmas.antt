-- Counts as they are stored, when a key is counted once more or once less.
use Rattle.std.proofs.Common.{◌≡◌, ℕ, ◌+◌, ◌-◌, ◌<◌, true, cond, eqb, Some, None, unwrap_or, sym, refl, ap, ◌∙◌, ⊎_elim, arith}
use Rattle.std.specs.declared.cmp.Ordering.{Ordering}
use Rattle.std.specs.Ordering.{eq_by_cmp}
use Rattle.std.specs.Cmp.{IsTotalOrder, tied_itself, Equal-is}
use Rattle.std.specs.Ordering.{is_eq}
use Rattle.std.specs.FinMap.{IsAntisymmetric}
use Rattle.std.specs.BTreeMap.{BTreeMap, get, Updates}
use Rattle.std.proofs.lemmas.Bool.{cases_Bool, cond-true, cond-false, eqb-true}
use Rattle.key_counts.specs.CountForms.{count_or_none}

pub tied : {K : Type 0} {R : K → K → Ordering} → IsAntisymmetric R → (q k : K) → eq_by_cmp R q k ≡ true → q ≡ k
tied {R = R} same q k e = same q k ((Equal-is (R q k)).0 e)

pub unwrap_or-counted : (n : ℕ) → unwrap_or (count_or_none n) 0 ≡ n
unwrap_or-counted n = ⊎_elim
    (λ none. ap (λ b. unwrap_or (cond b None (Some n)) 0) none ∙ sym (eqb-true n 0 none))
    (λ some. ap (λ b. unwrap_or (cond b None (Some n)) 0) some)
    (cases_Bool (eqb n 0))

counted-more : (n : ℕ) → count_or_none (n + 1) ≡ Some (n + 1)
counted-more n = ⊎_elim
    (λ none. let zero : n + 1 ≡ 0 = eqb-true (n + 1) 0 none in absurd (omega arith))
    (λ some. cond-false (eqb (n + 1) 0) None (Some (n + 1)) some)
    (cases_Bool (eqb (n + 1) 0))

module _ {K : Type 0} {R : K → K → Ordering} (total : IsTotalOrder R) (same : IsAntisymmetric R) (f g : K → ℕ) (m n : BTreeMap K ℕ) (k : K) (kept : (q : K) → get R m q ≡ count_or_none (f q)) where
  -- the count that is read
  pub read : unwrap_or (get R m k) 0 ≡ f k
  read = ap (λ o. unwrap_or o 0) (kept k) ∙ unwrap_or-counted (f k)

  pub raised : ((q : K) → g q ≡ f q + cond (eq_by_cmp R k q) 1 0) → Updates R m n k (Some (unwrap_or (get R m k) 0 + 1)) → (q : K) → get R n q ≡ count_or_none (g q)
  raised more updates q = updates.0 q ∙ ⊎_elim
      (λ here. let one : cond {A = ℕ} (eq_by_cmp R k q) 1 0 ≡ 1 = cond-true (eq_by_cmp R k q) 1 0 here in
      let count : g q ≡ f k + 1 = more q ∙ (ap (λ c. f q + c) one ∙ ap (λ x. f x + 1) (sym (tied same k q here))) in
      cond-true (eq_by_cmp R k q) _ _ here ∙ (ap (λ c. Some (c + 1)) read ∙ (sym (counted-more (f k)) ∙ ap count_or_none (sym count))))
      (λ apart. let none : cond {A = ℕ} (eq_by_cmp R k q) 1 0 ≡ 0 = cond-false (eq_by_cmp R k q) 1 0 apart in
      let more_q = more q in let count : f q ≡ g q = omega arith in
      cond-false (eq_by_cmp R k q) _ _ apart ∙ (kept q ∙ ap count_or_none count))
      (cases_Bool (eq_by_cmp R k q))

  pub lowered : ((q : K) → g q + cond (eq_by_cmp R k q) 1 0 ≡ f q) → ((q : K) → get R n q ≡ cond (eq_by_cmp R k q) (count_or_none (unwrap_or (get R m k) 0 - 1)) (get R m q)) → (q : K) → get R n q ≡ count_or_none (g q)
  lowered less updates q = updates q ∙ ⊎_elim
      (λ here. let one : cond {A = ℕ} (eq_by_cmp R k q) 1 0 ≡ 1 = cond-true (eq_by_cmp R k q) 1 0 here in
      let whole : g q + 1 ≡ f k = ap (λ c. g q + c) (sym one) ∙ (less q ∙ ap f (sym (tied same k q here))) in
      let read_k : unwrap_or (get R m k) 0 ≡ f k = read in
      let count : unwrap_or (get R m k) 0 - 1 ≡ g q = omega arith in
      cond-true (eq_by_cmp R k q) _ _ here ∙ ap count_or_none count)
      (λ apart. let none : cond {A = ℕ} (eq_by_cmp R k q) 1 0 ≡ 0 = cond-false (eq_by_cmp R k q) 1 0 apart in
      let less_q = less q in let count : f q ≡ g q = omega arith in
      cond-false (eq_by_cmp R k q) _ _ apart ∙ (kept q ∙ ap count_or_none count))
      (cases_Bool (eq_by_cmp R k q))

-- counted once more and once less, all is as before
pub undone : {K : Type 0} {R : K → K → Ordering} → IsTotalOrder R → IsAntisymmetric R → (f : K → ℕ) (l m n : BTreeMap K ℕ) (k : K) → ((q : K) → get R l q ≡ count_or_none (f q))
    → Updates R l m k (Some (unwrap_or (get R l k) 0 + 1)) → ((q : K) → get R n q ≡ cond (eq_by_cmp R k q) (count_or_none (unwrap_or (get R m k) 0 - 1)) (get R m q)) → (q : K) → get R n q ≡ count_or_none (f q)
undone {R = R} total same f l m n k kept more less =
    lowered total same (λ q. f q + cond (eq_by_cmp R k q) 1 0) f m n k (raised total same f (λ q. f q + cond (eq_by_cmp R k q) 1 0) l m k kept (λ q. refl) more) (λ q. refl) less

-- what is counted once more is above 0
pub above : {K : Type 0} {R : K → K → Ordering} → IsTotalOrder R → (m n : BTreeMap K ℕ) (k : K) → Updates R m n k (Some (unwrap_or (get R m k) 0 + 1)) → 0 < unwrap_or (get R n k) 0
above {R = R} total m n k more =
    let is : get R n k ≡ Some (unwrap_or (get R m k) 0 + 1) = more.0 k ∙ cond-true (eq_by_cmp R k k) _ _ (ap is_eq (tied_itself total k)) in
    let count : unwrap_or (get R n k) 0 ≡ unwrap_or (get R m k) 0 + 1 = ap (λ o. unwrap_or o 0) is in omega arith
