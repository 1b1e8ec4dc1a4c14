-- Elements of filtered and ordered lists, and the entries of a map of numbers.
use Rattle.std.proofs.Common.{◌≡◌, ◌≢◌, ℕ, ◌+◌, arith, length, ◌++◌, Bool, true, false, T, List, [], ◌∷◌, map, nat_eq, Some, refl, sym, ap, ◌∙◌, subst, inl, inr, ◌⊎◌}
use Rattle.std.specs.Prelude.{filter}
use Rattle.std.specs.List.{IsDistinct, flat_map}
use Rattle.std.specs.Ordering.{nat_cmp, eq_by_cmp, is_lt, is_gt}
use Rattle.std.specs.FinMap.{get-entries, entries_sorted}
use Rattle.std.specs.FinMap.Entries.{find, is_sorted, below_all}
use Rattle.std.proofs.lemmas.Bool.{and_parts, ne_eqb, eq-eqb}
use Rattle.std.proofs.lemmas.Cmp.{nat_cmp_total, tied_itself}
use Rattle.std.proofs.lemmas.Option.{same_Some}
use Rattle.number_map.specs.Numbered.{NumberedValues, get, entries}
use Rattle.number_map.proofs.NumberTests.{tied, untied, same_of_tied}
use Rattle.disk_tree.specs.Entries.{Entries}
use Rattle.tree_image.specs.Order.{entry_cmp, put_in_order, in_order}
use Rattle.tree_listing.proofs.Members.{In, holds_in, all_from_in, in_map, in_from_map, in_either, in_from_flat}

pub from_T : (b : Bool) → T b → b ≡ true
from_T true t = refl
from_T false t = absurd t

-- ---- filtered

pub in_filter : {A : Type 0} (p : A → Bool) (xs : List A) (x : A) → In x xs → p x ≡ true → In x (filter p xs)
in_filter p [] x h passes = absurd h
in_filter p (y ∷ ys) x (inl is) passes =
    let e : p y ≡ true = ap p is ∙ passes in
    rw e (inl is)
in_filter p (y ∷ ys) x (inr h) passes = by_test (p y) refl (in_filter p ys x h passes)
  where
    by_test : (b : Bool) → p y ≡ b → In x (filter p ys) → In x (filter p (y ∷ ys))
    by_test true e later = rw e (inr later)
    by_test false e later = rw e later

pub in_from_filter : {A : Type 0} (p : A → Bool) (xs : List A) (x : A) → In x (filter p xs) → In x xs × (p x ≡ true)
in_from_filter p [] x h = absurd h
in_from_filter p (y ∷ ys) x h = by_test (p y) refl h (λ later. in_from_filter p ys x later)
  where
    by_test : (b : Bool) → p y ≡ b → In x (filter p (y ∷ ys)) → (In x (filter p ys) → In x ys × (p x ≡ true)) → In x (y ∷ ys) × (p x ≡ true)
    by_test true e there later =
        let own : (y ≡ x) ⊎ In x (filter p ys) = rw e at there in
        elim own [
          | inl is ↦ (inl is, subst (λ z. p z ≡ true) is e)
          | inr behind ↦ (let found = later behind in (inr found.0, found.1))
        ]
    by_test false e there later = let found = later (rw e at there) in (inr found.0, found.1)

-- ---- put in order

put_there : (x e : List ℕ × ℕ) (es : Entries) → (e ≡ x) ⊎ In x es → In x (put_in_order e es)
put_there x e [] h = h
put_there x e (y ∷ es) h = by_test (is_gt (entry_cmp e y)) refl h (λ later. put_there x e es later)
  where
    by_test : (b : Bool) → is_gt (entry_cmp e y) ≡ b → (e ≡ x) ⊎ In x (y ∷ es) → ((e ≡ x) ⊎ In x es → In x (put_in_order e es)) → In x (put_in_order e (y ∷ es))
    by_test true t (inl is) later = rw t (inr (later (inl is)))
    by_test true t (inr (inl is)) later = rw t (inl is)
    by_test true t (inr (inr h)) later = rw t (inr (later (inr h)))
    by_test false t there later = rw t there

pub there_from_put : (x e : List ℕ × ℕ) (es : Entries) → In x (put_in_order e es) → (e ≡ x) ⊎ In x es
there_from_put x e [] h = h
there_from_put x e (y ∷ es) h = by_test (is_gt (entry_cmp e y)) refl h (λ later. there_from_put x e es later)
  where
    by_test : (b : Bool) → is_gt (entry_cmp e y) ≡ b → In x (put_in_order e (y ∷ es)) → (In x (put_in_order e es) → (e ≡ x) ⊎ In x es) → (e ≡ x) ⊎ In x (y ∷ es)
    by_test true t there later =
        let own : (y ≡ x) ⊎ In x (put_in_order e es) = rw t at there in
        elim own [
          | inl is ↦ inr (inl is)
          | inr behind ↦ elim (later behind) [ inl is ↦ inl is | inr h ↦ inr (inr h) ]
        ]
    by_test false t there later = rw t at there

pub in_ordered : (x : List ℕ × ℕ) (es : Entries) → In x es → In x (in_order es)
in_ordered x [] h = absurd h
in_ordered x (e ∷ es) (inl is) = put_there x e (in_order es) (inl is)
in_ordered x (e ∷ es) (inr h) = put_there x e (in_order es) (inr (in_ordered x es h))

pub in_from_ordered : (x : List ℕ × ℕ) (es : Entries) → In x (in_order es) → In x es
in_from_ordered x [] h = absurd h
in_from_ordered x (e ∷ es) h = elim (there_from_put x e (in_order es) h) [
  | inl is ↦ inl is
  | inr behind ↦ inr (in_from_ordered x es behind)
]

put_long : (e : List ℕ × ℕ) (es : Entries) → length (put_in_order e es) ≡ length es + 1
put_long e [] = refl
put_long e (y ∷ es) = by_test (is_gt (entry_cmp e y)) refl (put_long e es)
  where
    by_test : (b : Bool) → is_gt (entry_cmp e y) ≡ b → length (put_in_order e es) ≡ length es + 1 → length (put_in_order e (y ∷ es)) ≡ length (y ∷ es) + 1
    by_test true t later = rw t (omega (arith, later))
    by_test false t later = rw t (omega arith)

-- there are as many
pub ordered_long : (es : Entries) → length (in_order es) ≡ length es
ordered_long [] = refl
ordered_long (e ∷ es) =
    let put = put_long e (in_order es) in
    let rest = ordered_long es in
    omega (arith, put, rest)

-- ---- numbers that are apart

apart_cons : (n : ℕ) (ns : List ℕ) → ((k : ℕ) → In k ns → n ≢ k) → IsDistinct nat_eq ns → IsDistinct nat_eq (n ∷ ns)
unfolding IsDistinct
apart_cons n ns other apart = (all_from_in (λ k. nat_eq n k ≡ false) ns (λ k there. ne_eqb n k (other k there)), apart)

pub apart_head : (n : ℕ) (ns : List ℕ) → IsDistinct nat_eq (n ∷ ns) → (k : ℕ) → In k ns → nat_eq n k ≡ false
unfolding IsDistinct
apart_head n ns apart k there = holds_in (λ j. nat_eq n j ≡ false) ns k apart.0 there

apart_tail : (n : ℕ) (ns : List ℕ) → IsDistinct nat_eq (n ∷ ns) → IsDistinct nat_eq ns
unfolding IsDistinct
apart_tail n ns apart = apart.1

none_apart : IsDistinct nat_eq (let none : List ℕ = [] in none)
unfolding IsDistinct
none_apart = tt

apart_both : (xs ys : List ℕ) → IsDistinct nat_eq xs → IsDistinct nat_eq ys → ((k : ℕ) → In k xs → In k ys → ⊥) → IsDistinct nat_eq (xs ++ ys)
apart_both [] ys front back other = back
apart_both (x ∷ xs) ys front back other =
    apart_cons x (xs ++ ys)
    (λ k there same. elim (in_either k xs ys there) [
      | inl before ↦ absurd (cc (apart_head x xs front k before, same, itself k))
      | inr behind ↦ other x (inl refl) (subst (λ n. In n ys) (sym same) behind)
    ])
    (apart_both xs ys (apart_tail x xs front) back (λ k before behind. other k (inr before) behind))
  where
    itself : (k : ℕ) → nat_eq k k ≡ true
    itself k = eq-eqb k k refl

-- the numbers that each of some nodes has, if the nodes have distinct numbers
pub apart_joined : {A : Type 0} (number : A → ℕ) (f : A → List ℕ) (xs : List A) → IsDistinct nat_eq (map number xs)
    → ((x : A) → In x xs → IsDistinct nat_eq (f x))
    → ((x y : A) (k : ℕ) → In x xs → In y xs → In k (f x) → In k (f y) → number x ≡ number y)
    → IsDistinct nat_eq (flat_map f xs)
apart_joined number f [] numbers each once = none_apart
apart_joined number f (x ∷ xs) numbers each once =
    apart_both (f x) (flat_map f xs) (each x (inl refl))
    (apart_joined number f xs (apart_tail (number x) (map number xs) numbers) (λ y there. each y (inr there)) (λ y z k ty tz. once y z k (inr ty) (inr tz)))
    (λ k front back.
    let own = in_from_flat f k xs back in
    let same = once x own.0 k (inl refl) (inr own.1) front own.2 in
    let other = apart_head (number x) (map number xs) numbers (number own.0) (in_map number own.0 xs own.1) in
    absurd (cc (other, same, itself (number x))))
  where
    itself : (k : ℕ) → nat_eq k k ≡ true
    itself k = eq-eqb k k refl

abbrev led_to : Entries → List ℕ
led_to es = map (λ e. e.1) es

put_apart : (e : List ℕ × ℕ) (es : Entries) → ((k : ℕ) → In k (led_to es) → e.1 ≢ k) → IsDistinct nat_eq (led_to es) → IsDistinct nat_eq (led_to (put_in_order e es))
put_apart e [] other apart = apart_cons e.1 [] other apart
put_apart e (y ∷ es) other apart =
    by_test (is_gt (entry_cmp e y)) refl (put_apart e es (λ k there. other k (inr there)) (apart_tail y.1 (led_to es) apart))
  where
    itself : (k : ℕ) → nat_eq k k ≡ true
    itself k = eq-eqb k k refl

    by_test : (b : Bool) → is_gt (entry_cmp e y) ≡ b → IsDistinct nat_eq (led_to (put_in_order e es)) → IsDistinct nat_eq (led_to (put_in_order e (y ∷ es)))
    by_test true t later =
        rw t (
        apart_cons y.1 (led_to (put_in_order e es))
        (λ k there same.
        let from = in_from_map (λ (x : List ℕ × ℕ). x.1) k (put_in_order e es) there in
        elim (there_from_put from.0 e es from.1) [
          | inl is ↦ other y.1 (inl refl) (ap (λ (x : List ℕ × ℕ). x.1) is ∙ from.2 ∙ sym same)
          | inr behind ↦ absurd (cc (apart_head y.1 (led_to es) apart k (subst (λ n. In n (led_to es)) from.2 (in_map (λ (x : List ℕ × ℕ). x.1) from.0 es behind)), same, itself k))
        ])
        later
        )
    by_test false t later = rw t (apart_cons e.1 (led_to (y ∷ es)) other apart)

-- those of a list that is put in order
pub apart_ordered : (es : Entries) → IsDistinct nat_eq (map (λ e. e.1) es) → IsDistinct nat_eq (map (λ e. e.1) (in_order es))
apart_ordered [] apart = apart
apart_ordered (e ∷ es) apart =
    put_apart e (in_order es)
    (λ k there same.
    let from = in_from_map (λ (x : List ℕ × ℕ). x.1) k (in_order es) there in
    let own = in_from_ordered from.0 es from.1 in
    absurd (cc (apart_head e.1 (map (λ x. x.1) es) apart k (subst (λ n. In n (map (λ (x : List ℕ × ℕ). x.1) es)) from.2 (in_map (λ (x : List ℕ × ℕ). x.1) from.0 es own)), same, itself k)))
    (apart_ordered es (apart_tail e.1 (map (λ x. x.1) es) apart))
  where
    itself : (k : ℕ) → nat_eq k k ≡ true
    itself k = eq-eqb k k refl

-- ---- the entries of a map

not_below : {A : Type 0} (n : ℕ) (es : List (ℕ × A)) (q : ℕ) (v : A) → below_all nat_cmp n es ≡ true → In (let e : ℕ × A = (q, v) in e) es → n ≢ q
not_below n [] q v below there same = absurd there
not_below {A = A} n (e ∷ es) q v below (inl is) same =
    let parts = and_parts (is_lt (nat_cmp n e.0)) (below_all nat_cmp n es) below in
    let tie : is_lt (nat_cmp n n) ≡ true = ap (λ k. is_lt (nat_cmp n k)) (same ∙ sym (ap (λ (x : ℕ × A). x.0) is)) ∙ parts.0 in
    absurd (cc (tie, ap is_lt (tied_itself nat_cmp_total n)))
not_below n (e ∷ es) q v below (inr h) same = not_below n es q v (and_parts (is_lt (nat_cmp n e.0)) (below_all nat_cmp n es) below).1 h same

found_from_in : {A : Type 0} (es : List (ℕ × A)) (q : ℕ) (v : A) → is_sorted nat_cmp es ≡ true → In (let e : ℕ × A = (q, v) in e) es → find nat_cmp q es ≡ Some v
found_from_in [] q v sorted there = absurd there
found_from_in {A = A} (e ∷ es) q v sorted (inl is) =
    let t : eq_by_cmp nat_cmp q e.0 ≡ true = tied q e.0 (sym (ap (λ (x : ℕ × A). x.0) is)) in
    rw t (ap (λ (x : ℕ × A). Some x.1) is)
found_from_in (e ∷ es) q v sorted (inr h) =
    let parts = and_parts (below_all nat_cmp e.0 es) (is_sorted nat_cmp es) sorted in
    let t : eq_by_cmp nat_cmp q e.0 ≡ false = untied q e.0 (λ same. not_below e.0 es q v parts.0 h (sym same)) in
    rw t (found_from_in es q v parts.1 h)

in_from_found : {A : Type 0} (es : List (ℕ × A)) (q : ℕ) (v : A) → find nat_cmp q es ≡ Some v → In (let e : ℕ × A = (q, v) in e) es
in_from_found [] q v is = absurd (cc is)
in_from_found (e ∷ es) q v is = by_test (eq_by_cmp nat_cmp q e.0) refl (λ later. in_from_found es q v later)
  where
    by_test : (b : Bool) → eq_by_cmp nat_cmp q e.0 ≡ b → (find nat_cmp q es ≡ Some v → In (q, v) es) → In (q, v) (e ∷ es)
    by_test true t later =
        let same : q ≡ e.0 = same_of_tied q e.0 t in
        let value : e.1 ≡ v = same_Some e.1 v (rw t at is) in
        inl (λ i. (sym same i, value i))
    by_test false t later = inr (later (rw t at is))

pub get_from_entry : {A : Type 0} (m : NumberedValues A) (q : ℕ) (v : A) → In (let e : ℕ × A = (q, v) in e) (entries m) → get m q ≡ Some v
get_from_entry m q v there = get-entries m q ∙ found_from_in (entries m) q v (from_T (is_sorted nat_cmp (entries m)) (entries_sorted m)) there

pub entry_from_get : {A : Type 0} (m : NumberedValues A) (q : ℕ) (v : A) → get m q ≡ Some v → In (let e : ℕ × A = (q, v) in e) (entries m)
entry_from_get m q v is = in_from_found (entries m) q v (sym (get-entries m q) ∙ is)
