-- Elements of lists, and the first that passes a test.
use Rattle.std.proofs.Common.{◌≡◌, ℕ, ◌<◌, ◌==◌, Bool, true, false, List, [], ◌∷◌, ◌++◌, length, map, get_or, nat_eq, Some, refl, sym, ap, subst, arith, inl, inr, ◌⊎◌, suc, zero}
use Rattle.std.specs.Prelude.{Contains, slice_get}
use Rattle.std.specs.List.{AllByRecursion, IsDistinct, find, flat_map, list_any}
use Rattle.std.proofs.lemmas.Bool.{eq-eqb, eqb-true}
use Rattle.std.proofs.lemmas.List.Folds.{Any-from_list_any}
use Rattle.std.proofs.lemmas.Option.{same_Some}

-- whether x is one of the elements, element by element
abbrev pub In : {A : Type 0} → A → List A → Type 0
In x [] = ⊥
In x (y ∷ ys) = (y ≡ x) ⊎ In x ys

pub in_from_at : {A : Type 0} (xs : List A) (k : ℕ) (x : A) → k < length xs → get_or xs k x ≡ x → In x xs
in_from_at [] k x lt is = absurd (omega arith)
in_from_at (y ∷ ys) zero x lt is = inl is
in_from_at (y ∷ ys) (suc k) x lt is = inr (in_from_at ys k x (omega arith) is)

pub in_from_contains : {A : Type 0} (xs : List A) (x : A) → Contains xs x → In x xs
in_from_contains xs x h = in_from_at xs h.0 x h.1 h.2

pub in_from_get : {A : Type 0} (xs : List A) (k : ℕ) (x : A) → slice_get xs k ≡ Some x → In x xs
in_from_get [] k x is = absurd (cc is)
in_from_get (y ∷ ys) zero x is = inl (same_Some y x is)
in_from_get (y ∷ ys) (suc k) x is = inr (in_from_get ys k x is)

pub contains_from_in : {A : Type 0} (xs : List A) (x : A) → In x xs → Contains xs x
contains_from_in [] x h = absurd h
contains_from_in (y ∷ ys) x (inl is) = (0, (let e : 0 < length (y ∷ ys) = omega arith in e), is)
contains_from_in (y ∷ ys) x (inr h) =
    let k = contains_from_in ys x h in
    (suc k.0, (let e : suc k.0 < length (y ∷ ys) = omega (arith, k.1) in e), k.2)

-- the index of an element
pub get_from_in : {A : Type 0} (xs : List A) (x : A) → In x xs → (k : ℕ) × (slice_get xs k ≡ Some x)
get_from_in [] x h = absurd h
get_from_in (y ∷ ys) x (inl is) = (0, ap Some is)
get_from_in (y ∷ ys) x (inr h) = let k = get_from_in ys x h in (suc k.0, k.1)

pub holds_in : {A : Type 0} (P : A → Type 0) (xs : List A) (x : A) → AllByRecursion P xs → In x xs → P x
holds_in P [] x all h = absurd h
holds_in P (y ∷ ys) x all (inl is) = subst P is all.0
holds_in P (y ∷ ys) x all (inr h) = holds_in P ys x all.1 h

pub all_from_in : {A : Type 0} (P : A → Type 0) (xs : List A) → ((x : A) → In x xs → P x) → AllByRecursion P xs
all_from_in P [] h = tt
all_from_in P (x ∷ xs) h = (h x (inl refl), all_from_in P xs (λ y there. h y (inr there)))

-- ---- joined and mapped

pub in_front : {A : Type 0} (x : A) (xs ys : List A) → In x xs → In x (xs ++ ys)
in_front x [] ys h = absurd h
in_front x (y ∷ xs) ys (inl is) = inl is
in_front x (y ∷ xs) ys (inr h) = inr (in_front x xs ys h)

pub in_back : {A : Type 0} (x : A) (xs ys : List A) → In x ys → In x (xs ++ ys)
in_back x [] ys h = h
in_back x (y ∷ xs) ys h = inr (in_back x xs ys h)

pub in_either : {A : Type 0} (x : A) (xs ys : List A) → In x (xs ++ ys) → In x xs ⊎ In x ys
in_either x [] ys h = inr h
in_either x (y ∷ xs) ys (inl is) = inl (inl is)
in_either x (y ∷ xs) ys (inr h) = elim (in_either x xs ys h) [
  | inl front ↦ inl (inr front)
  | inr back ↦ inr back
]

pub in_map : {A B : Type 0} (f : A → B) (x : A) (xs : List A) → In x xs → In (f x) (map f xs)
in_map f x [] h = absurd h
in_map f x (y ∷ xs) (inl is) = inl (ap f is)
in_map f x (y ∷ xs) (inr h) = inr (in_map f x xs h)

pub in_from_map : {A B : Type 0} (f : A → B) (z : B) (xs : List A) → In z (map f xs) → (x : A) × In x xs × (f x ≡ z)
in_from_map f z [] h = absurd h
in_from_map f z (y ∷ xs) (inl is) = (y, inl refl, is)
in_from_map f z (y ∷ xs) (inr h) = let found = in_from_map f z xs h in (found.0, inr found.1, found.2)

pub in_flat : {A B : Type 0} (f : A → List B) (x : A) (z : B) (xs : List A) → In x xs → In z (f x) → In z (flat_map f xs)
in_flat f x z [] h there = absurd h
in_flat f x z (y ∷ xs) (inl is) there = in_front z (f y) (flat_map f xs) (subst (λ w. In z (f w)) (sym is) there)
in_flat f x z (y ∷ xs) (inr h) there = in_back z (f y) (flat_map f xs) (in_flat f x z xs h there)

pub in_from_flat : {A B : Type 0} (f : A → List B) (z : B) (xs : List A) → In z (flat_map f xs) → (x : A) × In x xs × In z (f x)
in_from_flat f z [] h = absurd h
in_from_flat f z (y ∷ xs) h = elim (in_either z (f y) (flat_map f xs) h) [
  | inl front ↦ (y, inl refl, front)
  | inr back ↦ (let found = in_from_flat f z xs back in (found.0, inr found.1, found.2))
]

-- ---- numbers

pub among_from_in : (xs : List ℕ) (n : ℕ) → In n xs → list_any (nat_eq n) xs ≡ true
among_from_in [] n h = absurd h
among_from_in (x ∷ xs) n (inl is) = let e : nat_eq n x ≡ true = eq-eqb n x (sym is) in rw e refl
among_from_in (x ∷ xs) n (inr h) = behind (nat_eq n x) refl (among_from_in xs n h)
  where
    behind : (b : Bool) → nat_eq n x ≡ b → list_any (nat_eq n) xs ≡ true → list_any (nat_eq n) (x ∷ xs) ≡ true
    behind true e later = rw e refl
    behind false e later = rw e later

pub in_from_among : (xs : List ℕ) (n : ℕ) → list_any (nat_eq n) xs ≡ true → In n xs
in_from_among xs n h =
    let found = Any-from_list_any (nat_eq n) xs h in
    in_from_at xs found.0 n found.2 (subst (λ z. get_or xs found.0 z ≡ z) (sym (eqb-true n found.1 found.4)) found.3)

-- ---- the first that passes

pub found_in : {A : Type 0} (p : A → Bool) (xs : List A) (x : A) → find p xs ≡ Some x → In x xs × (p x ≡ true)
found_in p [] x is = absurd (cc is)
found_in p (y ∷ ys) x is = by_test (p y) refl (λ later. found_in p ys x later)
  where
    by_test : (b : Bool) → p y ≡ b → (find p ys ≡ Some x → In x ys × (p x ≡ true)) → In x (y ∷ ys) × (p x ≡ true)
    by_test true e later = let same : y ≡ x = same_Some y x (rw e at is) in (inl same, subst (λ z. p z ≡ true) same e)
    by_test false e later = let found = later (rw e at is) in (inr found.0, found.1)

-- of elements with distinct numbers, the one with this number is found
pub find_own : {A : Type 0} (number : A → ℕ) (xs : List A) (x : A) → IsDistinct nat_eq (map number xs) → In x xs → find (λ y. number y == number x) xs ≡ Some x
unfolding IsDistinct
find_own number [] x apart h = absurd h
find_own number (y ∷ ys) x apart (inl is) = let e : (number y == number x) ≡ true = eq-eqb (number y) (number x) (ap number is) in rw e (ap Some is)
find_own number (y ∷ ys) x apart (inr h) =
    let e : (number y == number x) ≡ false = holds_in (λ n. nat_eq (number y) n ≡ false) (map number ys) (number x) apart.0 (in_map number x ys h) in
    rw e (find_own number ys x apart.1 h)
