-- Lists that rise strictly, stated from each item to the next.
use Rattle.std.proofs.Common.{◌≡◌, List, [], ◌∷◌}
use Rattle.std.specs.Prelude.{⊤}
use Rattle.std.specs.List.{AllByRecursion}
use Rattle.std.specs.List.Sorted.{IsStrictlySortedBy}
use Rattle.std.specs.Cmp.{IsTotalOrder}
use Rattle.std.specs.declared.cmp.Ordering.{Ordering}
use Rattle.std.specs.declared.cmp.Ordering.TheVariants.{Less}

module _ {K : Type 0} (c : K → K → Ordering) where
  -- each is above the one before it, and the first above x
  abbrev pub Rises : K → List K → Type 0
  Rises x [] = ⊤
  Rises x (y ∷ ys) = (c x y ≡ Less) × Rises y ys

  below_all : IsTotalOrder c → (x y : K) (ys : List K) → c x y ≡ Less → AllByRecursion (λ z. c y z ≡ Less) ys → AllByRecursion (λ z. c x z ≡ Less) ys
  below_all o x y [] below all = tt
  below_all o x y (z ∷ ys) below all = (o.trans x y z below all.0, below_all o x y ys below all.1)

  pub sorted_from_rises : IsTotalOrder c → (x : K) (ys : List K) → Rises x ys → AllByRecursion (λ y. c x y ≡ Less) ys × IsStrictlySortedBy c ys
  unfolding IsStrictlySortedBy
  sorted_from_rises o x [] rises = (tt, tt)
  sorted_from_rises o x (y ∷ ys) rises =
      let more = sorted_from_rises o y ys rises.1 in
      ((rises.0, below_all o x y ys rises.0 more.0), more)

  pub rises_from_sorted : (x : K) (ys : List K) → AllByRecursion (λ y. c x y ≡ Less) ys → IsStrictlySortedBy c ys → Rises x ys
  unfolding IsStrictlySortedBy
  rises_from_sorted x [] all sorted = tt
  rises_from_sorted x (y ∷ ys) all sorted = (all.0, rises_from_sorted y ys sorted.0 sorted.1)
