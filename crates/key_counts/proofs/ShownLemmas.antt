-- The finite map that an ordered map is seen as, when an entry is added, changed or removed.
use Rattle.std.proofs.Common.{◌≡◌, Bool, true, false, cond, List, [], ◌∷◌, Option, Some, None, sym, refl, ap, ◌∙◌}
use Rattle.std.specs.Prelude.{option_map}
use Rattle.std.specs.Map.{lookup}
use Rattle.std.specs.declared.cmp.Ordering.{Ordering}
use Rattle.std.specs.Ordering.{eq_by_cmp}
use Rattle.std.specs.Cmp.{IsTotalOrder, eq_by_cmp_equiv}
use Rattle.std.specs.FinMap as finite
use Rattle.std.specs.FinMap.{IsAntisymmetric, get-empty, get-insert, get-remove, same_map}
use Rattle.std.specs.BTreeMap as tree
use Rattle.std.specs.BTreeMap.{BTreeMap}
use Rattle.key_counts.specs.MapViews.{map_by_order}

apart_from : {X Y : Type 0} (b : Bool) (f : X → Y) (x y : Option X) → option_map f (cond b x y) ≡ cond b (option_map f x) (option_map f y)
apart_from true f x y = refl
apart_from false f x y = refl

module _ {K V X : Type 0} {R : K → K → Ordering} (o : IsTotalOrder R) (f : V → X) where
  -- what is seen at a key
  pub get-shown : (es : List (K × V)) (q : K) → finite.get (map_by_order R f es) q ≡ option_map f (lookup (eq_by_cmp R q) es)
  get-shown [] q = get-empty R q
  get-shown (e ∷ es) q = get-insert o (map_by_order R f es) e.0 (f e.1) q
      ∙ (ap (cond (eq_by_cmp R q e.0) (Some (f e.1))) (get-shown es q) ∙ sym (apart_from (eq_by_cmp R q e.0) f (Some e.1) (lookup (eq_by_cmp R q) es)))

  module _ (same : IsAntisymmetric R) (m n : BTreeMap K V) where
    -- maps that have the same values are seen alike
    pub shown-same : ((q : K) → tree.get R n q ≡ tree.get R m q) → map_by_order R f n.entries ≡ map_by_order R f m.entries
    shown-same alike = same_map o same _ _ (λ q. get-shown n.entries q ∙ (ap (option_map f) (alike q) ∙ sym (get-shown m.entries q)))

    -- one value written
    pub shown-inserted : (k : K) (v : V) → ((q : K) → tree.get R n q ≡ cond (eq_by_cmp R k q) (Some v) (tree.get R m q)) → map_by_order R f n.entries ≡ finite.insert (map_by_order R f m.entries) k (f v)
    shown-inserted k v updates = same_map o same _ _ (λ q.
        get-shown n.entries q ∙ (ap (option_map f) (updates q) ∙ (apart_from (eq_by_cmp R k q) f (Some v) (tree.get R m q)
        ∙ (ap (λ b. cond b (Some (f v)) (option_map f (tree.get R m q))) ((eq_by_cmp_equiv o).symm k q)
        ∙ (ap (cond (eq_by_cmp R q k) (Some (f v))) (sym (get-shown m.entries q)) ∙ sym (get-insert o (map_by_order R f m.entries) k (f v) q))))))

    -- one value removed
    pub shown-removed : (k : K) → ((q : K) → tree.get R n q ≡ cond (eq_by_cmp R k q) None (tree.get R m q)) → map_by_order R f n.entries ≡ finite.remove (map_by_order R f m.entries) k
    shown-removed k updates = same_map o same _ _ (λ q.
        get-shown n.entries q ∙ (ap (option_map f) (updates q) ∙ (apart_from (eq_by_cmp R k q) f None (tree.get R m q)
        ∙ (ap (λ b. cond b None (option_map f (tree.get R m q))) ((eq_by_cmp_equiv o).symm k q)
        ∙ (ap (cond (eq_by_cmp R q k) None) (sym (get-shown m.entries q)) ∙ sym (get-remove o (map_by_order R f m.entries) k q))))))
