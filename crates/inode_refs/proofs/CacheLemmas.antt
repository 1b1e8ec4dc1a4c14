-- Keys and pins as they are cached, when one is added or removed.
use Rattle.std.proofs.Common.{◌≡◌, ℕ, suc, ◌+◌, ◌-◌, Bool, true, false, cond, eqb, List, [], ◌∷◌, filter, length, Option, Some, None, is_some, is_none, unwrap_or, Result, Ok, Err, is_err, OnOk, OnErr, sym, refl, ap, ◌∙◌, subst, ⊎_elim, arith}
use Rattle.std.specs.Option.{option_map}
use Rattle.std.specs.Ordering.{nat_cmp, eq_by_cmp}
use Rattle.std.specs.Cmp.{nat_cmp_total}
use Rattle.std.specs.Map.{lookup}
use Rattle.std.specs.Map.{keys_of as numbers}
use Rattle.std.specs.List.{IsDistinct, AllByRecursion}
use Rattle.std.proofs.lemmas.Map.Entries.{lookup-filter-keys}
use Rattle.std.specs.Map.Calls.{RetainsPairs}
use Rattle.std.specs.FinMap as map
use Rattle.std.specs.FinMap.{nat_cmp-IsAntisymmetric, get-insert, get-remove, get-retain_keys, same_map, len-empty, len-insert}
use Rattle.std.specs.BTreeMap as tree
use Rattle.std.specs.BTreeMap.{BTreeMap}
use Rattle.std.proofs.lemmas.Bool.{cases_Bool, cond-true, cond-false, true≢false, eqb-true}
use Rattle.key_counts.specs.CountForms.{count_or_none}
use Rattle.key_counts.proofs.CountLemmas.{tied}
use Rattle.key_counts.proofs.ShownLemmas.{get-shown, shown-inserted, shown-removed}
use Rattle.inode_refs.specs.declared.node_key.NodeKey.{NodeKey}
use Rattle.inode_refs.specs.CacheMaps.{KeyMap, pins_at, with_pins, with_pinned_key}
use Rattle.inode_refs.specs.CacheRules.{KeyBox, keys_of, pins_in}

-- ---- keys

pub key_cached : (m : BTreeMap ℕ KeyBox) (node : ℕ) (o : Option KeyBox) → o ≡ tree.get nat_cmp m node → map.get (keys_of m.entries) node ≡ option_map (λ key. key.value) o
key_cached m node o is = get-shown nat_cmp_total (λ (key : KeyBox). key.value) m.entries node ∙ ap (option_map (λ (key : KeyBox). key.value)) (sym is)

pub key_there : (m : BTreeMap ℕ KeyBox) (node : ℕ) (b : Bool) → b ≡ is_some (tree.get nat_cmp m node) → is_some (map.get (keys_of m.entries) node) ≡ b
key_there m node b is = ap is_some (key_cached m node (tree.get nat_cmp m node) refl) ∙ (kept_some (tree.get nat_cmp m node) ∙ sym is)
  where
    kept_some : (o : Option KeyBox) → is_some (option_map (λ key. key.value) o) ≡ is_some o
    kept_some None = refl
    kept_some (Some x) = refl

pub key_written : (m n : BTreeMap ℕ KeyBox) (node : ℕ) (key : KeyBox) → ((q : ℕ) → tree.get nat_cmp n q ≡ cond (eq_by_cmp nat_cmp node q) (Some key) (tree.get nat_cmp m q)) → keys_of n.entries ≡ map.insert (keys_of m.entries) node key.value
key_written m n node key updates = shown-inserted nat_cmp_total (λ (key : KeyBox). key.value) nat_cmp-IsAntisymmetric m n node key updates

pub key_gone : (m n : BTreeMap ℕ KeyBox) (node : ℕ) → ((q : ℕ) → tree.get nat_cmp n q ≡ cond (eq_by_cmp nat_cmp node q) None (tree.get nat_cmp m q)) → keys_of n.entries ≡ map.remove (keys_of m.entries) node
key_gone m n node updates = shown-removed nat_cmp_total (λ (key : KeyBox). key.value) nat_cmp-IsAntisymmetric m n node updates

-- a key that was passed and is removed again
pub taken_back : (keys : KeyMap) (node : ℕ) (key : Option NodeKey) → map.get keys node ≡ None → map.remove (with_pinned_key keys node key) node ≡ keys
taken_back keys node key absent = same_map nat_cmp_total nat_cmp-IsAntisymmetric _ _ (λ q. get-remove nat_cmp_total (with_pinned_key keys node key) node q ∙ ⊎_elim
    (λ here. cond-true (eq_by_cmp nat_cmp q node) None _ here ∙ sym (ap (map.get keys) (tied nat_cmp-IsAntisymmetric q node here) ∙ absent))
    (λ apart. cond-false (eq_by_cmp nat_cmp q node) None _ apart ∙ others key q apart)
    (cases_Bool (eq_by_cmp nat_cmp q node)))
  where
    others : (key : Option NodeKey) (q : ℕ) → eq_by_cmp nat_cmp q node ≡ false → map.get (with_pinned_key keys node key) q ≡ map.get keys q
    others None q apart = refl
    others (Some k) q apart = ap (λ o. map.get (cond (is_none o) (map.insert keys node k) keys) q) absent
        ∙ (get-insert nat_cmp_total keys node k q ∙ cond-false (eq_by_cmp nat_cmp q node) (Some k) (map.get keys q) apart)

-- a node with a key retains it, and one without takes the key that is passed
pub given_cached : (keys : KeyMap) (node : ℕ) (key : Option NodeKey) → is_some (map.get keys node) ≡ true → with_pinned_key keys node key ≡ keys
given_cached keys node None there = refl
given_cached keys node (Some k) there = at (map.get keys node) there
  where
    at : (o : Option NodeKey) → is_some o ≡ true → cond (is_none o) (map.insert keys node k) keys ≡ keys
    at None bad = absurd (true≢false (sym bad))
    at (Some old) there = refl

pub given_new : (keys : KeyMap) (node : ℕ) (key : NodeKey) → is_some (map.get keys node) ≡ false → with_pinned_key keys node (Some key) ≡ map.insert keys node key
given_new keys node k absent = at (map.get keys node) absent
  where
    at : (o : Option NodeKey) → is_some o ≡ false → cond (is_none o) (map.insert keys node k) keys ≡ map.insert keys node k
    at None none = refl
    at (Some old) bad = absurd (true≢false bad)

-- ---- pins

same_option : {X : Type 0} (o : Option X) → option_map (λ x. x) o ≡ o
same_option None = refl
same_option (Some x) = refl

module _ (m : BTreeMap ℕ ℕ) (node : ℕ) where
  pub pins_seen : unwrap_or (tree.get nat_cmp m node) 0 ≡ pins_at (pins_in m.entries) node
  pins_seen = sym (ap (λ o. unwrap_or o 0) (get-shown nat_cmp_total (λ count. count) m.entries node ∙ same_option (tree.get nat_cmp m node)))

  pub pins_there : eqb (pins_at (pins_in m.entries) node) 0 ≡ false → is_some (tree.get nat_cmp m node) ≡ true
  pins_there some = at (tree.get nat_cmp m node) (ap (λ n. eqb n 0) pins_seen ∙ some)
    where
      at : (o : Option ℕ) → eqb (unwrap_or o 0) 0 ≡ false → is_some o ≡ true
      at None bad = absurd (true≢false bad)
      at (Some x) some = refl

  pub pins_more : (n : BTreeMap ℕ ℕ) → ((q : ℕ) → tree.get nat_cmp n q ≡ cond (eq_by_cmp nat_cmp node q) (Some (unwrap_or (tree.get nat_cmp m node) 0 + 1)) (tree.get nat_cmp m q))
      → pins_in n.entries ≡ with_pins (pins_in m.entries) node (pins_at (pins_in m.entries) node + 1)
  pins_more n updates = shown-inserted nat_cmp_total (λ count. count) nat_cmp-IsAntisymmetric m n node (unwrap_or (tree.get nat_cmp m node) 0 + 1) updates
      ∙ (ap (λ c. map.insert (pins_in m.entries) node (c + 1)) pins_seen ∙ sym (cond-false (eqb (pins_at (pins_in m.entries) node + 1) 0) (map.remove (pins_in m.entries) node) _ some))
    where
      some : eqb (pins_at (pins_in m.entries) node + 1) 0 ≡ false
      some = ⊎_elim (λ none. let zero : pins_at (pins_in m.entries) node + 1 ≡ 0 = eqb-true (pins_at (pins_in m.entries) node + 1) 0 none in absurd (omega arith)) (λ some. some) (cases_Bool (eqb (pins_at (pins_in m.entries) node + 1) 0))

  pub pins_less : (n : BTreeMap ℕ ℕ) → ((q : ℕ) → tree.get nat_cmp n q ≡ cond (eq_by_cmp nat_cmp node q) (count_or_none (unwrap_or (tree.get nat_cmp m node) 0 - 1)) (tree.get nat_cmp m q))
      → pins_in n.entries ≡ with_pins (pins_in m.entries) node (pins_at (pins_in m.entries) node - 1)
  pins_less n updates = ⊎_elim
      (λ last. shown-removed nat_cmp_total (λ count. count) nat_cmp-IsAntisymmetric m n node
      (λ q. updates q ∙ ap (λ o. cond (eq_by_cmp nat_cmp node q) o (tree.get nat_cmp m q)) (cond-true (eqb (unwrap_or (tree.get nat_cmp m node) 0 - 1) 0) None _ last))
      ∙ sym (cond-true (eqb (unwrap_or (tree.get nat_cmp m node) 0 - 1) 0) (map.remove (pins_in m.entries) node) _ last))
      (λ more. shown-inserted nat_cmp_total (λ count. count) nat_cmp-IsAntisymmetric m n node (unwrap_or (tree.get nat_cmp m node) 0 - 1)
      (λ q. updates q ∙ ap (λ o. cond (eq_by_cmp nat_cmp node q) o (tree.get nat_cmp m q)) (cond-false (eqb (unwrap_or (tree.get nat_cmp m node) 0 - 1) 0) None _ more))
      ∙ sym (cond-false (eqb (unwrap_or (tree.get nat_cmp m node) 0 - 1) 0) (map.remove (pins_in m.entries) node) _ more))
      (cases_Bool (eqb (unwrap_or (tree.get nat_cmp m node) 0 - 1) 0))
      ∙ ap (λ c. with_pins (pins_in m.entries) node (c - 1)) pins_seen

-- ---- what a closure retains

-- a closure that retains what passes a test as it is, and does not change, leaves a filter
pub retained_by : {F K X : Type 0} (T : F → K → X → Bool → X → F → Type 0) (p : K × X → Bool) (f : F) → ((k : K) (v : X) (b : Bool) (w : X) (f' : F) → T f k v b w f' → (b ≡ p (k, v)) × (b ≡ true → w ≡ v) × (f' ≡ f))
    → (es kept : List (K × X)) → RetainsPairs T f es kept → kept ≡ filter p es
retained_by T p f fact [] kept run = run
retained_by {K = K} {X = X} T p f fact (e ∷ es) kept (b, w, f', rest, call, later, is) =
    let facts = fact e.0 e.1 b w f' call in
    let others : rest ≡ filter p es = retained_by T p f fact es rest (subst (λ g. RetainsPairs T g es rest) facts.2 later) in
    is ∙ (at b w facts.1 ∙ (ap (λ c. cond c (e ∷ rest) rest) facts.0 ∙ ap (λ l. cond (p e) (e ∷ l) l) others))
  where
    at : (b : Bool) (w : X) → (b ≡ true → w ≡ e.1) → cond b ((e.0, w) ∷ rest) rest ≡ cond b (e ∷ rest) rest
    at true w same = ap (λ v. (e.0, v) ∷ rest) (same refl)
    at false w same = refl

-- what is left if the closure tests the numbers of nodes alone
pub left_by_node : (m n : BTreeMap ℕ KeyBox) (t : ℕ → Bool) → n.entries ≡ filter (λ e. t e.0) m.entries → keys_of n.entries ≡ map.retain_keys (keys_of m.entries) t
left_by_node m n t is = same_map nat_cmp_total nat_cmp-IsAntisymmetric _ _ (λ q.
    get-shown nat_cmp_total (λ (key : KeyBox). key.value) n.entries q
    ∙ (ap (λ es. option_map (λ (key : KeyBox). key.value) (lookup (eq_by_cmp nat_cmp q) es)) is
    ∙ (ap (option_map (λ (key : KeyBox). key.value)) (lookup-filter-keys (eq_by_cmp nat_cmp q) t (t q) (λ k tie. ap t (sym (tied nat_cmp-IsAntisymmetric q k tie))) m.entries)
    ∙ (moved (t q) (lookup (eq_by_cmp nat_cmp q) m.entries)
    ∙ (ap (λ o. cond (t q) o None) (sym (get-shown nat_cmp_total (λ (key : KeyBox). key.value) m.entries q))
    ∙ sym (get-retain_keys (keys_of m.entries) t q (λ x tie. ap t (sym (nat_cmp-IsAntisymmetric q x tie)))))))))
  where
    moved : (b : Bool) (o : Option KeyBox) → option_map (λ key. key.value) (cond b o None) ≡ cond b (option_map (λ key. key.value) o) None
    moved true o = refl
    moved false o = refl

-- what is left if it tests the keys too
neither : {X : Type 0} (b : Bool) (x : Option X) → cond b x x ≡ x
neither true x = refl
neither false x = refl

none_later : (p : ℕ × KeyBox → Bool) (q k : ℕ) (es : List (ℕ × KeyBox)) → q ≡ k → AllByRecursion (λ y. eq_by_cmp nat_cmp k y ≡ false) (numbers es) → lookup (eq_by_cmp nat_cmp q) (filter p es) ≡ None
none_later p q k [] same all = refl
none_later p q k (e ∷ es) same all = ⊎_elim
    (λ stays. ap (lookup (eq_by_cmp nat_cmp q)) (cond-true (p e) (e ∷ filter p es) (filter p es) stays)
    ∙ (cond-false (eq_by_cmp nat_cmp q e.0) (Some e.1) (lookup (eq_by_cmp nat_cmp q) (filter p es)) (ap (λ x. eq_by_cmp nat_cmp x e.0) same ∙ all.0) ∙ none_later p q k es same all.1))
    (λ goes. ap (lookup (eq_by_cmp nat_cmp q)) (cond-false (p e) (e ∷ filter p es) (filter p es) goes) ∙ none_later p q k es same all.1)
    (cases_Bool (p e))

abbrev picked : (ℕ × KeyBox → Bool) → ℕ → Option KeyBox → Option KeyBox
picked p q None = None
picked p q (Some key) = cond (p (q, key)) (Some key) None

lookup-filtered : (p : ℕ × KeyBox → Bool) (q : ℕ) (es : List (ℕ × KeyBox)) → IsDistinct (eq_by_cmp nat_cmp) (numbers es) → lookup (eq_by_cmp nat_cmp q) (filter p es) ≡ picked p q (lookup (eq_by_cmp nat_cmp q) es)
unfolding IsDistinct
lookup-filtered p q [] apart = refl
lookup-filtered p q (e ∷ es) apart = ⊎_elim
    (λ here. let same = tied nat_cmp-IsAntisymmetric q e.0 here in ⊎_elim
    (λ stays. ap (lookup (eq_by_cmp nat_cmp q)) (cond-true (p e) (e ∷ filter p es) (filter p es) stays)
    ∙ (cond-true (eq_by_cmp nat_cmp q e.0) (Some e.1) _ here
    ∙ sym (ap (picked p q) (cond-true (eq_by_cmp nat_cmp q e.0) (Some e.1) (lookup (eq_by_cmp nat_cmp q) es) here)
    ∙ cond-true (p (q, e.1)) (Some e.1) None (ap (λ x. p (x, e.1)) same ∙ stays))))
    (λ goes. ap (lookup (eq_by_cmp nat_cmp q)) (cond-false (p e) (e ∷ filter p es) (filter p es) goes)
    ∙ (none_later p q e.0 es same apart.0
    ∙ sym (ap (picked p q) (cond-true (eq_by_cmp nat_cmp q e.0) (Some e.1) (lookup (eq_by_cmp nat_cmp q) es) here)
    ∙ cond-false (p (q, e.1)) (Some e.1) None (ap (λ x. p (x, e.1)) same ∙ goes))))
    (cases_Bool (p e)))
    (λ other. ⊎_elim
    (λ stays. ap (lookup (eq_by_cmp nat_cmp q)) (cond-true (p e) (e ∷ filter p es) (filter p es) stays) ∙ cond-false (eq_by_cmp nat_cmp q e.0) (Some e.1) _ other)
    (λ goes. ap (lookup (eq_by_cmp nat_cmp q)) (cond-false (p e) (e ∷ filter p es) (filter p es) goes))
    (cases_Bool (p e))
    ∙ (lookup-filtered p q es apart.1 ∙ sym (ap (picked p q) (cond-false (eq_by_cmp nat_cmp q e.0) (Some e.1) (lookup (eq_by_cmp nat_cmp q) es) other))))
    (cases_Bool (eq_by_cmp nat_cmp q e.0))

pub left_by_key : (es : List (ℕ × KeyBox)) (p : ℕ × KeyBox → Bool) (t : ℕ → Bool) → IsDistinct (eq_by_cmp nat_cmp) (numbers es)
    → ((q : ℕ) (key : KeyBox) → map.get (keys_of es) q ≡ Some key.value → p (q, key) ≡ t q) → keys_of (filter p es) ≡ map.retain_keys (keys_of es) t
left_by_key es p t apart test = same_map nat_cmp_total nat_cmp-IsAntisymmetric _ _ (λ q.
    get-shown nat_cmp_total (λ (key : KeyBox). key.value) (filter p es) q
    ∙ (ap (option_map (λ (key : KeyBox). key.value)) (lookup-filtered p q es apart)
    ∙ (at q (lookup (eq_by_cmp nat_cmp q) es) (get-shown nat_cmp_total (λ (key : KeyBox). key.value) es q)
    ∙ sym (get-retain_keys (keys_of es) t q (λ x tie. ap t (sym (nat_cmp-IsAntisymmetric q x tie)))))))
  where
    at : (q : ℕ) (o : Option KeyBox) → map.get (keys_of es) q ≡ option_map (λ key. key.value) o → option_map (λ key. key.value) (picked p q o) ≡ cond (t q) (map.get (keys_of es) q) None
    at q None none = sym (ap (λ o. cond (t q) o None) none ∙ neither (t q) None)
    at q (Some key) there = ap (λ b. option_map (λ key. key.value) (cond b (Some key) None)) (test q key there) ∙ (chosen (t q) key ∙ sym (ap (λ o. cond (t q) o None) there))
      where
        chosen : (b : Bool) (key : KeyBox) → option_map (λ key. key.value) (cond b (Some key) None) ≡ cond b (Some key.value) None
        chosen true key = refl
        chosen false key = refl

-- how many are left
one_more : (n : ℕ) → n + 1 ≡ suc n
one_more n = omega arith

len-kept : (p : ℕ × KeyBox → Bool) (es : List (ℕ × KeyBox)) → IsDistinct (eq_by_cmp nat_cmp) (numbers es) → map.len (keys_of (filter p es)) ≡ length (filter p es)
unfolding IsDistinct
len-kept p [] apart = len-empty nat_cmp NodeKey
len-kept p (e ∷ es) apart = ⊎_elim
    (λ stays. let is = cond-true (p e) (e ∷ filter p es) (filter p es) stays in
    ap (λ l. map.len (keys_of l)) is ∙ (len-insert nat_cmp_total (keys_of (filter p es)) e.0 e.1.value
    ∙ (cond-false (is_some (map.get (keys_of (filter p es)) e.0)) _ _ new ∙ (ap (λ n. n + 1) (len-kept p es apart.1) ∙ (one_more (length (filter p es)) ∙ ap length (sym is))))))
    (λ goes. let is = cond-false (p e) (e ∷ filter p es) (filter p es) goes in
    ap (λ l. map.len (keys_of l)) is ∙ (len-kept p es apart.1 ∙ ap length (sym is)))
    (cases_Bool (p e))
  where
    new : is_some (map.get (keys_of (filter p es)) e.0) ≡ false
    new = ap is_some (get-shown nat_cmp_total (λ (key : KeyBox). key.value) (filter p es) e.0
        ∙ ap (option_map (λ (key : KeyBox). key.value)) (none_later p e.0 e.0 es refl apart.0))

pub len-left : (es : List (ℕ × KeyBox)) (p : ℕ × KeyBox → Bool) (t : ℕ → Bool) → IsDistinct (eq_by_cmp nat_cmp) (numbers es)
    → ((q : ℕ) (key : KeyBox) → map.get (keys_of es) q ≡ Some key.value → p (q, key) ≡ t q) → map.len (map.retain_keys (keys_of es) t) ≡ length (filter p es)
len-left es p t apart test = ap map.len (sym (left_by_key es p t apart test)) ∙ len-kept p es apart

-- ---- results

pub at_ok : {T E P : Type 0} (r : Result T E) → is_err r ≡ false → OnOk r P → P
at_ok (Ok x) n p = p
at_ok (Err e) n p = absurd (true≢false n)

pub at_err : {T E P : Type 0} (r : Result T E) → is_err r ≡ true → OnErr r P → P
at_err (Ok x) y p = absurd (true≢false (sym y))
at_err (Err e) y p = p

pub no_key : (o : Option NodeKey) → is_some o ≡ false → o ≡ None
no_key None none = refl
no_key (Some k) bad = absurd (true≢false bad)

pub pins_same : (m n : BTreeMap ℕ ℕ) → tree.IsUnchanged m n → pins_in n.entries ≡ pins_in m.entries
pins_same m n same = ap pins_in same
