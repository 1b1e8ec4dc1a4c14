-- Users as they are counted, when a node's key or its pins change.
use Rattle.std.proofs.Common.{◌≡◌, ℕ, ◌+◌, ◌-◌, ◌<◌, ◌≤◌, Bool, true, false, cond, eqb, not, ◌&&◌, List, [], ◌∷◌, length, Option, Some, None, is_some, is_none, unwrap_or, Result, Ok, Err, is_err, IsOk, OnOk, OnErr, ◌||◌, ◌⊎◌, inl, inr, sym, refl, ap, ◌∙◌, arith}
use Rattle.std.specs.Option.{option_map, option_map_or, option_or}
use Rattle.std.specs.Ordering.{nat_cmp, eq_by_cmp, is_eq}
use Rattle.std.specs.Cmp.{nat_cmp_total, tied_itself}
use Rattle.std.specs.FinMap as map
use Rattle.std.specs.FinMap.{nat_cmp-IsAntisymmetric, get-insert, get-remove, get-empty, len-remove, same_map, empty_of_len}
use Rattle.std.specs.Map.{lookup}
use Rattle.std.specs.BTreeMap.{BTreeMap, get, Updates}
use Rattle.std.proofs.lemmas.Bool.{cases_Bool, cases_lt, cond-true, cond-false, true≢false, eqb-true, eq-eqb}
use Rattle.policy_ctx.specs.declared.policy.KeyId.{KeyId}
use Rattle.policy_ctx.specs.KeyIds.{same_id}
use Rattle.policy_ctx.proofs.KeyIdLemmas.{same_id-refl, same_id-eq, same_id-symm}
use Rattle.key_counts.specs.CountForms.{count_or_none}
use Rattle.key_counts.proofs.CountLemmas.{raised, lowered, unwrap_or-counted}
use Rattle.user_claims.specs.Claims.{id_cmp}
use Rattle.user_claims.proofs.ClaimOrder.{id_cmp_total, id_cmp-IsAntisymmetric, id_ties}
use Rattle.user_claims.proofs.SubMaps.{get-part}
use Rattle.inode_refs.specs.declared.node_key.NodeKey.{NodeKey}
use Rattle.inode_refs.specs.declared.users.Users.{Users}
use Rattle.inode_refs.specs.CacheMaps.{Cache, KeyMap, PinMap, key_at, pins_at, with_pins, with_pinned_key}
use Rattle.inode_refs.specs.Evictions.{is_unpinned, has_id, users_of}
use Rattle.inode_refs.specs.CacheRules.{KeyBox, keys_of, pins_in}
use Rattle.inode_refs.specs.Users.{one_for, AreCounted, HasOneMore, HasOneLess, HasOther, IsCountedFor}
use Rattle.inode_refs.specs.KeyUsers.{id_at, user_at, coming, leaving}

-- ---- the counts

pub more_counted : (users : Users) (n : BTreeMap KeyId ℕ) (id : KeyId) → Updates id_cmp users.counts n id (Some (unwrap_or (get id_cmp users.counts id) 0 + 1))
    → HasOneMore users (record users { counts = n }) (Some id)
more_counted users n id updates f g kept more whole =
    raised id_cmp_total id_cmp-IsAntisymmetric f g users.counts n id (kept whole)
    (λ q. more q ∙ ap (λ b. f q + cond b 1 0) (id_ties id q)) updates

pub less_counted : (users : Users) (n : BTreeMap KeyId ℕ) (id : KeyId)
    → ((q : KeyId) → get id_cmp n q ≡ cond (eq_by_cmp id_cmp id q) (count_or_none (unwrap_or (get id_cmp users.counts id) 0 - 1)) (get id_cmp users.counts q))
    → HasOneLess users (record users { counts = n }) (Some id)
less_counted users n id updates f g kept less whole =
    lowered id_cmp_total id_cmp-IsAntisymmetric f g users.counts n id (kept whole)
    (λ q. ap (λ b. g q + cond b 1 0) (sym (id_ties id q)) ∙ less q) updates

-- one that counts has a count
pub counted_for : (users : Users) (f g : KeyId → ℕ) → AreCounted users f → (o : Option KeyId) → ((q : KeyId) → g q + one_for o q ≡ f q) → IsCountedFor users o
counted_for users f g kept None less = tt
counted_for users f g kept (Some id) less = λ whole.
    let count : unwrap_or (get id_cmp users.counts id) 0 ≡ f id = ap (λ o. unwrap_or o 0) (kept whole id) ∙ unwrap_or-counted (f id) in
    let one : one_for (Some id) id ≡ 1 = ap (λ b. cond b 1 0) (same_id-refl id) in
    let whole_count = less id in omega arith

-- a user of one identifier is counted for another
pub exchanged : (old less new : Users) (older newer : KeyId) → same_id older newer ≡ false → HasOneLess old less (Some older) → HasOneMore less new (Some newer) → HasOther old new older newer
exchanged old less new older newer apart gone come f g kept same =
    come (λ q. f q - one_for (Some older) q) g (gone f (λ q. f q - one_for (Some older) q) kept (λ q. let e = same q in let few = one_of q in omega arith))
    (λ q. let e = same q in let few = one_of q in omega arith)
  where
    one_of : (q : KeyId) → one_for (Some older) q + one_for (Some newer) q ≤ 1
    one_of q = elim (cases_Bool (same_id older q)) [
      | inl is ↦
          let one : one_for (Some older) q ≡ 1 = ap (λ b. cond b 1 0) is in
          let here : older ≡ q = same_id-eq older q is in
          let other : one_for (Some newer) q ≡ 0 = ap (λ b. cond b 1 0) (ap (same_id newer) (sym here) ∙ (same_id-symm newer older ∙ apart)) in
          omega arith
      | inr other ↦ let none : one_for (Some older) q ≡ 0 = ap (λ b. cond b 1 0) other in let few = at_most (same_id newer q) in omega arith
    ]
      where
        at_most : (b : Bool) → cond b 1 0 ≤ 1
        at_most true = omega arith
        at_most false = omega arith

pub not_exchanged : (users : Users) (older newer : KeyId) → same_id older newer ≡ true → HasOther users users older newer
not_exchanged users older newer alike f g kept same whole q =
    let is : older ≡ newer = same_id-eq older newer alike in
    let ones : one_for (Some older) q ≡ one_for (Some newer) q = ap (λ (k : KeyId). one_for (Some k) q) is in
    let e = same q in
    let count : f q ≡ g q = omega arith in
    kept whole q ∙ ap count_or_none count

-- ---- maps that differ in one node

len_apart : (m : KeyMap) (n : ℕ) → map.len (map.remove m n) + cond (is_some (map.get m n)) 1 0 ≡ map.len m
len_apart m n = elim (cases_Bool (is_some (map.get m n))) [
  | inl there ↦
      let one : cond {A = ℕ} (is_some (map.get m n)) 1 0 ≡ 1 = cond-true (is_some (map.get m n)) 1 0 there in
      let less : map.len (map.remove m n) ≡ map.len m - 1 = len-remove nat_cmp_total m n ∙ cond-true (is_some (map.get m n)) _ _ there in
      let some = has_one there in omega arith
  | inr absent ↦
      let none : cond {A = ℕ} (is_some (map.get m n)) 1 0 ≡ 0 = cond-false (is_some (map.get m n)) 1 0 absent in
      let same : map.len (map.remove m n) ≡ map.len m = len-remove nat_cmp_total m n ∙ cond-false (is_some (map.get m n)) _ _ absent in omega arith
]
  where
    has_one : is_some (map.get m n) ≡ true → 0 < map.len m
    has_one there = elim (cases_lt 0 (map.len m)) [
      | inl some ↦ some
      | inr none ↦ absurd (true≢false (sym there ∙ ap is_some (ap (λ (k : KeyMap). map.get k n) (empty_of_len m (omega arith)) ∙ get-empty nat_cmp n)))
    ]

itself : (n : ℕ) → eq_by_cmp nat_cmp n n ≡ true
itself n = ap is_eq (tied_itself nat_cmp_total n)

-- a map that isn't empty has an entry
some_entry : (m : KeyMap) → 0 < map.len m → (n : ℕ) × ((key : NodeKey) × (map.get m n ≡ Some key))
some_entry m some = at (map.entries m) refl
  where
    at : (es : List (ℕ × NodeKey)) → map.entries m ≡ es → (n : ℕ) × ((key : NodeKey) × (map.get m n ≡ Some key))
    at [] is = let none : map.len m ≡ 0 = map.len-entries m ∙ ap length is in absurd (omega arith)
    at (e ∷ es) is = (e.0, (e.1, map.get-entries m e.0 ∙ (ap (map.find nat_cmp e.0) is ∙ cond-true (eq_by_cmp nat_cmp e.0 e.0) (Some e.1) _ (itself e.0))))

neither : {X : Type 0} (b : Bool) (x : X) → cond b x x ≡ x
neither true x = refl
neither false x = refl

-- whether the node's key counts for the identifier
abbrev counts_for : Cache → KeyId → ℕ → Bool
counts_for cache id node = not (is_unpinned cache node) && has_id cache id node

counts_one : (b : Bool) (o : Option NodeKey) (id : KeyId) → cond (is_some (cond (not b && option_map_or (λ key. same_id key.id id) o false) o None)) 1 0 ≡ one_for (cond b None (option_map (λ key. key.id) o)) id
counts_one true o id = refl
counts_one false None id = refl
counts_one false (Some key) id = at (same_id key.id id)
  where
    at : (b : Bool) → cond {A = ℕ} (is_some (cond b (Some key) None)) 1 0 ≡ cond b 1 0
    at true = refl
    at false = refl

abbrev AreAlike : Cache → Cache → ℕ → Type 0
AreAlike old new q = (key_at new q ≡ key_at old q) × (is_unpinned new q ≡ is_unpinned old q)

module _ (old new : Cache) (n : ℕ) (others : (q : ℕ) → eq_by_cmp nat_cmp q n ≡ false → AreAlike old new q) (id : KeyId) where
  rest : map.remove (map.retain_keys new.keys (counts_for new id)) n ≡ map.remove (map.retain_keys old.keys (counts_for old id)) n
  rest = same_map nat_cmp_total nat_cmp-IsAntisymmetric _ _ (λ q.
      get-remove nat_cmp_total (map.retain_keys new.keys (counts_for new id)) n q
      ∙ (elim (cases_Bool (eq_by_cmp nat_cmp q n)) [
        | inl here ↦ cond-true (eq_by_cmp nat_cmp q n) None _ here ∙ sym (cond-true (eq_by_cmp nat_cmp q n) None _ here)
        | inr apart ↦ ap (cond (eq_by_cmp nat_cmp q n) None) (same q (others q apart))
      ]
      ∙ sym (get-remove nat_cmp_total (map.retain_keys old.keys (counts_for old id)) n q)))
    where
      same : (q : ℕ) → AreAlike old new q → map.get (map.retain_keys new.keys (counts_for new id)) q ≡ map.get (map.retain_keys old.keys (counts_for old id)) q
      same q alike = get-part nat_cmp_total nat_cmp-IsAntisymmetric new.keys (counts_for new id) q
          ∙ ((λ i. cond (not (alike.1 i) && option_map_or (λ (key : NodeKey). same_id key.id id) (alike.0 i) false) (alike.0 i) None)
          ∙ sym (get-part nat_cmp_total nat_cmp-IsAntisymmetric old.keys (counts_for old id) q))

  at_node : (c : Cache) → cond (is_some (map.get (map.retain_keys c.keys (counts_for c id)) n)) 1 0 ≡ one_for (user_at c n) id
  at_node c = ap (λ o. cond (is_some o) 1 0) (get-part nat_cmp_total nat_cmp-IsAntisymmetric c.keys (counts_for c id) n) ∙ counts_one (is_unpinned c n) (key_at c n) id

  pub users_moved : users_of new id + one_for (user_at old n) id ≡ users_of old id + one_for (user_at new n) id
  users_moved =
      let new_whole = len_apart (map.retain_keys new.keys (counts_for new id)) n in
      let old_whole = len_apart (map.retain_keys old.keys (counts_for old id)) n in
      let same : map.len (map.remove (map.retain_keys new.keys (counts_for new id)) n) ≡ map.len (map.remove (map.retain_keys old.keys (counts_for old id)) n) = ap map.len rest in
      let new_one = at_node new in
      let old_one = at_node old in omega arith

-- ---- what each call does

module _ (cache : Cache) (n : ℕ) where
  inserted_apart : (key : NodeKey) (q : ℕ) → eq_by_cmp nat_cmp q n ≡ false → map.get (map.insert cache.keys n key) q ≡ key_at cache q
  inserted_apart key q apart = get-insert nat_cmp_total cache.keys n key q ∙ cond-false (eq_by_cmp nat_cmp q n) (Some key) _ apart

  inserted_here : (key : NodeKey) → map.get (map.insert cache.keys n key) n ≡ Some key
  inserted_here key = get-insert nat_cmp_total cache.keys n key n ∙ cond-true (eq_by_cmp nat_cmp n n) (Some key) _ (itself n)

  given_apart : (key : Option NodeKey) (q : ℕ) → eq_by_cmp nat_cmp q n ≡ false → map.get (with_pinned_key cache.keys n key) q ≡ key_at cache q
  given_apart None q apart = refl
  given_apart (Some key) q apart = elim (cases_Bool (is_none (key_at cache n))) [
    | inl free ↦ ap (λ (m : KeyMap). map.get m q) (cond-true (is_none (key_at cache n)) _ _ free) ∙ inserted_apart key q apart
    | inr taken ↦ ap (λ (m : KeyMap). map.get m q) (cond-false (is_none (key_at cache n)) _ _ taken)
  ]

  given_here : (key : Option NodeKey) → map.get (with_pinned_key cache.keys n key) n ≡ option_or (key_at cache n) key
  given_here None = sym (or_none (key_at cache n))
    where
      or_none : (o : Option NodeKey) → option_or o None ≡ o
      or_none None = refl
      or_none (Some k) = refl
  given_here (Some key) = at (key_at cache n) refl
    where
      at : (o : Option NodeKey) → key_at cache n ≡ o → map.get (cond (is_none o) (map.insert cache.keys n key) cache.keys) n ≡ option_or o (Some key)
      at None is = inserted_here key
      at (Some k) is = is

  pins_apart : (count q : ℕ) → eq_by_cmp nat_cmp q n ≡ false → pins_at (with_pins cache.pins n count) q ≡ pins_at cache.pins q
  pins_apart count q apart = ap (λ o. unwrap_or o 0) (at (eqb count 0))
    where
      at : (b : Bool) → map.get (cond b (map.remove cache.pins n) (map.insert cache.pins n count)) q ≡ map.get cache.pins q
      at true = get-remove nat_cmp_total cache.pins n q ∙ cond-false (eq_by_cmp nat_cmp q n) None _ apart
      at false = get-insert nat_cmp_total cache.pins n count q ∙ cond-false (eq_by_cmp nat_cmp q n) (Some count) _ apart

  pins_here : (count : ℕ) → pins_at (with_pins cache.pins n count) n ≡ count
  pins_here count = elim (cases_Bool (eqb count 0)) [
    | inl none ↦ ap (λ (m : PinMap). pins_at m n) (cond-true (eqb count 0) _ _ none)
        ∙ (ap (λ o. unwrap_or o 0) (get-remove nat_cmp_total cache.pins n n ∙ cond-true (eq_by_cmp nat_cmp n n) None _ (itself n)) ∙ sym (eqb-true count 0 none))
    | inr some ↦ ap (λ (m : PinMap). pins_at m n) (cond-false (eqb count 0) _ _ some)
        ∙ ap (λ o. unwrap_or o 0) (get-insert nat_cmp_total cache.pins n count n ∙ cond-true (eq_by_cmp nat_cmp n n) (Some count) _ (itself n))
  ]

  -- the call `keep`
  pub users_kept : (key : NodeKey) (q : KeyId) → is_unpinned cache n ≡ false → users_of (record cache { keys = map.insert cache.keys n key }) q + one_for (id_at cache n) q ≡ users_of cache q + one_for (Some key.id) q
  users_kept key q pinned =
      let new : Cache = record cache { keys = map.insert cache.keys n key } in
      let moved = users_moved cache new n (λ x apart. (inserted_apart key x apart, refl)) q in
      let was : one_for (user_at cache n) q ≡ one_for (id_at cache n) q = ap (λ b. one_for (cond b None (id_at cache n)) q) pinned in
      let is : one_for (user_at new n) q ≡ one_for (Some key.id) q = λ i. one_for (cond (pinned i) None (option_map (λ (k : NodeKey). k.id) (inserted_here key i))) q in
      omega arith

  pub users_kept_unpinned : (key : NodeKey) (q : KeyId) → is_unpinned cache n ≡ true → users_of (record cache { keys = map.insert cache.keys n key }) q ≡ users_of cache q
  users_kept_unpinned key q free =
      let new : Cache = record cache { keys = map.insert cache.keys n key } in
      let moved = users_moved cache new n (λ x apart. (inserted_apart key x apart, refl)) q in
      let was : one_for (user_at cache n) q ≡ 0 = ap (λ b. one_for (cond b None (id_at cache n)) q) free in
      let is : one_for (user_at new n) q ≡ 0 = ap (λ b. one_for (cond b None (id_at new n)) q) free in
      omega arith

  -- drop_key
  pub users_dropped : (q : KeyId) → users_of (record cache { keys = map.remove cache.keys n }) q + one_for (user_at cache n) q ≡ users_of cache q
  users_dropped q =
      let new : Cache = record cache { keys = map.remove cache.keys n } in
      let gone : key_at new n ≡ None = get-remove nat_cmp_total cache.keys n n ∙ cond-true (eq_by_cmp nat_cmp n n) None _ (itself n) in
      let moved = users_moved cache new n (λ x apart. (get-remove nat_cmp_total cache.keys n x ∙ cond-false (eq_by_cmp nat_cmp x n) None _ apart, refl)) q in
      let is : one_for (user_at new n) q ≡ 0 = ap (λ o. one_for (cond (is_unpinned cache n) None (option_map (λ (k : NodeKey). k.id) o)) q) gone ∙ ap (λ o. one_for o q) (neither (is_unpinned cache n) None) in
      omega arith

  -- unpin
  pub users_unpinned : (q : KeyId) → 0 < pins_at cache.pins n → users_of (record cache { pins = with_pins cache.pins n (pins_at cache.pins n - 1) }) q + one_for (leaving cache n) q ≡ users_of cache q
  users_unpinned q some =
      let new : Cache = record cache { pins = with_pins cache.pins n (pins_at cache.pins n - 1) } in
      let moved = users_moved cache new n (λ x apart. (refl, ap (λ c. eqb c 0) (pins_apart (pins_at cache.pins n - 1) x apart))) q in
      let was : one_for (user_at cache n) q ≡ one_for (id_at cache n) q = ap (λ b. one_for (cond b None (id_at cache n)) q) (not_zero (pins_at cache.pins n) some) in
      let is : one_for (user_at new n) q ≡ one_for (cond (eqb (pins_at cache.pins n - 1) 0) None (id_at cache n)) q = ap (λ c. one_for (cond (eqb c 0) None (id_at cache n)) q) (pins_here (pins_at cache.pins n - 1)) in
      let split = halves (pins_at cache.pins n) some in
      omega arith
    where
      not_zero : (count : ℕ) → 0 < count → eqb count 0 ≡ false
      not_zero count some = elim (cases_Bool (eqb count 0)) [
        | inl zero ↦ let is : count ≡ 0 = eqb-true count 0 zero in absurd (omega arith)
        | inr other ↦ other
      ]

      halves : (count : ℕ) → 0 < count → one_for (cond (eqb (count - 1) 0) None (id_at cache n)) q + one_for (cond (eqb count 1) (id_at cache n) None) q ≡ one_for (id_at cache n) q
      halves count some = elim (cases_Bool (eqb count 1)) [
        | inl last ↦
            let is : count ≡ 1 = eqb-true count 1 last in
            let gone : one_for (cond (eqb (count - 1) 0) None (id_at cache n)) q ≡ 0 = ap (λ c. one_for (cond (eqb (c - 1) 0) None (id_at cache n)) q) is in
            let all : one_for (cond (eqb count 1) (id_at cache n) None) q ≡ one_for (id_at cache n) q = ap (λ b. one_for (cond b (id_at cache n) None) q) last in
            omega arith
        | inr more ↦
            let left : eqb (count - 1) 0 ≡ false = not_zero (count - 1) (two count some more) in
            let all : one_for (cond (eqb (count - 1) 0) None (id_at cache n)) q ≡ one_for (id_at cache n) q = ap (λ b. one_for (cond b None (id_at cache n)) q) left in
            let gone : one_for (cond (eqb count 1) (id_at cache n) None) q ≡ 0 = ap (λ b. one_for (cond b (id_at cache n) None) q) more in
            omega arith
      ]
        where
          two : (count : ℕ) → 0 < count → eqb count 1 ≡ false → 0 < count - 1
          two count some more = elim (cases_lt 0 (count - 1)) [
            | inl is ↦ is
            | inr none ↦ let one : count ≡ 1 = omega arith in absurd (true≢false (sym (eq-eqb count 1 one) ∙ more))
          ]

  -- pin
  pub users_pinned : (key : Option NodeKey) (q : KeyId)
      → users_of (record { keys = with_pinned_key cache.keys n key; pins = with_pins cache.pins n (pins_at cache.pins n + 1) }) q ≡ users_of cache q + one_for (coming cache n key) q
  users_pinned key q =
      let new : Cache = record { keys = with_pinned_key cache.keys n key; pins = with_pins cache.pins n (pins_at cache.pins n + 1) } in
      let moved = users_moved cache new n (λ x apart. (given_apart key x apart, ap (λ c. eqb c 0) (pins_apart (pins_at cache.pins n + 1) x apart))) q in
      let pinned : is_unpinned new n ≡ false = ap (λ c. eqb c 0) (pins_here (pins_at cache.pins n + 1)) ∙ not_none (pins_at cache.pins n) in
      let is : one_for (user_at new n) q ≡ one_for (option_map (λ k. k.id) (option_or (key_at cache n) key)) q = λ i. one_for (cond (pinned i) None (option_map (λ (k : NodeKey). k.id) (given_here key i))) q in
      let split = parts (is_unpinned cache n) (key_at cache n) key in
      omega arith
    where
      not_none : (count : ℕ) → eqb (count + 1) 0 ≡ false
      not_none count = elim (cases_Bool (eqb (count + 1) 0)) [
        | inl zero ↦ let is : count + 1 ≡ 0 = eqb-true (count + 1) 0 zero in absurd (omega arith)
        | inr other ↦ other
      ]

      parts : (free : Bool) (o key : Option NodeKey) → one_for (cond free None (option_map (λ k. k.id) o)) q
          + one_for (cond (is_some (cond free None (option_map (λ (k : NodeKey). k.id) o))) None (cond (is_some (option_map (λ (k : NodeKey). k.id) o)) (option_map (λ k. k.id) o) (option_map (λ k. k.id) key))) q
          ≡ one_for (option_map (λ k. k.id) (option_or o key)) q
      parts true None key = omega arith
      parts true (Some k) key = omega arith
      parts false None key = omega arith
      parts false (Some k) key = omega arith

module _ (cache : Cache) where
  -- evictions
  pub users_stay : (t : ℕ → Bool) → ((x : ℕ) → is_unpinned cache x ≡ false → t x ≡ true) → (q : KeyId) → users_of (record cache { keys = map.retain_keys cache.keys t }) q ≡ users_of cache q
  users_stay t stays q = ap map.len (same_map nat_cmp_total nat_cmp-IsAntisymmetric _ _ (λ x.
      get-part nat_cmp_total nat_cmp-IsAntisymmetric (map.retain_keys cache.keys t) (counts_for (record cache { keys = map.retain_keys cache.keys t }) q) x
      ∙ (elim (cases_Bool (is_unpinned cache x)) [
        | inl free ↦ ap (λ b. cond (not b && has_id (record cache { keys = map.retain_keys cache.keys t }) q x) (map.get (map.retain_keys cache.keys t) x) None) free
            ∙ sym (ap (λ b. cond (not b && has_id cache q x) (key_at cache x) None) free)
        | inr pinned ↦ ap (λ o. cond (not (is_unpinned cache x) && option_map_or (λ (k : NodeKey). same_id k.id q) o false) o None)
            (get-part nat_cmp_total nat_cmp-IsAntisymmetric cache.keys t x ∙ cond-true (t x) _ None (stays x pinned))
      ]
      ∙ sym (get-part nat_cmp_total nat_cmp-IsAntisymmetric cache.keys (counts_for cache q) x))))

  -- a node with pins and a key is a user
  pub one_user : (n : ℕ) (key : NodeKey) → is_unpinned cache n ≡ false → key_at cache n ≡ Some key → 0 < users_of cache key.id
  one_user n key pinned there =
      let less = users_dropped cache n key.id in
      let one : one_for (user_at cache n) key.id ≡ 1 = (λ i. one_for (cond (pinned i) None (option_map (λ (k : NodeKey). k.id) (there i))) key.id) ∙ ap (λ b. cond b 1 0) (same_id-refl key.id) in
      omega arith

  -- and if there is a user, there is such a node
  pub some_user : (id : KeyId) → 0 < users_of cache id → (n : ℕ) × ((is_unpinned cache n ≡ false) × ((key : NodeKey) × ((key_at cache n ≡ Some key) × (key.id ≡ id))))
  some_user id some =
      let one = some_entry (map.retain_keys cache.keys (counts_for cache id)) some in
      (one.0, at (is_unpinned cache one.0) (key_at cache one.0) one.1.0 (sym (get-part nat_cmp_total nat_cmp-IsAntisymmetric cache.keys (counts_for cache id) one.0) ∙ one.1.1))
    where
      at : (free : Bool) (o : Option NodeKey) (key : NodeKey) → cond (not free && option_map_or (λ k. same_id k.id id) o false) o None ≡ Some key
          → (free ≡ false) × ((k : NodeKey) × ((o ≡ Some k) × (k.id ≡ id)))
      at true o key bad = absurd (true≢false (sym (ap is_some bad)))
      at false None key bad = absurd (true≢false (sym (ap is_some bad)))
      at false (Some k) key is = (refl, (k, (refl, by_test (same_id k.id id) refl is)))
        where
          by_test : (b : Bool) → same_id k.id id ≡ b → cond b (Some k) None ≡ Some key → k.id ≡ id
          by_test true same is = same_id-eq k.id id same
          by_test false other bad = absurd (true≢false (sym (ap is_some bad)))

-- nothing cached
pub users_none : (q : KeyId) → users_of (record { keys = map.empty; pins = map.empty }) q ≡ 0
users_none q = ap map.len (same_map nat_cmp_total nat_cmp-IsAntisymmetric _ map.empty (λ x.
    get-part nat_cmp_total nat_cmp-IsAntisymmetric map.empty (counts_for (record { keys = map.empty; pins = map.empty }) q) x
    ∙ (ap (λ o. cond (counts_for (record { keys = map.empty; pins = map.empty }) q x) o None) (get-empty nat_cmp x) ∙ (neither (counts_for (record { keys = map.empty; pins = map.empty }) q x) None ∙ sym (get-empty nat_cmp x)))))
    ∙ map.len-empty nat_cmp NodeKey

pub first_counted : (users : Users) (keys : List (ℕ × KeyBox)) (pins : List (ℕ × ℕ)) → users.counts.entries ≡ [] → keys ≡ [] → pins ≡ []
    → AreCounted users (users_of (record { keys = keys_of keys; pins = pins_in pins }))
first_counted users keys pins empty no_keys no_pins whole q =
    ap (lookup (eq_by_cmp id_cmp q)) empty
    ∙ sym (ap count_or_none ((λ i. users_of (record { keys = keys_of (no_keys i); pins = pins_in (no_pins i) }) q) ∙ users_none q))

-- counts of equal numbers
pub counted_alike : (users : Users) (f g : KeyId → ℕ) → AreCounted users f → ((q : KeyId) → g q ≡ f q) → AreCounted users g
counted_alike users f g kept same whole q = kept whole q ∙ ap count_or_none (sym (same q))

-- a node with pins becomes no user if no key is cached
pub none_comes : (cache : Cache) (n : ℕ) (key : Option NodeKey) → is_unpinned cache n ≡ false → (is_some (key_at cache n) || is_none key) ≡ true → is_none (coming cache n key) ≡ true
none_comes cache n key pinned no_key = at (is_unpinned cache n) pinned (key_at cache n) key no_key
  where
    at : (free : Bool) → free ≡ false → (o key : Option NodeKey) → (is_some o || is_none key) ≡ true
        → is_none (cond (is_some (cond free None (option_map (λ (k : NodeKey). k.id) o))) None (cond (is_some (option_map (λ (k : NodeKey). k.id) o)) (option_map (λ k. k.id) o) (option_map (λ k. k.id) key))) ≡ true
    at true bad o key no_key = absurd (true≢false bad)
    at false free (Some k) key no_key = refl
    at false free None None no_key = refl
    at false free None (Some k) bad = absurd (true≢false (sym bad))

-- a node counts for its key's identifier if it has pins
pub user_pinned : (cache : Cache) (n : ℕ) → is_unpinned cache n ≡ false → user_at cache n ≡ id_at cache n
user_pinned cache n pinned = ap (λ b. cond b None (id_at cache n)) pinned

pub has_key : (cache : Cache) (n : ℕ) (id : KeyId) → id_at cache n ≡ Some id → is_some (key_at cache n) ≡ true
has_key cache n id is = at (key_at cache n) (ap is_some is)
  where
    at : (o : Option NodeKey) → is_some (option_map (λ k. k.id) o) ≡ true → is_some o ≡ true
    at None bad = bad
    at (Some k) there = refl

-- ---- results

pub on_ok : {T E P Q : Type 0} (r : Result T E) → (P → Q) → OnOk r P → OnOk r Q
on_ok (Ok x) f p = f p
on_ok (Err e) f p = tt

pub from_ok : {T E P : Type 0} (r : Result T E) → IsOk r → OnOk r P → P
from_ok (Ok x) ok p = p
from_ok (Err e) bad p = absurd (true≢false (sym bad))

pub not_both : {T E : Type 0} (r : Result T E) → is_err r ≡ true → IsOk r → false ≡ true
not_both (Ok x) bad ok = bad
not_both (Err e) failed bad = bad

pub either : {T E P Q : Type 0} (r : Result T E) → OnOk r P → OnErr r Q → P ⊎ Q
either (Ok x) p q = inl p
either (Err e) p q = inr q
