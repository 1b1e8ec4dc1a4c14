-- What the calls leave, and what is cached then whatever its order.
use Rattle.std.proofs.Common.{◌≡◌, ◌<◌, ◌≤◌, ℕ, ◌+◌, ◌-◌, Bool, true, false, cond, List, [], ◌∷◌, length, take, Contains, Option, Some, None, nat_eq, bytes_eq, ◌&&◌, not, option_map, inl, inr, refl, sym, ap, subst, ◌∙◌, zero, suc, arith}
use Rattle.std.specs.List.{filter, find, IsDistinct}
use Rattle.std.specs.Map.{lookup, lookup_entry, remove_entry, keys_of}
use Rattle.std.specs.Option.{option_map_or}
use Rattle.std.proofs.lemmas.Bool.{eqb-true, eq-eqb}
use Rattle.std.proofs.lemmas.List.{length-take}
use Rattle.std.proofs.lemmas.Slice.Eq.{bytes_eq-Decides}
use Rattle.lru.specs.LruCache.{LruCache, lru_cache, put_entries}
use Rattle.lru.proofs.Splits.{Contains-cons}
pub use Rattle.lru.proofs.Splits.{Contains-nil}
use Rattle.lru.proofs.CallerLemmas.{Contains-promoted, Contains-remove_entry, Contains-take}
pub use Rattle.lru.proofs.CallerLemmas.{Contains-lookup, Contains-lookup_entry}
use Rattle.dentry_cache.specs.declared.key.NameKey.{NameKey}
use Rattle.dentry_cache.specs.declared.limits.TheConstants.{MAX_CACHED_NAMES}
use Rattle.dentry_cache.specs.Names.{Pair, NameList, key_of, is_name, is_in, is_elsewhere, cached_node}
use Rattle.dentry_cache.specs.HeldNames.{HoldsNoMore, HoldsBeside, HoldsNone, HoldsNoneIn}
use Rattle.dentry_cache.specs.NameChanges.{with_used_name, with_cached_name, without_cached_name, without_dir}
use Rattle.dentry_cache.proofs.PairLemmas.{promoted_found, removed_none, removed_one, removed_all, filter_removed, filter_none, found_there, filter_contains, lookup_there}

-- ---- keys

abbrev pub same_key : NameKey → NameKey → Bool
same_key a b = is_name a.dir a.name b

both : (a b : Bool) → (a && b) ≡ true → (a ≡ true) × (b ≡ true)
both true b is = (refl, is)
both false b is = absurd (cc)

pub itself : (dir : ℕ) (name : List ℕ) → is_name dir name (key_of dir name) ≡ true
itself dir name = ap (λ b. b && bytes_eq name name) (eq-eqb dir dir refl) ∙ (bytes_eq-Decides name name).1 refl

pub same_name : (dir : ℕ) (name : List ℕ) (key : NameKey) → is_name dir name key ≡ true → key_of dir name ≡ key
same_name dir name key is =
    let parts = both (nat_eq dir key.dir) (bytes_eq name key.name) is in
    let dirs : dir ≡ key.dir = eqb-true dir key.dir parts.0 in
    let names : name ≡ key.name = (bytes_eq-Decides name key.name).0 parts.1 in
    λ i. record { dir = dirs i; name = names i }

pub one_key : (dir : ℕ) (name : List ℕ) (x y : NameKey) → is_name dir name x ≡ true → is_name dir name y ≡ same_key x y
one_key dir name x y is = ap (λ (k : NameKey). is_name k.dir k.name y) (same_name dir name x is)

-- a name of another directory is none of this one
in_dir : (dir : ℕ) (name : List ℕ) (pair : Pair) → is_name dir name pair.0 ≡ true → is_in dir pair ≡ true
in_dir dir name pair is = ap (λ (k : NameKey). nat_eq k.dir dir) (sym (same_name dir name pair.0 is)) ∙ eq-eqb dir dir refl

-- ---- find

pub used_no_more : (old new : NameList) (dir : ℕ) (name : List ℕ) → new ≡ with_used_name old dir name → HoldsNoMore old new
used_no_more old new dir name is = λ pair held.
    Contains-promoted (is_name dir name) old.pairs pair (subst (λ (n : NameList). Contains n.pairs pair) is held)

pub used_stays : (old new : NameList) (dir : ℕ) (name : List ℕ) → new ≡ with_used_name old dir name → cached_node new dir name ≡ cached_node old dir name
used_stays old new dir name is = ap (λ (n : NameList). cached_node n dir name) is ∙ promoted_found (is_name dir name) old.pairs

-- ---- caching

take_all : (n : ℕ) (es : List Pair) → length es ≤ n → take n es ≡ es
take_all n [] few = take_none n
  where
    take_none : (n : ℕ) → take {A = Pair} n [] ≡ []
    take_none zero = refl
    take_none (suc n) = refl
take_all zero (e ∷ es) few = absurd (omega arith)
take_all (suc n) (e ∷ es) few = ap (λ (rest : List Pair). e ∷ rest) (take_all n es (omega arith))

-- what the list of pairs makes of it
pub put_is : (pairs : List Pair) (dir : ℕ) (name : List ℕ) (number : ℕ) → length pairs ≤ MAX_CACHED_NAMES
    → put_entries same_key (lru_cache pairs MAX_CACHED_NAMES) (key_of dir name) number
    ≡ (key_of dir name, number) ∷ take (MAX_CACHED_NAMES - 1) (remove_entry (is_name dir name) pairs)
put_is pairs dir name number few = at_found (lookup_entry (is_name dir name) pairs) refl
  where
    at_found : (o : Option Pair) → lookup_entry (is_name dir name) pairs ≡ o
        → option_map_or (λ (e : Pair). (e.0, number) ∷ remove_entry (is_name dir name) pairs) o
        ((key_of dir name, number) ∷ take (MAX_CACHED_NAMES - 1) pairs)
        ≡ (key_of dir name, number) ∷ take (MAX_CACHED_NAMES - 1) (remove_entry (is_name dir name) pairs)
    at_found None none =
        ap (λ (es : List Pair). (key_of dir name, number) ∷ take (MAX_CACHED_NAMES - 1) es) (sym (removed_none (is_name dir name) pairs none))
    at_found (Some e) found =
        let key : key_of dir name ≡ e.0 = same_name dir name e.0 (Contains-lookup_entry (is_name dir name) pairs e found).1 in
        let less : length (remove_entry (is_name dir name) pairs) + 1 ≡ length pairs = removed_one (is_name dir name) pairs e found in
        let all : take (MAX_CACHED_NAMES - 1) (remove_entry (is_name dir name) pairs) ≡ remove_entry (is_name dir name) pairs
        = take_all (MAX_CACHED_NAMES - 1) (remove_entry (is_name dir name) pairs) (omega arith) in
        ap (λ k. (k, number) ∷ remove_entry (is_name dir name) pairs) (sym key) ∙ ap (λ (es : List Pair). (key_of dir name, number) ∷ es) (sym all)

pub kept_is : (old : NameList) (before after : LruCache NameKey ℕ) (refused dir : ℕ) (name : List ℕ) (number : ℕ) (key : NameKey)
    → (let n : NameList = record { pairs = before.entries; refused = refused } in n) ≡ old → before.cap ≡ MAX_CACHED_NAMES
    → length before.entries ≤ before.cap → key ≡ key_of dir name
    → after ≡ lru_cache (put_entries same_key before key number) before.cap
    → (let n : NameList = record { pairs = after.entries; refused = refused } in n) ≡ with_cached_name old dir name number
kept_is old before after refused dir name number key view cap few is_key put =
    let at_cap : before ≡ lru_cache before.entries MAX_CACHED_NAMES = λ i. record { entries = before.entries; cap = cap i } in
    let entries : after.entries ≡ put_entries same_key (lru_cache before.entries MAX_CACHED_NAMES) (key_of dir name) number
    = ap (λ (l : LruCache NameKey ℕ). l.entries) put
    ∙ ap (λ (l : LruCache NameKey ℕ). put_entries same_key l key number) at_cap
    ∙ ap (λ k. put_entries same_key (lru_cache before.entries MAX_CACHED_NAMES) k number) is_key in
    let pairs : after.entries ≡ (key_of dir name, number) ∷ take (MAX_CACHED_NAMES - 1) (remove_entry (is_name dir name) before.entries)
    = entries ∙ put_is before.entries dir name number (subst (λ n. length before.entries ≤ n) cap few) in
    let there : (let n : NameList = record { pairs = after.entries; refused = refused } in n)
    ≡ with_cached_name (record { pairs = before.entries; refused = refused }) dir name number
    = λ i. record { pairs = pairs i; refused = refused } in
    there ∙ ap (λ (n : NameList). with_cached_name n dir name number) view

pub kept_found : (old new : NameList) (dir : ℕ) (name : List ℕ) (number : ℕ) → new ≡ with_cached_name old dir name number → cached_node new dir name ≡ Some number
kept_found old new dir name number is =
    ap (λ (n : NameList). cached_node n dir name) is
    ∙ ap (λ b. cond b (Some number) (lookup (is_name dir name) (take (MAX_CACHED_NAMES - 1) (remove_entry (is_name dir name) old.pairs)))) (itself dir name)

pub kept_beside : (old new : NameList) (dir : ℕ) (name : List ℕ) (number : ℕ) → new ≡ with_cached_name old dir name number → HoldsBeside old new (key_of dir name, number)
kept_beside old new dir name number is = λ pair held.
    elim (Contains-cons (key_of dir name, number) (take (MAX_CACHED_NAMES - 1) (remove_entry (is_name dir name) old.pairs)) pair
    (subst (λ (n : NameList). Contains n.pairs pair) is held)) [
      | inl same ↦ inr (sym same)
      | inr later ↦ inl (Contains-remove_entry (is_name dir name) old.pairs pair (Contains-take (MAX_CACHED_NAMES - 1) _ pair later))
    ]

pub kept_few : (old new : NameList) (dir : ℕ) (name : List ℕ) (number : ℕ) → new ≡ with_cached_name old dir name number → length new.pairs ≤ MAX_CACHED_NAMES
kept_few old new dir name number is =
    subst (λ (n : NameList). length n.pairs ≤ MAX_CACHED_NAMES) (sym is)
    (omega (arith, length-take (MAX_CACHED_NAMES - 1) (remove_entry (is_name dir name) old.pairs)))

-- ---- forget

pub forgotten_no_more : (old new : NameList) (dir : ℕ) (name : List ℕ) → new ≡ without_cached_name old dir name → HoldsNoMore old new
forgotten_no_more old new dir name is = λ pair held.
    Contains-remove_entry (is_name dir name) old.pairs pair (subst (λ (n : NameList). Contains n.pairs pair) is held)

pub forgotten_none : (old new : NameList) (dir : ℕ) (name : List ℕ) → IsDistinct same_key (keys_of old.pairs) → new ≡ without_cached_name old dir name
    → HoldsNone new dir name
forgotten_none old new dir name apart is = λ pair held.
    removed_all (is_name dir name) same_key (one_key dir name) old.pairs apart pair (subst (λ (n : NameList). Contains n.pairs pair) is held)

-- ---- forget_dir

pub dir_no_more : (old new : NameList) (dir : ℕ) → new ≡ without_dir old dir → HoldsNoMore old new
dir_no_more old new dir is = λ pair held.
    (filter_contains (is_elsewhere dir) old.pairs pair (subst (λ (n : NameList). Contains n.pairs pair) is held)).0

not_true : (b : Bool) → not b ≡ true → b ≡ false
not_true true is = absurd (cc)
not_true false is = refl

pub dir_none : (old new : NameList) (dir : ℕ) → new ≡ without_dir old dir → HoldsNoneIn new dir
dir_none old new dir is = λ pair held.
    not_true (is_in dir pair) (filter_contains (is_elsewhere dir) old.pairs pair (subst (λ (n : NameList). Contains n.pairs pair) is held)).1

-- the name of the first pair that is of the directory
abbrev pub first_in : ℕ → NameList → Option NameKey
first_in dir names = option_map (λ (pair : Pair). pair.0) (find (is_in dir) names.pairs)

none_first : (o : Option Pair) → option_map (λ (pair : Pair). pair.0) o ≡ None → o ≡ None
none_first None is = refl
none_first (Some pair) is = absurd (cc)

some_first : (o : Option Pair) (key : NameKey) → option_map (λ (pair : Pair). pair.0) o ≡ Some key → (number : ℕ) × (o ≡ Some (key, number))
some_first None key is = absurd (cc)
some_first (Some pair) key is = let same : pair.0 ≡ key = cc in (pair.1, ap (λ k. Some (k, pair.1)) same)

-- once no name of the directory is first, none is left
pub dir_done : (old new : NameList) (dir : ℕ) → first_in dir new ≡ None
    → filter (is_elsewhere dir) new.pairs ≡ filter (is_elsewhere dir) old.pairs → new.refused ≡ old.refused → new ≡ without_dir old dir
dir_done old new dir none same refused =
    let all : new.pairs ≡ filter (is_elsewhere dir) old.pairs
    = sym (filter_none (is_in dir) new.pairs (none_first (find (is_in dir) new.pairs) none)) ∙ same in
    λ i. record { pairs = all i; refused = refused i }

-- the first one goes: those of other directories stay, and there are fewer
pub dir_step : (old new : NameList) (dir : ℕ) (key : NameKey) → first_in dir old ≡ Some key → new ≡ without_cached_name old key.dir key.name
    → (filter (is_elsewhere dir) new.pairs ≡ filter (is_elsewhere dir) old.pairs) × (length new.pairs < length old.pairs)
dir_step old new dir key first is =
    let found = some_first (find (is_in dir) old.pairs) key first in
    let there = found_there (is_in dir) old.pairs (key, found.0) found.1 in
    let at : key.dir ≡ dir = eqb-true key.dir dir there.1 in
    let entry = lookup_there (is_name key.dir key.name) old.pairs (key, found.0) there.0 (itself key.dir key.name) in
    let less : length (remove_entry (is_name key.dir key.name) old.pairs) + 1 ≡ length old.pairs
    = removed_one (is_name key.dir key.name) old.pairs entry.0 entry.1 in
    let pairs : new.pairs ≡ remove_entry (is_name key.dir key.name) old.pairs = ap (λ (n : NameList). n.pairs) is in
    let lengths : length new.pairs ≡ length (remove_entry (is_name key.dir key.name) old.pairs) = ap (λ (es : List Pair). length es) pairs in (
      ap (filter (is_elsewhere dir)) pairs
          ∙ filter_removed (is_name key.dir key.name) (is_elsewhere dir)
          (λ e same. ap not (ap (λ d. is_in d e) (sym at) ∙ in_dir key.dir key.name e same)) old.pairs,
      omega arith,
    )

-- ---- forget_all

pub none_held : (names : NameList) → names.pairs ≡ [] → (pair : Pair) → Contains names.pairs pair → ⊥
none_held names none pair held = Contains-nil pair (subst (λ (pairs : List Pair). Contains pairs pair) none held)
