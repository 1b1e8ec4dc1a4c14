-- What must be forgotten rests on the contexts and kinds of nodes with a key or a handle, and so do the
-- cached keys of the mount.
use Rattle.std.proofs.Common.{◌≡◌, ℕ, Bool, true, false, cond, ◌&&◌, ◌||◌, [], ◌∷◌, Some, is_some, refl, sym, ap, ◌∙◌, arith}
use Rattle.std.proofs.lemmas.Bool.{eq-eqb}
use Rattle.std.proofs.lemmas.List.Sums.{sum_by-cons}
use Rattle.number_map.specs.Numbered.{get}
use Rattle.user_claims.specs.Claims.{ClaimSet}
use Rattle.key_ring.specs.Modes.{Modes}
use Rattle.inode_refs.specs.CacheMaps.{Cache, key_at}
use Rattle.inode_refs.specs.declared.node_key.NodeKey.{NodeKey}
use Rattle.disk_tree.specs.DiskTree.{Disk}
use Rattle.plain_tree.specs.Nodes.{Nodes}
use Rattle.plain_tree.specs.NodesByNumber.{context_at}
use Rattle.mount_model.specs.declared.handle.Handle.{Handle}
use Rattle.mount_model.specs.PlainMount.{PlainMount, HandleList}
use Rattle.mount_model.specs.OpenHandles.{has_handle}
use Rattle.mount_model.specs.Sealed.{node_key}
use Rattle.mount_state.specs.Contexts.{context_on_disk, has_own, has_shared, uses_mode}
use Rattle.mount_state.specs.StoredKinds.{kind_on_disk, same_kind, is_of_kind}
use Rattle.mount_state.specs.Discipline.{Forgets}
use Rattle.mount_state.specs.Handles.{users}
use Rattle.mount_state.specs.CachedKeys.{RepresentsCaches, plain_kind}

-- ---- users of nodes that have handles

abbrev counts_one : (ℕ → Bool) → Handle → ℕ
counts_one test h = cond (test h.node) 1 0

or_right : (b c : Bool) → c ≡ true → (b || c) ≡ true
or_right true c is = refl
or_right false c is = is

pub users_alike : (p q : ℕ → Bool) (live : HandleList) → ((n : ℕ) → has_handle live n ≡ true → p n ≡ q n) → users p live ≡ users q live
users_alike p q [] same = refl
users_alike p q (h ∷ hs) same =
    let first = sum_by-cons (counts_one p) h hs in
    let second = sum_by-cons (counts_one q) h hs in
    let one : counts_one p h ≡ counts_one q h = ap (λ b. cond b 1 0) (same h.node (ap (λ b. b || has_handle hs h.node) (eq-eqb h.node h.node refl))) in
    let rest : users p hs ≡ users q hs = users_alike p q hs (λ n held. same n (or_right _ (has_handle hs n) held)) in
    omega arith

-- ---- the rule

-- a node with a cached key, or with a handle
abbrev pub IsHeld : Cache → HandleList → ℕ → Type 0
IsHeld cache live n = (is_some (key_at cache n) || has_handle live n) ≡ true

pub record HeldAlike (old new : Disk) (cache : Cache) (live : HandleList) : Type 0 where
  pub contexts : (n : ℕ) → IsHeld cache live n → context_on_disk (get new n) ≡ context_on_disk (get old n)
  pub kinds : (n : ℕ) → IsHeld cache live n → kind_on_disk (get new n) ≡ kind_on_disk (get old n)

pub by_key : (cache : Cache) (live : HandleList) (n : ℕ) (key : NodeKey) → key_at cache n ≡ Some key → IsHeld cache live n
by_key cache live n key there = ap (λ o. is_some o || has_handle live n) there

pub by_handle : (cache : Cache) (live : HandleList) (n : ℕ) → has_handle live n ≡ true → IsHeld cache live n
by_handle cache live n held = or_right (is_some (key_at cache n)) (has_handle live n) held

pub rule_alike : (old new : Disk) (claims : ClaimSet) (cache : Cache) (modes : Modes) (live : HandleList)
    → HeldAlike old new cache live → Forgets old claims cache modes live → Forgets new claims cache modes live
rule_alike old new claims cache modes live alike rule = record {
  file_keys = record {
    named = λ n key there. ap (has_own key.id) (alike.contexts n (by_key cache live n key there)) ∙ rule.file_keys.named n key there;
    kind = λ n key there. ap (λ k. is_of_kind k key.key) (alike.kinds n (by_key cache live n key there)) ∙ rule.file_keys.kind n key there;
    kept = λ n id uses held. rule.file_keys.kept n id (sym (ap (has_own id) (alike.contexts n (by_handle cache live n held))) ∙ uses) held;
    forgotten = rule.file_keys.forgotten;
  };
  mode_keys = record {
    counted = λ id kind.
        rule.mode_keys.counted id kind
        ∙ users_alike (uses_mode old id kind) (uses_mode new id kind) live (λ n held.
        let held_n = by_handle cache live n held in
        sym (λ i. has_shared id (alike.contexts n held_n i) && same_kind kind (alike.kinds n held_n i)));
    kind = rule.mode_keys.kind;
  };
  pins = rule.pins;
}

-- ---- the cached keys

-- the nodes with cached keys have the contexts and kinds that they had
pub record CachedAlike (cache : Cache) (old new : Nodes) : Type 0 where
  pub contexts : (n : ℕ) (key : NodeKey) → key_at cache n ≡ Some key → context_at new n ≡ context_at old n
  pub kinds : (n : ℕ) (key : NodeKey) → key_at cache n ≡ Some key → plain_kind (get new n) ≡ plain_kind (get old n)

pub caches_alike : (cache : Cache) (modes : Modes) (m : PlainMount) (new : Nodes) (next : ℕ) → CachedAlike cache m.nodes new
    → RepresentsCaches cache modes m → RepresentsCaches cache modes (record m { nodes = new; next = next })
caches_alike cache modes m new next alike stand = record {
  file_keys = λ n key c there under.
      stand.file_keys n key c there (sym (alike.contexts n key there) ∙ under)
      ∙ ap (node_key m.raws c) (sym (alike.kinds n key there));
  mode_keys = stand.mode_keys;
}

-- fewer cached keys
pub fewer_stand : (old new : Cache) (modes : Modes) (m : PlainMount) → ((n : ℕ) (key : NodeKey) → key_at new n ≡ Some key → key_at old n ≡ Some key)
    → RepresentsCaches old modes m → RepresentsCaches new modes m
fewer_stand old new modes m fewer stand = record {
  file_keys = λ n key c there. stand.file_keys n key c (fewer n key there);
  mode_keys = stand.mode_keys;
}
