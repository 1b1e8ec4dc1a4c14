-- Caching a directory's own key preserves the rule, and what the state represents.
use Rattle.std.proofs.Common.{◌≡◌, ℕ, ◌&&◌, ◌||◌, not, true, false, cond, ◌⊎◌, List, [], length, take, drop, Option, Some, None, option_map, is_some, Result, Ok, Err, OnOk, OnErr, inl, inr, refl, sym, ap, subst, ◌∙◌}
use Rattle.std.specs.Option.{unwrap_or}
use Rattle.std.proofs.lemmas.Bool.{cases_eq}
use Rattle.policy_ctx.specs.declared.policy.KeyId.{KeyId}
use Rattle.policy_ctx.specs.declared.policy.Context.{Context}
use Rattle.policy_ctx.specs.KeyIds.{same_id}
use Rattle.policy_ctx.specs.Context.{context_bytes}
use Rattle.policy_ctx.proofs.Encodings.{policy_bytes-injective, take-context_bytes, drop-context_bytes, id_in-context_bytes, is_by_mode_in-context_bytes}
use Rattle.policy_ctx.proofs.KeyIdLemmas.{same_id-refl}
use Rattle.fsc_keys.specs.declared.file_keys.KeyKind.TheVariants.{Names}
use Rattle.fsc_keys.specs.declared.file_keys.FileKey.{FileKey}
use Rattle.fsc_keys.specs.Keys.{mode_key_of, file_key_of}
use Rattle.number_map.specs.Numbered.{get, insert}
use Rattle.number_map.proofs.NumberedLemmas.{insert_here, insert_other}
use Rattle.user_claims.specs.Claims.{ClaimSet}
use Rattle.user_claims.specs.ClaimCounts.{is_present}
use Rattle.key_ring.specs.Modes.{Modes}
use Rattle.inode_refs.specs.CacheMaps.{Cache, key_at}
use Rattle.inode_refs.specs.declared.node_key.NodeKey.{NodeKey}
use Rattle.disk_tree.specs.DiskTree.{Disk, IsDirAt, of_node}
use Rattle.disk_tree.specs.Nodes.{IsDir}
use Rattle.disk_tree.specs.declared.node.StoredNode.{StoredNode}
use Rattle.disk_tree.specs.declared.node.Body.{Body}
use Rattle.disk_tree.specs.declared.node.Body.TheVariants.{Dir, File, Link}
use Rattle.plain_tree.specs.Nodes as plain
use Rattle.plain_tree.specs.Nodes.{Node}
use Rattle.plain_tree.specs.NodesByNumber.{context_at}
use Rattle.mount_model.specs.PlainMount.{PlainMount, Raws, HandleList, raw_in}
use Rattle.mount_model.specs.OpenHandles.{has_handle}
use Rattle.mount_model.specs.Sealed.{raw_for, node_key}
use Rattle.mount_state.specs.Contexts as disk
use Rattle.mount_state.specs.Contexts.{has_own, uses_own}
use Rattle.mount_state.specs.StoredKinds.{disk_kind_of, kind_on_disk, is_of_kind}
use Rattle.mount_state.specs.Discipline.{Forgets}
use Rattle.mount_model.specs.WellFormed.{IsWellFormed}
use Rattle.mount_state.specs.Stored.{stored_node}
use Rattle.mount_state.specs.Represents.{RepresentsTree}
use Rattle.mount_state.specs.CachedKeys.{RepresentsCaches, plain_kind}
use Rattle.mount_state.proofs.StandLemmas.{context_is}
use Rattle.mount_state.proofs.ContextLemmas.{id_sized}

-- the cache with this key of the node
abbrev pub with_key : Cache → ℕ → KeyId → FileKey → Cache
with_key cache node id key = record cache { keys = insert cache.keys node (record { id = id; key = key }) }

same_key : (a b : NodeKey) → Some a ≡ Some b → a ≡ b
same_key a b is = cc

module _ (cache : Cache) (node : ℕ) (id : KeyId) (key : FileKey) where
  here : key_at (with_key cache node id key) node ≡ Some (record { id = id; key = key })
  here = insert_here cache.keys node (record { id = id; key = key })

  -- what holds of each cached key, and of the new one
  each_cached : (P : ℕ → NodeKey → Type 0) → ((n : ℕ) (k : NodeKey) → key_at cache n ≡ Some k → P n k) → P node (record { id = id; key = key })
      → (n : ℕ) (k : NodeKey) → key_at (with_key cache node id key) n ≡ Some k → P n k
  each_cached P old fresh n k is = elim (cases_eq n node) [
    | inl same ↦
        let kept : record { id = id; key = key } ≡ k = same_key (record { id = id; key = key }) k (sym here ∙ ap (key_at (with_key cache node id key)) (sym same) ∙ is) in
        subst (λ x. P x k) (sym same) (subst (P node) kept fresh)
    | inr differ ↦ old n k (sym (insert_other cache.keys node (record { id = id; key = key }) n differ) ∙ is)
  ]

  still_cached : (n : ℕ) → is_some (key_at cache n) ≡ true → is_some (key_at (with_key cache node id key) n) ≡ true
  still_cached n there = elim (cases_eq n node) [
    | inl same ↦ ap is_some (ap (key_at (with_key cache node id key)) same ∙ here)
    | inr differ ↦ ap is_some (insert_other cache.keys node (record { id = id; key = key }) n differ) ∙ there
  ]

  pub kept_rule : (on_disk : Disk) (claims : ClaimSet) (modes : Modes) (live : HandleList) → Forgets on_disk claims cache modes live
      → uses_own on_disk node id ≡ true → is_of_kind (kind_on_disk (get on_disk node)) key ≡ true → is_present claims id ≡ true
      → Forgets on_disk claims (with_key cache node id key) modes live
  kept_rule on_disk claims modes live rule own kind present = record {
    file_keys = record {
      named = each_cached (λ n k. uses_own on_disk n k.id ≡ true) rule.file_keys.named own;
      kind = each_cached (λ n k. is_of_kind (kind_on_disk (get on_disk n)) k.key ≡ true) rule.file_keys.kind kind;
      kept = λ n other uses held. still_cached n (rule.file_keys.kept n other uses held);
      forgotten = each_cached (λ n k. (is_present claims k.id || has_handle live n) ≡ true) rule.file_keys.forgotten
          (ap (λ b. b || has_handle live node) present);
    };
    mode_keys = rule.mode_keys;
    pins = record { pinned = rule.pins.pinned; few = rule.pins.few };
  }

  pub kept_stand : (modes : Modes) (m : PlainMount) → RepresentsCaches cache modes m
      → ((c : Context) → context_at m.nodes node ≡ Some c → key ≡ node_key m.raws c (plain_kind (get m.nodes node)))
      → RepresentsCaches (with_key cache node id key) modes m
  kept_stand modes m stand fresh = record {
    file_keys = λ n k c is under.
        each_cached (λ x y. (d : Context) → context_at m.nodes x ≡ Some d → y.key ≡ node_key m.raws d (plain_kind (get m.nodes x)))
        (λ x y there d at. stand.file_keys x y d there at) fresh n k is c under;
    mode_keys = stand.mode_keys;
  }

-- ---- what a directory's own key is

own_of : (c : Context) → length c.policy.id.0 ≡ 16 → c.policy.by_mode ≡ false → has_own c.policy.id (Some (context_bytes c)) ≡ true
own_of c size own =
    λ i. (ap (λ (k : KeyId). same_id k c.policy.id) (id_in-context_bytes c size) ∙ same_id-refl c.policy.id) i
    && not ((is_by_mode_in-context_bytes c ∙ own) i)

pub own_there : (on_disk : Disk) (node : ℕ) (c : Context) → disk.context_on_disk (get on_disk node) ≡ Some (context_bytes c) → length c.policy.id.0 ≡ 16
    → c.policy.by_mode ≡ false → uses_own on_disk node c.policy.id ≡ true
own_there on_disk node c there size own = ap (has_own c.policy.id) there ∙ own_of c size own

pub dir_kind : (o : Option StoredNode) → of_node ⊥ (λ node. IsDir node.body) o → kind_on_disk o ≡ Names
dir_kind None bad = absurd bad
dir_kind (Some v) is = of_body v.body is
  where
    of_body : (body : Body) → IsDir body → disk_kind_of body ≡ Names
    of_body (Dir entries) is = refl
    of_body (File blocks size) is = absurd is
    of_body (Link target) is = refl

pub names_kind : (on_disk : Disk) (node : ℕ) → IsDirAt on_disk node → (raw nonce : List ℕ) → is_of_kind (kind_on_disk (get on_disk node)) (file_key_of raw Names nonce) ≡ true
names_kind on_disk node dir raw nonce = ap (λ kind. is_of_kind kind (file_key_of raw Names nonce)) (dir_kind (get on_disk node) dir)

-- ---- it is the key of the mount's node

same_kind_in : (raws : Raws) (node : ℕ) (o : Option Node) → kind_on_disk (option_map (stored_node raws node) o) ≡ plain_kind o
same_kind_in raws node None = refl
same_kind_in raws node (Some v) = of_body v.body
  where
    of_body : (body : plain.Body) → kind_on_disk (Some (stored_node raws node (record v { body = body }))) ≡ plain_kind (Some (record v { body = body }))
    of_body (plain.Dir entries) = refl
    of_body (plain.File contents) = refl
    of_body (plain.Link target) = refl

same_bytes : (a b : List ℕ) → Some a ≡ Some b → a ≡ b
same_bytes a b is = cc

same_context : (a b : Context) → length a.policy.id.0 ≡ 16 → length b.policy.id.0 ≡ 16 → context_bytes a ≡ context_bytes b → a ≡ b
same_context a b sized other is =
    let policies : a.policy ≡ b.policy = policy_bytes-injective a.policy b.policy (sym (take-context_bytes a sized) ∙ ap (take 24) is ∙ take-context_bytes b other) in
    let nonces : a.nonce ≡ b.nonce = sym (drop-context_bytes a sized) ∙ ap (drop 24) is ∙ drop-context_bytes b other in
    λ i. record { policy = policies i; nonce = nonces i }

pub fresh_key : (on_disk : Disk) (next : ℕ) (m : PlainMount) → IsWellFormed m → RepresentsTree on_disk next m → (node : ℕ) (context : Context)
    → disk.context_on_disk (get on_disk node) ≡ Some (context_bytes context) → length context.policy.id.0 ≡ 16 → context.policy.by_mode ≡ false
    → IsDirAt on_disk node → (secret : List ℕ) → raw_in m.raws context.policy.id ≡ Some secret
    → (d : Context) → context_at m.nodes node ≡ Some d → file_key_of secret Names context.nonce ≡ node_key m.raws d (plain_kind (get m.nodes node))
fresh_key on_disk next m well tree node context there sized own dir secret added d under =
    let bytes : context_bytes context ≡ context_bytes d = same_bytes _ _ (sym there ∙ context_is on_disk next m well tree node ∙ ap (option_map context_bytes) under) in
    let same : context ≡ d = same_context context d sized (id_sized on_disk next m well tree node (get m.nodes node) refl d under) bytes in
    let kind : Names ≡ plain_kind (get m.nodes node) = sym (dir_kind (get on_disk node) dir) ∙ ap kind_on_disk (tree.nodes node) ∙ same_kind_in m.raws node (get m.nodes node) in
    ap (λ (raw : List ℕ). file_key_of raw Names context.nonce) (sym (ap (λ (o : Option (List ℕ)). unwrap_or o []) added))
    ∙ sym (ap (λ b. cond b (mode_key_of (raw_for m.raws context) Names) (file_key_of (raw_for m.raws context) Names context.nonce)) own)
    ∙ ap (λ (c : Context). node_key m.raws c Names) same
    ∙ ap (node_key m.raws d) kind

pub either_cache : {T E : Type 0} (r : Result T E) {after a b : Cache} → OnOk r (after ≡ a) → OnErr r (after ≡ b) → (after ≡ a) ⊎ (after ≡ b)
either_cache (Ok x) ok err = inl ok
either_cache (Err e) ok err = inr err
