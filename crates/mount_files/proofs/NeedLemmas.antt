-- If the node's key is available, the key that a handle on it needs is found, and is the node's.
use Rattle.std.proofs.Common.{◌≡◌, ℕ, Bool, true, false, cond, ◌&&◌, ◌||◌, List, [], drop, Option, Some, None, option_map, is_some, is_none, unwrap_or, inl, inr, refl, sym, ap, ◌∙◌, arith}
use Rattle.std.specs.Option.{option_map_or}
use Rattle.std.proofs.lemmas.Bool.{or_cases, true≢false}
use Rattle.policy_ctx.specs.declared.policy.KeyId.{KeyId}
use Rattle.policy_ctx.specs.declared.policy.Context.{Context}
use Rattle.policy_ctx.specs.KeyIds.{same_id}
use Rattle.policy_ctx.specs.Context.{id_in, is_by_mode_in, context_bytes}
use Rattle.policy_ctx.proofs.Encodings.{drop-context_bytes, id_in-context_bytes, is_by_mode_in-context_bytes}
use Rattle.fsc_keys.specs.Keys.{file_key_of, mode_key_of}
use Rattle.fsc_keys.specs.declared.file_keys.FileKey.{FileKey}
use Rattle.fsc_keys.specs.declared.file_keys.KeyKind.{KeyKind}
use Rattle.fsc_keys.specs.declared.file_keys.KeyKind.TheVariants.{Contents, Names}
use Rattle.number_map.specs.Numbered.{get, insert}
use Rattle.number_map.proofs.NumberedLemmas.{insert_here}
use Rattle.user_claims.specs.ClaimCounts.{is_present}
use Rattle.key_ring.specs.Holding.{Holding, secret_of, HoldsClaimedSecrets}
use Rattle.key_ring.specs.Modes.{Modes, of_kind, mode_at}
use Rattle.key_ring.specs.ModeUsers.{users_in}
use Rattle.key_ring.specs.declared.mode_key.ModeKey.{ModeKey}
use Rattle.inode_refs.specs.CacheMaps.{Cache, KeyMap, key_at, with_pinned_key}
use Rattle.inode_refs.specs.declared.node_key.NodeKey.{NodeKey}
use Rattle.plain_tree.specs.Nodes as plain
use Rattle.plain_tree.specs.Nodes.{Node}
use Rattle.plain_tree.specs.NodesByNumber.{context_at}
use Rattle.disk_tree.specs.DiskTree.{Disk}
use Rattle.mount_model.specs.PlainMount.{PlainMount, HandleList, raw_in}
use Rattle.mount_model.specs.OpenHandles.{has_handle}
use Rattle.mount_model.specs.Sealed.{raw_for, node_key}
use Rattle.mount_model.specs.WellFormed.{IsWellFormed}
use Rattle.mount_state.specs.Contexts.{context_on_disk, uses_own, uses_mode}
use Rattle.mount_state.specs.StoredKinds.{kind_on_disk, is_of_kind, same_kind}
use Rattle.mount_state.specs.Discipline.{Forgets}
use Rattle.mount_state.specs.KeyUse.{is_unlocked, is_unlocked_under}
use Rattle.mount_state.specs.Stored.{stored_node}
use Rattle.mount_state.specs.Represents.{RepresentsTree, RepresentsKeys}
use Rattle.mount_state.specs.CachedKeys.{plain_kind, plain_kind_of}
use Rattle.mount_state.proofs.StandLemmas.{context_is, id_sized}
use Rattle.mount_state.proofs.UserLemmas.{some_from, users_from}
use Rattle.mount_files.specs.Needs.{IsOwnNeed, IsSharedNeed}
use Rattle.mount_files.proofs.ModeCounts.{itself}
use Rattle.mount_files.proofs.ContextUses.{none_unshared, none_own, own_unshared, own_uses, shared_uses, shared_own}

-- ---- kinds

pub file_kind : (kind : KeyKind) (raw nonce : List ℕ) → is_of_kind kind (file_key_of raw kind nonce) ≡ true
file_kind Contents raw nonce = refl
file_kind Names raw nonce = refl

pub mode_kind : (kind : KeyKind) (raw : List ℕ) → is_of_kind kind (mode_key_of raw kind) ≡ true
mode_kind Contents raw = refl
mode_kind Names raw = refl

kind_lies : (disk : Disk) (next : ℕ) (m : PlainMount) → RepresentsTree disk next m → (node : ℕ) → kind_on_disk (get disk node) ≡ plain_kind (get m.nodes node)
kind_lies disk next m tree node = ap kind_on_disk (tree.nodes node) ∙ at (get m.nodes node)
  where
    of_body : (context : Option Context) (named : Bool) (b : plain.Body)
        → kind_on_disk (Some (stored_node m.raws node (record { named = named; context = context; body = b }))) ≡ plain_kind_of b
    of_body context named (plain.Dir cs) = refl
    of_body context named (plain.File contents) = refl
    of_body context named (plain.Link target) = refl

    at : (o : Option Node) → kind_on_disk (option_map (stored_node m.raws node) o) ≡ plain_kind o
    at None = refl
    at (Some v) = of_body v.context v.named v.body

-- ---- a node without a context

pub none_need : (disk : Disk) (cache : Cache) (node : ℕ) → context_on_disk (get disk node) ≡ None → IsOwnNeed disk cache node None
none_need disk cache node none = record {
  fits = tt;
  cached = λ id own. absurd (true≢false (sym own ∙ none_own disk node none id));
  unshared = none_unshared disk node none;
}

-- ---- a node with a key of its own

given_here : (keys : KeyMap) (node : ℕ) (key : NodeKey) → is_some (get (with_pinned_key keys node (Some key)) node) ≡ true
given_here keys node key = at (get keys node) refl
  where
    at : (o : Option NodeKey) → get keys node ≡ o → is_some (get (cond (is_none o) (insert keys node key) keys) node) ≡ true
    at None none = ap (λ o. is_some o) (insert_here keys node key)
    at (Some k) there = ap (λ o. is_some o) there

module _ (disk : Disk) (cache : Cache) (node : ℕ) (context : List ℕ) (there : context_on_disk (get disk node) ≡ Some context) where
  pub cached_need : is_by_mode_in context ≡ false → is_some (key_at cache node) ≡ true → IsOwnNeed disk cache node None
  cached_need own cached = record { fits = tt; cached = λ id uses. cached; unshared = own_unshared disk node context there own }

  pub drawn_need : is_by_mode_in context ≡ false → (kind : KeyKind) → kind ≡ kind_on_disk (get disk node) → (raw nonce : List ℕ) (id : KeyId) → id ≡ id_in context
      → (key : FileKey) → key ≡ file_key_of raw kind nonce → IsOwnNeed disk cache node (Some (record { id = id; key = key }))
  drawn_need own kind kind_is raw nonce id id_is key key_is = record {
    fits = (
      ap (uses_own disk node) id_is ∙ own_uses disk node context there own,
      ap (λ k. is_of_kind k key) (sym kind_is) ∙ ap (is_of_kind kind) key_is ∙ file_kind kind raw nonce,
    );
    cached = λ q uses. given_here cache.keys node (record { id = id; key = key });
    unshared = own_unshared disk node context there own;
  }

  pub shared_need_is : is_by_mode_in context ≡ true → (kind : KeyKind) → kind ≡ kind_on_disk (get disk node) → (id : KeyId) → id ≡ id_in context
      → (key : FileKey) → is_of_kind kind key ≡ true → IsSharedNeed disk node id kind key
  shared_need_is shared kind kind_is id id_is key fits = record {
    uses = λ q k. shared_uses disk node context there shared q k
        ∙ (λ i. same_id (sym id_is i) q && same_kind k (sym kind_is i));
    none = shared_own disk node context there shared;
    fits = fits;
  }

  -- ---- if the key is available

  module _ (ring : Holding) (modes : Modes) (live : HandleList) (rule : Forgets disk ring.claims cache modes live) (exact : HoldsClaimedSecrets ring)
      (keyed : is_unlocked disk ring.claims live node ≡ true) (id : KeyId) (id_is : id ≡ id_in context) where
    at_hand : (is_present ring.claims (id_in context) || has_handle live node) ≡ true
    at_hand = sym (ap (is_unlocked_under ring.claims live node) there) ∙ keyed

    secret_there : is_present ring.claims (id_in context) ≡ true → is_some (secret_of ring id) ≡ true
    secret_there present = ap (λ k. is_some (secret_of ring k)) id_is ∙ exact (id_in context) ∙ present

    pub own_secret : is_by_mode_in context ≡ false → is_some (key_at cache node) ≡ false → secret_of ring id ≡ None → ⊥
    own_secret own uncached none = elim (or_cases (is_present ring.claims (id_in context)) (has_handle live node) at_hand) [
      | inl present ↦ true≢false (sym (secret_there present) ∙ ap (λ o. is_some o) none)
      | inr held ↦ true≢false (sym (rule.file_keys.kept node (id_in context) (own_uses disk node context there own) held) ∙ uncached)
    ]

    pub shared_secret : is_by_mode_in context ≡ true → (kind : KeyKind) → kind ≡ kind_on_disk (get disk node) → mode_at modes id kind ≡ None → secret_of ring id ≡ None → ⊥
    shared_secret shared kind kind_is unheld none = elim (or_cases (is_present ring.claims (id_in context)) (has_handle live node) at_hand) [
      | inl present ↦ true≢false (sym (secret_there present) ∙ ap (λ o. is_some o) none)
      | inr held ↦
          let uses : uses_mode disk id kind node ≡ true =
          (λ i. uses_mode disk (id_is i) (kind_is i) node) ∙ shared_uses disk node context there shared (id_in context) (kind_on_disk (get disk node))
          ∙ itself (id_in context) (kind_on_disk (get disk node)) in
          let some = users_from (uses_mode disk id kind) live (some_from (uses_mode disk id kind) live node held uses) in
          let tied = rule.mode_keys.counted id kind in
          let no_users : users_in (of_kind modes kind) id ≡ 0 = ap (λ (o : Option ModeKey). option_map_or (λ mode. mode.users) o 0) unheld in
          omega arith
    ]

  -- ---- it is the key of the mount's node

  module _ (next : ℕ) (m : PlainMount) (well : IsWellFormed m) (tree : RepresentsTree disk next m) (ring : Holding) (keys : RepresentsKeys ring m) (id : KeyId) (id_is : id ≡ id_in context)
      (raw : List ℕ) (secret : secret_of ring id ≡ Some raw) where
    added : (i : KeyId) → i ≡ id → unwrap_or (raw_in m.raws i) [] ≡ raw
    added i is = ap (λ k. unwrap_or (raw_in m.raws k) []) is ∙ ap (λ (o : Option (List ℕ)). unwrap_or o []) (keys.secrets id raw secret)

    pub own_stands : is_by_mode_in context ≡ false → (kind : KeyKind) → kind ≡ kind_on_disk (get disk node) → (key : FileKey) → key ≡ file_key_of raw kind (drop 24 context)
        → (c : Context) → context_at m.nodes node ≡ Some c → key ≡ node_key m.raws c (plain_kind (get m.nodes node))
    own_stands own kind kind_is key key_is c under =
        let size = id_sized disk next m well tree node c under in
        let both : Some context ≡ Some (context_bytes c) = sym there ∙ context_is disk next m well tree node ∙ ap (option_map context_bytes) under in
        let bytes : context ≡ context_bytes c = cc in
        let same : c.policy.id ≡ id = sym (id_in-context_bytes c size) ∙ sym (id_is ∙ ap id_in bytes) in
        let nonce : drop 24 context ≡ c.nonce = ap (drop 24) bytes ∙ drop-context_bytes c size in
        let flag : c.policy.by_mode ≡ false = sym (is_by_mode_in-context_bytes c) ∙ sym (ap is_by_mode_in bytes) ∙ own in
        let kinds : kind ≡ plain_kind (get m.nodes node) = kind_is ∙ kind_lies disk next m tree node in
        key_is ∙ (λ i. file_key_of (sym (added c.policy.id same) i) (kinds i) (nonce i))
        ∙ sym (ap (λ b. cond b (mode_key_of (raw_for m.raws c) (plain_kind (get m.nodes node))) (file_key_of (raw_for m.raws c) (plain_kind (get m.nodes node)) c.nonce)) flag)

    pub shared_stands : (kind : KeyKind) (key : FileKey) → key ≡ mode_key_of raw kind → key ≡ mode_key_of (unwrap_or (raw_in m.raws id) []) kind
    shared_stands kind key key_is = key_is ∙ ap (λ r. mode_key_of r kind) (sym (added id refl))

pub unmapped : {X Y : Type 0} (f : X → Y) (o : Option X) → option_map f o ≡ None → o ≡ None
unmapped f None is = refl
unmapped f (Some x) is = absurd (cc)
