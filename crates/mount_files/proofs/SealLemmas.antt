-- What a state holds for an open file's contents is what they are sealed with in the mount.
use Rattle.std.proofs.Common.{◌≡◌, ℕ, ◌<◌, Bool, true, false, cond, ◌&&◌, List, length, Option, Some, None, option_map, is_some, refl, sym, ap, ◌∙◌, arith}
use Rattle.std.specs.Option.{option_map_or}
use Rattle.policy_ctx.specs.declared.policy.Context.{Context}
use Rattle.policy_ctx.specs.Context.{context_bytes}
use Rattle.policy_ctx.specs.KeyIds.{same_id}
use Rattle.policy_ctx.proofs.Encodings.{id_in-context_bytes, is_by_mode_in-context_bytes}
use Rattle.policy_ctx.proofs.KeyIdLemmas.{same_id-refl}
use Rattle.fsc_keys.specs.Keys.{key_bytes, file_key_of, mode_key_of}
use Rattle.fsc_keys.specs.declared.file_keys.FileKey.{FileKey}
use Rattle.fsc_keys.specs.declared.file_keys.FileKey.TheVariants as key
use Rattle.fsc_keys.specs.declared.file_keys.KeyKind.TheVariants.{Contents}
use Rattle.number_map.specs.Numbered.{get}
use Rattle.user_claims.specs.Claims.{ClaimSet}
use Rattle.key_ring.specs.Modes.{Modes, mode_at}
use Rattle.key_ring.specs.ModeUsers.{users_in}
use Rattle.key_ring.specs.declared.mode_key.ModeKey.{ModeKey}
use Rattle.inode_refs.specs.CacheMaps.{Cache, key_at}
use Rattle.inode_refs.specs.declared.node_key.NodeKey.{NodeKey}
use Rattle.data_crypt.specs.Blocks.{Seal}
use Rattle.plain_tree.specs.Nodes.{Node, Body, Dir, File, Link}
use Rattle.plain_tree.specs.NodesByNumber.{context_at}
use Rattle.disk_tree.specs.DiskTree.{Disk}
use Rattle.mount_model.specs.PlainMount.{PlainMount, HandleList}
use Rattle.mount_model.specs.OpenHandles.{has_handle}
use Rattle.mount_model.specs.Sealed.{raw_for, node_key}
use Rattle.mount_state.specs.Contexts.{context_on_disk, has_shared, uses_mode}
use Rattle.mount_state.specs.StoredKinds.{same_kind, kind_on_disk as stored_kind}
use Rattle.mount_state.specs.Discipline.{Forgets}
use Rattle.mount_state.specs.Stored.{stored_node, contents_seal}
use Rattle.mount_state.specs.Represents.{Represents}
use Rattle.mount_state.specs.CachedKeys.{RepresentsCaches, plain_kind}
use Rattle.mount_state.specs.declared.state.MountState.{MountState}
use Rattle.mount_state.proofs.ContextLemmas.{context_read}
use Rattle.mount_state.proofs.KeepLemmas.{own_there}
use Rattle.mount_state.proofs.StandLemmas.{context_is, id_sized}
use Rattle.mount_state.proofs.UserLemmas.{some_from, users_from}
use Rattle.mount_files.specs.OpenFile.{IsOpen, HasOpen}
use Rattle.mount_files.specs.Seals.{IsSealOf, contents_key, seal_with}

some_same : {X : Type 0} (x y : X) → Some x ≡ Some y → x ≡ y
some_same x y e = cc

file_kind : (m : PlainMount) (n : ℕ) (o : Option Node) → plain_kind o ≡ Contents → stored_kind (option_map (stored_node m.raws n) o) ≡ Contents
file_kind m n None bad = absurd (cc)
file_kind m n (Some v) is = at v.named v.context v.body is
  where
    at : (named : Bool) (context : Option Context) (b : Body) → plain_kind (Some (record { named = named; context = context; body = b })) ≡ Contents
        → stored_kind (Some (stored_node m.raws n (record { named = named; context = context; body = b }))) ≡ Contents
    at named context (Dir children) bad = absurd (cc)
    at named context (File contents) is = refl
    at named context (Link target) bad = absurd (cc)

-- the key of a file's contents is a contents key
contents_made : (raw : List ℕ) (c : Context) (b : Bool) → cond b (mode_key_of raw Contents) (file_key_of raw Contents c.nonce)
    ≡ key.Contents (key_bytes (cond b (mode_key_of raw Contents) (file_key_of raw Contents c.nonce)))
contents_made raw c true = refl
contents_made raw c false = refl

module _ (m : PlainMount) (file : ℕ) (c : Context) (here : context_at m.nodes file ≡ Some c) (is_file : plain_kind (get m.nodes file) ≡ Contents) where
  -- a key that is held is the key of the file's contents
  held_is : (cache : Cache) (modes : Modes) → RepresentsCaches cache modes m → (k : FileKey) → contents_key cache modes file c ≡ Some k → k ≡ node_key m.raws c Contents
  held_is cache modes stand k is = by_flag c.policy.by_mode refl is
    where
      of_mode : (o : Option ModeKey) → mode_at modes c.policy.id Contents ≡ o → option_map (λ mode. mode.key) o ≡ Some k → k ≡ mode_key_of (raw_for m.raws c) Contents
      of_mode None there bad = let none : None ≡ Some k = bad in absurd (cc)
      of_mode (Some mode) there is = sym (some_same mode.key k is) ∙ stand.mode_keys c.policy.id Contents mode there

      of_node : (o : Option NodeKey) → key_at cache file ≡ o → option_map (λ key. key.key) o ≡ Some k → k ≡ node_key m.raws c Contents
      of_node None there bad = let none : None ≡ Some k = bad in absurd (cc)
      of_node (Some own) there is =
          sym (some_same own.key k is) ∙ (stand.file_keys file own c there here ∙ ap (node_key m.raws c) is_file)

      by_flag : (b : Bool) → c.policy.by_mode ≡ b → cond b (option_map (λ mode. mode.key) (mode_at modes c.policy.id Contents)) (option_map (λ key. key.key) (key_at cache file)) ≡ Some k → k ≡ node_key m.raws c Contents
      by_flag true flag is =
          of_mode (mode_at modes c.policy.id Contents) refl is
          ∙ sym (ap (λ b. cond b (mode_key_of (raw_for m.raws c) Contents) (file_key_of (raw_for m.raws c) Contents c.nonce)) flag)
      by_flag false flag is = of_node (key_at cache file) refl is

  -- an open file's is held
  module _ (disk : Disk) (context : context_on_disk (get disk file) ≡ Some (context_bytes c)) (sized : length c.policy.id.0 ≡ 16) (kind : stored_kind (get disk file) ≡ Contents) where
    mode_here : c.policy.by_mode ≡ true → uses_mode disk c.policy.id Contents file ≡ true
    mode_here flag =
        (λ i. has_shared c.policy.id (context i) && same_kind Contents (kind i))
        ∙ (λ i. (same_id (id_in-context_bytes c sized i) c.policy.id && (is_by_mode_in-context_bytes c ∙ flag) i) && true)
        ∙ ap (λ b. (b && true) && true) (same_id-refl c.policy.id)

    key_there : (claims : ClaimSet) (cache : Cache) (modes : Modes) (live : HandleList) → Forgets disk claims cache modes live → has_handle live file ≡ true
        → contents_key cache modes file c ≡ None → ⊥
    key_there claims cache modes live rule held none = by_flag c.policy.by_mode refl none
      where
        from_mode : (o : Option ModeKey) → mode_at modes c.policy.id Contents ≡ o → 0 < users_in modes.contents c.policy.id → option_map (λ mode. mode.key) o ≡ None → ⊥
        from_mode None there some none = let zero : users_in modes.contents c.policy.id ≡ 0 = ap (λ (x : Option ModeKey). option_map_or (λ mode. mode.users) x 0) there in absurd (omega arith)
        from_mode (Some mode) there some none = let bad : Some mode.key ≡ None = none in absurd (cc)

        from_own : (o : Option NodeKey) → is_some o ≡ true → option_map (λ key. key.key) o ≡ None → ⊥
        from_own None bad none = absurd (cc)
        from_own (Some own) there none = let bad : Some own.key ≡ None = none in absurd (cc)

        by_flag : (b : Bool) → c.policy.by_mode ≡ b → cond b (option_map (λ mode. mode.key) (mode_at modes c.policy.id Contents)) (option_map (λ key. key.key) (key_at cache file)) ≡ None → ⊥
        by_flag true flag none =
            let some = users_from (uses_mode disk c.policy.id Contents) live (some_from (uses_mode disk c.policy.id Contents) live file held (mode_here flag)) in
            let tied = rule.mode_keys.counted c.policy.id Contents in
            from_mode (mode_at modes c.policy.id Contents) refl (omega arith) none
        by_flag false flag none = from_own (key_at cache file) (rule.file_keys.kept file c.policy.id (own_there disk file c context sized flag) held) none

-- ---- over the whole state

module _ (s : MountState) (m : PlainMount) (st : Represents s m) (file : ℕ) (is_open : IsOpen m file) where
  kind_here : stored_kind (get s.disk file) ≡ Contents
  kind_here = ap stored_kind (st.tree.nodes file) ∙ file_kind m file (get m.nodes file) is_open.is_file

  held_here : has_handle s.handles.live file ≡ true
  held_here = ap (λ (hs : HandleList). has_handle hs file) st.handles.live ∙ is_open.held

  module _ (c : Context) (here : context_at m.nodes file ≡ Some c) where
    pub context_here : context_on_disk (get s.disk file) ≡ Some (context_bytes c)
    context_here = context_is s.disk s.next_node m st.well st.tree file ∙ ap (option_map context_bytes) here

    pub sized_here : length c.policy.id.0 ≡ 16
    sized_here = id_sized s.disk s.next_node m st.well st.tree file c here

    contents_is : contents_key s.inodes s.modes file c ≡ Some (node_key m.raws c Contents)
    contents_is = by_case (contents_key s.inodes s.modes file c) refl
      where
        by_case : (o : Option FileKey) → contents_key s.inodes s.modes file c ≡ o → contents_key s.inodes s.modes file c ≡ Some (node_key m.raws c Contents)
        by_case None none = absurd (key_there m file c here is_open.is_file s.disk context_here sized_here kind_here s.ring.claims s.inodes s.modes s.handles.live s.forgets held_here none)
        by_case (Some k) there = there ∙ ap (λ (x : FileKey). Some x) (held_is m file c here is_open.is_file s.inodes s.modes st.caches k there)

    pub key_is : contents_key s.inodes s.modes file c ≡ Some (key.Contents (key_bytes (node_key m.raws c Contents)))
    key_is = contents_is ∙ ap (λ (x : FileKey). Some x) (contents_made (raw_for m.raws c) c c.policy.by_mode)

  -- it is sealed as in the mount
  pub seal_is : (seal : Option Seal) → IsSealOf s file seal → seal ≡ contents_seal m.raws file (context_at m.nodes file)
  seal_is seal is = by_case (context_at m.nodes file) refl
    where
      by_case : (o : Option Context) → context_at m.nodes file ≡ o → seal ≡ contents_seal m.raws file (context_at m.nodes file)
      by_case None none =
          is.plain (context_is s.disk s.next_node m st.well st.tree file ∙ ap (option_map context_bytes) none)
          ∙ sym (ap (contents_seal m.raws file) none)
      by_case (Some c) here =
          is.sealed c (sized_here c here) (context_here c here)
          ∙ ap (option_map (seal_with file c)) (contents_is c here)
          ∙ sym (ap (contents_seal m.raws file) here)

-- if the context that is read is the one on the disk, a key for contents is held
pub key_held : (s : MountState) (file : ℕ) → HasOpen s file → (context : Context) → context_on_disk (get s.disk file) ≡ Some (context_bytes context)
    → ((c : Context) → length c.policy.id.0 ≡ 16 → context_on_disk (get s.disk file) ≡ Some (context_bytes c) → Some context ≡ Some c)
    → (bytes : List ℕ) × (contents_key s.inodes s.modes file context ≡ Some (key.Contents bytes))
key_held s file has context there same =
    let read = context_read s.disk s.next_node has.mount has.represents.well has.represents.tree file (context_bytes context) there in
    let is : context ≡ read.0 = some_same context read.0 (same read.0 read.1.1.1 (there ∙ ap (λ (b : List ℕ). Some b) read.1.1.0)) in
    (key_bytes (node_key has.mount.raws read.0 Contents), ap (contents_key s.inodes s.modes file) is ∙ key_is s has.mount has.represents file has.is_open read.0 read.1.0)
