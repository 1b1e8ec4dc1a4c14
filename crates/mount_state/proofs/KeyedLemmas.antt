-- In a keyed directory a name resolves as its stored form does, under the key that the state has.
use Rattle.std.proofs.Common.{◌≡◌, ℕ, ◌<◌, Bool, true, false, cond, not, ◌&&◌, List, [], length, Option, Some, None, option_map, is_some, unwrap_or, bytes_eq, inl, inr, refl, sym, ap, ◌∙◌, subst, arith}
use Rattle.std.specs.Map.{lookup}
use Rattle.std.specs.Option.{option_map_or, option_or}
use Rattle.std.specs.Prelude.{IfSome, option_and_then}
use Rattle.std.proofs.lemmas.Bool.{or_cases, true≢false}
use Rattle.std.proofs.lemmas.Slice.Eq.{bytes_eq-Decides}
use Rattle.byte_words.specs.Bytes.{AreBytes}
use Rattle.policy_ctx.specs.declared.policy.Context.{Context}
use Rattle.policy_ctx.specs.Context.{context_bytes}
use Rattle.policy_ctx.proofs.Encodings.{id_in-context_bytes, is_by_mode_in-context_bytes}
use Rattle.policy_ctx.proofs.KeyIdLemmas.{same_id-refl}
use Rattle.policy_ctx.specs.KeyIds.{same_id}
use Rattle.fsc_keys.specs.Keys.{key_bytes, file_key_of, mode_key_of}
use Rattle.fsc_keys.specs.declared.file_keys.FileKey.{FileKey}
use Rattle.fsc_keys.specs.declared.file_keys.FileKey.TheVariants as key
use Rattle.fsc_keys.specs.declared.file_keys.KeyKind.TheVariants.{Names}
use Rattle.number_map.specs.Numbered.{get}
use Rattle.name_crypt.specs.Plain.{IsPlain}
use Rattle.name_crypt.specs.Laws.{NamesStayDistinct}
use Rattle.name_crypt.specs.StoredName.{stored_name}
use Rattle.user_claims.specs.ClaimCounts.{is_present}
use Rattle.key_ring.specs.Holding.{Holding, secret_of, HoldsClaimedSecrets}
use Rattle.key_ring.specs.Modes.{Modes, mode_at}
use Rattle.key_ring.specs.ModeUsers.{users_in}
use Rattle.key_ring.specs.declared.mode_key.ModeKey.{ModeKey}
use Rattle.inode_refs.specs.CacheMaps.{Cache, key_at}
use Rattle.inode_refs.specs.Ciphers.{names_in}
use Rattle.inode_refs.specs.declared.node_key.NodeKey.{NodeKey}
use Rattle.plain_tree.specs.Nodes.{Name, Node, Body, Dir, File, Link}
use Rattle.plain_tree.specs.NodesByNumber.{is_dir_in, is_dir_at, children, context_at}
use Rattle.disk_tree.specs.DiskTree.{Disk, entries_in, children as stored_entries}
use Rattle.disk_tree.specs.declared.node.StoredNode.{StoredNode}
use Rattle.disk_tree.specs.Entries.{number_under}
use Rattle.mount_model.specs.PlainMount.{PlainMount, HandleList}
use Rattle.mount_model.specs.OpenHandles.{has_handle}
use Rattle.mount_model.specs.Sealed.{raw_for, node_key, node_start, sealed_name, texts}
use Rattle.mount_model.specs.States.{is_keyed, is_keyed_under, shown, visible_name_under}
use Rattle.mount_model.specs.WellFormed.{IsWellFormed}
use Rattle.mount_state.specs.Contexts.{context_on_disk, has_own, has_shared, uses_own, uses_mode}
use Rattle.mount_state.specs.StoredKinds.{is_of_kind, same_kind, kind_on_disk as stored_kind}
use Rattle.mount_state.specs.Discipline.{Forgets}
use Rattle.mount_state.specs.Resolution.{resolved_node}
use Rattle.mount_state.specs.NamesKey.{cached_key, derived_file_key, key_from}
use Rattle.mount_state.specs.NamesCipher.{own_names_key, used_mode_key, other_key, IsCipherUnder, ResolvesByOtherKey, resolved_under as led_by_cipher}
use Rattle.mount_state.specs.Stored.{stored_node, stored_form}
use Rattle.mount_state.specs.Represents.{RepresentsTree, RepresentsKeys}
use Rattle.mount_state.specs.CachedKeys.{RepresentsCaches, plain_kind}
use Rattle.mount_state.proofs.LedLemmas.{decided, led_by, name_of_entry}
use Rattle.mount_state.proofs.StandLemmas.{context_is, id_sized}
use Rattle.mount_state.proofs.UserLemmas.{some_from, users_from}

is_names : (raw : List ℕ) (c : Context) → is_of_kind Names (key_from c raw) ≡ true
is_names raw c = elim c.policy.by_mode as (λ b. is_of_kind Names (cond b (mode_key_of raw Names) (file_key_of raw Names c.nonce)) ≡ true) [ true ↦ refl | false ↦ refl ]

-- a derived key is one of names
pub drawn_names : (ring : Holding) (c : Context) (key : FileKey) → derived_file_key ring c ≡ Some key → is_of_kind Names key ≡ true
drawn_names ring c key is = by (secret_of ring c.policy.id) is
  where
    same : (a b : FileKey) → Some a ≡ Some b → a ≡ b
    same a b is = cc

    by : (o : Option (List ℕ)) → option_map (key_from c) o ≡ Some key → is_of_kind Names key ≡ true
    by None bad = absurd (cc)
    by (Some raw) is = ap (is_of_kind Names) (sym (same (key_from c raw) key is)) ∙ is_names raw c

pub is_names_key : (m : PlainMount) (c : Context) → is_of_kind Names (node_key m.raws c Names) ≡ true
is_names_key m c = is_names (raw_for m.raws c) c

pub dir_kind : (o : Option Node) → is_dir_in o ≡ true → plain_kind o ≡ Names
dir_kind None bad = refl
dir_kind (Some v) is = at v.body is
  where
    at : (b : Body) → is_dir_in (Some (record v { body = b })) ≡ true → plain_kind (Some (record v { body = b })) ≡ Names
    at (Dir children) is = refl
    at (File contents) bad = absurd (true≢false (sym bad))
    at (Link target) bad = refl

stored_dir_kind : (m : PlainMount) (n : ℕ) (o : Option Node) → is_dir_in o ≡ true → stored_kind (option_map (stored_node m.raws n) o) ≡ Names
stored_dir_kind m n None bad = refl
stored_dir_kind m n (Some v) is = at v.named v.context v.body is
  where
    at : (named : Bool) (context : Option Context) (b : Body) → is_dir_in (Some (record { named = named; context = context; body = b })) ≡ true
        → stored_kind (Some (stored_node m.raws n (record { named = named; context = context; body = b }))) ≡ Names
    at named context (Dir children) is = refl
    at named context (File contents) bad = absurd (true≢false (sym bad))
    at named context (Link target) bad = refl

module _ (m : PlainMount) (dir : ℕ) (c : Context) (here : context_at m.nodes dir ≡ Some c) where
  -- a cached key, and a derived one, is the key of the directory's names
  pub cached_is : (cache : Cache) (modes : Modes) → RepresentsCaches cache modes m → is_dir_at m.nodes dir ≡ true → (k : FileKey) → cached_key cache modes dir c ≡ Some k → k ≡ node_key m.raws c Names
  cached_is cache modes stand is_dir k is = by_flag c.policy.by_mode refl is
    where
      some_same : (x y : FileKey) → Some x ≡ Some y → x ≡ y
      some_same x y e = cc

      of_mode : (o : Option ModeKey) → mode_at modes c.policy.id Names ≡ o → option_map (λ mode. mode.key) o ≡ Some k → k ≡ mode_key_of (raw_for m.raws c) Names
      of_mode None there bad = let none : None ≡ Some k = bad in absurd (cc)
      of_mode (Some mode) there is = sym (some_same mode.key k is) ∙ stand.mode_keys c.policy.id Names mode there

      of_node : (o : Option NodeKey) → key_at cache dir ≡ o → option_map (λ key. key.key) o ≡ Some k → k ≡ node_key m.raws c Names
      of_node None there bad = let none : None ≡ Some k = bad in absurd (cc)
      of_node (Some key) there is =
          sym (some_same key.key k is) ∙ (stand.file_keys dir key c there here ∙ ap (node_key m.raws c) (dir_kind (get m.nodes dir) is_dir))

      by_flag : (b : Bool) → c.policy.by_mode ≡ b → cond b (option_map (λ mode. mode.key) (mode_at modes c.policy.id Names)) (option_map (λ key. key.key) (key_at cache dir)) ≡ Some k → k ≡ node_key m.raws c Names
      by_flag true flag is =
          of_mode (mode_at modes c.policy.id Names) refl is
          ∙ sym (ap (λ b. cond b (mode_key_of (raw_for m.raws c) Names) (file_key_of (raw_for m.raws c) Names c.nonce)) flag)
      by_flag false flag is = of_node (key_at cache dir) refl is

  pub drawn_is : (ring : Holding) → RepresentsKeys ring m → (k : FileKey) → derived_file_key ring c ≡ Some k → k ≡ node_key m.raws c Names
  drawn_is ring stand k is = of_secret (secret_of ring c.policy.id) refl is
    where
      some_same : (x y : FileKey) → Some x ≡ Some y → x ≡ y
      some_same x y e = cc

      of_secret : (o : Option (List ℕ)) → secret_of ring c.policy.id ≡ o → option_map (key_from c) o ≡ Some k → k ≡ node_key m.raws c Names
      of_secret None there bad = let none : None ≡ Some k = bad in absurd (cc)
      of_secret (Some raw) there is =
          sym (some_same (key_from c raw) k is)
          ∙ sym (ap (λ o. key_from c (unwrap_or o [])) (stand.secrets c.policy.id raw there))

  -- so is one that is cached for the directory with its cipher
  pub own_is : (cache : Cache) (modes : Modes) → RepresentsCaches cache modes m → plain_kind (get m.nodes dir) ≡ Names → (bytes : List ℕ) → own_names_key cache dir c ≡ Some bytes → key.Names bytes ≡ node_key m.raws c Names
  own_is cache modes stand names bytes is = by_flag c.policy.by_mode is
    where
      some_bytes : (x y : List ℕ) → Some x ≡ Some y → x ≡ y
      some_bytes x y e = cc

      of_kind : (k : FileKey) → names_in k ≡ Some bytes → k ≡ key.Names bytes
      of_kind (key.Contents b) bad = let none : None ≡ Some bytes = bad in absurd (cc)
      of_kind (key.Names b) same = ap key.Names (some_bytes b bytes same)

      of_node : (o : Option NodeKey) → key_at cache dir ≡ o → option_and_then (λ kept. names_in kept.key) o ≡ Some bytes → key.Names bytes ≡ node_key m.raws c Names
      of_node None there bad = let none : None ≡ Some bytes = bad in absurd (cc)
      of_node (Some kept) there is =
          sym (of_kind kept.key is) ∙ (stand.file_keys dir kept c there here ∙ ap (node_key m.raws c) names)

      by_flag : (b : Bool) → cond b None (option_and_then (λ kept. names_in kept.key) (key_at cache dir)) ≡ Some bytes → key.Names bytes ≡ node_key m.raws c Names
      by_flag true bad = let none : None ≡ Some bytes = bad in absurd (cc)
      by_flag false is = of_node (key_at cache dir) refl is

  -- and one that is held elsewhere
  pub other_is : (ring : Holding) (cache : Cache) (modes : Modes) → RepresentsKeys ring m → RepresentsCaches cache modes m → is_dir_at m.nodes dir ≡ true → (k : FileKey) → other_key ring modes c ≡ Some k → k ≡ node_key m.raws c Names
  other_is ring cache modes keys stand is_dir k is = by_used (used_mode_key modes c) refl is
    where
      some_same : (x y : FileKey) → Some x ≡ Some y → x ≡ y
      some_same x y e = cc

      of_flag : (b : Bool) → c.policy.by_mode ≡ b → (x : FileKey) → cond b (option_map (λ mode. mode.key) (mode_at modes c.policy.id Names)) None ≡ Some x → cached_key cache modes dir c ≡ Some x
      of_flag true flag x is =
          ap (λ b. cond b (option_map (λ mode. mode.key) (mode_at modes c.policy.id Names)) (option_map (λ kept. kept.key) (key_at cache dir))) flag ∙ is
      of_flag false flag x bad = let none : None ≡ Some x = bad in absurd (cc)

      by_used : (o : Option FileKey) → used_mode_key modes c ≡ o → option_or o (derived_file_key ring c) ≡ Some k → k ≡ node_key m.raws c Names
      by_used None none is = drawn_is ring keys k is
      by_used (Some x) used is = sym (some_same x k is) ∙ cached_is cache modes stand is_dir x (of_flag c.policy.by_mode refl x used)

  -- so the cipher under it is that of the directory's names
  module _ (ring : Holding) (cache : Cache) (modes : Modes) (keys : RepresentsKeys ring m) (stand : RepresentsCaches cache modes m) (is_dir : is_dir_at m.nodes dir ≡ true) where
    of_names : (k : FileKey) → other_key ring modes c ≡ Some k → is_of_kind Names k ≡ true
    of_names k is = ap (is_of_kind Names) (other_is ring cache modes keys stand is_dir k is) ∙ is_names_key m c

    pub other_bytes : (bytes : List ℕ) → IsCipherUnder (other_key ring modes c) (Some bytes) → bytes ≡ key_bytes (node_key m.raws c Names)
    other_bytes bytes under = by_case (other_key ring modes c) refl under
      where
        some_bytes : (x y : List ℕ) → Some x ≡ Some y → x ≡ y
        some_bytes x y e = cc

        by_case : (o : Option FileKey) → other_key ring modes c ≡ o → IsCipherUnder o (Some bytes) → bytes ≡ key_bytes (node_key m.raws c Names)
        by_case None none bad = let some : Some bytes ≡ None = bad in absurd (cc)
        by_case (Some k) is under = some_bytes bytes (key_bytes k) (under (of_names k is)) ∙ ap key_bytes (other_is ring cache modes keys stand is_dir k is)

    pub no_other : IsCipherUnder (other_key ring modes c) None → other_key ring modes c ≡ None
    no_other under = by_case (other_key ring modes c) refl under
      where
        by_case : (o : Option FileKey) → other_key ring modes c ≡ o → IsCipherUnder o None → o ≡ None
        by_case None none under = refl
        by_case (Some k) is under = let bad : None ≡ Some (key_bytes k) = under (of_names k is) in absurd (cc)

  -- if the directory is keyed, the state has the key
  module _ (disk : Disk) (next : ℕ) (well : IsWellFormed m) (tree : RepresentsTree disk next m) (is_dir : is_dir_at m.nodes dir ≡ true) where
    pub context_here : context_on_disk (get disk dir) ≡ Some (context_bytes c)
    context_here = context_is disk next m well tree dir ∙ ap (option_map context_bytes) here

    named_here : same_id c.policy.id c.policy.id ≡ true
    named_here = same_id-refl c.policy.id

    pub sized_here : length c.policy.id.0 ≡ 16
    sized_here = id_sized disk next m well tree dir c here

    own_here : c.policy.by_mode ≡ false → uses_own disk dir c.policy.id ≡ true
    own_here flag =
        ap (has_own c.policy.id) context_here
        ∙ (λ i. same_id (id_in-context_bytes c sized_here i) c.policy.id && not ((is_by_mode_in-context_bytes c ∙ flag) i))
        ∙ ap (λ b. b && true) named_here

    mode_here : c.policy.by_mode ≡ true → uses_mode disk c.policy.id Names dir ≡ true
    mode_here flag =
        (λ i. has_shared c.policy.id (context_here i) && same_kind Names (kind_here i))
        ∙ (λ i. (same_id (id_in-context_bytes c sized_here i) c.policy.id && (is_by_mode_in-context_bytes c ∙ flag) i) && true)
        ∙ ap (λ b. (b && true) && true) named_here
      where
        kind_here : stored_kind (get disk dir) ≡ Names
        kind_here = ap stored_kind (tree.nodes dir) ∙ stored_dir_kind m dir (get m.nodes dir) is_dir

    pub some_key : (ring : Holding) (cache : Cache) (modes : Modes) (live : HandleList) → Forgets disk ring.claims cache modes live → HoldsClaimedSecrets ring → ring.claims ≡ m.claims → live ≡ m.handles
        → is_keyed m dir ≡ true → cached_key cache modes dir c ≡ None → derived_file_key ring c ≡ None → ⊥
    some_key ring cache modes live rule secrets claims handles keyed uncached undrawn =
        elim (or_cases (is_present m.claims c.policy.id) (has_handle m.handles dir) (sym (ap (is_keyed_under m dir) here) ∙ keyed)) [
          | inl present ↦ from_secret (secret_of ring c.policy.id) (secrets c.policy.id ∙ (ap (λ cs. is_present cs c.policy.id) claims ∙ present)) undrawn
          | inr held ↦ by_flag c.policy.by_mode refl (ap (λ hs. has_handle hs dir) handles ∙ held) uncached
        ]
      where
        from_secret : (o : Option (List ℕ)) → is_some o ≡ true → option_map (key_from c) o ≡ None → ⊥
        from_secret None bad none = true≢false (sym bad)
        from_secret (Some raw) there none = let bad : Some (key_from c raw) ≡ None = none in absurd (cc)

        from_mode : (o : Option ModeKey) → mode_at modes c.policy.id Names ≡ o → 0 < users_in modes.names c.policy.id → option_map (λ mode. mode.key) o ≡ None → ⊥
        from_mode None there some none = let zero : users_in modes.names c.policy.id ≡ 0 = ap (λ (x : Option ModeKey). option_map_or (λ mode. mode.users) x 0) there in absurd (omega arith)
        from_mode (Some mode) there some none = let bad : Some mode.key ≡ None = none in absurd (cc)

        from_own : (o : Option NodeKey) → is_some o ≡ true → option_map (λ key. key.key) o ≡ None → ⊥
        from_own None bad none = true≢false (sym bad)
        from_own (Some key) there none = let bad : Some key.key ≡ None = none in absurd (cc)

        by_flag : (b : Bool) → c.policy.by_mode ≡ b → has_handle live dir ≡ true → cond b (option_map (λ mode. mode.key) (mode_at modes c.policy.id Names)) (option_map (λ key. key.key) (key_at cache dir)) ≡ None → ⊥
        by_flag true flag held none =
            let some = users_from (uses_mode disk c.policy.id Names) live (some_from (uses_mode disk c.policy.id Names) live dir held (mode_here flag)) in
            let tied = rule.mode_keys.counted c.policy.id Names in
            from_mode (mode_at modes c.policy.id Names) refl (omega arith) none
        by_flag false flag held none = from_own (key_at cache dir) (rule.file_keys.kept dir c.policy.id (own_here flag) held) none

    -- so its cipher is cached, or the key is held elsewhere
    pub some_cipher : (ring : Holding) (cache : Cache) (modes : Modes) (live : HandleList) → Forgets disk ring.claims cache modes live → HoldsClaimedSecrets ring → ring.claims ≡ m.claims → live ≡ m.handles
        → is_keyed m dir ≡ true → own_names_key cache dir c ≡ None → other_key ring modes c ≡ None → ⊥
    some_cipher ring cache modes live rule secrets claims handles keyed no_own no_other =
        let both = neither (used_mode_key modes c) (derived_file_key ring c) no_other in
        some_key ring cache modes live rule secrets claims handles keyed (by_flag c.policy.by_mode refl no_own both.0) both.1
      where
        neither : (o p : Option FileKey) → option_or o p ≡ None → (o ≡ None) × (p ≡ None)
        neither None p none = (refl, none)
        neither (Some x) p bad = let none : Some x ≡ None = bad in absurd (cc)

        names_kind : stored_kind (get disk dir) ≡ Names
        names_kind = ap stored_kind (tree.nodes dir) ∙ stored_dir_kind m dir (get m.nodes dir) is_dir

        of_kind : (k : FileKey) → is_of_kind Names k ≡ true → names_in k ≡ None → ⊥
        of_kind (key.Contents b) bad none = absurd (true≢false (sym bad))
        of_kind (key.Names b) there none = let bad : Some b ≡ None = none in absurd (cc)

        of_node : (o : Option NodeKey) → key_at cache dir ≡ o → option_and_then (λ kept. names_in kept.key) o ≡ None → option_map (λ kept. kept.key) o ≡ None
        of_node None there none = refl
        of_node (Some kept) there none =
            absurd (of_kind kept.key (sym (ap (λ kind. is_of_kind kind kept.key) names_kind) ∙ rule.file_keys.kind dir kept there) none)

        by_flag : (b : Bool) → c.policy.by_mode ≡ b → cond b None (option_and_then (λ kept. names_in kept.key) (key_at cache dir)) ≡ None
            → cond b (option_map (λ mode. mode.key) (mode_at modes c.policy.id Names)) None ≡ None → cached_key cache modes dir c ≡ None
        by_flag true flag own used =
            ap (λ b. cond b (option_map (λ mode. mode.key) (mode_at modes c.policy.id Names)) (option_map (λ kept. kept.key) (key_at cache dir))) flag ∙ used
        by_flag false flag own used =
            ap (λ b. cond b (option_map (λ mode. mode.key) (mode_at modes c.policy.id Names)) (option_map (λ kept. kept.key) (key_at cache dir))) flag
            ∙ of_node (key_at cache dir) refl own

    -- the search
    module _ (distinct : NamesStayDistinct) (keyed : is_keyed m dir ≡ true) (ranged : AreBytes (key_bytes (node_key m.raws c Names))) where
      apart : (name other : Name) → IsPlain name → AreBytes name → IsPlain other → AreBytes other → bytes_eq (sealed_name m.raws dir c name) (sealed_name m.raws dir c other) ≡ bytes_eq name other
      unfolding sealed_name
      apart name other name_plain name_bytes other_plain other_bytes =
          sym (decided (bytes_eq name other) (sealed_name m.raws dir c name) (sealed_name m.raws dir c other)
          (λ same. ap (sealed_name m.raws dir c) ((bytes_eq-Decides name other).0 same))
          (λ same. (bytes_eq-Decides name other).1 (distinct (key_bytes (node_key m.raws c Names)) (node_start dir c) name other c.policy.pad ranged name_bytes other_bytes name_plain other_plain same)))

      shown_plain : (name : Name) → shown m dir name ≡ name
      shown_plain name = ap (visible_name_under m dir name) here ∙ ap (λ b. cond b name (texts m.raws dir c name)) keyed

      pub keyed_led : (name : Name) → IsPlain name → AreBytes name → lookup (bytes_eq (stored_name (key_bytes (node_key m.raws c Names)) (node_start dir c) c.policy.pad name)) (stored_entries disk dir) ≡ resolved_node m dir name
      unfolding sealed_name
      keyed_led name plain bytes = led_by disk next m well tree dir name (bytes_eq (sealed_name m.raws dir c name)) (λ other there.
          let is = name_of_entry disk next m well tree dir other there in
          ap (λ o. bytes_eq (sealed_name m.raws dir c name) (stored_form m.raws dir o other)) here
          ∙ (apart name other plain bytes (is.0.size.0, is.1, is.0.nul) is.0.bytes
          ∙ ap (bytes_eq name) (sym (shown_plain other))))

    -- what is found under the bytes of the directory's key
    pub resolved_under : NamesStayDistinct → is_keyed m dir ≡ true → (bytes : List ℕ) (read : Context) → read ≡ c → bytes ≡ key_bytes (node_key m.raws c Names) → AreBytes bytes
        → (name : Name) → IsPlain name → AreBytes name → (there : Option ℕ) → there ≡ number_under (stored_name bytes (node_start dir read) read.policy.pad name) (stored_entries disk dir) → there ≡ resolved_node m dir name
    resolved_under distinct keyed bytes read read_is is ranged name plain name_bytes there leads =
        leads
        ∙ ((λ i. number_under (stored_name (is i) (node_start dir (read_is i)) (read_is i).policy.pad name) (stored_entries disk dir))
        ∙ keyed_led distinct keyed (subst AreBytes is ranged) name plain name_bytes)

    -- so is what is found under a cipher that is made for this call alone, if none is cached
    pub led_by_other : NamesStayDistinct → is_keyed m dir ≡ true
        → (ring : Holding) (cache : Cache) (modes : Modes) (live : HandleList) → Forgets disk ring.claims cache modes live → HoldsClaimedSecrets ring
        → RepresentsKeys ring m → RepresentsCaches cache modes m → live ≡ m.handles
        → (read : Context) → read ≡ c → own_names_key cache dir read ≡ None
        → (node : StoredNode) → get disk dir ≡ Some node → (name : Name) → IsPlain name → AreBytes name
        → (there : Option ℕ) → ResolvesByOtherKey ring modes dir read name node.body there → there ≡ resolved_node m dir name
    led_by_other distinct keyed ring cache modes live rule secrets keys stand handles read read_is uncached node node_is name plain bytes there leads =
        by_case leads.0 leads.1.0 leads.1.1.0 leads.1.1.1
      where
        by_case : (o : Option (List ℕ)) → IsCipherUnder (other_key ring modes read) o → IfSome o AreBytes → there ≡ led_by_cipher dir read name node.body o → there ≡ resolved_node m dir name
        by_case None under ranged is =
            absurd (some_cipher ring cache modes live rule secrets keys.claims handles keyed
            (subst (λ (x : Context). own_names_key cache dir x ≡ None) read_is uncached)
            (no_other ring cache modes keys stand is_dir (subst (λ (x : Context). IsCipherUnder (other_key ring modes x) None) read_is under)))
        by_case (Some key) under ranged is =
            resolved_under distinct keyed key read read_is
            (other_bytes ring cache modes keys stand is_dir key (subst (λ (x : Context). IsCipherUnder (other_key ring modes x) (Some key)) read_is under)) ranged name plain bytes there
            (is ∙ ap (λ (o : Option StoredNode). number_under (stored_name key (node_start dir read) read.policy.pad name) (entries_in o)) (sym node_is))
