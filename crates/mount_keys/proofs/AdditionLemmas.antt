-- A state in which a key was claimed represents the mount in which it was.
use Rattle.std.proofs.Common.{◌≡◌, ℕ, ◌≤◌, Bool, true, false, cond, not, ◌&&◌, nat_le, List, [], length}
use Rattle.std.proofs.Common.{Option, Some, None, is_some, inl, inr, refl, sym, ap, subst, ◌∙◌}
use Rattle.std.specs.Option.{unwrap_or}
use Rattle.std.specs.FinMap as map
use Rattle.std.specs.FinMap.{get-insert}
use Rattle.std.proofs.lemmas.Bool.{cases_Bool, true≢false, and_from, or_right, le-leb, leb-true}
use Rattle.policy_ctx.specs.declared.policy.KeyId.{KeyId}
use Rattle.policy_ctx.specs.declared.policy.Context.{Context}
use Rattle.policy_ctx.specs.KeyIds.{same_id}
use Rattle.policy_ctx.proofs.KeyIdLemmas.{same_id-eq, same_id-refl}
use Rattle.fsc_keys.specs.Keys.{key_id_of, mode_key_of}
use Rattle.fsc_keys.specs.declared.raw_key.TheConstants.{MIN_RAW_KEY_BYTES, MAX_RAW_KEY_BYTES}
use Rattle.fsc_keys.specs.declared.file_keys.KeyKind.{KeyKind}
use Rattle.user_claims.specs.Claims.{ClaimSet, has_claim, with_claim}
use Rattle.user_claims.specs.ClaimCounts.{is_present, count_of_user, IsOverQuota}
use Rattle.user_claims.specs.declared.claims.TheConstants.{MAX_CLAIMS}
use Rattle.user_claims.proofs.ClaimOrder.{id_cmp_total, id_ties}
use Rattle.user_claims.proofs.PresentLemmas.{is_present-with_claim}
use Rattle.key_ring.specs.Holding.{SecretMap}
use Rattle.key_ring.specs.Modes.{Modes, mode_at}
use Rattle.key_ring.specs.ModeUsers.{AreUsed}
use Rattle.key_ring.specs.declared.mode_key.ModeKey.{ModeKey}
use Rattle.inode_refs.specs.CacheMaps.{Cache}
use Rattle.plain_tree.specs.NodesByNumber.{context_at}
use Rattle.plain_tree.specs.Facts.{AgreesBy}
use Rattle.disk_tree.specs.DiskTree.{Disk}
use Rattle.mount_model.specs.declared.reply.Reply.TheVariants.{Added}
use Rattle.mount_model.specs.declared.reply.Refusal.TheVariants.{Inval, Quota}
use Rattle.mount_model.specs.declared.reply.KeyState.TheVariants.{Absent, Present, Incomplete}
use Rattle.mount_model.specs.PlainMount.{PlainMount, Raws, HandleList, raw_in, with_raw}
use Rattle.mount_model.specs.AnswerForms.{Answer, refusal_with}
use Rattle.mount_model.specs.States as plain
use Rattle.mount_model.specs.KeyAnswers.{is_raw_key, is_over_quota, with_key, answer_to_added_key, answer_to_add_key}
use Rattle.mount_model.specs.Lawful.{AgreesWith}
use Rattle.mount_model.proofs.KeyLemmas.{raw_in-with_raw, HasKeys-with_key}
use Rattle.mount_model.proofs.AddedLemmas.{HasNodes-with_raw}
use Rattle.dentry_cache.specs.Names.{NameList}
use Rattle.mount_state.specs.CachedNames.{RepresentsNames}
use Rattle.mount_state.specs.Handles.{Handles}
use Rattle.mount_state.specs.KeyUse.{is_in_use, key_state}
use Rattle.mount_state.specs.Stored.{stored_node}
use Rattle.mount_state.specs.Represents.{Represents}
use Rattle.mount_state.specs.CachedKeys.{RepresentsCaches}
use Rattle.mount_state.specs.declared.state.MountState.{MountState}
use Rattle.mount_state.proofs.RuleLemmas.{no_mode_key}
use Rattle.mount_state.proofs.StandLemmas.{busy_stands}
use Rattle.mount_state.proofs.UserLemmas.{one_on}
use Rattle.mount_state.specs.AnswerOf.{IsAnswerOf}
use Rattle.mount_state.proofs.WalkLemmas.{same_cache}
use Rattle.mount_keys.specs.ClaimChanges.{SameButRing, GainsClaim}
use Rattle.mount_keys.proofs.AlikeLemmas.{node_key_alike, kept_raw, raw_there, still_stored}

-- ---- secrets

same_raw : (a b : List ℕ) → Some a ≡ Some b → a ≡ b
same_raw a b is = cc

-- a secret is the raw key that was last added
secrets_stand : (secrets : SecretMap) (raws : Raws) (raw : List ℕ)
    → ((q : KeyId) (r : List ℕ) → map.get secrets q ≡ Some r → raw_in raws q ≡ Some r)
    → (q : KeyId) (r : List ℕ) → map.get (map.insert secrets (key_id_of raw) raw) q ≡ Some r
    → raw_in (with_raw raws (key_id_of raw) raw) q ≡ Some r
secrets_stand secrets raws raw were q r there =
    raw_in-with_raw raws (key_id_of raw) raw q
    ∙ at (same_id q (key_id_of raw)) (ap (λ b. cond b (Some raw) (map.get secrets q))
    (id_ties q (key_id_of raw))
    ∙ (sym (get-insert id_cmp_total secrets (key_id_of raw) raw q) ∙ there))
  where
    at : (b : Bool) → cond b (Some raw) (map.get secrets q) ≡ Some r → cond b (Some raw) (raw_in raws q)
        ≡ Some r
    at true is = is
    at false is = were q r is

-- ---- the key is present

pub added_present : (disk : Disk) (before after : ClaimSet) (live : HandleList) (uid : ℕ) (key raw : List ℕ)
    → key ≡ raw
    → after ≡ with_claim before (key_id_of key) uid → key_state disk after live (key_id_of raw) ≡ Present
added_present disk before after live uid key raw is claimed =
    let id : KeyId = key_id_of raw in
    let there : is_present after id ≡ true =
    ap (λ (cs : ClaimSet). is_present cs id) (claimed
    ∙ ap (λ (r : List ℕ). with_claim before (key_id_of r) uid) is)
    ∙ (is_present-with_claim before id uid id ∙ or_right (is_present before id) (same_id id id)
    (same_id-refl id)) in
    ap (λ b. cond b Present (cond (is_in_use disk live id) Incomplete Absent)) there

-- ---- no refusal

-- a claim that is held, or that is within the user's quota
within_quota : (held : Bool) (n : ℕ) → ((held ≡ false) × (MAX_CLAIMS ≤ n) → ⊥)
    → (not held && nat_le MAX_CLAIMS n) ≡ false
within_quota true n room = refl
within_quota false n room = elim (cases_Bool (nat_le MAX_CLAIMS n)) [
  | inl full ↦ absurd (room (refl, leb-true MAX_CLAIMS n full))
  | inr free ↦ free
]

last_answer : (fits over : Bool) (x y z : Answer) → fits ≡ true → over ≡ false
    → cond (not fits) x (cond over y z) ≡ z
last_answer false over x y z fits room = absurd (true≢false (sym fits))
last_answer true true x y z fits room = absurd (true≢false room)
last_answer true false x y z fits room = refl

-- ---- the key of a cached mode was added

module _ (s : MountState) (m : PlainMount) (st : Represents s m) (used : AreUsed s.modes) where
  -- some node's policy names it
  named_raw : (id : KeyId) (n : ℕ) (o : Option Context) → context_at m.nodes n ≡ o → plain.is_of_id id o
      ≡ true
      → ((c : Context) → context_at m.nodes n ≡ Some c → is_some (raw_in m.raws c.policy.id) ≡ true)
      → is_some (raw_in m.raws id) ≡ true
  named_raw id n None under named there = absurd (true≢false (sym named))
  named_raw id n (Some c) under named there =
      subst (λ (k : KeyId). is_some (raw_in m.raws k) ≡ true) (same_id-eq c.policy.id id named)
      (there c under)

  busy_raw : (raw : List ℕ) → AgreesWith m.raws raw → (id : KeyId) → is_in_use s.disk s.handles.live id ≡ true
      → is_some (raw_in m.raws id) ≡ true
  busy_raw raw agrees id busy =
      let one = one_on (λ n. plain.names_key m.nodes n id) m.handles
      (sym (busy_stands s.disk s.next_node m st.well st.tree s.handles.live st.handles.live id) ∙ busy) in
      named_raw id one.0 (context_at m.nodes one.0) refl one.1.1
      (raw_there m.raws raw agrees m.nodes m.next st.well.nodes one.0)

  mode_raw : (raw : List ℕ) → AgreesWith m.raws raw → (id : KeyId) (kind : KeyKind) (mode : ModeKey)
      → mode_at s.modes id kind ≡ Some mode
      → is_some (raw_in m.raws id) ≡ true
  mode_raw raw agrees id kind mode there = elim (cases_Bool (is_in_use s.disk s.handles.live id)) [
    | inl busy ↦ busy_raw raw agrees id busy
    | inr idle ↦
        let gone : mode_at s.modes id kind ≡ None =
        no_mode_key s.disk s.ring s.inodes s.modes s.handles.live s.forgets id used idle kind in
        let none : None ≡ Some mode = sym gone ∙ there in absurd (cc)
  ]

  -- ---- what is cached

  pub added_caches : (raw : List ℕ) → AgreesWith m.raws raw → (uid : ℕ)
      → RepresentsCaches s.inodes s.modes (with_key m uid raw)
  added_caches raw agrees uid = record {
    file_keys = λ node key c there under.
        st.caches.file_keys node key c there under
        ∙ sym (node_key_alike m.raws (with_raw m.raws (key_id_of raw) raw) c _
        (kept_raw m.raws raw agrees c.policy.id (raw_there m.raws raw agrees m.nodes m.next st.well.nodes
        node c under)));
    mode_keys = λ id kind mode there.
        st.caches.mode_keys id kind mode there
        ∙ sym (ap (λ (o : Option (List ℕ)). mode_key_of (unwrap_or o []) kind)
        (kept_raw m.raws raw agrees id (mode_raw raw agrees id kind mode there)));
  }

  -- ---- the whole

  pub added_stand : (new : MountState) (uid : ℕ) (raw : List ℕ) → AgreesWith m.raws raw → is_raw_key raw
      ≡ true → is_over_quota m.claims (key_id_of raw) uid ≡ false
      → SameButRing s new → GainsClaim s new uid raw → Represents new (with_key m uid raw)
  added_stand new uid raw agrees fits room same gained = record {
    well = record {
      keys = HasKeys-with_key m.claims m.raws uid raw st.well.keys fits room;
      nodes = HasNodes-with_raw m.raws raw agrees m.nodes m.next st.well.nodes;
      handles = st.well.handles;
      records = st.well.records;
    };
    tree = record {
      nodes = subst (λ (d : Disk). AgreesBy (stored_node (with_raw m.raws (key_id_of raw) raw)) m.nodes d)
          (sym same.disk)
          (still_stored m.raws raw agrees m.nodes m.next st.well.nodes s.disk st.tree.nodes);
      next = same.next_node ∙ st.tree.next;
    };
    keys = record {
      claims = gained.claims ∙ ap (λ cs. with_claim cs (key_id_of raw) uid) st.keys.claims;
      secrets = λ q r there.
          secrets_stand s.ring.secrets m.raws raw st.keys.secrets q r
          (sym (ap (λ (held : SecretMap). map.get held q) gained.secrets) ∙ there);
    };
    handles = record {
      live = ap (λ (h : Handles). h.live) same.handles ∙ st.handles.live;
      opened = ap (λ (h : Handles). h.opened) same.handles ∙ st.handles.opened;
    };
    caches = subst (λ (cache : Cache). RepresentsCaches cache new.modes (with_key m uid raw)) (sym (same_cache s.inodes new.inodes same.keys same.pins))
        (subst (λ (modes : Modes). RepresentsCaches s.inodes modes (with_key m uid raw)) (sym same.modes)
        (added_caches raw agrees uid));
    names = subst (λ (names : NameList). RepresentsNames names m.nodes) (sym same.names) st.names;
    records = same.meta ∙ st.records;
  }

  -- ---- the answer

  pub added_gives : (new : MountState) (uid : ℕ) (raw bytes : List ℕ) (id : KeyId) → AgreesWith m.raws bytes
      → raw ≡ bytes
      → MIN_RAW_KEY_BYTES ≤ length bytes → length bytes ≤ MAX_RAW_KEY_BYTES → id ≡ key_id_of raw
      → (IsOverQuota s.ring.claims (key_id_of raw) uid → ⊥)
      → SameButRing s new → GainsClaim s new uid raw → IsAnswerOf (answer_to_add_key m uid bytes) (Added id) new
  added_gives new uid raw bytes id agrees is low high named room same gained =
      let fits : is_raw_key bytes ≡ true =
      and_from _ _ (le-leb MIN_RAW_KEY_BYTES (length bytes) low)
      (le-leb (length bytes) MAX_RAW_KEY_BYTES high) in
      let within : is_over_quota m.claims (key_id_of bytes) uid ≡ false =
      within_quota (has_claim m.claims (key_id_of bytes) uid) (count_of_user m.claims uid)
      (λ over. room (subst (λ (r : List ℕ). IsOverQuota s.ring.claims (key_id_of r) uid) (sym is)
      (subst (λ (cs : ClaimSet). IsOverQuota cs (key_id_of bytes) uid) (sym st.keys.claims) over))) in
      subst (λ (a : Answer). IsAnswerOf a (Added id) new)
      (sym (last_answer (is_raw_key bytes) (is_over_quota m.claims (key_id_of bytes) uid) (refusal_with m Inval)
      (refusal_with m Quota) (answer_to_added_key m uid bytes) fits within)) (
        ap Added (named ∙ ap key_id_of is),
        added_stand new uid bytes agrees fits within same
            (subst (λ (r : List ℕ). GainsClaim s new uid r) is gained),
      )
