-- A state in which a directory has a policy represents the mount in which it has.
use Rattle.std.proofs.Common.{◌≡◌, ℕ, Bool, true, false, cond, length, [], ◌∷◌, Option, Some, None, option_map, unwrap_or, refl, sym, ap, subst, ◌∙◌}
use Rattle.std.proofs.lemmas.Bool.{true≢false}
use Rattle.policy_ctx.specs.declared.policy.KeyId.{KeyId}
use Rattle.policy_ctx.specs.declared.policy.Context.{Context}
use Rattle.policy_ctx.specs.Context.{context_bytes}
use Rattle.fsc_keys.specs.Keys.{mode_key_of, file_key_of}
use Rattle.fsc_keys.specs.declared.file_keys.FileKey.{FileKey}
use Rattle.fsc_keys.specs.declared.file_keys.KeyKind.{KeyKind}
use Rattle.fsc_keys.specs.declared.file_keys.KeyKind.TheVariants.{Contents, Names}
use Rattle.number_map.specs.Numbered.{get, changed}
use Rattle.number_map.proofs.NumberedLemmas.{changed_here, changed_other}
use Rattle.key_ring.specs.Holding.{Holding, secret_of}
use Rattle.key_ring.specs.Modes.{Modes, of_kind, with_kind, mode_at}
use Rattle.key_ring.specs.ModeUsers.{with_users}
use Rattle.key_ring.specs.declared.mode_key.ModeKey.{ModeKey}
use Rattle.inode_refs.specs.CacheMaps.{Cache}
use Rattle.plain_tree.specs.Nodes.{Node, Body, Dir, File, Link, Children, children_of}
use Rattle.plain_tree.specs.NodesByNumber.{children, children_in, context_in, context_at, is_dir_in, is_dir_at}
use Rattle.plain_tree.specs.Changes.{with_context, with_node_context}
use Rattle.plain_tree.specs.Facts.{AgreesBy}
use Rattle.plain_tree.proofs.AgreeLemmas.{agree_edited}
use Rattle.disk_tree.specs.DiskTree.{Disk, IsDirAt}
use Rattle.disk_tree.specs.Nodes as stored
use Rattle.mount_model.specs.PlainMount.{PlainMount, Raws, raw_in}
use Rattle.mount_model.specs.OpenHandles.{has_handle}
use Rattle.mount_model.specs.Sealed.{raw_for, node_key}
use Rattle.mount_model.specs.WellFormed.{IsWellFormed}
use Rattle.mount_state.specs.Contexts as disk
use Rattle.mount_state.specs.StoredKinds.{is_of_kind}
use Rattle.dentry_cache.specs.Names.{NameList}
use Rattle.plain_tree.proofs.EditedLemmas.{edited_entry, leaves_context}
use Rattle.mount_state.specs.CachedNames.{RepresentsNames}
use Rattle.mount_state.specs.Handles.{Handles, handles_on}
use Rattle.mount_state.specs.NamesKey.{derived_file_key}
use Rattle.mount_state.specs.Stored.{stored_node, stored_body}
use Rattle.mount_state.specs.Represents.{Represents}
use Rattle.mount_state.specs.CachedKeys.{RepresentsCaches, plain_kind}
use Rattle.mount_state.specs.declared.state.MountState.{MountState}
use Rattle.mount_state.proofs.KeepLemmas.{with_key, kept_stand}
use Rattle.mount_state.proofs.KeyedLemmas.{drawn_is}
use Rattle.mount_names.specs.EncryptedDirs.{keys_with, modes_with, with_policy}
use Rattle.mount_names.proofs.EditLemmas.{read_changed}
use Rattle.mount_names.proofs.HeldLemmas.{caches_alike}
use Rattle.mount_names.proofs.PlaceLemmas.{dir_names}
use Rattle.mount_names.proofs.PolicyRules.{not_here, each_mode}

-- ---- an empty directory is stored alike under each context

empty_alike : (raws : Raws) (d : ℕ) (old new : Option Context) (cs : Children) → cs ≡ [] → stored_body raws d old (Dir cs) ≡ stored_body raws d new (Dir cs)
empty_alike raws d old new [] is = refl
empty_alike raws d old new (e ∷ cs) is = absurd (cc)

body_alike : (raws : Raws) (d : ℕ) (old new : Option Context) (v : Node) → is_dir_in (Some v) ≡ true → children_in (Some v) ≡ []
    → stored_body raws d old v.body ≡ stored_body raws d new v.body
body_alike raws d old new v is empty = at v.body is empty
  where
    at : (b : Body) → is_dir_in (Some (record v { body = b })) ≡ true → children_of b ≡ [] → stored_body raws d old b ≡ stored_body raws d new b
    at (Dir cs) is none = empty_alike raws d old new cs none
    at (File contents) bad none = absurd (true≢false (sym bad))
    at (Link target) bad none = absurd (true≢false (sym bad))

module _ (old : MountState) (m : PlainMount) (st : Represents old m) (d : ℕ) (c : Context) (is_dir : is_dir_at m.nodes d ≡ true) (empty : children m.nodes d ≡ []) where
  abbrev after : PlainMount
  after = with_policy m d c

  node_given : (v : Node) → get m.nodes d ≡ Some v → stored.with_context (context_bytes c) (stored_node m.raws d v) ≡ stored_node m.raws d (with_context c v)
  node_given v there =
      let dir : is_dir_in (Some v) ≡ true = ap is_dir_in (sym there) ∙ is_dir in
      let none : children_in (Some v) ≡ [] = ap children_in (sym there) ∙ empty in
      λ i. record { context = Some (context_bytes c); named = v.named; body = body_alike m.raws d v.context (Some c) v dir none i }

  pub policy_agrees : AgreesBy (stored_node m.raws) (with_node_context m.nodes d c) (changed old.disk d (stored.with_context (context_bytes c)))
  policy_agrees = agree_edited (stored_node m.raws) m.nodes old.disk st.tree.nodes d (with_context c) (stored.with_context (context_bytes c)) node_given

  names : plain_kind (get m.nodes d) ≡ Names
  names = dir_names old.disk old.next_node m st.well st.tree d is_dir

  given : (o : Option Node) → is_dir_in o ≡ true → context_in (option_map (with_context c) o) ≡ Some c
  given None bad = absurd (true≢false (sym bad))
  given (Some v) is = refl

  context_here : context_at after.nodes d ≡ Some c
  context_here = ap context_in (changed_here m.nodes d (with_context c)) ∙ given (get m.nodes d) is_dir

  kind_here : plain_kind (get after.nodes d) ≡ Names
  kind_here = read_changed plain_kind m.nodes d (with_context c) (λ v. refl) d ∙ names

  -- ---- the derived key is the directory's

  pub key_is : (key : FileKey) → derived_file_key old.ring c ≡ Some key → key ≡ node_key m.raws c Names
  key_is key drawn =
      drawn_is after d c context_here old.ring (record { claims = st.keys.claims; secrets = st.keys.secrets }) key drawn

  -- ---- what is cached

  module _ (dir : IsDirAt old.disk d) (plain : disk.context_on_disk (get old.disk d) ≡ None) where
    pub unheld_caches : RepresentsCaches old.inodes old.modes after
    unheld_caches = caches_alike old.inodes old.modes m (with_node_context m.nodes d c) m.next
        (record {
          contexts = λ n key is. ap context_in (changed_other m.nodes d (with_context c) n
              (not_here old.disk old.next_node d c dir plain old.ring.claims old.inodes old.modes old.handles.live old.forgets n key is));
          kinds = λ n key is. read_changed plain_kind m.nodes d (with_context c) (λ v. refl) n;
        }) st.caches

    module _ (key : FileKey) (drawn : derived_file_key old.ring c ≡ Some key) (kind : is_of_kind Names key ≡ true) (size : length c.policy.id.0 ≡ 16)
        (held_here : has_handle old.handles.live d ≡ true) (handles : ℕ) (count : handles ≡ handles_on old.handles.live d) where
      own_caches : RepresentsCaches (with_key old.inodes d c.policy.id key) old.modes after
      own_caches = kept_stand old.inodes d c.policy.id key old.modes after unheld_caches (λ e under.
          let same : c ≡ e = (let both : Some c ≡ Some e = sym context_here ∙ under in cc) in
          key_is key drawn ∙ (λ i. node_key m.raws (same i) (sym kind_here i)))

      mode_is : c.policy.by_mode ≡ true → key ≡ mode_key_of (unwrap_or (raw_in m.raws c.policy.id) []) Names
      mode_is mode = key_is key drawn ∙ ap (λ b. cond b (mode_key_of (raw_for m.raws c) Names) (file_key_of (raw_for m.raws c) Names c.nonce)) mode

      shared_caches : c.policy.by_mode ≡ true → RepresentsCaches old.inodes (with_kind old.modes Names (with_users (of_kind old.modes Names) c.policy.id key handles)) after
      shared_caches mode = record { file_keys = unheld_caches.file_keys; mode_keys = by_kind }
        where
          by_kind : (id : KeyId) (k : KeyKind) (x : ModeKey) → mode_at (with_kind old.modes Names (with_users (of_kind old.modes Names) c.policy.id key handles)) id k ≡ Some x
              → x.key ≡ mode_key_of (unwrap_or (raw_in m.raws id) []) k
          by_kind id Contents x is = st.caches.mode_keys id Contents x is
          by_kind id Names x is =
              each_mode old.disk old.next_node d c dir plain old.ring.claims old.inodes old.modes old.handles.live old.forgets key kind size held_here mode handles count
              (λ q k. k ≡ mode_key_of (unwrap_or (raw_in m.raws q) []) Names) (mode_is mode) (λ q y there. st.caches.mode_keys q Names y there) id x is

      pub open_caches : RepresentsCaches (keys_with old.inodes d c key) (modes_with old.modes handles c key) after
      open_caches = by_flag c.policy.by_mode refl
        where
          by_flag : (b : Bool) → c.policy.by_mode ≡ b
              → RepresentsCaches (cond b old.inodes (with_key old.inodes d c.policy.id key))
              (cond b (with_kind old.modes Names (with_users (of_kind old.modes Names) c.policy.id key handles)) old.modes) after
          by_flag true is = shared_caches is
          by_flag false is = own_caches

  -- ---- the whole

  pub policy_stands : (new : MountState) → new.disk ≡ changed old.disk d (stored.with_context (context_bytes c)) → new.next_node ≡ old.next_node
      → new.ring ≡ old.ring → new.meta ≡ old.meta → new.handles ≡ old.handles → RepresentsCaches new.inodes new.modes after → new.names ≡ old.names → IsWellFormed after → Represents new after
  policy_stands new disk_is next ring meta handles caches names well = record {
    well = well;
    tree = record {
      nodes = subst (λ (x : Disk). AgreesBy (stored_node m.raws) (with_node_context m.nodes d c) x) (sym disk_is) policy_agrees;
      next = next ∙ st.tree.next;
    };
    keys = record {
      claims = ap (λ (r : Holding). r.claims) ring ∙ st.keys.claims;
      secrets = λ id raw is. st.keys.secrets id raw (ap (λ (r : Holding). secret_of r id) (sym ring) ∙ is);
    };
    handles = record { live = ap (λ (h : Handles). h.live) handles ∙ st.handles.live; opened = ap (λ (h : Handles). h.opened) handles ∙ st.handles.opened };
    caches = caches;
    names = subst (λ (x : NameList). RepresentsNames x after.nodes) (sym names) (record {
      entries = λ pair held. edited_entry m.nodes d (with_context c) (leaves_context c) pair.0.dir pair.0.name ∙ st.names.entries pair held;
    });
    records = meta ∙ st.records;
  }

-- cached keys that are given by equations
pub caches_of : (cache new_cache : Cache) (modes new_modes : Modes) (m : PlainMount) → new_cache ≡ cache → new_modes ≡ modes
    → RepresentsCaches cache modes m → RepresentsCaches new_cache new_modes m
caches_of cache new_cache modes new_modes m cache_is modes_is stand =
    subst (λ (x : Cache). RepresentsCaches x new_modes m) (sym cache_is) (subst (λ (x : Modes). RepresentsCaches cache x m) (sym modes_is) stand)
