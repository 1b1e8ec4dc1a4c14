-- A state in which a handle was closed represents the mount in which it was.
use Rattle.std.proofs.Common.{◌≡◌, ℕ, Bool, true, false, cond, ◌||◌, List, [], Contains, eqb, unwrap_or, Option, Some, None, option_map, inl, inr, refl, sym, ap, subst, ◌∙◌}
use Rattle.std.proofs.lemmas.Bool.{cases_Bool, cases_eq, eqb-true, true≢false}
use Rattle.policy_ctx.specs.declared.policy.KeyId.{KeyId}
use Rattle.policy_ctx.specs.declared.policy.Context.{Context}
use Rattle.policy_ctx.specs.Context.{id_in, is_by_mode_in}
use Rattle.fsc_keys.specs.Keys.{mode_key_of}
use Rattle.fsc_keys.specs.declared.file_keys.FileKey.{FileKey}
use Rattle.fsc_keys.specs.declared.file_keys.KeyKind.{KeyKind}
use Rattle.number_map.specs.Numbered.{get, remove}
use Rattle.number_map.proofs.NumberedLemmas.{remove_here, remove_other}
use Rattle.key_ring.specs.Holding.{Holding, secret_of}
use Rattle.key_ring.specs.Modes.{Modes, mode_at}
use Rattle.key_ring.specs.declared.mode_key.ModeKey.{ModeKey}
use Rattle.inode_refs.specs.CacheMaps.{KeyMap}
use Rattle.plain_tree.specs.Nodes.{Node, Nodes}
use Rattle.plain_tree.specs.NodesByNumber.{context_in, context_at, children, children_in, entry, is_named, is_named_in}
use Rattle.plain_tree.specs.Facts.{AgreesBy}
use Rattle.plain_tree.proofs.AgreeLemmas.{agree_removed}
use Rattle.disk_tree.specs.DiskTree.{Disk}
use Rattle.mount_model.specs.declared.call.Op.TheVariants as op
use Rattle.mount_model.specs.PlainMount.{PlainMount, HandleList, raw_in}
use Rattle.mount_model.specs.OpenHandles.{node_of, has_handle, without_handle}
use Rattle.mount_model.specs.AnswerForms.{done}
use Rattle.mount_model.specs.Sealed.{node_key}
use Rattle.mount_model.specs.FileAnswers.{at_handle}
use Rattle.mount_model.specs.CloseAnswers.{answer_to_close, with_closed, nodes_after_close}
use Rattle.mount_model.specs.WellFormed.{IsWellFormed}
use Rattle.mount_model.proofs.WellSteps.{step_well}
use Rattle.mount_state.specs.StoredKinds.{kind_on_disk}
use Rattle.mount_state.specs.Contexts.{context_on_disk as stored_context}
use Rattle.std.specs.Map.{lookup}
use Rattle.std.specs.Str.{bytes_eq}
use Rattle.dentry_cache.specs.Names.{Pair, NameList}
use Rattle.mount_state.specs.CachedNames.{RepresentsNames}
use Rattle.mount_state.specs.Handles.{Handles}
use Rattle.mount_state.specs.Stored.{stored_node}
use Rattle.mount_state.specs.Represents.{Represents, RepresentsTree}
use Rattle.mount_state.specs.CachedKeys.{RepresentsCaches, plain_kind}
use Rattle.mount_state.specs.declared.state.MountState.{MountState}
use Rattle.mount_files.specs.Closing.{is_lasting, disk_after_close, modes_left_by, names_after_close, is_named_in as is_named_on}
use Rattle.mount_files.specs.Opening.{SameButClosed, ClosesOne}
use Rattle.mount_files.proofs.CachedRules.{fewer_names}
use Rattle.mount_files.proofs.ClosedLemmas.{left_was}
use Rattle.mount_files.proofs.ModeCounts.{released, each_released}

-- ---- the mount stays well formed

pub close_well : (m : PlainMount) (caller handle n : ℕ) → IsWellFormed m → node_of m.handles caller handle ≡ Some n
    → IsWellFormed (with_closed m caller handle n)
close_well m caller handle n well is =
    subst IsWellFormed (ap (λ (o : Option ℕ). (at_handle m o (λ x. done (with_closed m caller handle x))).mount) is)
    (step_well m caller (record { uid = 0; op = op.Close handle }) (answer_to_close m caller handle).reply (answer_to_close m caller handle).mount
    well tt (λ _. tt) (inl (refl, refl)))

-- ---- which nodes are left

module _ (disk : Disk) (next : ℕ) (m : PlainMount) (well : IsWellFormed m) (tree : RepresentsTree disk next m) (n : ℕ) where
  named_lies : is_named_on (get disk n) ≡ is_named m.nodes n
  named_lies = ap is_named_on (tree.nodes n) ∙ named_stored (get m.nodes n)
    where
      named_stored : (o : Option Node) → is_named_on (option_map (stored_node m.raws n) o) ≡ is_named_in o
      named_stored None = refl
      named_stored (Some v) = refl

  -- the root counts as named
  lasting_stands : is_lasting disk n ≡ is_named m.nodes n
  lasting_stands = elim (cases_Bool (eqb n 0)) [
    | inl root ↦
        ap (λ b. b || is_named_on (get disk n)) root
        ∙ sym (ap (is_named m.nodes) (eqb-true n 0 root) ∙ well.nodes.tree.root.named)
    | inr other ↦ ap (λ b. b || is_named_on (get disk n)) other ∙ named_lies
  ]

  agree_left : (held : Bool) → AgreesBy (stored_node m.raws) (cond (is_named m.nodes n || held) m.nodes (remove m.nodes n)) (disk_after_close disk held n)
  agree_left held = at held (is_lasting disk n) (is_named m.nodes n) lasting_stands
    where
      at : (held lasting named : Bool) → lasting ≡ named
          → AgreesBy (stored_node m.raws) (cond (named || held) m.nodes (remove m.nodes n)) (cond (held || lasting) disk (remove disk n))
      at true true true is = tree.nodes
      at true true false is = tree.nodes
      at true false true is = tree.nodes
      at true false false is = tree.nodes
      at false true true is = tree.nodes
      at false true false is = absurd (true≢false is)
      at false false true is = absurd (true≢false (sym is))
      at false false false is = agree_removed (stored_node m.raws) m.nodes disk tree.nodes n

-- ---- cached keys

-- a node with a context after the close had it before
left_node : (b : Bool) (nodes : Nodes) (n q : ℕ) (c : Context) → context_at (cond b nodes (remove nodes n)) q ≡ Some c
    → get (cond b nodes (remove nodes n)) q ≡ get nodes q
left_node true nodes n q c is = refl
left_node false nodes n q c is = elim (cases_eq q n) [
  | inl here ↦
      let bad : None ≡ Some c = sym (ap context_in (ap (get (remove nodes n)) here ∙ remove_here nodes n)) ∙ is in
      absurd (cc)
  | inr differ ↦ remove_other nodes n q differ
]

each_left : (P : KeyId → KeyKind → FileKey → Type 0) (modes : Modes)
    → ((q : KeyId) (k : KeyKind) (mode : ModeKey) → mode_at modes q k ≡ Some mode → P q k mode.key)
    → (kind : KeyKind) (o : Option (List ℕ)) → (q : KeyId) (k : KeyKind) (mode : ModeKey) → mode_at (modes_left_by modes kind o) q k ≡ Some mode → P q k mode.key
each_left P modes old kind None q k mode = old q k mode
each_left P modes old kind (Some context) q k mode = by_flag (is_by_mode_in context)
  where
    by_flag : (b : Bool) → mode_at (cond b (released modes (id_in context) kind) modes) q k ≡ Some mode → P q k mode.key
    by_flag true = each_released P modes old (id_in context) kind q k mode
    by_flag false = old q k mode

-- ---- the state represents the mount

module _ (old new : MountState) (m : PlainMount) (caller handle n : ℕ) (st : Represents old m) (same : SameButClosed old new)
    (closes : ClosesOne old new caller handle n) where
  live_is : new.handles.live ≡ without_handle caller handle m.handles
  live_is = ap (λ (h : Handles). h.live) closes.handles ∙ ap (without_handle caller handle) st.handles.live

  nodes_stand : AgreesBy (stored_node m.raws) (nodes_after_close (without_handle caller handle m.handles) m.nodes n) new.disk
  nodes_stand =
      subst (λ (d : Disk). AgreesBy (stored_node m.raws) (nodes_after_close (without_handle caller handle m.handles) m.nodes n) d)
      (sym (closes.disk ∙ ap (λ (l : HandleList). disk_after_close old.disk (has_handle l n) n) live_is))
      (agree_left old.disk old.next_node m st.well st.tree n (has_handle (without_handle caller handle m.handles) n))

  caches_stand : RepresentsCaches new.inodes new.modes (with_closed m caller handle n)
  caches_stand = record {
    file_keys = λ q key c there under.
        let was = left_was old.inodes.keys n _ q key (sym (ap (λ (k : KeyMap). get k q) closes.keys) ∙ there) in
        let left = left_node _ m.nodes n q c under in
        st.caches.file_keys q key c was.0 (sym (ap context_in left) ∙ under)
        ∙ ap (λ (o : Option Node). node_key m.raws c (plain_kind o)) (sym left);
    mode_keys = λ id kind mode there.
        each_left (λ i k x. x ≡ mode_key_of (unwrap_or (raw_in m.raws i) []) k) old.modes st.caches.mode_keys
        (kind_on_disk (get old.disk n)) (stored_context (get old.disk n)) id kind mode
        (sym (ap (λ (x : Modes). mode_at x id kind) closes.modes) ∙ there);
  }

  names_stand : RepresentsNames new.names (with_closed m caller handle n).nodes
  names_stand = record {
    entries = λ pair held.
        let was : Contains old.names.pairs pair =
        fewer (subst (λ (x : NameList). Contains x.pairs pair) closes.names held) in
        entry_left (is_named m.nodes n) (has_handle (without_handle caller handle m.handles) n) refl pair (st.names.entries pair was);
  }
    where
      fewer : {pair : Pair} → Contains (names_after_close old.disk old.ring.claims old.names (has_handle new.handles.live n) n).pairs pair → Contains old.names.pairs pair
      fewer {pair} held = fewer_names old.disk old.ring.claims old.names new.handles.live n pair held

      -- a node without name has no entries
      entry_left : (named on : Bool) → is_named m.nodes n ≡ named → (pair : Pair) → entry m.nodes pair.0.dir pair.0.name ≡ Some pair.1
          → entry (cond (named || on) m.nodes (remove m.nodes n)) pair.0.dir pair.0.name ≡ Some pair.1
      entry_left true on is pair leads = leads
      entry_left false true is pair leads = leads
      entry_left false false is pair leads =
          ap (λ o. lookup (bytes_eq pair.0.name) (children_in o)) (remove_other m.nodes n pair.0.dir (λ same.
          let bad : None ≡ Some pair.1 = sym (ap (lookup (bytes_eq pair.0.name)) (ap (children m.nodes) same ∙ st.well.nodes.tree.names.nameless n is)) ∙ leads in absurd (cc)))
          ∙ leads

  pub closed_stands : node_of m.handles caller handle ≡ Some n → Represents new (with_closed m caller handle n)
  closed_stands it = record {
    well = close_well m caller handle n st.well it;
    tree = record { nodes = nodes_stand; next = same.next_node ∙ st.tree.next };
    keys = record {
      claims = ap (λ (r : Holding). r.claims) same.ring ∙ st.keys.claims;
      secrets = λ id raw there. st.keys.secrets id raw (ap (λ (r : Holding). secret_of r id) (sym same.ring) ∙ there);
    };
    handles = record { live = live_is; opened = ap (λ (h : Handles). h.opened) closes.handles ∙ st.handles.opened };
    caches = caches_stand;
    names = names_stand;
    records = same.meta ∙ st.records;
  }
