-- Cached names: their rule, and what they represent, if some are removed and if one is added.
use Rattle.std.proofs.Common.{◌≡◌, ℕ, Bool, true, cond, List, [], ◌∷◌, Contains, Option, Some, None, option_map, Result, Ok, Err, OnOk, OnErr, bytes_eq, inl, inr, refl, sym, ap, subst, ◌∙◌}
use Rattle.std.proofs.lemmas.Bool.{or_cases, or_left, or_right}
use Rattle.std.specs.Map.{lookup}
use Rattle.policy_ctx.specs.declared.policy.KeyId.{KeyId}
use Rattle.policy_ctx.specs.declared.policy.Context.{Context}
use Rattle.policy_ctx.specs.Context.{id_in}
use Rattle.number_map.specs.Numbered.{get}
use Rattle.user_claims.specs.Claims.{ClaimSet}
use Rattle.user_claims.specs.ClaimCounts.{is_present}
use Rattle.dentry_cache.specs.Names.{Pair, NameList, key_of, is_name, cached_node}
use Rattle.dentry_cache.specs.HeldNames.{HoldsNoMore, HoldsBeside}
use Rattle.dentry_cache.specs.NameChanges.{one_more, with_one_more_refused}
use Rattle.dentry_cache.specs.declared.key.NameKey.{NameKey}
use Rattle.dentry_cache.proofs.NameLemmas.{same_name, Contains-lookup}
use Rattle.plain_tree.specs.Nodes.{Name, Node, Nodes, Body, Dir, File, Link}
use Rattle.plain_tree.specs.NodesByNumber.{children, context_at, is_dir_in, entry, is_dir_at as is_plain_dir}
use Rattle.plain_tree.specs.Facts.{AgreesBy}
use Rattle.key_ring.specs.Holding.{Holding}
use Rattle.key_ring.specs.Modes.{Modes}
use Rattle.inode_refs.specs.CacheMaps.{Cache}
use Rattle.disk_tree.specs.DiskTree.{Disk, IsDirAt, of_node}
use Rattle.disk_tree.specs.Nodes.{IsDir}
use Rattle.disk_tree.specs.declared.node.StoredNode.{StoredNode}
use Rattle.disk_tree.specs.declared.node.Body.{Body as StoredBody}
use Rattle.disk_tree.specs.declared.node.Body.TheVariants as stored
use Rattle.mount_model.specs.PlainMount.{PlainMount, HandleList}
use Rattle.mount_model.specs.OpenHandles.{has_handle}
use Rattle.mount_model.specs.Sealed.{texts}
use Rattle.mount_model.specs.States as plain
use Rattle.mount_state.specs.CachedNames.{NamesForget, RepresentsNames, IsCachedOrCounted, is_dir_body, is_dir_on_disk, is_dir_node as is_stored_dir}
use Rattle.mount_state.specs.KeyUse.{is_unlocked, is_unlocked_under}
use Rattle.mount_state.specs.Resolution.{resolved_node}
use Rattle.mount_state.specs.Handles.{Handles}
use Rattle.mount_state.specs.SameBut.{SameBut, CachedNames}
use Rattle.mount_state.specs.SameButCaches.{StaysFor}
use Rattle.mount_state.specs.Represents.{RepresentsTree, RepresentsKeys, RepresentsHandles}
use Rattle.mount_state.specs.CachedKeys.{RepresentsCaches}
use Rattle.mount_state.specs.declared.state.MountState.{MountState}
use Rattle.mount_state.specs.Stored.{stored_node}
use Rattle.mount_state.proofs.LedLemmas.{value_found}
use Rattle.mount_state.proofs.WalkLemmas.{same_cache}

-- ---- the rule

module _ (disk : Disk) (claims : ClaimSet) (live : HandleList) (old new : NameList) (rule : NamesForget disk claims old live) where
  -- if no name is added
  pub forget_fewer : HoldsNoMore old new → NamesForget disk claims new live
  forget_fewer fewer = record {
    there = λ pair held. rule.there pair (fewer pair held);
    keyed = λ pair held. rule.keyed pair (fewer pair held);
  }

  -- if one is added, of a keyed directory
  pub forget_beside : (more : Pair) → HoldsBeside old new more → is_dir_on_disk disk more.0.dir ≡ true → is_unlocked disk claims live more.0.dir ≡ true
      → NamesForget disk claims new live
  forget_beside more beside dir keyed = record {
    there = λ pair held. elim (beside pair held) [
      | inl was ↦ rule.there pair was
      | inr is ↦ ap (λ (p : Pair). is_dir_on_disk disk p.0.dir) is ∙ dir
    ];
    keyed = λ pair held. elim (beside pair held) [
      | inl was ↦ rule.keyed pair was
      | inr is ↦ ap (λ (p : Pair). is_unlocked disk claims live p.0.dir) is ∙ keyed
    ];
  }

-- if directories of which names are cached stay keyed ones
pub forget_when : (old new : Disk) (before after : ClaimSet) (held left : HandleList) (names : NameList) → NamesForget old before names held
    → ((pair : Pair) → Contains names.pairs pair → is_dir_on_disk old pair.0.dir ≡ true → is_unlocked old before held pair.0.dir ≡ true
    → (is_dir_on_disk new pair.0.dir ≡ true) × (is_unlocked new after left pair.0.dir ≡ true))
    → NamesForget new after names left
forget_when old new before after held left names rule stays = record {
  there = λ pair is. (stays pair is (rule.there pair is) (rule.keyed pair is)).0;
  keyed = λ pair is. (stays pair is (rule.there pair is) (rule.keyed pair is)).1;
}

-- a keyed node stays one unless a claim on some key is lost, or the last handle on the node
pub keyed_more : (before after : ClaimSet) (held left : HandleList) (node : ℕ) → ((id : KeyId) → is_present before id ≡ true → is_present after id ≡ true)
    → (has_handle held node ≡ true → has_handle left node ≡ true) → (o : Option (List ℕ)) → is_unlocked_under before held node o ≡ true → is_unlocked_under after left node o ≡ true
keyed_more before after held left node claims handles None is = refl
keyed_more before after held left node claims handles (Some context) is =
    elim (or_cases (is_present before (id_in context)) (has_handle held node) is) [
      | inl present ↦ or_left (is_present after (id_in context)) (has_handle left node) (claims (id_in context) present)
      | inr handle ↦ or_right (is_present after (id_in context)) (has_handle left node) (handles handle)
    ]

-- ---- what they represent

module _ (nodes : Nodes) (old new : NameList) (stand : RepresentsNames old nodes) where
  pub stand_fewer : HoldsNoMore old new → RepresentsNames new nodes
  stand_fewer fewer = record { entries = λ pair held. stand.entries pair (fewer pair held) }

  pub stand_beside : (more : Pair) → HoldsBeside old new more → entry nodes more.0.dir more.0.name ≡ Some more.1 → RepresentsNames new nodes
  stand_beside more beside leads = record {
    entries = λ pair held. elim (beside pair held) [
      | inl was ↦ stand.entries pair was
      | inr is ↦ ap (λ (p : Pair). entry nodes p.0.dir p.0.name) is ∙ (leads ∙ ap (λ (p : Pair). Some p.1) (sym is))
    ];
  }

-- ---- a name that is cached

-- it is that of a pair
pub pair_of : (names : NameList) (dir : ℕ) (name : Name) (number : ℕ) → cached_node names dir name ≡ Some number → Contains names.pairs (key_of dir name, number)
pair_of names dir name number is =
    let found = Contains-lookup (is_name dir name) names.pairs number is in
    subst (λ (k : NameKey). Contains names.pairs (k, number)) (sym (same_name dir name found.0 found.2)) found.1

-- in a keyed directory a part resolves as the entry of this name does
pub keyed_led : (m : PlainMount) (dir : ℕ) (part : Name) → plain.is_keyed m dir ≡ true → entry m.nodes dir part ≡ resolved_node m dir part
keyed_led m dir part keyed =
    ap (λ (f : Name → Name). lookup (λ name. bytes_eq part (f name)) (children m.nodes dir)) (λ i name. sym (shown_plain name) i)
    ∙ value_found (λ name. bytes_eq part (plain.shown m dir name)) (children m.nodes dir)
  where
    by_context : (o : Option Context) → plain.is_keyed m dir ≡ true → (name : Name) → plain.visible_name_under m dir name o ≡ name
    by_context None is name = refl
    by_context (Some c) is name = ap (λ b. cond b name (texts m.raws dir c name)) is

    shown_plain : (name : Name) → plain.shown m dir name ≡ name
    shown_plain name = by_context (context_at m.nodes dir) keyed name

-- ---- directories

pub dir_told : (disk : Disk) (dir : ℕ) → IsDirAt disk dir → is_dir_on_disk disk dir ≡ true
dir_told disk dir = of (get disk dir)
  where
    of_body : (b : StoredBody) → IsDir b → is_dir_body b ≡ true
    of_body (stored.Dir entries) is = refl
    of_body (stored.File blocks size) is = absurd is
    of_body (stored.Link target) is = absurd is

    of : (o : Option StoredNode) → of_node ⊥ (λ node. IsDir node.body) o → is_stored_dir o ≡ true
    of None is = absurd is
    of (Some v) is = of_body v.body is

-- so it is in the mount
pub dir_stands : (disk : Disk) (next : ℕ) (m : PlainMount) → RepresentsTree disk next m → (dir : ℕ) → IsDirAt disk dir → is_plain_dir m.nodes dir ≡ true
dir_stands disk next m tree dir is = of (get m.nodes dir) (subst (of_node ⊥ (λ node. IsDir node.body)) (tree.nodes dir) is)
  where
    of_body : (named : Bool) (context : Option Context) (b : Body)
        → of_node ⊥ (λ node. IsDir node.body) (Some (stored_node m.raws dir (record { named = named; context = context; body = b })))
        → is_dir_in (Some (record { named = named; context = context; body = b })) ≡ true
    of_body named context (Dir children) is = refl
    of_body named context (File contents) is = absurd is
    of_body named context (Link target) is = absurd is

    of : (o : Option Node) → of_node ⊥ (λ node. IsDir node.body) (option_map (stored_node m.raws dir) o) → is_dir_in o ≡ true
    of None is = absurd is
    of (Some v) is = of_body v.named v.context v.body is

-- ---- a name that is cached

pub kept_or_counted : {T E : Type 0} (r : Result T E) (first old new : NameList) (dir : ℕ) (name : Name) (number : ℕ) → old.refused ≡ first.refused
    → OnOk r (cached_node new dir name ≡ Some number) → OnErr r (new ≡ with_one_more_refused old) → IsCachedOrCounted first new dir name number
kept_or_counted (Ok x) first old new dir name number same kept counted = inl kept
kept_or_counted (Err e) first old new dir name number same kept counted =
    inr (ap (λ (n : NameList). n.refused) counted ∙ ap one_more same)

-- ---- a state in which names went

abbrev pub SameButNames : MountState → MountState → Type 0
SameButNames old new = SameBut (CachedNames ∷ []) old new

pub fewer_names_stand : (old new : MountState) → SameButNames old new → HoldsNoMore old.names new.names → StaysFor old new
fewer_names_stand old new same fewer = λ m st. record {
  well = st.well;
  tree = record {
    nodes = subst (λ (d : Disk). AgreesBy (stored_node m.raws) m.nodes d) (sym same.disk) st.tree.nodes;
    next = same.next_node ∙ st.tree.next;
  };
  keys = subst (λ (r : Holding). RepresentsKeys r m) (sym same.ring) st.keys;
  handles = subst (λ (h : Handles). RepresentsHandles h m) (sym same.handles) st.handles;
  caches = subst (λ (x : Modes). RepresentsCaches new.inodes x m) (sym same.modes)
      (subst (λ (x : Cache). RepresentsCaches x old.modes m) (sym (same_cache old.inodes new.inodes same.keys same.pins)) st.caches);
  names = stand_fewer m.nodes old.names new.names st.names fewer;
  records = same.meta ∙ st.records;
}
