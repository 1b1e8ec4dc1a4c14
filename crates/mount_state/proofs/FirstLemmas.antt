-- The state of the empty mount meets the invariants of a state, and represents that mount.
use Rattle.std.proofs.Common.{◌≡◌, ℕ, [], Option, Some, None, option_map, is_some, unwrap_or, inl, inr, refl, sym, ap, subst, ◌∙◌, arith}
use Rattle.std.specs.Option.{option_map_or}
use Rattle.std.specs.FinMap as map
use Rattle.std.specs.FinMap.{get-empty}
use Rattle.std.specs.Ordering.{nat_cmp}
use Rattle.std.proofs.lemmas.Bool.{cases_eq, true≢false}
use Rattle.policy_ctx.specs.declared.policy.KeyId.{KeyId}
use Rattle.fsc_keys.specs.declared.file_keys.KeyKind.{KeyKind}
use Rattle.fsc_keys.specs.declared.file_keys.KeyKind.TheVariants.{Contents, Names}
use Rattle.number_map.specs.Numbered.{empty, get}
use Rattle.number_map.proofs.NumberedLemmas.{insert_other}
use Rattle.user_claims.specs.Claims.{ClaimSet, id_cmp, no_claims}
use Rattle.key_ring.specs.Modes.{Modes, no_modes, mode_at}
use Rattle.key_ring.specs.declared.mode_key.ModeKey.{ModeKey}
use Rattle.inode_refs.specs.CacheMaps.{Cache, no_cache, key_at}
use Rattle.inode_refs.specs.declared.node_key.NodeKey.{NodeKey}
use Rattle.dentry_cache.specs.Names.{NameList, no_names}
use Rattle.dentry_cache.proofs.NameLemmas.{none_held}
use Rattle.plain_tree.specs.Nodes.{Nodes}
use Rattle.plain_tree.specs.Changes.{first_nodes}
use Rattle.plain_tree.specs.Facts.{AgreesBy}
use Rattle.plain_tree.proofs.AgreeLemmas.{agree_inserted}
use Rattle.disk_tree.specs.DiskTree.{Disk, first_disk, root}
use Rattle.mount_model.specs.PlainMount.{Raws, HandleList, empty_mount}
use Rattle.mount_model.proofs.FirstMount.{empty_well}
use Rattle.mount_state.specs.Handles.{Handles, no_handles}
use Rattle.mount_state.specs.CachedNames.{NamesForget}
use Rattle.mount_state.specs.Discipline.{Forgets}
use Rattle.mount_state.specs.Safe.{IsSafe}
use Rattle.mount_state.specs.Stored.{stored_node}
use Rattle.mount_state.specs.Represents.{Represents}
use Rattle.mount_state.specs.declared.state.MountState.{MountState}

-- ---- nothing is cached

no_key : (node : ℕ) (key : NodeKey) → key_at no_cache node ≡ Some key → ⊥
no_key node key there = let none : None ≡ Some key = sym (get-empty nat_cmp node) ∙ there in absurd (cc)

mode_none : (id : KeyId) (kind : KeyKind) → mode_at no_modes id kind ≡ None
mode_none id Contents = get-empty id_cmp id
mode_none id Names = get-empty id_cmp id

no_mode : (id : KeyId) (kind : KeyKind) (mode : ModeKey) → mode_at no_modes id kind ≡ Some mode → ⊥
no_mode id kind mode there = let none : None ≡ Some mode = sym (mode_none id kind) ∙ there in absurd (cc)

first_rule : Forgets first_disk no_claims no_cache no_modes []
first_rule = record {
  file_keys = record {
    named = λ node key there. absurd (no_key node key there);
    kind = λ node key there. absurd (no_key node key there);
    kept = λ node id own held. absurd (true≢false (sym held));
    forgotten = λ node key there. absurd (no_key node key there);
  };
  mode_keys = record {
    counted = λ id kind. ap (λ (o : Option ModeKey). option_map_or (λ mode. mode.users) o 0) (mode_none id kind);
    kind = λ id kind mode there. absurd (no_mode id kind mode there);
  };
  pins = record {
    pinned = λ node. ap (λ o. unwrap_or o 0) (get-empty nat_cmp node);
    few = omega arith;
  };
}

module _ (disk : Disk) (disk_is : disk ≡ first_disk) (live : HandleList) (live_is : live ≡ []) where
  pub first_forgets : (claims : ClaimSet) (cache : Cache) (modes : Modes) → claims ≡ no_claims → cache ≡ no_cache → modes ≡ no_modes → Forgets disk claims cache modes live
  first_forgets claims cache modes claims_are cache_is modes_are =
      subst (λ (d : Disk). Forgets d claims cache modes live) (sym disk_is)
      (subst (λ (x : ClaimSet). Forgets first_disk x cache modes live) (sym claims_are)
      (subst (λ (x : Cache). Forgets first_disk no_claims x modes live) (sym cache_is)
      (subst (λ (x : Modes). Forgets first_disk no_claims no_cache x live) (sym modes_are)
      (subst (λ (x : HandleList). Forgets first_disk no_claims no_cache no_modes x) (sym live_is) first_rule))))

  pub first_safe : IsSafe disk 1 live
  first_safe =
      subst (λ (d : Disk). IsSafe d 1 live) (sym disk_is)
      (subst (λ (x : HandleList). IsSafe first_disk 1 x) (sym live_is) (record {
        below = λ node there. elim (cases_eq node 0) [
          | inl is ↦ omega arith
          | inr differ ↦ absurd (true≢false (sym there ∙ ap is_some (insert_other empty 0 root node differ ∙ get-empty nat_cmp node)))
        ];
        there = λ node held. absurd (true≢false (sym held));
      }))

-- no name is cached
pub none_remembered : (disk : Disk) (claims : ClaimSet) (names : NameList) (live : HandleList) → names.pairs ≡ [] → NamesForget disk claims names live
none_remembered disk claims names live none = record {
  there = λ pair held. absurd (none_held names none pair held);
  keyed = λ pair held. absurd (none_held names none pair held);
}

-- ---- it represents the empty mount

no_nodes : Nodes
no_nodes = empty

nothing_stored : Disk
nothing_stored = empty

none_agree : (raws : Raws) → AgreesBy (stored_node raws) empty empty
none_agree raws q = get-empty nat_cmp q ∙ sym (ap (option_map (stored_node raws q)) (get-empty nat_cmp q))

first_agree : (raws : Raws) → AgreesBy (stored_node raws) first_nodes first_disk
first_agree raws = agree_inserted (stored_node raws) empty empty (none_agree raws) 0 _ root refl

pub first_stands : (s : MountState) → s.disk ≡ first_disk → s.next_node ≡ 1 → s.ring.claims ≡ no_claims → s.ring.secrets ≡ map.empty → s.meta ≡ []
    → s.inodes ≡ no_cache → s.handles ≡ no_handles → s.modes ≡ no_modes → s.names ≡ no_names → Represents s empty_mount
first_stands s disk next claims secrets meta inodes handles modes names = record {
  well = empty_well;
  tree = record {
    nodes = subst (λ (d : Disk). AgreesBy (stored_node empty_mount.raws) first_nodes d) (sym disk) (first_agree empty_mount.raws);
    next = next;
  };
  keys = record {
    claims = claims;
    secrets = λ id raw there. let none : None ≡ Some raw = sym (get-empty id_cmp id) ∙ (ap (λ x. map.get x id) (sym secrets) ∙ there) in absurd (cc);
  };
  handles = record { live = ap (λ (h : Handles). h.live) handles; opened = ap (λ (h : Handles). h.opened) handles };
  caches = record {
    file_keys = λ node key c there _. absurd (no_key node key (ap (λ (x : Cache). key_at x node) (sym inodes) ∙ there));
    mode_keys = λ id kind mode there. absurd (no_mode id kind mode (ap (λ (x : Modes). mode_at x id kind) (sym modes) ∙ there));
  };
  names = record { entries = λ pair held. absurd (none_held s.names (ap (λ (x : NameList). x.pairs) names) pair held) };
  records = meta;
}
