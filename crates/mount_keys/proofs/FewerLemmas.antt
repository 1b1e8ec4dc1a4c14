-- With fewer claims, secrets and cached keys a state represents the mount with these claims.
use Rattle.std.proofs.Common.{◌≡◌, ℕ, Bool, true, false, cond, not, ◌&&◌, List, [], Contains, Some, None, is_some, refl, sym, ap, subst}
use Rattle.std.proofs.Common.{◌∙◌}
use Rattle.std.specs.FinMap as map
use Rattle.policy_ctx.specs.declared.policy.KeyId.{KeyId}
use Rattle.fsc_keys.specs.declared.file_keys.KeyKind.{KeyKind}
use Rattle.user_claims.specs.Claims.{ClaimSet, without_claim, without_id}
use Rattle.user_claims.specs.ClaimCounts.{is_present}
use Rattle.user_claims.proofs.ClaimLemmas.{without_claim-absent}
use Rattle.user_claims.proofs.PresentLemmas.{has_claim-absent, is_present-without_id}
use Rattle.key_ring.specs.Holding.{SecretMap, HoldsClaimedSecrets, secret_of}
use Rattle.key_ring.specs.Modes.{Modes, mode_at}
use Rattle.inode_refs.specs.CacheMaps.{Cache, KeyMap, key_at}
use Rattle.inode_refs.specs.Evictions.{without_derived_keys}
use Rattle.inode_refs.specs.declared.node_key.NodeKey.{NodeKey}
use Rattle.plain_tree.specs.Facts.{AgreesBy}
use Rattle.disk_tree.specs.DiskTree.{Disk}
use Rattle.mount_model.specs.PlainMount.{PlainMount}
use Rattle.mount_model.specs.WellFormed.{HasKeys}
use Rattle.mount_model.proofs.KeyLemmas.{HasKeys-without_claim, HasKeys-without_id}
use Rattle.dentry_cache.specs.Names.{NameList, with_pairs}
use Rattle.dentry_cache.specs.HeldNames.{HoldsNoMore}
use Rattle.dentry_cache.proofs.NameLemmas.{none_held}
use Rattle.mount_state.specs.Handles.{Handles}
use Rattle.mount_state.specs.KeyUse.{HoldsNothing, is_in_use}
use Rattle.mount_state.specs.Stored.{stored_node}
use Rattle.mount_state.specs.Represents.{Represents}
use Rattle.mount_state.specs.declared.state.MountState.{MountState}
use Rattle.mount_state.proofs.CachedLemmas.{stand_fewer}
use Rattle.mount_state.proofs.RuleLemmas.{nothing_held}
use Rattle.mount_keys.specs.ClaimChanges.{SameButKeyed, LosesClaim, LosesAllClaims, remaining_keys}
use Rattle.mount_keys.proofs.EvictionLemmas.{evicted_was, evicted_absent}
use Rattle.mount_keys.proofs.SecretLemmas.{left_was, removed_was, removed_none, removed_absent}

pub fewer_stand : (old new : MountState) (m : PlainMount) (claims : ClaimSet) → Represents old m
    → SameButKeyed old new → HasKeys claims m.raws
    → new.ring.claims ≡ claims
    → ((id : KeyId) (raw : List ℕ) → secret_of new.ring id ≡ Some raw → secret_of old.ring id ≡ Some raw)
    → ((n : ℕ) (k : NodeKey) → key_at new.inodes n ≡ Some k → key_at old.inodes n ≡ Some k)
    → HoldsNoMore old.names new.names
    → Represents new (record m { claims = claims })
fewer_stand old new m claims st same well are secrets cached names = record {
  well = record { keys = well; nodes = st.well.nodes; handles = st.well.handles; records = st.well.records };
  tree = record {
    nodes = subst (λ (d : Disk). AgreesBy (stored_node m.raws) m.nodes d) (sym same.disk) st.tree.nodes;
    next = same.next_node ∙ st.tree.next;
  };
  keys = record { claims = are; secrets = λ id raw there. st.keys.secrets id raw (secrets id raw there) };
  handles = record {
    live = ap (λ (h : Handles). h.live) same.handles ∙ st.handles.live;
    opened = ap (λ (h : Handles). h.opened) same.handles ∙ st.handles.opened;
  };
  caches = record {
    file_keys = λ n key c there under. st.caches.file_keys n key c (cached n key there) under;
    mode_keys = λ id kind mode there. st.caches.mode_keys id kind mode
        (sym (ap (λ (x : Modes). mode_at x id kind) same.modes) ∙ there);
  };
  names = stand_fewer m.nodes old.names new.names st.names names;
  records = same.meta ∙ st.records;
}

-- ---- a claim, or all on a key, were removed

kept_was : (cache : Cache) (claims : ClaimSet) (id : KeyId) (n : ℕ) (k : NodeKey)
    → map.get (remaining_keys cache claims id) n ≡ Some k → key_at cache n ≡ Some k
kept_was cache claims id n k = by (is_present claims id)
  where
    by : (b : Bool) → map.get (cond b cache.keys (without_derived_keys cache id)) n ≡ Some k → key_at cache n ≡ Some k
    by true there = there
    by false there = evicted_was cache id n k there

names_were : (names : NameList) (b : Bool) → HoldsNoMore names (cond b (with_pairs names []) names)
names_were names true = λ pair held. absurd (none_held (with_pairs names []) refl pair held)
names_were names false = λ pair held. held

fewer_names : (old new left : NameList) → new ≡ left → HoldsNoMore old left → HoldsNoMore old new
fewer_names old new left is fewer = λ pair held. fewer pair (subst (λ (n : NameList). Contains n.pairs pair) is held)

pub no_names_more : (old new : NameList) → new ≡ with_pairs old [] → HoldsNoMore old new
no_names_more old new is = fewer_names old new (with_pairs old []) is (names_were old true)

pub lost_stand : (old new : MountState) (m : PlainMount) (uid : ℕ) (id : KeyId) → Represents old m
    → SameButKeyed old new → LosesClaim old new uid id
    → Represents new (record m { claims = without_claim m.claims id uid })
lost_stand old new m uid id st same lost =
    fewer_stand old new m (without_claim m.claims id uid) st same
    (HasKeys-without_claim m.claims m.raws id uid st.well.keys)
    (lost.claims ∙ ap (λ cs. without_claim cs id uid) st.keys.claims)
    (λ q raw there. left_was old.ring.secrets new.ring.claims id q raw
    (sym (ap (λ (x : SecretMap). map.get x q) lost.secrets) ∙ there))
    (λ n k there. kept_was old.inodes new.ring.claims id n k
    (sym (ap (λ (x : KeyMap). map.get x n) lost.cached) ∙ there))
    (fewer_names old.names new.names _ lost.names
    (names_were old.names (is_present old.ring.claims id && not (is_present new.ring.claims id))))

pub cleared_stand : (old new : MountState) (m : PlainMount) (id : KeyId) → Represents old m
    → SameButKeyed old new → LosesAllClaims old new id
    → Represents new (record m { claims = without_id m.claims id })
cleared_stand old new m id st same lost =
    fewer_stand old new m (without_id m.claims id) st same
    (HasKeys-without_id m.claims m.raws id st.well.keys)
    (lost.claims ∙ ap (λ cs. without_id cs id) st.keys.claims)
    (λ q raw there. removed_was old.ring.secrets id q raw
    (sym (ap (λ (x : SecretMap). map.get x q) lost.secrets) ∙ there))
    (λ n k there. evicted_was old.inodes id n k (sym (ap (λ (x : KeyMap). map.get x n) lost.cached) ∙ there))
    (no_names_more old.names new.names lost.names)

-- a key without a claim has none to lose, and nothing that is removed with it
pub loses_none : (s : MountState) (uid : ℕ) (id : KeyId) → HoldsClaimedSecrets s.ring
    → is_present s.ring.claims id ≡ false → LosesClaim s s uid id
loses_none s uid id exact absent = record {
  claims = sym (without_claim-absent s.ring.claims id uid (has_claim-absent s.ring.claims id uid absent));
  secrets = sym (ap (λ b. cond b s.ring.secrets (map.remove s.ring.secrets id)) absent
      ∙ removed_absent s.ring.secrets id (exact id ∙ absent));
  cached = sym (ap (λ b. cond b s.inodes.keys (without_derived_keys s.inodes id)) absent
      ∙ evicted_absent s.disk s.ring.claims s.inodes s.modes s.handles.live s.forgets id absent);
  names = sym (ap (λ b. cond (b && not (is_present s.ring.claims id)) (with_pairs s.names []) s.names) absent);
}

-- ---- nothing is held

module _ (old new : MountState) (id : KeyId) (same : SameButKeyed old new)
    (idle : is_in_use old.disk old.handles.live id ≡ false)
    (modeless : (kind : KeyKind) → mode_at old.modes id kind ≡ None) where
  end_of_record : is_some (secret_of new.ring id) ≡ false → is_present new.ring.claims id ≡ false
      → HoldsNothing new.disk new.ring new.inodes new.modes new.names id
  end_of_record secret absent =
      nothing_held new.disk new.ring new.inodes new.modes new.handles.live new.forgets id new.names new.remembers secret absent
      ((λ i. is_in_use (same.disk i) (ap (λ (h : Handles). h.live) same.handles i) id) ∙ idle)
      (λ kind. ap (λ (x : Modes). mode_at x id kind) same.modes ∙ modeless kind)

  pub lost_nothing : (uid : ℕ) → LosesClaim old new uid id → is_present new.ring.claims id ≡ false
      → HoldsNothing new.disk new.ring new.inodes new.modes new.names id
  lost_nothing uid lost absent =
      end_of_record (ap (λ (x : SecretMap). is_some (map.get x id))
      (lost.secrets ∙ ap (λ b. cond b old.ring.secrets (map.remove old.ring.secrets id)) absent)
      ∙ ap is_some (removed_none old.ring.secrets id)) absent

  pub cleared_nothing : LosesAllClaims old new id → HoldsNothing new.disk new.ring new.inodes new.modes new.names id
  cleared_nothing lost =
      end_of_record (ap (λ (x : SecretMap). is_some (map.get x id)) lost.secrets
      ∙ ap is_some (removed_none old.ring.secrets id))
      (ap (λ (cs : ClaimSet). is_present cs id) lost.claims ∙ is_present-without_id old.ring.claims id)
