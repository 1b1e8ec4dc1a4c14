-- What the calls on keys change of a state, and what they don't.
use Rattle.std.specs.Prelude.{◌≡◌, ℕ, List, [], ◌∷◌, not, ◌&&◌, if◌then◌else◌}
use Rattle.std.specs.FinMap as map
use Rattle.policy_ctx.specs.declared.policy.KeyId.{KeyId}
use Rattle.fsc_keys.specs.Keys.{key_id_of}
use Rattle.user_claims.specs.Claims.{ClaimSet, with_claim, without_claim, without_id}
use Rattle.user_claims.specs.ClaimCounts.{is_present}
use Rattle.key_ring.specs.Holding.{remaining_secrets}
use Rattle.inode_refs.specs.CacheMaps.{Cache, KeyMap}
use Rattle.inode_refs.specs.Evictions.{without_derived_keys}
use Rattle.dentry_cache.specs.Names.{NameList, with_pairs}
use Rattle.mount_state.specs.SameBut.{SameBut, Ring, CachedKeys, CachedNames}
use Rattle.mount_state.specs.declared.state.MountState.{MountState}

-- ---- what does not change

-- nothing differs but claims with their secrets
abbrev pub SameButRing : MountState → MountState → Type 0
SameButRing old new = SameBut (Ring ∷ []) old new

-- nothing differs but claims with their secrets, and which keys of nodes and which names are cached
abbrev pub SameButKeyed : MountState → MountState → Type 0
SameButKeyed old new = SameBut (Ring ∷ CachedKeys ∷ CachedNames ∷ []) old new

-- ---- what is added and removed

-- the user has a claim on the key of these bytes, which are its secret
pub record GainsClaim (old new : MountState) (uid : ℕ) (raw : List ℕ) : Type 0 where
  pub claims : new.ring.claims ≡ with_claim old.ring.claims (key_id_of raw) uid
  pub secrets : new.ring.secrets ≡ map.insert old.ring.secrets (key_id_of raw) raw

-- the cached keys once these claims are left: if none is on the key, those derived from it are removed
-- from the nodes without pins
abbrev pub remaining_keys : Cache → ClaimSet → KeyId → KeyMap
remaining_keys cache claims id = if is_present claims id then cache.keys else without_derived_keys cache id

-- the cached names after the claims change: with the last claim on the key all names are dropped
abbrev pub remaining_names : NameList → ClaimSet → ClaimSet → KeyId → NameList
remaining_names names before after id =
    if is_present before id && not (is_present after id) then with_pairs names [] else names

-- the user has no claim on the key; with the last claim what was derived from it is removed, and all
-- cached names
pub record LosesClaim (old new : MountState) (uid : ℕ) (id : KeyId) : Type 0 where
  pub claims : new.ring.claims ≡ without_claim old.ring.claims id uid
  pub secrets : new.ring.secrets ≡ remaining_secrets old.ring.secrets new.ring.claims id
  pub cached : new.inodes.keys ≡ remaining_keys old.inodes new.ring.claims id
  pub names : new.names ≡ remaining_names old.names old.ring.claims new.ring.claims id

-- no user has one
pub record LosesAllClaims (old new : MountState) (id : KeyId) : Type 0 where
  pub claims : new.ring.claims ≡ without_id old.ring.claims id
  pub secrets : new.ring.secrets ≡ map.remove old.ring.secrets id
  pub cached : new.inodes.keys ≡ without_derived_keys old.inodes id
  pub names : new.names ≡ with_pairs old.names []
