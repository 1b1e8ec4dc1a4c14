-- How the nodes that hold a key are counted: beside the cache, by the identifiers of their keys.
use Rattle.std.specs.Prelude.{◌≡◌, ℕ, ◌+◌, ◌<◌, true, if◌then◌else◌, Option, Some, None, unwrap_or}
use Rattle.std.specs.BTreeMap.{get}
use Rattle.std.specs.FinMap as map
use Rattle.policy_ctx.specs.declared.policy.KeyId.{KeyId}
use Rattle.policy_ctx.specs.KeyIds.{same_id}
use Rattle.key_counts.specs.CountForms.{count_or_none}
use Rattle.user_claims.specs.Claims.{id_cmp}
use Rattle.inode_refs.specs.declared.users.Users.{Users}
use Rattle.inode_refs.specs.CacheMaps.{Cache, PinMap}
use Rattle.inode_refs.specs.Evictions.{users_of}

-- one for the identifier, if there is one
abbrev pub one_for : Option KeyId → KeyId → ℕ
one_for None q = 0
one_for (Some id) q = if same_id id q then 1 else 0

-- there is the count of each identifier, if users are counted
abbrev pub AreCounted : Users → (KeyId → ℕ) → Type 0
AreCounted users f = users.is_whole ≡ true → (id : KeyId) → get id_cmp users.counts id ≡ count_or_none (f id)

-- a node with an entry among the pins has at least one
abbrev pub HasPins : PinMap → Type 0
HasPins pins = (node count : ℕ) → map.get pins node ≡ Some count → 0 < count

-- what is stored beside the cache's keys and pins
pub record IsConsistentCache (users : Users) (cache : Cache) : Type 0 where
  pub counted : AreCounted users (users_of cache)
  pub some : HasPins cache.pins

-- what was counted is still counted: with one user more, with one less, and with one of another
-- identifier
abbrev pub IsAsBefore : Users → Users → Type 0
IsAsBefore old new = (f : KeyId → ℕ) → AreCounted old f → AreCounted new f

abbrev pub HasOneMore : Users → Users → Option KeyId → Type 0
HasOneMore old new id =
    (f g : KeyId → ℕ) → AreCounted old f → ((q : KeyId) → g q ≡ f q + one_for id q) → AreCounted new g

abbrev pub HasOneLess : Users → Users → Option KeyId → Type 0
HasOneLess old new id =
    (f g : KeyId → ℕ) → AreCounted old f → ((q : KeyId) → g q + one_for id q ≡ f q) → AreCounted new g

abbrev pub HasOther : Users → Users → KeyId → KeyId → Type 0
HasOther old new older newer =
    (f g : KeyId → ℕ) → AreCounted old f
    → ((q : KeyId) → g q + one_for (Some older) q ≡ f q + one_for (Some newer) q) → AreCounted new g

-- the identifier has users, if they are counted
abbrev pub IsCountedFor : Users → Option KeyId → Type 0
IsCountedFor users None = Unit
IsCountedFor users (Some id) = users.is_whole ≡ true → 0 < unwrap_or (get id_cmp users.counts id) 0
