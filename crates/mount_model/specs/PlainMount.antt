-- The one-thread mount as plain data: nodes, claims with the raw keys, open handles, records. It contains
-- nothing that is stored, cached or encrypted.
use Rattle.std.specs.Prelude.{ℕ, List, [], Option}
use Rattle.std.specs.Ordering.{nat_cmp}
use Rattle.std.specs.Cmp.Lexicographic.{slice_cmp}
use Rattle.std.specs.FinMap as map
use Rattle.policy_ctx.specs.declared.policy.KeyId.{KeyId}
use Rattle.user_claims.specs.Claims.{ClaimSet, no_claims}
use Rattle.number_map.specs.Numbered.{NumberedValues}
use Rattle.plain_tree.specs.Nodes.{Nodes}
use Rattle.plain_tree.specs.Changes.{first_nodes}
use Rattle.meta_files.specs.Records.{RecordList}
use Rattle.mount_model.specs.declared.handle.Handle.{Handle}

-- raw keys, each under the bytes of its identifier
abbrev pub Raws : Type 0
Raws = map.FinMap (slice_cmp nat_cmp) (List ℕ)

-- handles in the order of their opening
abbrev pub HandleList : Type 0
HandleList = List Handle

pub record PlainMount : Type 0 where
  -- the nodes by number, and the number of the next one
  pub nodes : Nodes
  pub next : ℕ
  -- which user holds which keys, and the raw key that was last added under each identifier; none is
  -- removed
  pub claims : ClaimSet
  pub raws : Raws
  -- what is open, and how many handles each caller ever opened
  pub handles : HandleList
  pub opened : NumberedValues ℕ
  -- the records in the order in which they were first stored
  pub records : RecordList

-- the mount before any call: the root alone, an empty directory without policy
abbrev pub empty_mount : PlainMount
empty_mount = record {
  nodes = first_nodes;
  next = 1;
  claims = no_claims;
  raws = map.empty;
  handles = [];
  opened = map.empty;
  records = [];
}

-- the raw key last added under the identifier
abbrev pub raw_in : Raws → KeyId → Option (List ℕ)
raw_in raws id = map.get raws id.0

-- the raw keys once this one was added
abbrev pub with_raw : Raws → KeyId → List ℕ → Raws
with_raw raws id raw = map.insert raws id.0 raw
