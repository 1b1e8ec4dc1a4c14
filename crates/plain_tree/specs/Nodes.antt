-- The nodes of a mount as plain data: a map from numbers to nodes, each a directory, a file or a symlink,
-- before any encryption.
use Rattle.std.specs.Prelude.{ℕ, Bool, true, false, List, [], Option}
use Rattle.policy_ctx.specs.declared.policy.Context.{Context}
use Rattle.number_map.specs.Numbered.{NumberedValues}

abbrev pub Name : Type 0
Name = List ℕ

-- the entries of a directory, names with numbers of nodes, in the order in which they were made
abbrev pub Children : Type 0
Children = List (Name × ℕ)

pub data Body : Type 0 where
  -- a directory with its entries, a file with its contents, a symlink with its target
  Dir : Children → Body
  File : List ℕ → Body
  Link : List ℕ → Body

pub record Node : Type 0 where
  -- an entry resolves to it; the root counts as named
  pub named : Bool
  -- its policy, and the nonce that its own keys are derived with
  pub context : Option Context
  pub body : Body

abbrev pub Nodes : Type 0
Nodes = NumberedValues Node

-- only a directory has entries, and only a file has contents
abbrev pub children_of : Body → Children
children_of (Dir children) = children
children_of (File contents) = []
children_of (Link target) = []

abbrev pub contents_of : Body → List ℕ
contents_of (Dir children) = []
contents_of (File contents) = contents
contents_of (Link target) = []

abbrev pub is_dir : Body → Bool
is_dir (Dir children) = true
is_dir (File contents) = false
is_dir (Link target) = false

abbrev pub is_link : Body → Bool
is_link (Dir children) = false
is_link (File contents) = false
is_link (Link target) = true
