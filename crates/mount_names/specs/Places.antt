-- The entry that a call finds and the place for a name, each with the stored name, and the buffer for one.
use Rattle.std.specs.Prelude.{◌≡◌, ℕ, List, Option, replicate}
use Rattle.name_crypt.specs.declared.limits.TheConstants.{MAX_NAME_BYTES}
use Rattle.policy_ctx.specs.declared.policy.Context.{Context}

-- an entry: its directory, the stored name, and the node that it resolves to
pub record Entry : Type 0 where
  pub dir : ℕ
  pub stored : List ℕ
  pub number : ℕ

-- a directory that gets a name: its number, its context, and the stored name
pub record Place : Type 0 where
  pub dir : ℕ
  pub context : Option Context
  pub stored : List ℕ

-- no name is in the buffer yet: it is all zeros
abbrev pub IsBlank : List ℕ → Type 0
IsBlank room = room ≡ replicate MAX_NAME_BYTES 0
