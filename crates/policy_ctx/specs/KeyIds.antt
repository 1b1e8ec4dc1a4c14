-- Comparing the identifiers of keys.
use Rattle.std.specs.Prelude.{Bool}
use Rattle.std.specs.Str.{bytes_eq}
use Rattle.policy_ctx.specs.declared.policy.KeyId.{KeyId}

-- whether two identifiers name one key
abbrev pub same_id : KeyId → KeyId → Bool
same_id a b = bytes_eq a.0 b.0
