-- Mode keys: for each identifier and each kind at most one, with the number of its users.
use Rattle.std.specs.Prelude.{Option}
use Rattle.std.specs.FinMap as map
use Rattle.policy_ctx.specs.declared.policy.KeyId.{KeyId}
use Rattle.fsc_keys.specs.declared.file_keys.KeyKind.{KeyKind}
use Rattle.fsc_keys.specs.declared.file_keys.KeyKind.TheVariants.{Contents, Names}
use Rattle.user_claims.specs.Claims.{id_cmp}
use Rattle.key_ring.specs.declared.mode_key.ModeKey.{ModeKey}

-- the mode keys of one kind, by the identifiers of their keys
abbrev pub ModeMap : Type 0
ModeMap = map.FinMap id_cmp ModeKey

pub record Modes : Type 0 where
  pub contents : ModeMap
  pub names : ModeMap

abbrev pub no_modes : Modes
no_modes = record { contents = map.empty; names = map.empty }

-- those of a kind, and the same with other ones of that kind
abbrev pub of_kind : Modes → KeyKind → ModeMap
of_kind modes Contents = modes.contents
of_kind modes Names = modes.names

abbrev pub with_kind : Modes → KeyKind → ModeMap → Modes
with_kind modes Contents those = record modes { contents = those }
with_kind modes Names those = record modes { names = those }

-- the mode key of the identifier and kind
abbrev pub mode_at : Modes → KeyId → KeyKind → Option ModeKey
mode_at modes id kind = map.get (of_kind modes kind) id
