-- How mode keys are stored; a word of private functions.
use Rattle.std.specs.Prelude.{List}
use Rattle.std.specs.Global.{Global}
use Rattle.std.specs.declared.boxed.Box.{Box}
use Rattle.policy_ctx.specs.declared.policy.KeyId.{KeyId}
use Rattle.user_claims.specs.Claims.{id_cmp}
use Rattle.key_counts.specs.MapViews.{map_by_order}
use Rattle.key_ring.specs.declared.mode_key.ModeKey.{ModeKey}
use Rattle.key_ring.specs.Modes.{ModeMap}

abbrev pub ModeBox : Type 0
ModeBox = Box ModeKey Global

-- the mode keys in the boxes
abbrev pub modes_of : List (KeyId × ModeBox) → ModeMap
modes_of entries = map_by_order id_cmp (λ mode. mode.value) entries
