-- What a part resolves to in one directory.
use Rattle.std.specs.Prelude.{◌≡◌, ℕ, Bool, true, false, Some, None, List, length, Option, option_map, nat_le, ◌&&◌}
use Rattle.std.specs.Str.{bytes_eq}
use Rattle.policy_ctx.specs.declared.policy.Context.{Context}
use Rattle.name_crypt.specs.NoKeyText.{nokey_text_of, visible_bytes}
use Rattle.name_crypt.specs.declared.limits.TheConstants.{MIN_STORED_BYTES, MAX_NAME_BYTES}
use Rattle.plain_tree.specs.Nodes.{Name}
use Rattle.plain_tree.specs.NodesByNumber.{context_at, is_dir_at}
use Rattle.mount_model.specs.PlainMount.{PlainMount}
use Rattle.mount_model.specs.States.{is_keyed}
use Rattle.mount_model.specs.Walk.{visible_entry}
use Rattle.mount_state.specs.Represents.{Represents}
use Rattle.mount_state.specs.declared.state.MountState.{MountState}

-- the node that the part resolves to in the mount's directory
abbrev pub resolved_node : PlainMount → ℕ → Name → Option ℕ
resolved_node m dir part = option_map (λ e. e.1) (visible_entry m dir part)

-- 16 to 255 bytes
abbrev pub is_stored : List ℕ → Bool
is_stored bytes = nat_le MIN_STORED_BYTES (length bytes) && nat_le (length bytes) MAX_NAME_BYTES

-- the bytes are a stored name, and the text is its no-key text
abbrev pub is_text_of : List ℕ → List ℕ → Bool
is_text_of text stored = is_stored stored && bytes_eq text (nokey_text_of stored)

-- the bytes are a stored name, and this is what its text shows
abbrev pub has_visible_name : List ℕ → List ℕ → Bool
has_visible_name shown stored = is_stored stored && bytes_eq shown (visible_bytes stored)

-- ---- in every mount that the state represents

-- in a directory without policy the name resolves to it
abbrev pub ResolvesPlain : MountState → ℕ → Name → Option ℕ → Type 0
ResolvesPlain s dir name there =
    (m : PlainMount) → Represents s m → context_at m.nodes dir ≡ None → there ≡ resolved_node m dir name

-- in a locked directory the text resolves to it
abbrev pub ResolvesLocked : MountState → ℕ → Name → Option ℕ → Type 0
ResolvesLocked s dir text there =
    (m : PlainMount) → Represents s m → is_keyed m dir ≡ false → there ≡ resolved_node m dir text

-- in a keyed directory with a policy the name resolves to it
abbrev pub ResolvesKeyed : MountState → ℕ → Name → Option ℕ → Type 0
ResolvesKeyed s dir name there =
    (m : PlainMount) (c : Context) → Represents s m → is_dir_at m.nodes dir ≡ true
    → context_at m.nodes dir ≡ Some c
    → is_keyed m dir ≡ true → there ≡ resolved_node m dir name

-- in a directory the part resolves to it, whatever the policy
abbrev pub Resolves : MountState → ℕ → Name → Option ℕ → Type 0
Resolves s dir part there =
    (m : PlainMount) → Represents s m → is_dir_at m.nodes dir ≡ true → there ≡ resolved_node m dir part
