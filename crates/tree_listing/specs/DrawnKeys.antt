-- The values in the bytes of a context, and the keys that are derived for a node from a raw key.
use Rattle.std.specs.Prelude.{ℕ, ◌*◌, ◌^◌, List, drop, slice_index, if◌then◌else◌}
use Rattle.std.specs.Option.{unwrap_or}
use Rattle.policy_ctx.specs.declared.TheConstants.{POLICY_LEN}
use Rattle.policy_ctx.specs.declared.policy.Unit.{Unit as DataUnit}
use Rattle.policy_ctx.specs.declared.policy.Unit.TheVariants.{Block}
use Rattle.policy_ctx.specs.Context.{is_by_mode_in}
use Rattle.policy_ctx.specs.Settings.{unit_of_log2}
use Rattle.fsc_keys.specs.Keys.{file_key_of, key_bytes, mode_key_of}
use Rattle.fsc_keys.specs.declared.file_keys.FileKey.{FileKey}
use Rattle.fsc_keys.specs.declared.file_keys.KeyKind.{KeyKind}
use Rattle.fsc_keys.specs.declared.file_keys.KeyKind.TheVariants.{Contents, Names}
use Rattle.name_crypt.specs.StoredName.{plain_name}
use Rattle.data_crypt.specs.Blocks.{Seal}

-- the nonce, after the policy
abbrev pub nonce_in : List ℕ → List ℕ
nonce_in context = drop POLICY_LEN context

-- the unit of contents, in byte 4
abbrev pub unit_in : List ℕ → DataUnit
unit_in context = unwrap_or (unit_of_log2 (slice_index context 4)) Block

-- the key of a node of this context: by its nonce, or under flag 8 the one of all nodes of its policy
abbrev pub key_in : List ℕ → List ℕ → KeyKind → FileKey
key_in raw context kind =
    if is_by_mode_in context then mode_key_of raw kind else file_key_of raw kind (nonce_in context)

-- the number from which node n counts its units: under flag 8 the upper half of an index is the node's
-- number
abbrev pub start_in : ℕ → List ℕ → ℕ
start_in n context = if is_by_mode_in context then n * 2 ^ 32 else 0

-- what the contents of file n are sealed with
abbrev pub seal_in : List ℕ → List ℕ → ℕ → Seal
seal_in raw context n =
    record {
      key = key_bytes (key_in raw context Contents);
      start = start_in n context;
      unit = unit_in context;
    }

-- the decrypted name of the directory n, or the decrypted target of the link n; empty if it is none
abbrev pub name_under : List ℕ → List ℕ → ℕ → List ℕ → List ℕ
name_under raw context n stored =
    plain_name (key_bytes (key_in raw context Names)) (start_in n context) stored
