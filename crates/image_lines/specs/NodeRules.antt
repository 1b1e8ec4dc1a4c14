-- The rules on each node of an image.
use Rattle.std.specs.Prelude.{◌≡◌, ◌≤◌, ◌<◌, ◌^◌, ⊤, ℕ, Bool, IsTrue, List, length}
use Rattle.std.specs.Prelude.{Option, None, Some, is_some, All}
use Rattle.std.specs.Int.{div_ceil}
use Rattle.std.specs.List.Sorted.{IsStrictlySortedBy}
use Rattle.std.specs.Map.{keys_of}
use Rattle.std.specs.Ordering.{nat_cmp}
use Rattle.std.specs.Cmp.Lexicographic.{slice_cmp}
use Rattle.byte_words.specs.Bytes.{AreBytes, AreBytesOfLength}
use Rattle.mount_limits.specs.declared.TheConstants.{BLOCK_SIZE, MAX_FILE_BYTES}
use Rattle.policy_ctx.specs.Context.{context_fault}
use Rattle.disk_tree.specs.declared.node.Body.{Body}
use Rattle.disk_tree.specs.declared.node.Body.TheVariants.{Dir, File, Link}
use Rattle.image_lines.specs.Image.{ImageNode}
use Rattle.image_lines.specs.StoredNames.{is_entry_name, is_target}

-- none, or 40 bytes that are a context's
abbrev pub IsContext : Option (List ℕ) → Type 0
IsContext None = ⊤
IsContext (Some context) = (context_fault context ≡ None) × AreBytes context

-- a name in range, and a number below 2^32
pub record IsEntry (under_policy : Bool) (e : List ℕ × ℕ) : Type 0 where
  pub name : IsTrue (is_entry_name under_policy e.0)
  pub bytes : AreBytes e.0
  pub child : e.1 < 2 ^ 32

-- how many blocks a file of that many bytes has
abbrev pub blocks_for : ℕ → ℕ
blocks_for size = div_ceil size BLOCK_SIZE

-- entries in strictly rising byte order of names, as many blocks as the size requires, a target in range
abbrev pub IsBody : Bool → Body → Type 0
IsBody under_policy (Dir entries) =
    All (IsEntry under_policy) entries × IsStrictlySortedBy (slice_cmp nat_cmp) (keys_of entries)
IsBody under_policy (File blocks size) =
    (size ≤ MAX_FILE_BYTES) × (length blocks ≡ blocks_for size) × All (AreBytesOfLength BLOCK_SIZE) blocks
IsBody under_policy (Link target) = IsTrue (is_target under_policy target) × AreBytes target

pub record IsNode (node : ImageNode) : Type 0 where
  pub number : node.number < 2 ^ 32
  pub context : IsContext node.context
  pub body : IsBody (is_some node.context) node.body
