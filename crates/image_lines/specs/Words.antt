-- What the words on the lines of an image mean, one by one.
use Rattle.std.specs.Prelude.{ℕ, ◌^◌, ◌*◌, ◌&&◌, Bool, nat_le, List, length}
use Rattle.std.specs.Prelude.{codes, Option, Some, None, is_none, if◌then◌else◌}
use Rattle.std.specs.List.{list_all}
use Rattle.std.specs.Option.{option_map}
use Rattle.std.specs.Str.{bytes_eq}
use Rattle.text_words.specs.Digits.{hex_bytes, is_lower_hex_digit, lower_hex_bytes_of_length}
use Rattle.text_words.specs.Numbers.{number_below}
use Rattle.mount_limits.specs.declared.TheConstants.{MAX_FILE_BYTES}
use Rattle.name_crypt.specs.declared.limits.TheConstants.{MAX_NAME_BYTES}
use Rattle.policy_ctx.specs.declared.TheConstants.{CONTEXT_LEN}
use Rattle.policy_ctx.specs.Context.{context_fault}
use Rattle.image_lines.specs.declared.node_line.NodeKind.{NodeKind}
use Rattle.image_lines.specs.declared.node_line.NodeKind.TheVariants.{Dir, File, Link}
use Rattle.image_lines.specs.StoredNames.{is_target}

-- go on if there is a value
infixl 10 ◌>>=◌
abbrev pub ◌>>=◌ : {A B : Type 0} → Option A → (A → Option B) → Option B
None >>= f = None
(Some x) >>= f = f x

-- the value, if it passes the test
abbrev pub passing : {A : Type 0} → (A → Bool) → A → Option A
passing test x = if test x then Some x else None

abbrev pub number_of_word : List ℕ → Option ℕ
number_of_word word = number_below (2 ^ 32) word

-- at most 255 bytes in lower-case digits
abbrev pub stored_name_of_word : List ℕ → Option (List ℕ)
stored_name_of_word word =
    if list_all is_lower_hex_digit word && nat_le (length word) (2 * MAX_NAME_BYTES)
    then hex_bytes word else None

-- whether the bytes are a context's
abbrev pub is_context : List ℕ → Bool
is_context bytes = is_none (context_fault bytes)

-- a context in its 80 digits, or `-` for none
abbrev pub context_of_word : List ℕ → Option (Option (List ℕ))
context_of_word word =
    if bytes_eq word (codes "-") then Some None
    else option_map Some (lower_hex_bytes_of_length CONTEXT_LEN word >>= passing is_context)

-- a file of this size
abbrev pub file_of_word : List ℕ → Option NodeKind
file_of_word word = option_map File (number_of_word word >>= passing (λ size. nat_le size MAX_FILE_BYTES))

-- a link to this target
abbrev pub link_of_word : Bool → List ℕ → Option NodeKind
link_of_word under_policy word
    = option_map Link (stored_name_of_word word >>= passing (is_target under_policy))

-- the kind of node that a word names, with the word after the context, if there is one
abbrev pub kind_of_word : List ℕ → Bool → Option (List ℕ) → Option NodeKind
kind_of_word word under_policy None = if bytes_eq word (codes "dir") then Some Dir else None
kind_of_word word under_policy (Some last) =
    if bytes_eq word (codes "file") then file_of_word last
    else if bytes_eq word (codes "link") then link_of_word under_policy last
    else None
