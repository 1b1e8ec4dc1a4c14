-- What is made of one word of a line. Each word is read as what the line of an entry has at its position.
-- Any other word is given a value too; the line written again then differs.
use Rattle.std.specs.Prelude.{ℕ, ◌^◌, ◌/◌, ◌-◌, ◌==◌, Bool, false, nat_le, nat_eq, List, [], length}
use Rattle.std.specs.Prelude.{drop, map, replicate, codes, slice_get, unwrap_or, if◌then◌else◌}
use Rattle.std.specs.List.{slice_split, starts_with}
use Rattle.std.specs.Option.{option_map_or}
use Rattle.percent_encoding.specs.Percent.{percent_decode}
use Rattle.text_words.specs.Digits.{hex_bytes_of_length}
use Rattle.text_words.specs.Numbers.{number_below}
use Rattle.policy_ctx.specs.declared.policy.KeyId.{KeyId}
use Rattle.script_words.specs.Keys.{hex_or_none}
use Rattle.script_words.specs.Path.{is_slash}

-- a number below 2^32, and a place
abbrev pub number_in : List ℕ → ℕ
number_in text = unwrap_or (number_below (2 ^ 32) text) 0

abbrev pub place_in : List ℕ → ℕ
place_in text = unwrap_or (number_below (2 ^ 64) text) 0

-- as many zeros as the number, if it is no more than `most`: for bytes of which a line has the number
abbrev pub zeros_in : ℕ → List ℕ → List ℕ
zeros_in most text = replicate (if nat_le (number_in text) most then number_in text else 0) 0

-- an identifier and a policy, in digits of either case
abbrev pub id_in : List ℕ → KeyId
id_in text = record { 0 = unwrap_or (hex_bytes_of_length 16 text) (replicate 16 0) }

abbrev pub policy_in : List ℕ → List ℕ
policy_in text = unwrap_or (hex_bytes_of_length 24 text) (replicate 24 0)

-- bytes in digits, or `-` for none
abbrev pub bytes_in : List ℕ → List ℕ
bytes_in text = unwrap_or (hex_or_none (length text / 2) text) []

-- the parts of a path: the words after its slashes, and none for `/` alone
abbrev pub path_in : List ℕ → List (List ℕ)
path_in text = if nat_le (length text) 1 then [] else map percent_decode (slice_split is_slash (drop 1 text))

-- a flag, by its last digit
abbrev pub flag_in : List ℕ → Bool
flag_in text = option_map_or (λ b. b == 49) (slice_get text (length text - 1)) false

-- how many users hold a key
abbrev pub users_in : List ℕ → ℕ
users_in text = if starts_with nat_eq text (codes "users=") then number_in (drop 6 text) else 0
