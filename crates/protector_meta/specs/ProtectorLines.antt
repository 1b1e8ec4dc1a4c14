-- The values on the lines of a protector's record.
use Rattle.std.specs.Prelude.{ℕ, ◌==◌, ◌^◌, ◌&&◌, List, length, Option, Some}
use Rattle.std.specs.Prelude.{None, is_ok, slice_get, codes, if◌then◌else◌}
use Rattle.std.specs.List.{list_all}
use Rattle.std.specs.Option.{option_and_then, option_map}
use Rattle.std.specs.Str.{bytes_eq}
use Rattle.text_words.specs.Digits.{lower_hex_bytes_of_length, is_lower_hex_digit}
use Rattle.text_words.specs.Numbers.{number_below}
use Rattle.text_words.specs.Words.{words_of}
use Rattle.argon_kdf.specs.CostLimits.{checked_costs}
use Rattle.argon_kdf.specs.declared.costs.Costs.{Costs}
use Rattle.protector_meta.specs.LineValues.{word_value}
use Rattle.protector_meta.specs.declared.protector.ProtectorKind.{ProtectorKind}
use Rattle.protector_meta.specs.declared.protector.ProtectorKind.TheVariants.{Raw, Pass}

-- the number below 2^32 that the word at an index, counted from 0, writes
abbrev pub number_word : ℕ → List ℕ → Option ℕ
number_word place text = option_and_then (number_below (2 ^ 32)) (slice_get (words_of text) place)

-- the n bytes that the digits of the word at an index, counted from 0, spell
abbrev pub digits_word : ℕ → ℕ → List ℕ → Option (List ℕ)
digits_word n place text = option_and_then (lower_hex_bytes_of_length n) (slice_get (words_of text) place)

-- costs in their ranges, and a salt
abbrev pub stretching_of : Option ℕ → Option ℕ → Option ℕ → Option (List ℕ) → Option (Costs × List ℕ)
stretching_of (Some p) (Some k) (Some l) (Some salt) =
    let costs : Costs = record { passes = p; kib = k; lanes = l } in
    if is_ok (checked_costs costs) then Some (costs, salt) else None
stretching_of _ _ _ _ = None

-- four words: passes, KiB and lanes, and 32 digits
abbrev pub stretching_value : List ℕ → Option (Costs × List ℕ)
stretching_value text =
    if length (words_of text) == 4
    then stretching_of (number_word 0 text) (number_word 1 text) (number_word 2 text) (digits_word 16 3 text)
    else None

-- `raw`, or `pass` and how the passphrase is stretched
abbrev pub kind_value : List ℕ → Option ProtectorKind
kind_value text =
    if bytes_eq text (codes "raw") then Some Raw
    else option_map Pass (word_value (codes "pass ") stretching_value text)

-- 16 lower-case digits, which are stored as digits
abbrev pub descriptor_value : List ℕ → Option (List ℕ)
descriptor_value text = if length text == 16 && list_all is_lower_hex_digit text then Some text else None

-- the first line has no value
abbrev pub head_value : List ℕ → Option (Unit {0})
head_value line = if bytes_eq line (codes "fsc-protector 1") then Some tt else None

-- the kind on its line
abbrev pub kind_line_value : List ℕ → Option ProtectorKind
kind_line_value line = word_value (codes "kind ") kind_value line

-- the descriptor on its line
abbrev pub descriptor_line_value : List ℕ → Option (List ℕ)
descriptor_line_value line = word_value (codes "descriptor ") descriptor_value line
