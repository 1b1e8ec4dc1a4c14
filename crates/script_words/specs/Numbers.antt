-- The words for numbers, for paddings and for units: decimal numerals without leading zeros.
use Rattle.std.specs.Prelude.{ℕ, ◌<◌, ◌^◌, nat_le, List, Option, Some, None, if◌then◌else◌}
use Rattle.std.specs.Option.{option_and_then}
use Rattle.text_words.specs.Numbers.{number_below, decimal_of}
use Rattle.policy_ctx.specs.declared.policy.Pad.{Pad}
use Rattle.policy_ctx.specs.declared.policy.Unit.{Unit as DataUnit}
use Rattle.policy_ctx.specs.Policy.{pad_size, unit_log2}
use Rattle.policy_ctx.specs.Settings.{pad_of_size, unit_of_log2}

-- a number below 2^32
abbrev pub number_of : List ℕ → Option ℕ
number_of word = number_below (2 ^ 32) word

-- the number, if it is no greater
abbrev pub at_most : ℕ → ℕ → Option ℕ
at_most most number = if nat_le number most then Some number else None

-- a number that is no greater than this one
abbrev pub number_up_to : ℕ → List ℕ → Option ℕ
number_up_to most word = option_and_then (at_most most) (number_of word)

-- a padding, by its bytes: 4, 8, 16 or 32
abbrev pub pad_of : List ℕ → Option Pad
pad_of word = option_and_then pad_of_size (number_of word)

-- a unit of contents, by the logarithm of its bytes: 0 for a block, or 9 to 12
abbrev pub unit_of : List ℕ → Option DataUnit
unit_of word = option_and_then unit_of_log2 (number_of word)

abbrev pub pad_text : Pad → List ℕ
pad_text pad = decimal_of (pad_size pad)

abbrev pub unit_text : DataUnit → List ℕ
unit_text unit = decimal_of (unit_log2 unit)

-- a number below 2^32
abbrev pub IsNumber : ℕ → Type 0
IsNumber number = number < 2 ^ 32
