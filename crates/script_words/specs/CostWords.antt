-- The costs before a new passphrase: three numbers, each before a `:`.
use Rattle.std.specs.Prelude.{ℕ, ◌==◌, ◌++◌, Bool, nat_lt, is_ok, List, length, codes, Option, Some, None}
use Rattle.std.specs.Prelude.{if◌then◌else◌}
use Rattle.std.specs.List.{before_first, after_first, position_or_len}
use Rattle.std.specs.Option.{option_map}
use Rattle.text_words.specs.Numbers.{decimal_of}
use Rattle.argon_kdf.specs.CostLimits.{checked_costs}
use Rattle.argon_kdf.specs.declared.costs.Costs.{Costs}
use Rattle.script_words.specs.Numbers.{number_of}

-- whether the byte is `:`
abbrev pub is_colon : ℕ → Bool
is_colon b = b == 58

-- a number before the first `:`, and the text after it
abbrev pub number_and_rest : List ℕ → Option (ℕ × List ℕ)
number_and_rest text =
    if nat_lt (position_or_len is_colon text) (length text)
    then option_map (λ number. (number, after_first is_colon text)) (number_of (before_first is_colon text))
    else None

-- the costs, if they are in their ranges
abbrev pub costs_of : ℕ → ℕ → ℕ → Option Costs
costs_of passes kib lanes =
    let costs : Costs = record { passes = passes; kib = kib; lanes = lanes } in
    if is_ok (checked_costs costs) then Some costs else None

-- a number and a `:`
abbrev pub cost_text : ℕ → List ℕ
cost_text cost = decimal_of cost ++ codes ":"

abbrev pub costs_text : Costs → List ℕ
costs_text costs = cost_text costs.passes ++ (cost_text costs.kib ++ cost_text costs.lanes)
