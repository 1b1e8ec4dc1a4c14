-- The words for new secrets: `raw:` and 64 digits, or `pass:`, costs and a passphrase.
use Rattle.std.specs.Prelude.{ℕ, ◌≡◌, ◌++◌, nat_eq, List, drop, codes, Option, None, Ok, if◌then◌else◌}
use Rattle.std.specs.List.{starts_with}
use Rattle.std.specs.Option.{option_map, option_and_then}
use Rattle.hex.specs.Hex.{encode_lower}
use Rattle.argon_kdf.specs.CostLimits.{checked_costs}
use Rattle.argon_kdf.specs.declared.costs.Costs.{Costs}
use Rattle.script_words.specs.Word.{IsWord, word_bytes, word_text}
use Rattle.script_words.specs.declared.secrets.NewSecret.{NewSecret}
use Rattle.script_words.specs.declared.secrets.NewSecret.TheVariants as new
use Rattle.script_words.specs.CostWords.{number_and_rest, costs_of, costs_text}
use Rattle.script_words.specs.Secrets.{raw_secret_of, IsRawSecret}

-- a passphrase, after costs
abbrev pub after_costs : Costs → List ℕ → Option NewSecret
after_costs costs text = option_map (λ passphrase. new.Pass costs passphrase) (word_bytes text)

-- passes, KiB and lanes in range, each before a `:`, and a passphrase
abbrev pub stretched_of : List ℕ → Option NewSecret
stretched_of text =
    option_and_then (λ passes. option_and_then (λ kib. option_and_then (λ lanes.
    option_and_then (λ costs. after_costs costs lanes.1) (costs_of passes.0 kib.0 lanes.0))
    (number_and_rest kib.1)) (number_and_rest passes.1)) (number_and_rest text)

-- a new secret: `raw:` and its digits, or `pass:PASSES:KIB:LANES:` and a passphrase
abbrev pub new_secret_of : List ℕ → Option NewSecret
new_secret_of word =
    if starts_with nat_eq word (codes "raw:") then option_map new.Raw (raw_secret_of (drop 4 word))
    else if starts_with nat_eq word (codes "pass:") then stretched_of (drop 5 word)
    else None

abbrev pub new_secret_text : NewSecret → List ℕ
new_secret_text (new.Raw raw) = codes "raw:" ++ encode_lower raw
new_secret_text (new.Pass costs passphrase) = codes "pass:" ++ (costs_text costs ++ word_text passphrase)

-- 32 bytes, or a passphrase of 1 to 1,000 with costs in their ranges
abbrev pub IsNewSecret : NewSecret → Type 0
IsNewSecret (new.Raw raw) = IsRawSecret raw
IsNewSecret (new.Pass costs passphrase) = (checked_costs costs ≡ Ok tt) × IsWord passphrase
