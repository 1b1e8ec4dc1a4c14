-- How a record is read, line by line: the value and what follows it, or the fault; definitions for
-- private functions.
use Rattle.std.specs.Prelude.{ℕ, ◌≡◌, List, length, nat_lt, Option, Some}
use Rattle.std.specs.Prelude.{None, Result, Ok, Err, if◌then◌else◌}
use Rattle.std.specs.List.{before_first, after_first, position_or_len}
use Rattle.text_words.specs.Lines.{is_line_feed}
use Rattle.protector_meta.specs.declared.fault.MetaFault.{MetaFault}
use Rattle.protector_meta.specs.declared.fault.MetaFault.TheVariants.{Bad}

-- continue, unless there was a fault
infixl 10 ◌>>=◌
abbrev pub ◌>>=◌ : {A B : Type 0} → Result A MetaFault → (A → Result B MetaFault) → Result B MetaFault
(Ok x) >>= f = f x
(Err e) >>= f = Err e

-- the first line, if a line feed ends it, and the text after the line feed
abbrev pub line_at : ℕ → List ℕ → Result (List ℕ × List ℕ) MetaFault
line_at number text =
    if nat_lt (position_or_len is_line_feed text) (length text)
    then Ok (before_first is_line_feed text, after_first is_line_feed text)
    else Err (Bad number)

-- a value that a line must have
abbrev pub required_value : {A : Type 0} → Option A → ℕ → List ℕ → Result (A × List ℕ) MetaFault
required_value None number rest = Err (Bad number)
required_value (Some x) number rest = Ok (x, rest)

-- the value of the first line, and the text after the line
abbrev pub value_at : {A : Type 0} → (List ℕ → Option A) → ℕ → List ℕ → Result (A × List ℕ) MetaFault
value_at value number text = line_at number text >>= λ x. required_value (value x.0) number x.1

-- what a function returned, seen by view, is what reading gives
abbrev pub Gives : {X Y : Type 0} → (X → Y) → Result X MetaFault → Result Y MetaFault → Type 0
Gives view (Ok x) read = read ≡ Ok (view x)
Gives view (Err e) read = read ≡ Err e
