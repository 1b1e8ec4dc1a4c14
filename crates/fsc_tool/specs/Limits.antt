-- The limits of an input.
use Rattle.std.specs.Prelude.{◌<◌, ◌⊎◌, ℕ, List, length}
use Rattle.text_words.specs.Lines.{line_count}
use Rattle.fsc_outside.specs.declared.input.InputLimits.{InputLimits}
use Rattle.fsc_tool.specs.declared.limits.TheConstants.{MAX_INPUT_BYTES, MAX_INPUT_LINES}

abbrev pub input_limits : InputLimits
input_limits = record { bytes = MAX_INPUT_BYTES; lines = MAX_INPUT_LINES }

-- a text beyond a limit
abbrev pub IsLong : List ℕ → Type 0
IsLong text = (MAX_INPUT_BYTES < length text) ⊎ (MAX_INPUT_LINES < line_count text)
