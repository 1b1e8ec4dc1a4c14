-- Descriptors, by which a wrong key of a protector is detected.
use Rattle.std.specs.Prelude.{ℕ, ◌≡◌, List, length, IsTrue}
use Rattle.std.specs.List.{list_all}
use Rattle.text_words.specs.Digits.{is_lower_hex_digit}

-- 16 lower-case hexadecimal digits, as ASCII
abbrev pub IsDescriptor : List ℕ → Type 0
IsDescriptor digits = (length digits ≡ 16) × IsTrue (list_all is_lower_hex_digit digits)
