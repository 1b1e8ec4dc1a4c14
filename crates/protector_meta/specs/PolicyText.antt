-- The text of a policy's record: its lines, with one space between words.
use Rattle.std.specs.Prelude.{ℕ, List, [], ◌∷◌, ◌++◌, map, codes, Option, Some, None}
use Rattle.hex.specs.Hex.{encode_lower}
use Rattle.text_words.specs.Numbers.{decimal_of}
use Rattle.policy_ctx.specs.Policy.{pad_size, unit_log2}
use Rattle.protector_meta.specs.declared.wraps.Wrap.{Wrap}
use Rattle.protector_meta.specs.declared.policy_file.Options.{Options}
use Rattle.protector_meta.specs.declared.policy_file.PolicyFile.{PolicyFile}
use Rattle.text_words.specs.Lines.{ended}

-- the line of a wrap: the label of its protector, and the digits of iv, key and tag
abbrev pub wrap_line : Wrap → List ℕ
wrap_line wrap =
    codes "wrap " ++ (wrap.protector ++ (codes " " ++ (encode_lower wrap.iv
    ++ (codes " " ++ (encode_lower wrap.key ++ (codes " " ++ encode_lower wrap.tag))))))

-- the line of options: the padding in bytes, and the logarithm to base 2 of the unit, or 0 for a block
abbrev pub options_line : Options → List ℕ
options_line o = codes "options " ++ (decimal_of (pad_size o.pad) ++ 32 ∷ decimal_of (unit_log2 o.unit))

-- the first line: version 2 has options, version 1 has none
abbrev pub version_line : Option Options → List ℕ
version_line None = codes "fsc-policy 1"
version_line (Some o) = codes "fsc-policy 2"

-- the line of options, if there are any
abbrev pub option_lines : Option Options → List (List ℕ)
option_lines None = []
option_lines (Some o) = options_line o ∷ []

-- the lines before the wraps
abbrev pub head_lines : PolicyFile → List (List ℕ)
head_lines p =
    version_line p.options ∷ (codes "name " ++ p.name) ∷ (codes "id " ++ encode_lower p.id.0)
    ∷ option_lines p.options

-- all lines
abbrev pub policy_lines : PolicyFile → List (List ℕ)
policy_lines p = head_lines p ++ map wrap_line p.wraps

-- each of the lines is ended by a line feed
abbrev pub policy_text : PolicyFile → List ℕ
policy_text p = ended (policy_lines p)
