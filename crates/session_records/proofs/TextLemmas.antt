-- Records of policies and protectors are so short that a call can carry them.
use Rattle.std.proofs.Common.{◌≡◌, ℕ, ◌+◌, ◌*◌, ◌^◌, ◌<◌, ◌≤◌, List, [], ◌∷◌, ◌++◌, length, length-append, map, refl, ap, sym, subst, ◌∙◌, lit<, arith}
use Rattle.std.specs.Prelude.{Option, Some, None, codes}
use Rattle.std.specs.List.{All}
use Rattle.std.proofs.lemmas.Fmt.{length-decimal-le}
use Rattle.std.proofs.lemmas.List.Elements.{All-head, All-tail}
use Rattle.hex.specs.Hex.{encode_lower, lower_digits}
use Rattle.hex.proofs.HexLemmas.{length-encode_with}
use Rattle.text_words.specs.Numbers.{decimal_of}
use Rattle.short_bytes.specs.Label.{IsLabel}
use Rattle.short_bytes.proofs.LabelLemmas.{IsLabel-bounds}
use Rattle.argon_kdf.proofs.Ranges.{few_passes, few_lanes, most_kib}
use Rattle.policy_ctx.specs.declared.policy.Pad.{Pad}
use Rattle.policy_ctx.specs.declared.policy.Pad.TheVariants.{P4, P8, P16, P32}
use Rattle.policy_ctx.specs.declared.policy.Unit.{Unit as DataUnit}
use Rattle.policy_ctx.specs.declared.policy.Unit.TheVariants.{Block, U512, U1024, U2048, U4096}
use Rattle.policy_ctx.specs.Policy.{pad_size, unit_log2}
use Rattle.protector_meta.specs.declared.policy_file.Options.{Options}
use Rattle.protector_meta.specs.declared.policy_file.PolicyFile.{PolicyFile}
use Rattle.protector_meta.specs.declared.protector.Protector.{Protector}
use Rattle.protector_meta.specs.declared.protector.ProtectorKind.{ProtectorKind}
use Rattle.protector_meta.specs.declared.protector.ProtectorKind.TheVariants.{Raw, Pass}
use Rattle.protector_meta.specs.declared.wraps.Wrap.{Wrap}
use Rattle.text_words.specs.Lines.{ended}
use Rattle.protector_meta.specs.PolicyText.{policy_text, wrap_line, options_line, option_lines, version_line}
use Rattle.protector_meta.specs.PolicyRecords.{IsPolicyFile, IsWrap}
use Rattle.protector_meta.specs.ProtectorText.{IsKind, IsProtector, kind_text, protector_text}

number_short : (n : ℕ) → n < 10 ^ 10 → length (decimal_of n) ≤ 10
number_short n small = length-decimal-le 10 n (lit< tt) small (omega arith)

digits_long : (n : ℕ) (bytes : List ℕ) → length bytes ≡ n → length (encode_lower bytes) ≡ 2 * n
digits_long n bytes long = length-encode_with lower_digits bytes ∙ ap (λ k. 2 * k) long

label_short : (label : List ℕ) → IsLabel label → length label ≤ 32
label_short label is = (IsLabel-bounds label is).1

-- ---- policies

wrap_line_short : (w : Wrap) → IsWrap w → length (wrap_line w) ≤ 264
wrap_line_short w is =
    let label = label_short w.protector is.protector in
    let iv = digits_long 16 w.iv is.iv.0 in
    let key = digits_long 64 w.key is.key.0 in
    let tag = digits_long 32 w.tag is.tag.0 in
    simp length-append (omega arith)

wraps_short : (ws : List Wrap) → All IsWrap ws → length (ended (map wrap_line ws)) ≤ 265 * length ws
wraps_short [] all = omega arith
wraps_short (w ∷ ws) all =
    let line = wrap_line_short w (All-head IsWrap w ws all) in
    let more = wraps_short ws (All-tail IsWrap w ws all) in
    let both = length-append (wrap_line w) (10 ∷ ended (map wrap_line ws)) in
    omega arith

pad_small : (pad : Pad) → pad_size pad < 10 ^ 10
pad_small P4 = lit< tt
pad_small P8 = lit< tt
pad_small P16 = lit< tt
pad_small P32 = lit< tt

unit_small : (unit : DataUnit) → unit_log2 unit < 10 ^ 10
unit_small Block = lit< tt
unit_small U512 = lit< tt
unit_small U1024 = lit< tt
unit_small U2048 = lit< tt
unit_small U4096 = lit< tt

options_line_short : (o : Options) → length (options_line o) ≤ 29
options_line_short o =
    let pad = number_short (pad_size o.pad) (pad_small o.pad) in
    let unit = number_short (unit_log2 o.unit) (unit_small o.unit) in
    simp length-append (omega arith)

-- the lines of options and of wraps
options_and_wraps : (o : Option Options) (lines : List (List ℕ)) → length (ended (option_lines o ++ lines)) ≤ 30 + length (ended lines)
options_and_wraps None lines = omega arith
options_and_wraps (Some o) lines =
    let line = options_line_short o in
    let both = length-append (options_line o) (10 ∷ ended lines) in
    omega arith

version_long : (o : Option Options) → length (version_line o) ≡ 12
version_long None = refl
version_long (Some o) = refl

-- three lines before others
three_lines : (first second third rest : List ℕ) → length first ≡ 12 → length second ≤ 37 → length third ≤ 35 → length rest ≤ 4270
    → length (first ++ 10 ∷ (second ++ 10 ∷ (third ++ 10 ∷ rest))) ≤ 9000
three_lines first second third rest a b c d =
    let e = length-append first (10 ∷ (second ++ 10 ∷ (third ++ 10 ∷ rest))) in
    let e' = length-append second (10 ∷ (third ++ 10 ∷ rest)) in
    let e'' = length-append third (10 ∷ rest) in
    omega arith

-- a policy's text
pub policy_text_is_short : (p : PolicyFile) (text : List ℕ) → text ≡ policy_text p → IsPolicyFile p → length text ≤ 9000
policy_text_is_short p text spelled is =
    let few = is.wraps.few in
    let label = label_short p.name is.name in
    let id = digits_long 16 p.id.0 is.id.0 in
    let wraps = wraps_short p.wraps is.each in
    let rest = options_and_wraps p.options (map wrap_line p.wraps) in
    let second : length (codes "name " ++ p.name) ≤ 37 = omega arith in
    let third : length (codes "id " ++ encode_lower p.id.0) ≤ 35 = omega arith in
    let tail : length (ended (option_lines p.options ++ map wrap_line p.wraps)) ≤ 4270 = omega arith in
    subst (λ (t : List ℕ). length t ≤ 9000) (sym spelled)
    (three_lines (version_line p.options) (codes "name " ++ p.name) (codes "id " ++ encode_lower p.id.0)
    (ended (option_lines p.options ++ map wrap_line p.wraps)) (version_long p.options) second third tail)

-- ---- protectors

kind_short : (kind : ProtectorKind) → IsKind kind → length (kind_text kind) ≤ 70
kind_short Raw is = lit< tt
kind_short (Pass (costs, salt)) is =
    let passes = few_passes costs is.0 in
    let lanes = few_lanes costs is.0 in
    let kib = most_kib costs is.0 in
    let passes' = number_short costs.passes (omega arith) in
    let kib' = number_short costs.kib (omega arith) in
    let lanes' = number_short costs.lanes (omega arith) in
    let salt' = digits_long 16 salt is.1.0 in
    simp length-append (omega arith)

-- a protector's text
pub protector_text_is_short : (p : Protector) → IsProtector p → length (protector_text p) ≤ 9000
unfolding protector_text
protector_text_is_short p is =
    let label = label_short p.name is.name in
    let kind = kind_short p.kind is.kind in
    let descriptor = is.descriptor.0 in
    let iv = digits_long 16 p.iv is.iv.0 in
    let key = digits_long 32 p.key is.key.0 in
    let tag = digits_long 32 p.tag is.tag.0 in
    simp length-append (omega arith)
