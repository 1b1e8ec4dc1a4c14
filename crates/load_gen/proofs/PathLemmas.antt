-- The paths of generated commands, and their texts.
use Rattle.std.proofs.Common.{◌≡◌, ℕ, ◌+◌, ◌<◌, ◌==◌, true, false, [], ◌∷◌, ◌++◌, codes, Some, refl, sym, ap, ap₂, ◌∙◌, arith}
use Rattle.std.proofs.lemmas.List.Elements.{All-nil, All-cons}
use Rattle.std.proofs.lemmas.Bool.Decides.{nat_tests}
use Rattle.script_words.specs.Word.{word_text, is_plain_character}
use Rattle.script_words.specs.Path.{IsPart, IsPath, path_of, may_be_part, is_slash_or_nul}
use Rattle.script_words.specs.PathText.{part_text, path_text}
use Rattle.script_words.proofs.PathLemmas.{path_of-path_text}
use Rattle.load_gen.specs.Words.{name, directory, file, moved_file}

-- ---- names

digit-plain : (digit : ℕ) → digit < 8 → is_plain_character (48 + digit) ≡ true
digit-plain digit small = grind (arith, nat_tests)

may_be_part-name : (letter digit : ℕ) → digit < 8 → is_slash_or_nul letter ≡ false → (letter == 46) ≡ false
    → may_be_part (letter ∷ (48 + digit) ∷ []) ≡ true
may_be_part-name letter digit few slash dot =
    let high : is_slash_or_nul (48 + digit) ≡ false = grind (arith, nat_tests) in
    rw (slash, high, dot) refl

IsPart-name : (letter digit : ℕ) → letter < 256 → digit < 8 → is_slash_or_nul letter ≡ false → (letter == 46) ≡ false
    → IsPart (name (letter ∷ []) digit)
IsPart-name letter digit small few slash dot = (
  record {
    nonempty = omega arith;
    bounded = omega arith;
    ranged = All-cons (λ b. b < 256) letter ((48 + digit) ∷ []) small (All-cons (λ b. b < 256) (48 + digit) [] (omega arith) (All-nil (λ b. b < 256)));
  },
  may_be_part-name letter digit few slash dot,
)

name_text : (letter digit : ℕ) → is_plain_character letter ≡ true → digit < 8 → part_text (name (letter ∷ []) digit) ≡ letter ∷ (48 + digit) ∷ []
unfolding word_text
name_text letter digit plain few = rw (plain, digit-plain digit few) refl

-- ---- paths

pub IsPath-directory : (c : ℕ) → c < 8 → IsPath (directory c)
IsPath-directory c few = record {
  bounded = omega arith;
  each = All-cons IsPart (name (codes "d") c) [] (IsPart-name 100 c (omega arith) few refl refl) (All-nil IsPart);
}

pub IsPath-file : (c k : ℕ) → c < 8 → k < 8 → IsPath (file c k)
IsPath-file c k few small = record {
  bounded = omega arith;
  each = All-cons IsPart (name (codes "d") c) (name (codes "f") k ∷ []) (IsPart-name 100 c (omega arith) few refl refl)
      (All-cons IsPart (name (codes "f") k) [] (IsPart-name 102 k (omega arith) small refl refl) (All-nil IsPart));
}

pub IsPath-moved_file : (c k : ℕ) → c < 8 → k < 8 → IsPath (moved_file c k)
IsPath-moved_file c k few small = record {
  bounded = omega arith;
  each = All-cons IsPart (name (codes "d") c) (name (codes "g") k ∷ []) (IsPart-name 100 c (omega arith) few refl refl)
      (All-cons IsPart (name (codes "g") k) [] (IsPart-name 103 k (omega arith) small refl refl) (All-nil IsPart));
}

-- ---- the texts that spell them

pub path_of-directory : (c : ℕ) → c < 8 → path_of (47 ∷ 100 ∷ (48 + c) ∷ []) ≡ Some (directory c)
unfolding path_text
path_of-directory c few =
    ap path_of (ap (λ text. 47 ∷ (text ++ [])) (sym (name_text 100 c refl few))) ∙ path_of-path_text (directory c) (IsPath-directory c few)

path_of-two : (letter c k : ℕ) → is_plain_character letter ≡ true → c < 8 → k < 8 → IsPath (name (codes "d") c ∷ name (letter ∷ []) k ∷ [])
    → path_of (47 ∷ 100 ∷ (48 + c) ∷ 47 ∷ letter ∷ (48 + k) ∷ []) ≡ Some (name (codes "d") c ∷ name (letter ∷ []) k ∷ [])
unfolding path_text
path_of-two letter c k plain few small is =
    ap path_of (ap₂ (λ first second. 47 ∷ (first ++ 47 ∷ (second ++ []))) (sym (name_text 100 c refl few)) (sym (name_text letter k plain small)))
    ∙ path_of-path_text (name (codes "d") c ∷ name (letter ∷ []) k ∷ []) is

pub path_of-file : (c k : ℕ) → c < 8 → k < 8 → path_of (47 ∷ 100 ∷ (48 + c) ∷ 47 ∷ 102 ∷ (48 + k) ∷ []) ≡ Some (file c k)
path_of-file c k few small = path_of-two 102 c k refl few small (IsPath-file c k few small)

pub path_of-moved_file : (c k : ℕ) → c < 8 → k < 8 → path_of (47 ∷ 100 ∷ (48 + c) ∷ 47 ∷ 103 ∷ (48 + k) ∷ []) ≡ Some (moved_file c k)
path_of-moved_file c k few small = path_of-two 103 c k refl few small (IsPath-moved_file c k few small)
