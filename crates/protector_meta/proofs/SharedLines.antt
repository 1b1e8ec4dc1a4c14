-- Lines that begin with a word, and those that both records have, as readers take them.
use Rattle.std.proofs.Common.{◌≡◌, ℕ, true, List, ◌++◌, Option, replicate, refl, ap, ◌∙◌, lit<}
use Rattle.std.specs.Prelude.{codes}
use Rattle.std.proofs.lemmas.List.{length-replicate}
use Rattle.hex.specs.Hex.{encode_lower}
use Rattle.byte_words.specs.Bytes.{AreBytesOfLength}
use Rattle.byte_words.proofs.AreBytesLemmas.{AreBytes-zeros}
use Rattle.short_bytes.specs.Label.{IsLabel}
use Rattle.short_bytes.proofs.LabelLemmas.{label_of-found, label_of-label}
use Rattle.text_words.proofs.PieceLemmas.{free_of_both, is_free_of}
use Rattle.text_words.proofs.WordLemmas.{digits_again, digits_are_free, digits_found}
use Rattle.protector_meta.specs.LineValues.{digits_line_value, name_line_value, word_value}
use Rattle.protector_meta.proofs.Readers.{Spells}
use Rattle.protector_meta.proofs.WordLaws.{label_is_free, word_value_again, word_value_found}

-- a word, and after it the text of a value
pub word_spelled : {A : Type 0} {value : List ℕ → Option A} {Is : A → Type 0} {text_of : A → List ℕ} (word : List ℕ) → is_free_of 10 word ≡ true → Spells value Is text_of
    → Spells (word_value word value) Is (λ x. word ++ text_of x)
word_spelled {value = value} {text_of = text_of} word plain spells = record {
  some = spells.some;
  found = λ line x h.
      let on = word_value_found word value line x h in
      let told = spells.found on.0 x on.2 in
      (on.1 ∙ ap (λ l. word ++ l) told.0, told.1);
  again = λ x is. word_value_again word value (text_of x) x (spells.again x is);
  free = λ x is. free_of_both 10 word (text_of x) plain (spells.free x is);
}

pub name_spelled : Spells name_line_value IsLabel (λ name. codes "name " ++ name)
name_spelled = word_spelled (codes "name ") refl (record {
  some = (codes "a", refl);
  found = label_of-found;
  again = label_of-label;
  free = λ name is. label_is_free 10 name (lit< tt) is;
})

pub zeros : (n : ℕ) → AreBytesOfLength n (replicate n 0)
zeros n = (length-replicate {A = ℕ} n 0, AreBytes-zeros n)

pub digits_spelled : (word : List ℕ) (n : ℕ) → is_free_of 10 word ≡ true
    → Spells (digits_line_value word n) (AreBytesOfLength n) (λ bytes. word ++ encode_lower bytes)
digits_spelled word n plain = word_spelled word plain (record {
  some = (replicate n 0, zeros n);
  found = λ text bytes h. let found = digits_found n text bytes h in (found.0, (found.1, found.2));
  again = λ bytes are. digits_again n bytes are.0 are.1;
  free = λ bytes are. digits_are_free 10 bytes (lit< tt) are.1;
})
