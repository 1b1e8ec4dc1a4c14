-- The lines that a protector's record alone has, and its end, as readers take them.
use Rattle.std.proofs.Common.{◌≡◌, ℕ, ◌==◌, Bool, true, false, ◌&&◌, List, [], ◌++◌, length, Some, Result, Ok, Err, refl, sym, ap, ◌∙◌, subst, lit<}
use Rattle.std.specs.Prelude.{if◌then◌else◌, codes}
use Rattle.std.specs.List.{list_all}
use Rattle.std.specs.Str.{bytes_eq}
use Rattle.std.specs.Cmp.Lexicographic.{same_text}
use Rattle.std.proofs.lemmas.Bool.{and_from, and_parts, eq-eqb, eqb-true}
use Rattle.std.proofs.lemmas.List.{nil_from_length}
use Rattle.std.proofs.lemmas.Option.{same_Some}
use Rattle.text_words.specs.Digits.{is_lower_hex_digit}
use Rattle.text_words.specs.Lines.{ended}
use Rattle.text_words.proofs.WordLemmas.{chose, lower_digits_are_free}
use Rattle.protector_meta.specs.Descriptor.{IsDescriptor}
use Rattle.protector_meta.specs.RecordLines.{RecordTest, ended_lines}
use Rattle.protector_meta.specs.ProtectorText.{IsKind, kind_text}
use Rattle.protector_meta.specs.ProtectorLines.{head_value, kind_line_value, descriptor_value, descriptor_line_value}
use Rattle.protector_meta.specs.ProtectorReading.{end_of_record}
use Rattle.protector_meta.specs.declared.fault.MetaFault.{MetaFault}
use Rattle.protector_meta.specs.declared.fault.MetaFault.TheVariants.{Bad}
use Rattle.protector_meta.specs.declared.protector.Protector.{Protector}
use Rattle.protector_meta.specs.declared.protector.ProtectorKind.TheVariants.{Raw}
use Rattle.protector_meta.proofs.SharedLines.{word_spelled}
use Rattle.protector_meta.proofs.KindLaws.{kind_again, kind_found, kind_is_free}
use Rattle.protector_meta.proofs.Readers.{Reads, Spells, Stops, stops_here}

-- ---- the lines

head_found : (line : List ℕ) (x : Unit {0}) → head_value line ≡ Some x → (line ≡ codes "fsc-protector 1") × Unit {0}
head_found line x h = (same_text _ _ (sym (chose (bytes_eq line (codes "fsc-protector 1")) (Some tt) x h).0), tt)

descriptor_found : (text digits : List ℕ) → descriptor_value text ≡ Some digits → (text ≡ digits) × IsDescriptor digits
descriptor_found text digits h =
    let taken = chose (length text == 16 && list_all is_lower_hex_digit text) (Some text) digits h in
    let same : text ≡ digits = same_Some text digits taken.1 in
    let parts = and_parts (length text == 16) (list_all is_lower_hex_digit text) taken.0 in
    (same, subst IsDescriptor same (eqb-true _ _ parts.0, parts.1))

descriptor_again : (digits : List ℕ) → IsDescriptor digits → descriptor_value digits ≡ Some digits
descriptor_again digits h = rw (and_from _ _ (eq-eqb (length digits) 16 h.0) h.1) refl

pub head_spelled : Spells head_value (λ head. Unit {0}) (λ head. codes "fsc-protector 1")
head_spelled = record { some = (tt, tt); found = head_found; again = λ head _. refl; free = λ head _. refl }

pub kind_spelled : Spells kind_line_value IsKind (λ kind. codes "kind " ++ kind_text kind)
kind_spelled = word_spelled (codes "kind ") refl (record { some = (Raw, tt); found = kind_found; again = kind_again; free = kind_is_free })

pub descriptor_spelled : Spells descriptor_line_value IsDescriptor (λ digits. codes "descriptor " ++ digits)
descriptor_spelled = word_spelled (codes "descriptor ") refl (record {
  some = (codes "0000000000000000", (refl, refl));
  found = descriptor_found;
  again = descriptor_again;
  free = λ digits is. lower_digits_are_free 10 digits (lit< tt) is.1;
})

-- ---- the end

abbrev pub IsEnd : Protector → Protector → RecordTest
IsEnd told p lines = (lines ≡ []) × (told ≡ p)

at_end : (number : ℕ) (text : List ℕ) (p q : Protector) → end_of_record number text p ≡ Ok q → (text ≡ []) × (p ≡ q)
at_end number text p q h = of (length text == 0) refl h
  where
    of : (b : Bool) → (length text == 0) ≡ b → (let r : Result Protector MetaFault = if b then Ok p else Err (Bad number) in r ≡ Ok q) → (text ≡ []) × (p ≡ q)
    of true e h = (nil_from_length text (eqb-true _ _ e), cc h)
    of false e h = absurd (cc h)

end_stops : (p : Protector) (text : List ℕ) (e : MetaFault) → end_of_record 8 text p ≡ Err e → Stops (λ lines. (q : Protector) × IsEnd p q lines) 8 (ended_lines text) e
end_stops p text e h =
    stops_here (λ lines. (q : Protector) × IsEnd p q lines) 8 (ended_lines text) e (of (length text == 0) h) ([], (p, (refl, refl)))
    (λ line more same go_on. absurd (cc go_on.1.1.0))
  where
    of : (b : Bool) → (let r : Result Protector MetaFault = if b then Ok p else Err (Bad 8) in r ≡ Err e) → e ≡ Bad 8
    of true h = absurd (cc h)
    of false h = cc h

pub end_reads : (p : Protector) → Reads (IsEnd p) 8 (λ text. end_of_record 8 text p)
end_reads p = record {
  some = (p, ([], (refl, refl)));
  found = λ text q h. let are = at_end 8 text p q h in ([], (are.0, (refl, are.1)));
  again = λ q lines is. ap (λ ls. end_of_record 8 (ended ls) p) is.0 ∙ ap Ok is.1;
  stops = end_stops p;
}
