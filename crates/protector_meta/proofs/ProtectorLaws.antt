-- A protector's record is read from its text, from no other text, and a fault names the first line at
-- fault.
use Rattle.std.proofs.Common.{◌≡◌, ℕ, List, [], ◌∷◌, ◌++◌, Result, Ok, Err, refl, sym, ap, ◌∙◌, subst}
use Rattle.std.specs.Prelude.{IfOk, IfErr, ◌≢◌, codes}
use Rattle.hex.specs.Hex.{encode_lower}
use Rattle.byte_words.specs.Bytes.{AreBytesOfLength}
use Rattle.short_bytes.specs.Label.{IsLabel}
use Rattle.protector_meta.specs.Descriptor.{IsDescriptor}
use Rattle.protector_meta.specs.RecordLines.{IsFirstBad, RecordTest, NamesFirstBadLine}
use Rattle.protector_meta.specs.ProtectorText.{IsKind, IsProtector, IsProtectorRecord, kind_text, protector_lines, protector_text}
use Rattle.protector_meta.specs.ProtectorReading.{protector_read}
use Rattle.protector_meta.specs.declared.fault.MetaFault.{MetaFault}
use Rattle.protector_meta.specs.declared.fault.MetaFault.TheVariants.{Bad}
use Rattle.protector_meta.specs.declared.protector.Protector.{Protector}
use Rattle.protector_meta.proofs.LineLaws.{ended-push}
use Rattle.protector_meta.proofs.Readers.{Reads, Then, line_then, only_one, record_again, record_bad, record_found}
use Rattle.protector_meta.proofs.SharedLines.{digits_spelled, name_spelled}
use Rattle.protector_meta.proofs.ProtectorValues.{IsEnd, descriptor_spelled, end_reads, head_spelled, kind_spelled}

-- ---- the reader

-- the lines of a record, one after another
abbrev IsWhole : Protector → RecordTest
IsWhole =
    Then (λ (head : Unit {0}). Unit {0}) (λ head. codes "fsc-protector 1") (λ head.
    Then IsLabel (λ name. codes "name " ++ name) (λ name.
    Then IsKind (λ kind. codes "kind " ++ kind_text kind) (λ kind.
    Then IsDescriptor (λ digits. codes "descriptor " ++ digits) (λ digits.
    Then (AreBytesOfLength 16) (λ iv. codes "iv " ++ encode_lower iv) (λ iv.
    Then (AreBytesOfLength 32) (λ key. codes "key " ++ encode_lower key) (λ key.
    Then (AreBytesOfLength 32) (λ tag. codes "tag " ++ encode_lower tag) (λ tag.
    IsEnd (record { name = name; kind = kind; descriptor = digits; iv = iv; key = key; tag = tag }))))))))

reads : Reads IsWhole 1 protector_read
unfolding protector_read
reads =
    line_then 1 head_spelled (λ head.
    line_then 2 name_spelled (λ name.
    line_then 3 kind_spelled (λ kind.
    line_then 4 descriptor_spelled (λ digits.
    line_then 5 (digits_spelled (codes "iv ") 16 refl) (λ iv.
    line_then 6 (digits_spelled (codes "key ") 32 refl) (λ key.
    line_then 7 (digits_spelled (codes "tag ") 32 refl) (λ tag.
    end_reads (record { name = name; kind = kind; descriptor = digits; iv = iv; key = key; tag = tag }))))))))

-- the lines that are read are those of the record
told : (p : Protector) (lines : List (List ℕ)) → IsWhole p lines → IsProtector p × (lines ≡ protector_lines p)
told p lines (_, (r0, (e0, (_, (name, (r1, (e1, (is_name, (kind, (r2, (e2, (is_kind, (digits, (r3, (e3, (is_digits, (iv, (r4, (e4, (is_iv, (key, (r5, (e5, (is_key, (tag, (r6, (e6, (is_tag, (none, same))))))))))))))))))))))))))))) =
    subst (λ (q : Protector). IsProtector q × (lines ≡ protector_lines q)) same (
      record { name = is_name; kind = is_kind; descriptor = is_digits; iv = is_iv; key = is_key; tag = is_tag },
      e0 ∙ ap (λ ls. codes "fsc-protector 1" ∷ ls)
          (e1 ∙ ap (λ ls. (codes "name " ++ name) ∷ ls)
          (e2 ∙ ap (λ ls. (codes "kind " ++ kind_text kind) ∷ ls)
          (e3 ∙ ap (λ ls. (codes "descriptor " ++ digits) ∷ ls)
          (e4 ∙ ap (λ ls. (codes "iv " ++ encode_lower iv) ∷ ls)
          (e5 ∙ ap (λ ls. (codes "key " ++ encode_lower key) ∷ ls)
          (e6 ∙ ap (λ ls. (codes "tag " ++ encode_lower tag) ∷ ls) none)))))),
    )

whole : (p : Protector) → IsProtector p → IsWhole p (protector_lines p)
whole p is =
    (tt, (_, (refl, (tt, (p.name, (_, (refl, (is.name, (p.kind, (_, (refl, (is.kind, (p.descriptor, (_, (refl, (is.descriptor, (p.iv, (_, (refl, (is.iv, (p.key, (_, (refl, (is.key, (p.tag, (_, (refl, (is.tag, (refl, refl)))))))))))))))))))))))))))))

pub protector_found : (text : List ℕ) (p : Protector) → protector_read text ≡ Ok p → IsProtector p × (text ≡ protector_text p)
unfolding protector_text
protector_found = record_found reads told whole

pub protector_again : (p : Protector) → IsProtector p → protector_read (protector_text p) ≡ Ok p
unfolding protector_text
protector_again = record_again reads told whole

pub protector_bad : (text : List ℕ) (e : MetaFault) → protector_read text ≡ Err e → NamesFirstBadLine IsProtectorRecord text e
protector_bad = record_bad reads told whole

-- ---- the result of a reader

pub IfOk-found : (text : List ℕ) (r : Result Protector MetaFault) → r ≡ protector_read text → IfOk r (λ p. IsProtector p × (text ≡ protector_text p))
IfOk-found text (Ok p) e = protector_found text p (sym e)
IfOk-found text (Err fault) e = tt

pub IfErr-bad : (text : List ℕ) (r : Result Protector MetaFault) → r ≡ protector_read text → IfErr r (NamesFirstBadLine IsProtectorRecord text)
IfErr-bad text (Ok p) e = tt
IfErr-bad text (Err fault) e = protector_bad text fault (sym e)

pub IfErr-only : (text : List ℕ) (r : Result Protector MetaFault) → r ≡ protector_read text
    → IfErr r (λ fault. (line : ℕ) → IsFirstBad IsProtectorRecord text line → fault ≡ Bad line)
IfErr-only text (Ok p) e = tt
IfErr-only text (Err fault) e = λ line is. only_one IsProtectorRecord text fault line (protector_bad text fault (sym e)) is

pub IfErr-none : (text : List ℕ) (r : Result Protector MetaFault) → r ≡ protector_read text → IfErr r (λ _. (p : Protector) → IsProtector p → text ≢ protector_text p)
IfErr-none text (Ok p) e = tt
IfErr-none text (Err fault) e = λ p h is. absurd (cc (e, ap protector_read is, protector_again p h))

-- ---- writing

-- the lines, written one after the other
pub written : (p : Protector) (name descriptor t0 t1 t2 t3 t4 t5 t6 t7 : List ℕ) → name ≡ p.name → descriptor ≡ p.descriptor
    → t0 ≡ [] → t1 ≡ t0 ++ codes "fsc-protector 1" ++ 10 ∷ [] → t2 ≡ t1 ++ (codes "name " ++ name) ++ 10 ∷ []
    → t3 ≡ t2 ++ (codes "kind " ++ kind_text p.kind) ++ 10 ∷ [] → t4 ≡ t3 ++ (codes "descriptor " ++ descriptor) ++ 10 ∷ []
    → t5 ≡ t4 ++ (codes "iv " ++ encode_lower p.iv) ++ 10 ∷ [] → t6 ≡ t5 ++ (codes "key " ++ encode_lower p.key) ++ 10 ∷ []
    → t7 ≡ t6 ++ (codes "tag " ++ encode_lower p.tag) ++ 10 ∷ [] → t7 ≡ protector_text p
unfolding protector_text
written p name descriptor t0 t1 t2 t3 t4 t5 t6 t7 en ed e0 e1 e2 e3 e4 e5 e6 e7 =
    let head = codes "fsc-protector 1" in
    let named = codes "name " ++ p.name in
    let kind = codes "kind " ++ kind_text p.kind in
    let described = codes "descriptor " ++ p.descriptor in
    let iv = codes "iv " ++ encode_lower p.iv in
    let key = codes "key " ++ encode_lower p.key in
    ended-push (head ∷ named ∷ kind ∷ described ∷ iv ∷ key ∷ []) (codes "tag " ++ encode_lower p.tag) t6 t7
    (ended-push (head ∷ named ∷ kind ∷ described ∷ iv ∷ []) key t5 t6
    (ended-push (head ∷ named ∷ kind ∷ described ∷ []) iv t4 t5
    (ended-push (head ∷ named ∷ kind ∷ []) described t3 t4
    (ended-push (head ∷ named ∷ []) kind t2 t3
    (ended-push (head ∷ []) named t1 t2
    (ended-push [] head t0 t1 e0 e1)
    (e2 ∙ ap (λ (x : List ℕ). t1 ++ (codes "name " ++ x) ++ 10 ∷ []) en)) e3)
    (e4 ∙ ap (λ (x : List ℕ). t3 ++ (codes "descriptor " ++ x) ++ 10 ∷ []) ed)) e5) e6) e7
