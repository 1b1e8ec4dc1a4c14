-- A beginning of a text that is a log determines the values of its entries; and a log ends at its first
-- note.
use Rattle.std.proofs.Common.{◌≡◌, ℕ, suc, ◌+◌, ◌<◌, ◌^◌, true, List, [], ◌∷◌, ◌++◌, length, map, get_or, refl, ap, sym, ◌∙◌, append_assoc, arith}
use Rattle.std.specs.Prelude.{nat_lt}
use Rattle.std.specs.List.{All, list_all}
use Rattle.std.specs.Char.{is_ascii_digit}
use Rattle.std.proofs.lemmas.Bool.{and_parts}
use Rattle.std.proofs.lemmas.Bool.Decides.{nat_tests}
use Rattle.std.proofs.lemmas.List.Elements.{All-head, All-tail}
use Rattle.text_words.specs.Numbers.{decimal_of}
use Rattle.text_words.proofs.NumberLemmas.{IsDecimal-decimal_of, test-from_IsDecimal}
use Rattle.mount_model.specs.declared.reply.Reply.{Reply}
use Rattle.mount_model.specs.History.{MountEntry, History}
use Rattle.reply_text.specs.Log.{entry_text, log_from, log_text}
use Rattle.reply_text.specs.Notes.{note_text, notes_text}
use Rattle.reply_text.specs.Ranges.{EntryIsInRange}
use Rattle.reply_text.specs.LogLaws.{told, BeginningsDetermineTheirEntries}
use Rattle.reply_text.specs.declared.notes.Note.{Note}
use Rattle.reply_text.proofs.LineLemmas.{first_entry, nothing_told}

below : (p n : ℕ) → p + suc n < 2 ^ 64 → p < 2 ^ 64
below p n h = omega arith

next : (p n : ℕ) → p + suc n < 2 ^ 64 → p + 1 + n < 2 ^ 64
next p n h = omega arith

joined : (a b : ℕ × ℕ × List ℕ × Reply) (x y : List (ℕ × ℕ × List ℕ × Reply)) → a ≡ b → x ≡ y → a ∷ x ≡ b ∷ y
joined a b x y h i = rw (h, i) refl

-- ---- beginnings

beginnings_from : (place : ℕ) (g h : History) (x y : List ℕ) → length g ≡ length h → place + length g < 2 ^ 64
    → All EntryIsInRange g → All EntryIsInRange h → log_from place g ++ x ≡ log_from place h ++ y → (map told g ≡ map told h) × (x ≡ y)
unfolding log_from
beginnings_from place [] [] x y long small hg hh same = (refl, same)
beginnings_from place [] (f ∷ h) x y long small hg hh same = absurd (omega (arith, long))
beginnings_from place (e ∷ g) [] x y long small hg hh same = absurd (omega (arith, long))
beginnings_from place (e ∷ g) (f ∷ h) x y long small hg hh same =
    let parts = first_entry place e f (log_from (place + 1) g ++ x) (log_from (place + 1) h ++ y) (below place (length g) small) (All-head EntryIsInRange e g hg) (All-head EntryIsInRange f h hh)
    (sym (append_assoc (entry_text place e) (log_from (place + 1) g) x) ∙ same ∙ append_assoc (entry_text place f) (log_from (place + 1) h) y) in
    let more = beginnings_from (place + 1) g h x y (omega (arith, long)) (next place (length g) small) (All-tail EntryIsInRange e g hg) (All-tail EntryIsInRange f h hh) parts.1 in
    (joined (told e) (told f) (map told g) (map told h) parts.0 more.0, more.1)

pub beginnings_tell : BeginningsDetermineTheirEntries
beginnings_tell g h x y long small hg hh same = beginnings_from 0 g h x y long (omega (arith, small)) hg hh same

-- ---- a log with its notes

-- a line begins with a digit, and a note with an `n`
note_not_entry : (place : ℕ) (e : MountEntry) (note : Note) (x y : List ℕ) → place < 2 ^ 64 → note_text note ++ x ≡ entry_text place e ++ y → ⊥
unfolding note_text entry_text
note_not_entry place e note x y small same =
    let test = and_parts _ _ (and_parts _ _ (test-from_IsDecimal (decimal_of place) place (IsDecimal-decimal_of place small))).0 in
    begun (decimal_of place) _ _ y _ test.0 test.1 same
  where
    begun : (digits user rest y after : List ℕ) → nat_lt 0 (length digits) ≡ true → list_all is_ascii_digit digits ≡ true
        → 110 ∷ after ≡ ((digits ++ user) ++ rest) ++ y → ⊥
    begun [] user rest y after some all same = absurd (cc some)
    begun (d ∷ digits) user rest y after some all same =
        let first : 110 ≡ d = ap (λ (l : List ℕ). get_or l 0 0) same in
        let digit = (and_parts (is_ascii_digit d) (list_all is_ascii_digit digits) all).0 in
        absurd (grind (arith, nat_tests))

notes_not_entry : (place : ℕ) (e : MountEntry) (notes : List Note) (y : List ℕ) → place < 2 ^ 64 → notes_text notes ≡ entry_text place e ++ y → ⊥
notes_not_entry place e [] y small same = nothing_told place e y same
notes_not_entry place e (note ∷ notes) y small same = note_not_entry place e note (notes_text notes) y small same

logs_end_from : (place : ℕ) (g h : History) (x y : List Note) → place + length g < 2 ^ 64 → place + length h < 2 ^ 64
    → All EntryIsInRange g → All EntryIsInRange h → log_from place g ++ notes_text x ≡ log_from place h ++ notes_text y → map told g ≡ map told h
unfolding log_from
logs_end_from place [] [] x y sg sh hg hh same = refl
logs_end_from place [] (f ∷ h) x y sg sh hg hh same =
    absurd (notes_not_entry place f x _ (below place (length h) sh) (same ∙ append_assoc (entry_text place f) (log_from (place + 1) h) (notes_text y)))
logs_end_from place (e ∷ g) [] x y sg sh hg hh same =
    absurd (notes_not_entry place e y _ (below place (length g) sg) (sym same ∙ append_assoc (entry_text place e) (log_from (place + 1) g) (notes_text x)))
logs_end_from place (e ∷ g) (f ∷ h) x y sg sh hg hh same =
    let parts = first_entry place e f (log_from (place + 1) g ++ notes_text x) (log_from (place + 1) h ++ notes_text y) (below place (length g) sg) (All-head EntryIsInRange e g hg) (All-head EntryIsInRange f h hh)
    (sym (append_assoc (entry_text place e) (log_from (place + 1) g) (notes_text x)) ∙ same ∙ append_assoc (entry_text place f) (log_from (place + 1) h) (notes_text y)) in
    joined (told e) (told f) (map told g) (map told h) parts.0
    (logs_end_from (place + 1) g h x y (next place (length g) sg) (next place (length h) sh) (All-tail EntryIsInRange e g hg) (All-tail EntryIsInRange f h hh) parts.1)

-- two logs with notes after them that are one text have the same values
pub whole_logs_tell : (g h : History) (x y : List Note) → length g < 2 ^ 64 → length h < 2 ^ 64 → All EntryIsInRange g → All EntryIsInRange h
    → log_text g ++ notes_text x ≡ log_text h ++ notes_text y → map told g ≡ map told h
whole_logs_tell g h x y sg sh hg hh same = logs_end_from 0 g h x y (omega (arith, sg)) (omega (arith, sh)) hg hh same
