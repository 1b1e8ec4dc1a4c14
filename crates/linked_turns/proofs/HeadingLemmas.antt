-- The lines before the logs of two mounts separate them.
use Rattle.std.proofs.Common.{◌≡◌, ℕ, suc, ◌+◌, ◌<◌, ◌^◌, true, List, [], ◌∷◌, ◌++◌, codes, length, map, get_or, refl, ap, ap₂, sym, ◌∙◌, append_assoc, arith}
use Rattle.std.specs.Prelude.{nat_lt}
use Rattle.std.specs.List.{All, list_all}
use Rattle.std.specs.Char.{is_ascii_digit}
use Rattle.std.proofs.lemmas.Bool.{and_parts}
use Rattle.std.proofs.lemmas.Bool.Decides.{nat_tests}
use Rattle.std.proofs.lemmas.List.{append_cancel_left}
use Rattle.std.proofs.lemmas.List.Elements.{All-head, All-tail}
use Rattle.text_words.specs.Numbers.{decimal_of}
use Rattle.text_words.proofs.NumberLemmas.{IsDecimal-decimal_of, test-from_IsDecimal}
use Rattle.mount_model.specs.declared.reply.Reply.{Reply}
use Rattle.mount_model.specs.History.{MountEntry, History}
use Rattle.reply_text.specs.Log.{entry_text, log_from}
use Rattle.reply_text.specs.Ranges.{EntryIsInRange}
use Rattle.reply_text.specs.LogLaws.{told}
use Rattle.reply_text.specs.declared.notes.Note.{Note}
use Rattle.reply_text.proofs.BeginningLemmas.{whole_logs_tell}
use Rattle.reply_text.proofs.LineLemmas.{first_entry}
use Rattle.linked_turns.specs.LinkedText.{both_logs}

below : (p n : ℕ) → p + suc n < 2 ^ 64 → p < 2 ^ 64
below p n h = omega arith

next : (p n : ℕ) → p + suc n < 2 ^ 64 → p + 1 + n < 2 ^ 64
next p n h = omega arith

-- a line begins with a digit, and the line before the log of mount 1 with an `m`
not_entry : (place : ℕ) (e : MountEntry) (x y : List ℕ) → place < 2 ^ 64 → codes "mount 1\n" ++ x ≡ entry_text place e ++ y → ⊥
unfolding entry_text
not_entry place e x y small same =
    let test = and_parts _ _ (and_parts _ _ (test-from_IsDecimal (decimal_of place) place (IsDecimal-decimal_of place small))).0 in
    begun (decimal_of place) _ _ y _ test.0 test.1 same
  where
    begun : (digits user rest y after : List ℕ) → nat_lt 0 (length digits) ≡ true → list_all is_ascii_digit digits ≡ true
        → 109 ∷ after ≡ ((digits ++ user) ++ rest) ++ y → ⊥
    begun [] user rest y after some all same = absurd (cc some)
    begun (d ∷ digits) user rest y after some all same =
        let first : 109 ≡ d = ap (λ (l : List ℕ). get_or l 0 0) same in
        let digit = (and_parts (is_ascii_digit d) (list_all is_ascii_digit digits) all).0 in
        absurd (grind (arith, nat_tests))

-- so a log ends before that line
ends_from : (place : ℕ) (g h : History) (x y : List ℕ) → place + length g < 2 ^ 64 → place + length h < 2 ^ 64
    → All EntryIsInRange g → All EntryIsInRange h → log_from place g ++ (codes "mount 1\n" ++ x) ≡ log_from place h ++ (codes "mount 1\n" ++ y)
    → (map told g ≡ map told h) × (codes "mount 1\n" ++ x ≡ codes "mount 1\n" ++ y)
unfolding log_from
ends_from place [] [] x y sg sh hg hh same = (refl, same)
ends_from place [] (f ∷ h) x y sg sh hg hh same =
    absurd (not_entry place f x _ (below place (length h) sh) (same ∙ append_assoc (entry_text place f) (log_from (place + 1) h) (codes "mount 1\n" ++ y)))
ends_from place (e ∷ g) [] x y sg sh hg hh same =
    absurd (not_entry place e y _ (below place (length g) sg) (sym same ∙ append_assoc (entry_text place e) (log_from (place + 1) g) (codes "mount 1\n" ++ x)))
ends_from place (e ∷ g) (f ∷ h) x y sg sh hg hh same =
    let parts = first_entry place e f (log_from (place + 1) g ++ (codes "mount 1\n" ++ x)) (log_from (place + 1) h ++ (codes "mount 1\n" ++ y)) (below place (length g) sg) (All-head EntryIsInRange e g hg) (All-head EntryIsInRange f h hh)
    (sym (append_assoc (entry_text place e) (log_from (place + 1) g) (codes "mount 1\n" ++ x)) ∙ same ∙ append_assoc (entry_text place f) (log_from (place + 1) h) (codes "mount 1\n" ++ y)) in
    let more = ends_from (place + 1) g h x y (next place (length g) sg) (next place (length h) sh) (All-tail EntryIsInRange e g hg) (All-tail EntryIsInRange f h hh) parts.1 in
    (ap₂ (λ (t : ℕ × ℕ × List ℕ × Reply) (ts : List (ℕ × ℕ × List ℕ × Reply)). t ∷ ts) parts.0 more.0, more.1)

-- a history that has fewer entries than there are places, and holds values of the program alone
pub record IsPrintable (history : History) : Type 0 where
  pub short : length history < 2 ^ 64
  pub ranged : All EntryIsInRange history

-- if two pairs of logs with their notes have one text, the lines of each log are the same
pub both_logs_tell : (even odd even' odd' : History) (x y : List Note) → IsPrintable even → IsPrintable odd → IsPrintable even' → IsPrintable odd'
    → both_logs even odd x ≡ both_logs even' odd' y → (map told even ≡ map told even') × (map told odd ≡ map told odd')
both_logs_tell even odd even' odd' x y e o e' o' same =
    let short_even = e.short in
    let short_even' = e'.short in
    let first = ends_from 0 even even' _ _ (omega (arith, short_even)) (omega (arith, short_even')) e.ranged e'.ranged
    (append_cancel_left (codes "mount 0\n") _ _ same) in (
      first.0,
      whole_logs_tell odd odd' x y o.short o'.short o.ranged o'.ranged (append_cancel_left (codes "mount 1\n") _ _ first.1),
    )
