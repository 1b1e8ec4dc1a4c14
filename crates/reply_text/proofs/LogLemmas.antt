-- A log goes on by one line, and the shown form of a history has the history's log.
use Rattle.std.proofs.Common.{◌≡◌, ℕ, suc, ◌+◌, ◌<◌, [], ◌∷◌, ◌++◌, length, take, get_or, refl, ap, ap₂, sym, ◌∙◌, add-zero, append-nil, append_assoc, arith}
use Rattle.std.proofs.lemmas.List.{take_more, length-take-le}
use Rattle.std.specs.Prelude.{List}
use Rattle.mount_model.specs.History.{MountEntry, History}
use Rattle.reply_text.specs.Log.{entry_text, log_from, log_text}
use Rattle.reply_text.specs.Logged.{LoggedEntry, LoggedHistory, logged_entry, logged_history, shown_text, shown_from, log_of_history}

-- by the line of the entry after the others
shown_from-append : (place : ℕ) (h : LoggedHistory) (e : LoggedEntry) → shown_from place (h ++ e ∷ []) ≡ shown_from place h ++ shown_text (place + length h) e
unfolding shown_from
shown_from-append place [] e = append-nil (shown_text place e) ∙ ap (λ n. shown_text n e) (sym (add-zero place))
shown_from-append place (x ∷ h) e =
    let on : place + 1 + length h ≡ place + suc (length h) = omega arith in
    ap (λ rest. shown_text place x ++ rest) (shown_from-append (place + 1) h e ∙ ap (λ n. shown_from (place + 1) h ++ shown_text n e) on)
    ∙ sym (append_assoc (shown_text place x) (shown_from (place + 1) h) (shown_text (place + suc (length h)) e))

-- by the line of the entry at a place
pub shown_from-more : (h : LoggedHistory) (place : ℕ) (e : LoggedEntry) → place < length h → e ≡ get_or h place e
    → shown_from 0 (take (place + 1) h) ≡ shown_from 0 (take place h) ++ shown_text place e
shown_from-more h place e below here =
    let counted : 0 + length (take place h) ≡ place = let n : length (take place h) ≡ place = length-take-le place h (omega arith) in omega arith in
    ap (shown_from 0) (take_more h place e below ∙ ap (λ x. take place h ++ x ∷ []) (sym here))
    ∙ shown_from-append 0 (take place h) e
    ∙ ap (λ n. shown_from 0 (take place h) ++ shown_text n e) counted

-- before the first line
pub shown_from-none : shown_from 0 [] ≡ []
unfolding shown_from
shown_from-none = refl

-- ---- the shown form of a history

line_shown : (place : ℕ) (e : MountEntry) → shown_text place (logged_entry e) ≡ entry_text place e
unfolding shown_text entry_text
line_shown place e = refl

lines_shown : (place : ℕ) (h : History) → shown_from place (logged_history h) ≡ log_from place h
unfolding shown_from log_from
lines_shown place [] = refl
lines_shown place (e ∷ h) = ap₂ (λ (a b : List ℕ). a ++ b) (line_shown place e) (lines_shown (place + 1) h)

-- the log of the shown form of a history is the history's
pub log_shown : (h : History) → log_of_history (logged_history h) ≡ log_text h
log_shown h = lines_shown 0 h
