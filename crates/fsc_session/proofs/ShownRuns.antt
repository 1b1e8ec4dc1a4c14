-- What is shown of calls, by caller and in order of place, and the log that it makes.
use Rattle.std.proofs.Common.{◌≡◌, ℕ, ◌+◌, [], ◌∷◌, refl, ap, sym, ◌∙◌, ⊎_elim}
use Rattle.std.proofs.lemmas.Bool.{cases_eq}
use Rattle.call_history.specs.Entries.{by, entries_with_places}
use Rattle.call_history.specs.Placed.{entries_of}
use Rattle.call_history.proofs.Placing.{by-cons_own, by-cons_other, map-numbered}
use Rattle.mount_model.specs.History.{History, entries_by}
use Rattle.mount_model.specs.Port.{PlacedCalls}
use Rattle.reply_text.specs.Log.{log_text}
use Rattle.reply_text.specs.Logged.{PlacedLogged, LoggedHistory, logged_entry, logged_history, logged_calls, log_of_history}
use Rattle.reply_text.proofs.LogLemmas.{log_shown}

-- of one caller
pub by-shown : (c : ℕ) (placed : PlacedCalls) → by c (logged_calls placed) ≡ logged_calls (by c placed)
by-shown c [] = refl
by-shown c (x ∷ xs) = ⊎_elim
    (λ e. by-cons_own c (x.0, logged_entry x.1) (logged_calls xs) e ∙ ap (λ (l : PlacedLogged). (x.0, logged_entry x.1) ∷ l) (by-shown c xs)
    ∙ ap logged_calls (sym (by-cons_own c x xs e)))
    (λ n. by-cons_other c (x.0, logged_entry x.1) (logged_calls xs) n ∙ by-shown c xs ∙ ap logged_calls (sym (by-cons_other c x xs n)))
    (cases_eq x.1.who c)

-- with its places
pub numbered-shown : (k : ℕ) (h : History) → entries_with_places k (logged_history h) ≡ logged_calls (entries_with_places k h)
numbered-shown k [] = refl
numbered-shown k (e ∷ es) = ap (λ (l : PlacedLogged). (k, logged_entry e) ∷ l) (numbered-shown (k + 1) es)

-- of one caller of a history
pub entries_by-shown : (c : ℕ) (h : History) → logged_calls (entries_by c h) ≡ by c (entries_with_places 0 (logged_history h))
entries_by-shown c h = sym (by-shown c (entries_with_places 0 h)) ∙ ap (by c) (sym (numbered-shown 0 h))

-- in order of place it makes the history's log
pub told_log : (placed : PlacedLogged) (h : History) → placed ≡ entries_with_places 0 (logged_history h) → log_of_history (entries_of placed) ≡ log_text h
told_log placed h is = ap (λ (l : LoggedHistory). log_of_history l) (ap entries_of is ∙ map-numbered 0 (logged_history h)) ∙ log_shown h
