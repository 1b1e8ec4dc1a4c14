-- One more call with its sum.
use Rattle.std.proofs.Common.{◌≡◌, ℕ, ◌+◌, ◌%◌, ◌^◌, List, [], ◌∷◌, ◌++◌, refl, sym, ap, ◌∙◌, subst}
use Rattle.call_history.specs.declared.entry.Entry.{Entry}
use Rattle.call_history.specs.Entries.{History, entry}
use Rattle.sum_machine.specs.Sums.{sum_after, HasSums}

pub sum_after-more : (sum : ℕ) (h : History ℕ ℕ) (e : Entry ℕ ℕ)
    → sum_after sum (h ++ e ∷ []) ≡ (sum_after sum h + e.call) % 2 ^ 64
sum_after-more sum [] e = refl
sum_after-more sum (x ∷ h) e = sum_after-more ((sum + x.call) % 2 ^ 64) h e

pub HasSums-more : (sum : ℕ) (h : History ℕ ℕ) (e : Entry ℕ ℕ) → HasSums sum h
    → e.reply ≡ (sum_after sum h + e.call) % 2 ^ 64 → HasSums sum (h ++ e ∷ [])
HasSums-more sum [] e has is = (is, tt)
HasSums-more sum (x ∷ h) e has is = (
  has.0,
  HasSums-more x.reply h e has.1
      (subst (λ s. e.reply ≡ (sum_after s h + e.call) % 2 ^ 64) (sym has.0) is),
)
