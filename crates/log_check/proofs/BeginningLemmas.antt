-- What the tests of a text's beginning mean.
use Rattle.std.proofs.Common.{◌≡◌, ◌≢◌, ℕ, Bool, true, IsTrue, Option, Some, None, MatchOption, List, ◌++◌, length, drop}
use Rattle.std.specs.Borrow.{Bor}
use Rattle.log_check.specs.Certificate.{BeginsWith}

pub behind_is : (text piece : List ℕ) (r : Option (Bor (List ℕ)))
    → MatchOption r ((rest : List ℕ) → text ≢ piece ++ rest) (λ x. text ≡ piece ++ x.now)
    → MatchOption r (BeginsWith text piece → ⊥) (λ x. text ≡ piece ++ x.now)
behind_is text piece None so = λ begins. so begins.0 begins.1
behind_is text piece (Some x) so = so

pub begins_is : (text piece : List ℕ) (r : Bool) → (r ≡ true → text ≡ piece ++ drop (length piece) text) × ((rest : List ℕ) → text ≡ piece ++ rest → r ≡ true)
    → (IsTrue r → BeginsWith text piece) × (BeginsWith text piece → IsTrue r)
begins_is text piece r so = (λ yes. (drop (length piece) text, so.0 yes), λ begins. so.1 begins.0 begins.1)
