-- A function that is applied repeatedly, counted up.
use Rattle.std.proofs.Common.{◌≡◌, ℕ, zero, suc, ◌+◌, refl, add-one}
use Rattle.std.specs.Fn.{iterate}

last_out : {A : Type 0} (h : A → A) (n : ℕ) (x : A) → iterate h (suc n) x ≡ h (iterate h n x)
last_out h zero x = refl
last_out h (suc n) x = last_out h n (h x)

pub iterate_more : {A : Type 0} (h : A → A) (n : ℕ) (x : A) → iterate h (n + 1) x ≡ h (iterate h n x)
iterate_more h n x = rw add-one (last_out h n x)
