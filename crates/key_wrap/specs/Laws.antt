-- What holds of wrapping for every key, iv and secret.
use Rattle.std.specs.Prelude.{◌≡◌, ℕ, List, length, Some}
use Rattle.key_wrap.specs.Wrapping.{wrapped_secret, opened_secret}

-- what was wrapped opens to the secret
abbrev pub OpensAgain : Type 0
OpensAgain =
    (key iv secret : List ℕ)
    → opened_secret key iv (wrapped_secret key iv secret).0 (wrapped_secret key iv secret).1 ≡ Some secret

-- the ciphertext is as long as the secret
abbrev pub LengthStays : Type 0
LengthStays = (key iv secret : List ℕ) → length (wrapped_secret key iv secret).0 ≡ length secret
