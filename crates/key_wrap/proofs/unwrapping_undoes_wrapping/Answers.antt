-- The tag of what was wrapped is its own, and the second pass of the keystream undoes the first.
use Rattle.std.proofs.Common.{◌≡◌, List, ℕ, true, Some, None, refl, ap, ◌∙◌}
use Rattle.std.proofs.lemmas.Slice.Eq.{bytes_eq-Decides}
use Rattle.std.specs.Prelude.{if◌then◌else◌}
use Rattle.std.specs.Str.{bytes_eq}
use Rattle.aes_core.specs.Aes.{encrypted_block}
use Rattle.aes_core.proofs.RoundLemmas.{length-encrypted_block}
use Rattle.key_wrap.specs.Wrapping.{cipher_key, ciphered, tag_of, wrapped_secret, opened_secret}
use Rattle.key_wrap.proofs.CounterLemmas.{counter_mode-twice, length-counter_mode}
use Rattle.key_wrap.proofs.unwrapping_undoes_wrapping.Goals as goal

pub returns-clause-opens : goal.returns-clause-opens
unfolding ciphered wrapped_secret opened_secret
returns-clause-opens c = λ key iv secret.
    let text : List ℕ = ciphered key iv secret in
    let tag : List ℕ = tag_of key iv text in
    let same : bytes_eq tag tag ≡ true = (bytes_eq-Decides tag tag).1 refl in
    ap (λ b. if b then Some (ciphered key iv text) else None) same
    ∙ ap (λ t. Some t) (counter_mode-twice (encrypted_block (cipher_key key)) iv secret (length-encrypted_block (cipher_key key)))

pub returns-clause-length : goal.returns-clause-length
unfolding ciphered wrapped_secret
returns-clause-length c = λ key iv secret. length-counter_mode (encrypted_block (cipher_key key)) iv secret (length-encrypted_block (cipher_key key))
