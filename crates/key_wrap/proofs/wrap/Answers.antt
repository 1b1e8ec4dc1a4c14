-- The first half of the stretched key encrypts, the second authenticates.
use Rattle.std.proofs.Common.{◌≡◌, ◌++◌, ◌∙◌}
use Rattle.aes_core.specs.Aes.{encrypted_block}
use Rattle.hmac_kdf.specs.Hmac.{hmac_sha256}
use Rattle.key_wrap.specs.CounterMode.{counter_mode}
use Rattle.key_wrap.specs.Wrapping.{ciphered, tag_of, wrapped_secret}
use Rattle.key_wrap.proofs.wrap.Goals as goal

pub returns-clause-ciphertext : goal.returns-clause-ciphertext
unfolding ciphered wrapped_secret
returns-clause-ciphertext c =
    c.xor_keystream.ensures ∙ (λ i. counter_mode (encrypted_block ((c.cipher.ensures ∙ c.set.ensures.cipher) i)) c.args.iv.now (c.copy_from_slice.ensures.after i))

pub returns-clause-tag : goal.returns-clause-tag
unfolding ciphered tag_of wrapped_secret
returns-clause-tag c =
    let text : c.xor_keystream.new.text ≡ ciphered c.args.key.now c.args.iv.now c.args.secret.now =
    c.xor_keystream.ensures ∙ (λ i. counter_mode (encrypted_block ((c.cipher.ensures ∙ c.set.ensures.cipher) i)) c.args.iv.now (c.copy_from_slice.ensures.after i)) in
    c.hmac256-tag.ensures ∙ (λ i. hmac_sha256 ((c.tag_key.ensures ∙ c.set.ensures.tag_key) i) (c.args.iv.now ++ text i))
