-- The tag is compared before anything is decrypted.
use Rattle.std.proofs.Common.{◌≡◌, true, false, Some, None, rules, ◌++◌, ap, sym, ◌∙◌}
use Rattle.std.specs.Prelude.{if◌then◌else◌}
use Rattle.std.specs.Str.{bytes_eq}
use Rattle.aes_core.specs.Aes.{encrypted_block}
use Rattle.hmac_kdf.specs.Hmac.{hmac_sha256}
use Rattle.key_wrap.specs.CounterMode.{counter_mode}
use Rattle.key_wrap.specs.Wrapping.{ciphered, tag_of, opened_secret}
use Rattle.key_wrap.proofs.unwrap.Goals as goal

pub returns-then-not-is_same-clause-refused : goal.returns-then-not-is_same-clause-refused
unfolding tag_of opened_secret
returns-then-not-is_same-clause-refused c =
    let tag : c.hmac256.result ≡ tag_of c.args.key.now c.args.iv.now c.args.wrapped.now =
    c.hmac256.ensures ∙ (λ i. hmac_sha256 ((c.tag_key.ensures ∙ c.set.ensures.tag_key) i) (c.args.iv.now ++ c.args.wrapped.now)) in
    let test : c.is_same.result ≡ false = search rules in
    let differs : bytes_eq c.args.tag.now (tag_of c.args.key.now c.args.iv.now c.args.wrapped.now) ≡ false =
    sym (c.is_same.ensures ∙ ap (λ t. bytes_eq c.args.tag.now t) tag) ∙ test in
    ap (λ b. if b then Some (ciphered c.args.key.now c.args.iv.now c.args.wrapped.now) else None) differs

pub returns-clause-opened : goal.returns-clause-opened
unfolding ciphered tag_of opened_secret
returns-clause-opened c =
    let tag : c.hmac256.result ≡ tag_of c.args.key.now c.args.iv.now c.args.wrapped.now =
    c.hmac256.ensures ∙ (λ i. hmac_sha256 ((c.tag_key.ensures ∙ c.set.ensures.tag_key) i) (c.args.iv.now ++ c.args.wrapped.now)) in
    let test : c.is_same.result ≡ true = search rules in
    let same : bytes_eq c.args.tag.now (tag_of c.args.key.now c.args.iv.now c.args.wrapped.now) ≡ true =
    sym (c.is_same.ensures ∙ ap (λ t. bytes_eq c.args.tag.now t) tag) ∙ test in
    let text : c.xor_keystream.new.text ≡ ciphered c.args.key.now c.args.iv.now c.args.wrapped.now =
    c.xor_keystream.ensures ∙ (λ i. counter_mode (encrypted_block ((c.cipher.ensures ∙ c.set.ensures.cipher) i)) c.args.iv.now (c.copy_from_slice.ensures.after i)) in
    ap (λ b. if b then Some (ciphered c.args.key.now c.args.iv.now c.args.wrapped.now) else None) same ∙ ap (λ t. Some t) (sym text)
