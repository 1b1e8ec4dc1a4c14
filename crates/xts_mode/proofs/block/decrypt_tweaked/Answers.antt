-- The mask is the tweak in 16 bytes.
use Rattle.std.proofs.Common.{◌≡◌, ap, ◌∙◌}
use Rattle.byte_words.specs.Numbers.{little_endian_bytes}
use Rattle.byte_words.specs.Xor.{xor_bytes}
use Rattle.aes_core.specs.Aes.{decrypted_block}
use Rattle.xts_mode.specs.Xts.{tweaked}
use Rattle.xts_mode.proofs.block.decrypt_tweaked.Goals as goal

pub returns : goal.returns
unfolding tweaked
returns c =
    let mask : c.to_le_bytes-mask.result ≡ little_endian_bytes 16 c.args.tweak = c.to_le_bytes-mask.ensures in
    let inside : c.decrypt_block-plain.result ≡ decrypted_block c.args.key.now (xor_bytes c.args.block (little_endian_bytes 16 c.args.tweak)) =
    c.decrypt_block-plain.ensures ∙ ap (λ x. decrypted_block c.args.key.now x) (c.xor_into.ensures ∙ ap (λ m. xor_bytes c.args.block m) mask) in
    c.xor_into-2.ensures ∙ (λ j. xor_bytes (inside j) (mask j))
