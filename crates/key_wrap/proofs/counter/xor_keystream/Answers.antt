-- The stream begins with the keystream of the text.
use Rattle.std.proofs.Common.{◌≡◌, ℕ, List, ◌+◌, ◌*◌, ◌%◌, ◌^◌, ◌++◌, length, take, drop, replicate, ap, ◌∙◌, arith}
use Rattle.std.specs.Int.{div_ceil}
use Rattle.aes_core.specs.Aes.{encrypted_block}
use Rattle.aes_core.proofs.RoundLemmas.{length-encrypted_block}
use Rattle.byte_words.specs.Blocks.{first_blocks}
use Rattle.byte_words.specs.Numbers.{big_endian_bytes, big_endian_value}
use Rattle.byte_words.specs.Xor.{xor_bytes}
use Rattle.key_wrap.specs.CounterMode.{counter_block, keystream}
use Rattle.key_wrap.proofs.ByteLemmas.{from_be_bytes-value}
use Rattle.key_wrap.proofs.CounterLemmas.{counter_mode-cut}
use Rattle.key_wrap.proofs.counter.xor_keystream.Goals as goal

pub returns : goal.returns
unfolding counter_block keystream
returns c =
    let key : List ℕ = c.args.cipher.now in
    let text : List ℕ = c.args.text.now in
    let rest : List ℕ = drop (16 * c.div_ceil.result) (replicate 64 0) in
    let first : c.from_be_bytes-first.result ≡ big_endian_value c.args.iv.now =
    c.from_be_bytes-first.ensures ∙ from_be_bytes-value c.args.iv.now (omega arith) in
    let count : c.div_ceil.result ≡ div_ceil (length text) 16 = c.div_ceil.ensures in
    let stream : c.fill_keystream.new.stream ≡ keystream (encrypted_block key) c.args.iv.now (length text) ++ rest =
    c.fill_keystream.ensures ∙ (λ i. first_blocks (λ j. encrypted_block key (big_endian_bytes 16 ((first i + j) % 2 ^ 128))) (count i) ++ rest) in
    c.xor_into.ensures ∙ ap (λ s. xor_bytes text (take (length text) s)) stream
    ∙ counter_mode-cut (encrypted_block key) c.args.iv.now text rest (length-encrypted_block key)
