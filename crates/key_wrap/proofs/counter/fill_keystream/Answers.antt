-- The next block is written after those that are there.
use Rattle.std.proofs.Common.{◌≡◌, ℕ, List, ◌+◌, ◌-◌, ◌*◌, ◌%◌, ◌^◌, length, refl, ap, ◌∙◌, arith}
use Rattle.aes_core.specs.Aes.{encrypted_block}
use Rattle.aes_core.proofs.RoundLemmas.{length-encrypted_block}
use Rattle.byte_words.specs.Numbers.{big_endian_bytes}
use Rattle.byte_words.proofs.InPlace.{none_in_place, write_in_place}
use Rattle.key_wrap.proofs.counter.fill_keystream.Goals as goal

pub counters-init : goal.counters-init
counters-init c = none_in_place 16 (λ j. encrypted_block c.args.cipher.now (big_endian_bytes 16 ((c.args.first + j) % 2 ^ 128))) c.args.stream.now

pub counters-preserved : goal.counters-preserved
counters-preserved c =
    let f : ℕ → List ℕ = λ j. encrypted_block c.args.cipher.now (big_endian_bytes 16 ((c.args.first + j) % 2 ^ 128)) in
    let sizes : (j : ℕ) → length (f j) ≡ 16 = λ j. length-encrypted_block c.args.cipher.now (big_endian_bytes 16 ((c.args.first + j) % 2 ^ 128)) in
    let here : c.copy_from_slice.new.self ≡ f c.counters.j =
    c.copy_from_slice.ensures.after ∙ c.encrypt_block-block.ensures ∙ ap (λ b. encrypted_block c.args.cipher.now b) c.to_be_bytes.ensures in
    write_in_place 16 f c.counters.j (16 * c.counters.j) (16 * c.counters.j + 16 - 16 * c.counters.j) c.counters.stream c.args.stream.now c.copy_from_slice.new.self sizes
    refl (omega arith) c.counters.invariant here
