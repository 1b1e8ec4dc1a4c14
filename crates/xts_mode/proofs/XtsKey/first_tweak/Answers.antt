-- The index in eight bytes, and eight zeros.
use Rattle.std.proofs.Common.{◌≡◌, ap, ◌∙◌, sym, drop, get_or, [], ◌∷◌, ◌++◌, length, replicate, arith}
use Rattle.std.proofs.lemmas.List.{drop_at}
use Rattle.std.specs.Int.{w128}
use Rattle.byte_words.specs.Numbers.{little_endian_bytes, little_endian_value}
use Rattle.byte_words.proofs.NumberLemmas.{from_le_bytes-value}
use Rattle.aes_core.specs.Aes.{encrypted_block}
use Rattle.aes_core.proofs.RoundLemmas.{length-encrypted_block}
use Rattle.xts_mode.specs.Xts.{first_tweak}
use Rattle.xts_mode.proofs.XtsKey.first_tweak.Goals as goal

pub returns : goal.returns
unfolding first_tweak
returns c =
    let second : c.self.inside.tweaker ≡ drop 32 c.args.self.now =
    sym (drop_at c.self.inside.cipher c.self.inside.tweaker 32 (c.self.invariant.0)) ∙ ap (λ k. drop 32 k) c.self.view_is in
    let sealed : c.encrypt_block.result ≡ encrypted_block (drop 32 c.args.self.now) (little_endian_bytes 8 c.args.index ++ replicate 8 0) =
    c.encrypt_block.ensures ∙ (λ j. encrypted_block (second j) (get_or (c.to_le_bytes.ensures j) 0 0 ∷ get_or (c.to_le_bytes.ensures j) 1 0 ∷ get_or (c.to_le_bytes.ensures j) 2 0 ∷ get_or (c.to_le_bytes.ensures j) 3 0 ∷ get_or (c.to_le_bytes.ensures j) 4 0 ∷ get_or (c.to_le_bytes.ensures j) 5 0 ∷ get_or (c.to_le_bytes.ensures j) 6 0 ∷ get_or (c.to_le_bytes.ensures j) 7 0 ∷ 0 ∷ 0 ∷ 0 ∷ 0 ∷ 0 ∷ 0 ∷ 0 ∷ 0 ∷ [])) in
    let size : length c.encrypt_block.result ≡ 16 = ap length c.encrypt_block.ensures ∙ length-encrypted_block _ _ in
    c.from_le_bytes.ensures ∙ from_le_bytes-value w128 c.encrypt_block.result (omega arith) size ∙ ap little_endian_value sealed
