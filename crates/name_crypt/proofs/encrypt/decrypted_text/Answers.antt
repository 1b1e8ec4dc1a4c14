use Rattle.std.proofs.Common.{◌≡◌, ap, ◌∙◌, refl, arith, length, take, drop, replicate, ◌++◌}
use Rattle.std.proofs.lemmas.List.{take_at, length-take-le}
use Rattle.cts_mode.specs.Cts.{cts_decrypted}
use Rattle.name_crypt.proofs.encrypt.decrypted_text.Goals as goal

pub returns : goal.returns
returns c =
    let size : length c.bytes-len.result.now ≡ length c.args.stored.now = ap length c.bytes-len.ensures.value in
    let filled : c.fill.new.text ≡ c.args.stored.now ++ drop (length c.args.stored.now) (replicate 255 0) =
    c.fill.ensures ∙ ap (λ bytes. bytes ++ drop (length bytes) (replicate 255 0)) c.bytes.ensures.value in
    let taken : take (length c.bytes-len.result.now) c.fill.new.text ≡ c.args.stored.now =
    (λ i. take (size i) (filled i)) ∙ take_at c.args.stored.now (drop (length c.args.stored.now) (replicate 255 0)) (length c.args.stored.now) refl in
    c.of.ensures
    ∙ take_at c.cts_decrypt.new.text (drop (length c.bytes-len.result.now) c.fill.new.text) (length c.bytes-len.result.now)
    (omega (arith, length-take-le (length c.bytes-len.result.now) c.fill.new.text (omega (arith, c.bytes-len.ensures.stored.1, c.fill.array_long))))
    ∙ c.cts_decrypt.ensures ∙ ap (λ text. cts_decrypted c.args.key.now c.args.iv text) taken
