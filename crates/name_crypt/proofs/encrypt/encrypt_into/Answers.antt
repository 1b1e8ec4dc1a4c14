use Rattle.std.proofs.Common.{◌≡◌, ◌≤◌, ap, ◌∙◌, arith, length, take, drop, replicate, ◌-◌, ◌++◌, sym}
use Rattle.std.proofs.lemmas.List.{take_at, drop_at, length-take-le}
use Rattle.cts_mode.specs.Cts.{cts_encrypted}
use Rattle.byte_words.specs.Xor.{zero_filled}
use Rattle.name_crypt.specs.StoredName.{stored_name_with, padded_length}
use Rattle.name_crypt.proofs.NameLemmas.{padded_fits, take-filled, drop-filled}
use Rattle.name_crypt.proofs.encrypt.encrypt_into.Goals as goal

pub returns-clause-value : goal.returns-clause-value
unfolding stored_name_with
returns-clause-value g c =
    let low : length c.args.name.now ≤ 255 = omega (arith, c.requires.plain.1) in
    let fits = padded_fits c.args.pad (length c.args.name.now) low in
    let size : c.padded_length-len.result ≡ padded_length c.args.pad (length c.args.name.now) = c.padded_length-len.ensures in
    let filled : c.fill.new.text ≡ c.args.name.now ++ drop (length c.args.name.now) (replicate 255 0) =
    c.fill.ensures ∙ ap (λ text. c.args.name.now ++ drop (length c.args.name.now) text) c.requires.zeros in
    let taken : take c.padded_length-len.result c.fill.new.text ≡ zero_filled (padded_length c.args.pad (length c.args.name.now)) c.args.name.now =
    (λ i. take (size i) (filled i)) ∙ take-filled c.args.name.now (padded_length c.args.pad (length c.args.name.now)) fits.room fits.most in
    take_at c.cts_encrypt.new.text (drop c.padded_length-len.result c.fill.new.text) c.padded_length-len.result
    (omega (arith, length-take-le c.padded_length-len.result c.fill.new.text (omega (arith, size, fits.most, c.fill.array_long))))
    ∙ c.cts_encrypt.ensures ∙ ap (λ text. cts_encrypted c.args.key.now c.args.iv text) taken

pub returns-clause-behind : goal.returns-clause-behind
returns-clause-behind g c =
    let low : length c.args.name.now ≤ 255 = omega (arith, c.requires.plain.1) in
    let fits = padded_fits c.args.pad (length c.args.name.now) low in
    let size : c.padded_length-len.result ≡ padded_length c.args.pad (length c.args.name.now) = c.padded_length-len.ensures in
    let filled : c.fill.new.text ≡ c.args.name.now ++ drop (length c.args.name.now) (replicate 255 0) =
    c.fill.ensures ∙ ap (λ text. c.args.name.now ++ drop (length c.args.name.now) text) c.requires.zeros in
    drop_at c.cts_encrypt.new.text (drop c.padded_length-len.result c.fill.new.text) c.padded_length-len.result
    (omega (arith, length-take-le c.padded_length-len.result c.fill.new.text (omega (arith, size, fits.most, c.fill.array_long))))
    ∙ (λ i. drop (size i) (filled i))
    ∙ drop-filled c.args.name.now (padded_length c.args.pad (length c.args.name.now)) fits.room
    ∙ ap (λ n. replicate (255 - n) 0) (sym size)
