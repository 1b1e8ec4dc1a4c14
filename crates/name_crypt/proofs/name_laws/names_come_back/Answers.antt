use Rattle.std.proofs.Common.{◌≤◌, ap, sym, ◌∙◌, arith, length}
use Rattle.byte_words.specs.Xor.{zero_filled}
use Rattle.byte_words.proofs.XorLemmas.{length-zero_filled}
use Rattle.byte_words.proofs.AreBytesLemmas.{AreBytes-zero_filled}
use Rattle.name_crypt.specs.StoredName.{stored_name_with, plain_name_with, plain_name, name_iv, padded_length, before_nul}
use Rattle.name_crypt.proofs.NameLemmas.{padded_fits, before_nul-zero_filled, name_iv-IsBlock}
use Rattle.name_crypt.proofs.name_laws.names_come_back.Goals as goal

pub returns-clause-back : goal.returns-clause-back
unfolding stored_name_with plain_name_with
returns-clause-back c = λ key start name pad key_bytes name_bytes plain.
    let size = padded_length pad (length name) in
    let fits = padded_fits pad (length name) plain.1 in
    let long : 16 ≤ length (zero_filled size name) = omega (arith, length-zero_filled size name fits.room, fits.least) in
    ap before_nul (c.decryption_undoes_encryption.ensures.decrypted key (name_iv start) (zero_filled size name) key_bytes (name_iv-IsBlock start) (AreBytes-zero_filled size name name_bytes) long)
    ∙ before_nul-zero_filled name size plain

pub returns-clause-distinct : goal.returns-clause-distinct
returns-clause-distinct c = λ key start a b pad key_bytes a_bytes b_bytes a_plain b_plain same.
    sym (returns-clause-back c key start a pad key_bytes a_bytes a_plain)
    ∙ ap (λ stored. plain_name key start stored) same
    ∙ returns-clause-back c key start b pad key_bytes b_bytes b_plain

pub returns-clause-fit : goal.returns-clause-fit
unfolding stored_name_with
returns-clause-fit c = λ key start name pad plain.
    let size = padded_length pad (length name) in
    let fits = padded_fits pad (length name) plain.1 in
    let filled = length-zero_filled size name fits.room in
    let same = c.decryption_undoes_encryption.ensures.encrypted_length key (name_iv start) (zero_filled size name) (name_iv-IsBlock start).size (omega (arith, filled, fits.least)) in
    (omega (arith, same, filled, fits.least), omega (arith, same, filled, fits.most))

pub returns-clause-bytes : goal.returns-clause-bytes
unfolding stored_name_with
returns-clause-bytes c = λ key start name pad key_bytes name_bytes plain.
    let size = padded_length pad (length name) in
    let fits = padded_fits pad (length name) plain.1 in
    let long : 16 ≤ length (zero_filled size name) = omega (arith, length-zero_filled size name fits.room, fits.least) in
    c.decryption_undoes_encryption.ensures.bytes key (name_iv start) (zero_filled size name) key_bytes (name_iv-IsBlock start) (AreBytes-zero_filled size name name_bytes) long
