use Rattle.argon_kdf.specs.Argon2id.{first_digest}
use Rattle.argon_kdf.proofs.digest.first_digest.Goals as goal

pub returns : goal.returns
unfolding first_digest
returns c =
    let lanes = c.update_number.ensures.added _ c.new-hasher.ensures.empty in
    let tag_len = c.update_number-2.ensures.added _ lanes in
    let kib = c.update_number-3.ensures.added _ tag_len in
    let passes = c.update_number-4.ensures.added _ kib in
    let version = c.update_number-5.ensures.added _ passes in
    let type_number = c.update_number-6.ensures.added _ version in
    let password = c.update_counted.ensures.added _ type_number in
    let salt = c.update_counted-2.ensures.added _ password in
    let secret = c.update_counted-3.ensures.added _ salt in
    c.finish.ensures _ (c.update_counted-4.ensures.added _ secret)
