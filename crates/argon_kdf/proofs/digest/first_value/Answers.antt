use Rattle.argon_kdf.specs.LongDigest.{chained_digest}
use Rattle.argon_kdf.proofs.digest.first_value.Goals as goal

pub returns : goal.returns
unfolding chained_digest
returns c =
    let length = c.update_number.ensures.added _ c.new-hasher.ensures.empty in
    let text = c.update.ensures.added _ length in
    c.finish.ensures _ (c.update_number-3.ensures.added _ (c.update_number-2.ensures.added _ text))
