use Rattle.std.proofs.Common.{◌≡◌, ◌∙◌, ◌++◌, ℕ, List, arith, ap}
use Rattle.blake2_core.specs.Digest.{blake2b_digest}
use Rattle.byte_words.specs.Numbers.{little_endian_bytes}
use Rattle.argon_kdf.specs.LongDigest.{long_digest}
use Rattle.argon_kdf.proofs.digest.write_tag.Goals as goal

pub returns : goal.returns
unfolding long_digest
returns c =
    let held = c.update.ensures.added _ (c.update_number.ensures.added _ c.new-hasher.ensures.empty) in
    let long : c.update.new.self.size ≡ 32 = omega arith in
    (rw long at (c.finish.ensures _ held)) ∙ ap
    (λ (bytes : List ℕ). blake2b_digest 32 (little_endian_bytes 4 32 ++ bytes)) c.to_bytes.ensures
