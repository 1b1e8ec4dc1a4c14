use Rattle.std.proofs.Common.{arith, ◌≡◌, take, true}
use Rattle.std.specs.List.{list_all}
use Rattle.sha2.specs.Sha512.{sha512}
use Rattle.hex.specs.Hex.{encode_lower}
use Rattle.text_words.specs.Digits.{is_lower_hex_digit}
use Rattle.protector_meta.proofs.DigestBytes.{first_digest_bytes}
use Rattle.text_words.proofs.WordLemmas.{digits_are_lower}
use Rattle.protector_meta.proofs.descriptor.Descriptor.of_key.Goals as goal

-- the digits spell the first 8 bytes of a digest
pub invariant_of-result : goal.invariant_of-result
invariant_of-result c =
    let digits : list_all is_lower_hex_digit (encode_lower (take 8 (sha512 (sha512 c.args.key.now)))) ≡ true = digits_are_lower _ (first_digest_bytes (sha512 c.args.key.now)) in
    (omega arith, rw c.descriptor.ensures digits)
