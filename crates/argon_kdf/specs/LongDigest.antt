-- The variable-length hash function H' (RFC 9106, 3.3).
use Rattle.std.specs.Prelude.{ℕ, zero, suc, ◌+◌, ◌-◌, ◌*◌, ◌/◌, nat_le, List, [], ◌++◌, take, if◌then◌else◌}
use Rattle.byte_words.specs.Numbers.{little_endian_bytes}
use Rattle.blake2_core.specs.Digest.{blake2b_digest}

-- V_1, V_2, ..: each the digest of the one before, the first of the length and the message; counted
-- from 0
unfoldable pub chained_digest : ℕ → List ℕ → ℕ → List ℕ
chained_digest len message zero = blake2b_digest 64 (little_endian_bytes 4 len ++ message)
chained_digest len message (suc n) = blake2b_digest 64 (chained_digest len message n)

-- the first halves of the first n of them
unfoldable pub first_halves : ℕ → List ℕ → ℕ → List ℕ
first_halves len message zero = []
first_halves len message (suc n) = first_halves len message n ++ take 32 (chained_digest len message n)

-- H' of `len` bytes: one digest if `len` is at most 64, else r halves and a last digest
unfoldable pub long_digest : ℕ → List ℕ → List ℕ
long_digest len message =
    let r = (len + 31) / 32 - 2 in
    if nat_le len 64 then blake2b_digest len (little_endian_bytes 4 len ++ message)
    else first_halves len message r ++ blake2b_digest (len - 32 * r) (chained_digest len message (r - 1))
