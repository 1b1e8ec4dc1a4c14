-- The tag of Argon2id, version 0x13, of 32 bytes (RFC 9106, 3.2).
use Rattle.std.specs.Prelude.{ℕ, zero, suc, ◌-◌, List, ◌++◌, length}
use Rattle.blake2_core.specs.Words.{bytes_of_words}
use Rattle.blake2_core.specs.Digest.{blake2b_digest}
use Rattle.argon_kdf.specs.declared.costs.Costs.{Costs}
use Rattle.argon_kdf.specs.Blocks.{zero_block, xored}
use Rattle.byte_words.specs.Numbers.{little_endian_bytes}
use Rattle.argon_kdf.specs.LongDigest.{long_digest}
use Rattle.argon_kdf.specs.Shapes.{Shape, columns, shape_of_costs}
use Rattle.argon_kdf.specs.Filling.{with_passes}

-- the input of H_0: lanes, length of the tag, memory, passes, version, type, and the texts (step 1)
abbrev pub first_input : Costs → List ℕ → List ℕ → List ℕ → List ℕ → List ℕ
first_input costs password salt secret extra =
    little_endian_bytes 4 costs.lanes ++ little_endian_bytes 4 32
    ++ little_endian_bytes 4 costs.kib ++ little_endian_bytes 4 costs.passes
    ++ little_endian_bytes 4 0x13 ++ little_endian_bytes 4 2
    ++ little_endian_bytes 4 (length password) ++ password ++ little_endian_bytes 4 (length salt) ++ salt
    ++ little_endian_bytes 4 (length secret) ++ secret ++ little_endian_bytes 4 (length extra) ++ extra

-- H_0
unfoldable pub first_digest : Costs → List ℕ → List ℕ → List ℕ → List ℕ → List ℕ
first_digest costs password salt secret extra =
    blake2b_digest 64 (first_input costs password salt secret extra)

-- the blocks of a column of the first n lanes, xored
unfoldable pub lanes_xored : (ℕ → ℕ → List ℕ) → ℕ → ℕ → List ℕ
lanes_xored blocks column zero = zero_block
lanes_xored blocks column (suc n) = xored (lanes_xored blocks column n) (blocks n column)

-- the tag: H' of the last column of the last pass, its lanes xored (steps 7 and 8)
unfoldable pub tag_of : Shape → List ℕ → List ℕ
tag_of x h0 =
    let last_pass = with_passes x h0 x.passes (x.passes - 1) in
    long_digest 32 (bytes_of_words (lanes_xored last_pass (columns x - 1) x.lanes))

unfoldable pub argon2id_tag : Costs → List ℕ → List ℕ → List ℕ → List ℕ → List ℕ
argon2id_tag costs password salt secret extra =
    tag_of (shape_of_costs costs) (first_digest costs password salt secret extra)
