use Rattle.std.proofs.Common.{◌≡◌, length, set, get_or, bit_xor, ap, ◌∙◌, arith}
use Rattle.hmac_kdf.proofs.KeyBlock.{key_block, key_block-none, key_block-more, key_block-whole}
use Rattle.hmac_kdf.proofs.keyed.padded_key.Goals as goal

pub bytes-init : goal.bytes-init
bytes-init g c = key_block-none g.row.B c.args.byte c.args.key.now

pub bytes-preserved : goal.bytes-preserved
bytes-preserved g c =
    ap (λ pad. set pad c.bytes.i (bit_xor (get_or c.args.key.now c.bytes.i 0) c.args.byte)) c.bytes.invariant
    ∙ key_block-more g.row.B c.args.byte c.args.key.now c.bytes.i c.bytes-test.true c.requires

pub returns : goal.returns
returns g c =
    let all : c.bytes.i ≡ length c.args.key.now = omega arith in
    c.bytes.invariant ∙ ap (key_block g.row.B c.args.byte c.args.key.now) all
    ∙ key_block-whole g.row.B c.args.byte c.args.key.now c.requires
