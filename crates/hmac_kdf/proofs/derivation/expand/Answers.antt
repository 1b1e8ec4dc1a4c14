use Rattle.std.proofs.Common.{◌≡◌, ◌≤◌, ◌*◌, ◌+◌, ◌-◌, ◌<◌, ◌++◌, min, length, refl, ap, sym, ◌∙◌, arith, take}
use Rattle.std.proofs.lemmas.List.{take_all}
use Rattle.std.proofs.lemmas.Grind.{div_ceil_times}
use Rattle.std.specs.Int.{div_ceil}
use lib.Seq.{paste}
use Rattle.hmac_kdf.specs.Hmac.{Hash, hash_of}
use Rattle.hmac_kdf.specs.Hkdf.{okm_block, okm_blocks, expanded}
use Rattle.hmac_kdf.proofs.Expansion.{block_begins, written-more, written-none, written-whole, length-more, okm_block-next, okm_blocks-next}
use Rattle.hmac_kdf.proofs.derivation.expand.Goals as goal

pub pieces-init : goal.pieces-init
unfolding okm_block okm_blocks
pieces-init g c = record {
  filled = omega arith;
  expands = λ key inner outer. record { last = refl; whole = omega arith; written = written-none _ _ _ };
}

pub pieces-preserved : goal.pieces-preserved
pieces-preserved g c = record {
  filled = omega arith;
  expands = λ key inner outer.
      let h : Hash = hash_of g.H.BlockHash.digest_bytes g.row.B g.row.N in
      let before = c.pieces.invariant.expands key inner outer in
      let info = c.args.info.now in
      let i = c.pieces.i in
      let n = g.row.N in
      let t = c.next_block-next.result in
      let s = okm_blocks h key info i in
      let size : length t ≡ n = c.next_block-next.ensures.size in
      let begins : i * n < length c.args.out.now =
      block_begins _ n i _ c.requires.digest c.div_ceil-i-end.ensures c.pieces-test.true in
      let block : t ≡ okm_block h key info (i + 1) =
      okm_block-next h key info _ t i before.last (c.next_block-next.ensures.value _ _ inner outer) in
      let grown : s ++ t ≡ okm_blocks h key info (i + 1) = ap (λ b. s ++ b) block ∙ sym (okm_blocks-next h key info i) in
      record {
        last = take_all n t (omega arith) ∙ block;
        whole = sym (ap length grown) ∙ length-more s t n i before.whole size;
        written = c.write_at.ensures
            ∙ ap (λ len. paste c.pieces.out (i * n) t (min (length t) (len - i * n))) c.pieces.auto.out
            ∙ ap (λ out. paste out (i * n) t (min (length t) (length c.args.out.now - i * n))) before.written
            ∙ written-more c.args.out.now s t n i before.whole size begins
            ∙ ap (λ all. paste c.args.out.now 0 all (min (length c.args.out.now) ((i + 1) * n))) grown;
      };
}

pub returns : goal.returns
unfolding expanded
returns g c = λ key inner outer.
    let h : Hash = hash_of g.H.BlockHash.digest_bytes g.row.B g.row.N in
    let before = c.pieces.invariant.expands key inner outer in
    let info = c.args.info.now in
    let len = length c.args.out.now in
    let n = g.row.N in
    let all : c.pieces.i ≡ div_ceil len n = omega (arith, c.div_ceil-i-end.ensures) in
    let enough : len ≤ div_ceil len n * n = (div_ceil_times len n c.requires.digest).0 in
    let long : len ≤ c.pieces.i * n = rw all enough in
    before.written
    ∙ written-whole c.args.out.now (okm_blocks h key info c.pieces.i) (c.pieces.i * n) long (rw before.whole long)
    ∙ ap (λ i. take len (okm_blocks h key info i)) all
