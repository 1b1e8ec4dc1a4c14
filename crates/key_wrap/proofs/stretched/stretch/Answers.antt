-- HKDF fills the 64 bytes.
use Rattle.std.proofs.Common.{◌≡◌, [], length, ap, ◌∙◌, arith}
use Rattle.hmac_kdf.specs.Hkdf.{hkdf_sha256}
use Rattle.key_wrap.specs.Wrapping.{stretched_key}
use Rattle.key_wrap.proofs.stretched.stretch.Goals as goal

pub returns : goal.returns
unfolding stretched_key
returns c =
    let whole : length c.args.out.now ≡ 64 = omega arith in
    c.hkdf256.ensures ∙ ap (λ n. hkdf_sha256 [] c.args.key.now [] n) whole
