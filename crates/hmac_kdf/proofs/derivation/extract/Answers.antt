use Rattle.std.proofs.Common.{◌∙◌}
use Rattle.hmac_kdf.specs.Hmac.{hash_of}
use Rattle.hmac_kdf.proofs.Expansion.{extracted-alone}
use Rattle.hmac_kdf.proofs.derivation.extract.Goals as goal

pub returns : goal.returns
returns g c =
    c.mac.ensures
    ∙ extracted-alone (hash_of g.H.BlockHash.digest_bytes g.row.B g.row.N) c.args.salt.now c.args.ikm.now
    c.requires.digest_in_block
