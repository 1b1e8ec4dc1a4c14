use Rattle.std.proofs.Common.{refl}
use Rattle.session_records.specs.Derivations.{caller_byte, derived_nonce}
use Rattle.session_records.specs.declared.derivations.Purpose.TheVariants.{NonceOrKey}
use Rattle.session_records.proofs.DrawLemmas.{drawn_are_bytes}
use Rattle.session_records.proofs.derivations.derived_nonces_are_bytes.Goals as goal

pub returns : goal.returns
unfolding derived_nonce
returns c seed caller number = drawn_are_bytes 16 refl seed (caller_byte caller) number NonceOrKey
