-- The part of the keys that is loaded is 16 bytes long.
use Rattle.std.proofs.Common.{arith}
use Rattle.aes_core.proofs.LaneLemmas.{round_key_loaded}
use Rattle.aes_core.proofs.rounds.round_key.Goals as goal

pub returns : goal.returns
returns c = round_key_loaded c.args.keys.now c.args.round _ (omega arith) (omega arith)
