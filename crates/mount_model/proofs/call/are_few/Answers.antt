-- The elements of a slice of bytes are bytes.
use Rattle.std.proofs.Common.{length, arith}
use Rattle.std.proofs.lemmas.Bool.{leb-true, le-leb}
use Rattle.mount_model.proofs.call.are_few.Goals as goal

pub returns : goal.returns
returns c = ((λ fits. ((λ i. omega (arith, c.type_inv.bytes i)), leb-true (length c.args.bytes.now) c.args.most fits)), (λ few. le-leb (length c.args.bytes.now) c.args.most few.1))
