use Rattle.argon_kdf.proofs.Recursion.{each_block}
use Rattle.argon_kdf.proofs.Referring.{reference_made, reference_apart}
use Rattle.argon_kdf.proofs.law.table_meets_the_recursion.Goals as goal

pub returns-clause-recursion : goal.returns-clause-recursion
returns-clause-recursion c = λ x h0 at wide pass within. each_block x h0 x.passes at wide pass within

pub returns-clause-made : goal.returns-clause-made
returns-clause-made c = λ x at word wide within first begun. reference_made x at word wide within first begun

pub returns-clause-apart : goal.returns-clause-apart
returns-clause-apart c = λ x at word wide within other. reference_apart x at word wide within other
