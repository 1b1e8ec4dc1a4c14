use Rattle.plain_tree.proofs.FirstLemmas.{first_tree}
use Rattle.plain_tree.proofs.MadeLemmas.{made_tree}
use Rattle.plain_tree.proofs.DroppedLemmas.{dropped_tree}
use Rattle.plain_tree.proofs.GoneLemmas.{gone_tree}
use Rattle.plain_tree.proofs.MovedLemmas.{moved_tree}
use Rattle.plain_tree.proofs.EditedLemmas.{written_tree, encrypted_tree}
use Rattle.plain_tree.proofs.laws.changes_keep_trees.Goals as goal

pub returns-clause-first : goal.returns-clause-first
returns-clause-first c = first_tree

pub returns-clause-made : goal.returns-clause-made
returns-clause-made c = made_tree

pub returns-clause-dropped : goal.returns-clause-dropped
returns-clause-dropped c = λ nodes next d name x. dropped_tree nodes d name x next

pub returns-clause-gone : goal.returns-clause-gone
returns-clause-gone c = gone_tree

pub returns-clause-moved : goal.returns-clause-moved
returns-clause-moved c = λ nodes next d name to new_name x. moved_tree nodes d name to new_name x next

pub returns-clause-written : goal.returns-clause-written
returns-clause-written c = written_tree

pub returns-clause-encrypted : goal.returns-clause-encrypted
returns-clause-encrypted c = encrypted_tree
