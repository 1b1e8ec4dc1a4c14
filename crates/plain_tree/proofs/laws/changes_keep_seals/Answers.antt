use Rattle.plain_tree.proofs.FirstLemmas.{first_sealed}
use Rattle.plain_tree.proofs.SealLemmas.{same_texts, written_sealed, encrypted_sealed}
use Rattle.plain_tree.proofs.SealedLemmas.{made_sealed, dropped_sealed, gone_sealed, moved_sealed}
use Rattle.plain_tree.proofs.laws.changes_keep_seals.Goals as goal

pub returns-clause-first : goal.returns-clause-first
returns-clause-first c = first_sealed

pub returns-clause-made : goal.returns-clause-made
returns-clause-made c = λ texts nodes next d name v tree can new is fits. made_sealed texts nodes next tree is d name v can new fits

pub returns-clause-dropped : goal.returns-clause-dropped
returns-clause-dropped c = λ texts nodes next d name x tree led none is. dropped_sealed texts nodes next tree is d name x led none

pub returns-clause-gone : goal.returns-clause-gone
returns-clause-gone c = λ texts nodes next x tree nameless is. gone_sealed texts nodes next tree is x nameless

pub returns-clause-moved : goal.returns-clause-moved
returns-clause-moved c = λ texts nodes next d name to new_name x tree can is into. moved_sealed texts nodes next tree is d name to new_name x can into

pub returns-clause-written : goal.returns-clause-written
returns-clause-written c = written_sealed

pub returns-clause-encrypted : goal.returns-clause-encrypted
returns-clause-encrypted c = λ texts nodes x context plain none is. encrypted_sealed texts nodes x context plain none is

pub returns-clause-same_texts : goal.returns-clause-same_texts
returns-clause-same_texts c = λ texts others nodes is alike. same_texts texts nodes others is alike
