use Rattle.meta_files.proofs.RecordLemmas.{record_of-with_record, record_of-with_record_other}
use Rattle.meta_files.proofs.laws.writing_changes_one_record.Goals as goal

pub returns-clause-written : goal.returns-clause-written
returns-clause-written c = record_of-with_record

pub returns-clause-others : goal.returns-clause-others
returns-clause-others c = record_of-with_record_other
