use Rattle.std.proofs.Common.{sym, ap, ◌∙◌}
use Rattle.mount_model.specs.declared.call.Op.TheVariants.{MetaLoad}
use Rattle.script_words.specs.Records.{record_of}
use Rattle.mount_links.proofs.NameLemmas.{asked_back}
use Rattle.mount_links.proofs.asked.asked_of.Goals as goal

pub returns-in-Some-clause-load : goal.returns-in-Some-clause-load
returns-in-Some-clause-load c = λ label e.
    c.in-MetaLoad.is
    ∙ ap MetaLoad (asked_back c.in-MetaLoad.name c.in-Some.record label
    (ap record_of (sym c.as_slice.ensures) ∙ sym c.read_record.ensures ∙ c.in-Some.is)
    (sym c.asked_of_load.ensures ∙ e))
