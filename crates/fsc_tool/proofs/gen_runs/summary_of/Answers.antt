use Rattle.fsc_tool.proofs.GenLemmas.{summary_is}
use Rattle.fsc_tool.proofs.gen_runs.summary_of.Goals as goal

pub returns : goal.returns
returns g c =
    summary_is g.M.Machine.lawful c.args.number c.in_ok-script.script c.zero_seed.result c.in_ok-told.told.entries.items c.in_ok-told.told.notes.items
    c.in_ok-text.text c.in_ok-script.ensures.value c.zero_seed.ensures c.in_ok-told.ensures c.in_ok-text.ensures.no_out_of_memory c.in_ok-text.ensures.text
