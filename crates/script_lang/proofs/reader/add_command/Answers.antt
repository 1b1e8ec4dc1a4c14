use Rattle.std.proofs.Common.{ap}
use Rattle.std.specs.Prelude.{is_some}
use Rattle.script_lang.specs.Commands.{verb_of}
use Rattle.script_lang.proofs.ReadingLemmas.{command_read, no_section}
use Rattle.script_lang.proofs.reader.add_command.Goals as goal

pub returns-in-Some : goal.returns-in-Some
returns-in-Some c =
    command_read c.args.number c.args.sections.now.items _ c.in-Some.section.now (verb_of c.args.name.now c.args.words.now) c.push_command.new.commands c.push_command.result c.args.sections.now.ok.0 (c.last_mut.ensures.variant.0 (ap is_some c.in-Some.is)) c.in-Some.ensures.value c.push_command.ensures

pub returns-in-None : goal.returns-in-None
returns-in-None c =
    no_section c.args.number c.args.sections.now.items _ (verb_of c.args.name.now c.args.words.now) _ c.args.sections.now.ok.0 (ap is_some c.in-None.is) c.last_mut.ensures.variant.1
