use Rattle.mount_shared.proofs.answers.answer.Goals as goal

pub returns-in-Stat-clause-made : goal.returns-in-Stat-clause-made
returns-in-Stat-clause-made g c = c.reply_on_names.ensures c.args.caller

pub returns-in-MetaLoad-clause-made : goal.returns-in-MetaLoad-clause-made
returns-in-MetaLoad-clause-made g c = c.reply_on_records.ensures.made c.args.caller

pub returns-in-AddKey-clause-made : goal.returns-in-AddKey-clause-made
returns-in-AddKey-clause-made g c = c.reply_on_keys.ensures.made c.args.caller
