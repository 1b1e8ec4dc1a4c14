use Rattle.std.proofs.Common.{◌≡◌, ◌⊎◌, refl}
use Rattle.mount_model.specs.declared.reply.Reply.TheVariants.{Done, Refused}
use Rattle.mount_model.specs.declared.reply.Refusal.TheVariants.{BadHandle}
use Rattle.mount_files.specs.Pending.{reply_of}
use Rattle.mount_model.specs.declared.call.Op.TheVariants.{OpenNode, Read, Write, Close}
use Rattle.mount_model.specs.OpenHandles.{node_of}
use Rattle.mount_files.specs.Opening.{ClosesOne}
use Rattle.mount_shared.proofs.FileLemmas.{read_given, close_told, close_sure}
use Rattle.mount_shared.proofs.MadeLemmas.{itself, all_kept, made_given, made_given_or_none}
use Rattle.mount_shared.proofs.file_answers.answer_on_files.Goals as goal

pub returns-in-Read-clause-made : goal.returns-in-Read-clause-made
returns-in-Read-clause-made g c =
    let s = c.args.state.now in
    made_given_or_none s s c.args.caller c.args.call.now (Read c.in-Read.handle c.in-Read.offset c.in-Read.len)
    (reply_of c.read_begin.result) c.in-Read.is refl (λ cs. refl) tt refl
    (λ _. itself s) c.read_begin.ensures.due
    (λ m st. read_given s m c.args.caller c.in-Read.handle c.in-Read.offset c.in-Read.len (reply_of c.read_begin.result) st
    (c.read_begin.ensures.represents m st))

pub returns-in-Write-clause-made : goal.returns-in-Write-clause-made
returns-in-Write-clause-made g c =
    made_given_or_none c.args.state.now c.write.new.state c.args.caller c.args.call.now
    (Write c.in-Write.handle c.in-Write.offset c.in-Write.bytes) c.write.result c.in-Write.is refl
    (λ cs. refl) tt c.write.ensures.same.ring
    (λ no. all_kept c.args.state.now c.write.new.state (c.write.ensures.kept no))
    c.write.ensures.refused c.write.ensures.represents

pub returns-in-OpenNode-clause-made : goal.returns-in-OpenNode-clause-made
returns-in-OpenNode-clause-made g c =
    made_given_or_none c.args.state.now c.open_node.new.state c.args.caller c.args.call.now (OpenNode c.in-OpenNode.path)
    c.open_node.result c.in-OpenNode.is refl
    (λ cs. refl) tt c.open_node.ensures.same.ring c.open_node.ensures.refused c.open_node.ensures.denied
    c.open_node.ensures.represents

pub returns-in-Close-clause-made : goal.returns-in-Close-clause-made
returns-in-Close-clause-made g c =
    let s = c.args.state.now in
    let told : (c.close.result ≡ Done) ⊎ (c.close.result ≡ Refused BadHandle)
    = close_told (node_of s.handles.live c.args.caller c.in-Close.handle) c.close.result
    (ClosesOne s c.close.new.state c.args.caller c.in-Close.handle) c.close.ensures.bad c.close.ensures.closed in
    made_given s c.close.new.state c.args.caller c.args.call.now (Close c.in-Close.handle)
    c.close.result c.in-Close.is
    (λ cs. refl) told c.close.ensures.same.ring c.close.ensures.refused
    (λ _. close_sure c.close.result told) c.close.ensures.represents
