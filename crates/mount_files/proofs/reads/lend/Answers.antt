use Rattle.std.proofs.Common.{List, ℕ, Some, None, inl, sym, ap, subst, ◌∙◌}
use Rattle.std.proofs.lemmas.Bool.{true≢false}
use Rattle.file_disk.specs.Keys.{seal_of}
use Rattle.file_disk.specs.Pending.{IsPart}
use Rattle.mount_model.specs.declared.reply.Reply.TheVariants.{Content}
use Rattle.mount_files.proofs.ReadLemmas.{part_is}
use Rattle.mount_files.proofs.reads.lend.Goals as goal

pub returns-in-Err-clause-read : goal.returns-in-Err-clause-read
returns-in-Err-clause-read c = λ m st is_open. absurd (true≢false (sym (c.in-Err.ensures.held (record { mount = m; represents = st; is_open = is_open }))))

pub returns-in-Ok-Some-clause-read : goal.returns-in-Ok-Some-clause-read
returns-in-Ok-Some-clause-read c = λ m st is_open.
    inl (part_is c.args.state.now m st c.args.file is_open (seal_of c.in-Ok.key) c.in-Ok.ensures.sealed c.args.offset c.args.len
    (Some c.in-Ok-Some.read) (subst (IsPart c.args.state.now.disk c.args.file (seal_of c.in-Ok.key) c.args.offset c.args.len) c.in-Ok-Some.field-0-is c.in-Ok-Some.ensures.content))

pub returns-in-Ok-None-clause-read : goal.returns-in-Ok-None-clause-read
returns-in-Ok-None-clause-read c = λ m st is_open.
    inl (ap (λ (bytes : List ℕ). Content bytes) c.new.ensures
    ∙ part_is c.args.state.now m st c.args.file is_open (seal_of c.in-Ok.key) c.in-Ok.ensures.sealed c.args.offset c.args.len None
    (subst (IsPart c.args.state.now.disk c.args.file (seal_of c.in-Ok.key) c.args.offset c.args.len) c.in-Ok-None.field-0-is c.in-Ok-None.ensures.content))
