use Rattle.std.proofs.Common.{◌≡◌, true, inl, inr, ◌∙◌, arith, sym, subst}
use Rattle.mount_model.specs.ClaimHistory.{is_refused}
use Rattle.mount_files.proofs.OpenLemmas.{file_at}
use Rattle.mount_files.proofs.ReadLemmas.{read_refused, read_answered}
use Rattle.mount_files.proofs.reads.read_begin.Goals as goal

pub returns-in-Ok-2-clause-represents : goal.returns-in-Ok-2-clause-represents
returns-in-Ok-2-clause-represents c = λ m st.
    let s = c.args.state.now in
    let is_open = file_at s m st c.args.caller c.args.handle c.in-Ok.field-0 c.in-Ok.ensures.held c.in-Ok.ensures.file in
    elim (c.lend.ensures.read m st is_open) [
      | inl is ↦ inl (is ∙ read_answered s m st c.args.caller c.args.handle c.args.offset c.args.len c.in-Ok.field-0 c.in-Ok.ensures.held c.in-Ok.ensures.file (omega arith))
      | inr wanting ↦ inr wanting
    ]

pub returns-in-Err-clause-represents : goal.returns-in-Err-clause-represents
returns-in-Err-clause-represents c = λ m st.
    inl (read_refused c.args.state.now m st c.args.caller c.args.handle c.args.offset c.args.len c.in-Err.refusal c.in-Err.ensures.refused)

pub returns-in-Ok-2-clause-due : goal.returns-in-Ok-2-clause-due
returns-in-Ok-2-clause-due c = λ m st denied.
    let s = c.args.state.now in
    absurd (cc (subst (λ r. is_refused r ≡ true)
    (sym (read_answered s m st c.args.caller c.args.handle c.args.offset c.args.len c.in-Ok.field-0 c.in-Ok.ensures.held c.in-Ok.ensures.file (omega arith)))
    denied))

pub returns-in-Err-clause-due : goal.returns-in-Err-clause-due
returns-in-Err-clause-due c = λ m st denied.
    read_refused c.args.state.now m st c.args.caller c.args.handle c.args.offset c.args.len c.in-Err.refusal c.in-Err.ensures.refused
