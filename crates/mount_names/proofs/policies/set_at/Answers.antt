use Rattle.std.proofs.Common.{Some, None, refl, sym, subst, ◌∙◌}
use Rattle.policy_ctx.specs.declared.policy.Context.{Context}
use Rattle.mount_model.specs.AnswerForms.{Answer}
use Rattle.mount_model.specs.WellFormed.{IsWellFormed}
use Rattle.mount_state.specs.AnswerOf.{IsExpectedRefusal}
use Rattle.mount_state.proofs.ContextLemmas.{no_context}
use Rattle.mount_names.proofs.GivenLemmas.{is_answer_by}
use Rattle.mount_names.proofs.SetLemmas.{set_there, never_plain, kept_gives, kept_due, lacks_context}
use Rattle.mount_names.proofs.policies.set_at.Goals as goal

pub encrypt-requires-clause-plain : goal.encrypt-requires-clause-plain
encrypt-requires-clause-plain c = lacks_context _ (sym c.is_plain.ensures ∙ c.if-is_plain.true)

pub returns-then-is_plain-clause-represents : goal.returns-then-is_plain-clause-represents
returns-then-is_plain-clause-represents c = λ m st well.
    let s = c.args.state.now in
    let here = no_context s.disk s.next_node m st.well st.tree c.args.number (lacks_context _ (sym c.is_plain.ensures ∙ c.if-is_plain.true)) in
    let answer = set_there s m st c.args.number c.args.uid c.args.policy.now c.args.nonce.now (c.is_dir.ensures.0 c.if-not-is_dir.false) c.if-number-eq0.false
    (c.in-Ok.ensures.faultless refl) c.in-Ok.policy c.in-Ok.ensures.found c.in-Ok.ensures.sized None here in
    is_answer_by m _ _ c.encrypt.result _ answer
    (c.encrypt.ensures.represents m st (subst (λ (a : Answer). IsWellFormed a.mount) answer well))

pub returns-then-is_plain-clause-due : goal.returns-then-is_plain-clause-due
returns-then-is_plain-clause-due c = λ m st.
    let s = c.args.state.now in
    let here = no_context s.disk s.next_node m st.well st.tree c.args.number (lacks_context _ (sym c.is_plain.ensures ∙ c.if-is_plain.true)) in
    let answer = set_there s m st c.args.number c.args.uid c.args.policy.now c.args.nonce.now (c.is_dir.ensures.0 c.if-not-is_dir.false) c.if-number-eq0.false
    (c.in-Ok.ensures.faultless refl) c.in-Ok.policy c.in-Ok.ensures.found c.in-Ok.ensures.sized None here in
    subst (λ (a : Answer). IsExpectedRefusal a c.encrypt.result) (sym answer) (c.encrypt.ensures.due m st)

pub returns-in-Some-clause-represents : goal.returns-in-Some-clause-represents
returns-in-Some-clause-represents c = λ m st well.
    let s = c.args.state.now in
    let answer = set_there s m st c.args.number c.args.uid c.args.policy.now c.args.nonce.now (c.is_dir.ensures.0 c.if-not-is_dir.false) c.if-number-eq0.false
    (c.in-Ok.ensures.faultless refl) c.in-Ok.policy c.in-Ok.ensures.found c.in-Ok.ensures.sized (Some c.in-Some.context) (sym (c.in-Some.ensures m st)) in
    let new : Context = record { policy = c.in-Ok.policy; nonce = c.args.nonce.now } in
    is_answer_by m _ _ c.kept.result s answer
    (rw c.kept.ensures (kept_gives m c.args.uid c.args.number new c.in-Some.context s st))

pub returns-in-Some-clause-due : goal.returns-in-Some-clause-due
returns-in-Some-clause-due c = λ m st.
    let s = c.args.state.now in
    let answer = set_there s m st c.args.number c.args.uid c.args.policy.now c.args.nonce.now (c.is_dir.ensures.0 c.if-not-is_dir.false) c.if-number-eq0.false
    (c.in-Ok.ensures.faultless refl) c.in-Ok.policy c.in-Ok.ensures.found c.in-Ok.ensures.sized (Some c.in-Some.context) (sym (c.in-Some.ensures m st)) in
    let new : Context = record { policy = c.in-Ok.policy; nonce = c.args.nonce.now } in
    subst (λ (a : Answer). IsExpectedRefusal a c.kept.result) (sym answer)
    (rw c.kept.ensures (kept_due m c.args.uid c.args.number new c.in-Some.context))

pub returns-in-None-clause-represents : goal.returns-in-None-clause-represents
returns-in-None-clause-represents c = λ m st well.
    absurd (never_plain c.args.state.now m st c.args.number (c.in-None.ensures m st) (sym c.is_plain.ensures ∙ c.if-is_plain.false))

pub returns-in-None-clause-due : goal.returns-in-None-clause-due
returns-in-None-clause-due c = λ m st.
    absurd (never_plain c.args.state.now m st c.args.number (c.in-None.ensures m st) (sym c.is_plain.ensures ∙ c.if-is_plain.false))
