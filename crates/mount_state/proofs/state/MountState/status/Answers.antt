use Rattle.std.proofs.Common.{◌≡◌, is_some, refl, sym, ap, ◌∙◌}
use Rattle.std.proofs.lemmas.Bool.{true≢false}
use Rattle.mount_model.specs.declared.reply.KeyState.TheVariants.{Absent, Present, Incomplete}
use Rattle.mount_state.proofs.RuleLemmas.{nothing_held, held_not_busy}
use Rattle.mount_state.proofs.state.MountState.status.Goals as goal

pub returns-then-is_present-clause-absent : goal.returns-then-is_present-clause-absent
returns-then-is_present-clause-absent c = (
  (λ (bad : Present ≡ Absent). absurd (cc)),
  (λ nothing. absurd (true≢false (sym c.if-is_present.true ∙ (c.is_present.ensures.secret ∙ ap is_some nothing.secret)))),
)

pub returns-then-is_busy-clause-absent : goal.returns-then-is_busy-clause-absent
returns-then-is_busy-clause-absent c =
    let s = c.args.self.now in (
      (λ (bad : Incomplete ≡ Absent). absurd (cc)),
      (λ nothing. absurd (true≢false (sym c.if-is_busy.true ∙ (c.is_busy.ensures.value ∙ held_not_busy s.disk s.ring s.inodes s.modes s.handles.live s.forgets c.args.id.now s.names nothing)))),
    )

pub returns-clause-absent : goal.returns-clause-absent
returns-clause-absent c =
    let s = c.args.self.now in (
      (λ _. nothing_held s.disk s.ring s.inodes s.modes s.handles.live s.forgets c.args.id.now s.names s.remembers
          (sym c.is_present.ensures.secret ∙ c.if-is_present.false) (sym c.is_present.ensures.claimed ∙ c.if-is_present.false)
          (sym c.is_busy.ensures.value ∙ c.if-is_busy.false) (c.is_busy.ensures.modes c.if-is_busy.false)),
      (λ _. refl),
    )
