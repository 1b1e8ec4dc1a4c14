use Rattle.std.proofs.Common.{ℕ, ◌-◌, ap, ◌∙◌}
use Rattle.mount_state.proofs.PassedEntryLemmas.{parent_passed, same_names}
use Rattle.mount_state.proofs.walk.walk_parent_past.Goals as goal

pub returns-in-Ok-directory_kept-clause-brought : goal.returns-in-Ok-directory_kept-clause-brought
returns-in-Ok-directory_kept-clause-brought g c = λ m st pair is.
    parent_passed c.args.state.now c.walked_past.new.state c.args.path.now c.saturating_sub-before.result
    (c.saturating_sub-before.ensures ∙ ap (λ (n : ℕ). n - 1) c.len.ensures) c.walked_past.ensures.brought m st pair
    (same_names _ _ c.directory_kept.ensures.names pair is)

pub returns-in-Err-directory_kept-clause-brought : goal.returns-in-Err-directory_kept-clause-brought
returns-in-Err-directory_kept-clause-brought g c = λ m st pair is.
    parent_passed c.args.state.now c.walked_past.new.state c.args.path.now c.saturating_sub-before.result
    (c.saturating_sub-before.ensures ∙ ap (λ (n : ℕ). n - 1) c.len.ensures) c.walked_past.ensures.brought m st pair
    (same_names _ _ c.directory_kept.ensures.names pair is)

pub returns-in-Err-clause-brought : goal.returns-in-Err-clause-brought
returns-in-Err-clause-brought g c =
    parent_passed c.args.state.now c.walked_past.new.state c.args.path.now c.saturating_sub-before.result
    (c.saturating_sub-before.ensures ∙ ap (λ (n : ℕ). n - 1) c.len.ensures) c.walked_past.ensures.brought
