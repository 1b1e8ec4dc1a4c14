use Rattle.std.proofs.Common.{ℕ, take, take_all, ap, subst, ◌∙◌, arith}
use Rattle.mount_model.specs.Walk.{PathParts}
use Rattle.mount_state.specs.PassedEntries.{CachesPassed}
use Rattle.mount_state.proofs.walk.walked_node.Goals as goal

pub returns-clause-brought : goal.returns-clause-brought
returns-clause-brought g c =
    subst (λ (p : PathParts). CachesPassed c.args.state.now c.walked_parts.new.state p)
    (ap (λ (n : ℕ). take n c.args.path.now) c.len.ensures ∙ take_all _ c.args.path.now (omega arith)) c.walked_parts.ensures.brought
