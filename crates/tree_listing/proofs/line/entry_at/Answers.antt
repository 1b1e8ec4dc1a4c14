use Rattle.std.proofs.Common.{◌∙◌, ap, inl, inr, arith}
use Rattle.tree_listing.specs.Ways.{entry_at}
use Rattle.tree_listing.proofs.PlaceLemmas.{past_end}
use Rattle.tree_listing.proofs.line.entry_at.Goals as goal

pub returns-in-None : goal.returns-in-None
returns-in-None c = elim c.in-None.ensures.lookup.0 [
  | inl past ↦ past_end c.text.result.now c.args.at past ∙ ap (λ text. entry_at text c.args.at) c.text.ensures.text
  | inr never ↦ absurd (omega (arith, never))
]
