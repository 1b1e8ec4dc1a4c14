-- Whether a walk passes a node, decided part by part.
use Rattle.std.proofs.Common.{◌≡◌, ◌<◌, ℕ, ◌+◌, ◌==◌, suc, Bool, true, false, ◌||◌, take, drop, Some, Ok, Err, refl, sym, ap, ◌∙◌}
use Rattle.std.specs.List.{list_any, slice_get}
use Rattle.std.proofs.Math.Numerals.{add-one}
use Rattle.plain_tree.specs.Nodes.{Name}
use Rattle.mount_model.specs.declared.reply.Refusal.{Refusal}
use Rattle.mount_model.specs.PlainMount.{PlainMount}
use Rattle.mount_model.specs.Walk.{PathParts, WalkResult, walk_step}
use Rattle.mount_model.specs.EntryPaths.{passed_from, passed_on}
use Rattle.mount_state.specs.PassedNodes.{passes, with_past}
use Rattle.mount_state.proofs.WalkLemmas.{at_part}

or_assoc : (a b c : Bool) → ((a || b) || c) ≡ (a || (b || c))
or_assoc true b c = refl
or_assoc false b c = refl

module _ (m : PlainMount) (path : PathParts) (count i at node : ℕ) (part : Name) (there : Some part ≡ slice_get path i) (below : i < count) where
  abbrev rest : PathParts
  rest = drop (suc i) (take count path)

  -- one part further
  pub past_more : {whole : Bool} (past : Bool) (next : ℕ) → Ok next ≡ walk_step m at part → (past || passes m at (drop i (take count path)) node) ≡ whole
      → ((past || (at == node)) || passes m next (drop (i + 1) (take count path)) node) ≡ whole
  past_more past next step on =
      ap (λ k. (past || (at == node)) || passes m next (drop k (take count path)) node) (add-one i)
      ∙ or_assoc past (at == node) (passes m next rest node)
      ∙ ap (λ (w : WalkResult). past || ((at == node) || list_any (λ x. x == node) (passed_on (λ x. passed_from m x rest) w))) step
      ∙ ap (λ (ps : PathParts). past || passes m at ps node) (sym (at_part path count i part there below))
      ∙ on

-- a walk that is refused
pub end_refused : (whole : Bool) (refusal : Refusal) (w : WalkResult) → Err refusal ≡ w → Err refusal ≡ with_past whole w
end_refused whole refusal w led = ap (with_past whole) led
