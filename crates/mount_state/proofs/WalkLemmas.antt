-- A walk goes on from the node that it has reached.
use Rattle.std.proofs.Common.{◌≡◌, ◌<◌, ℕ, ◌+◌, ◌-◌, zero, suc, [], ◌∷◌, length, take, drop, Some, Ok, Err, refl, sym, ap, ◌∙◌, arith}
use Rattle.std.specs.List.{slice_get}
use Rattle.std.specs.Option.{unwrap_or}
use Rattle.std.proofs.Math.Numerals.{add-one}
use Rattle.std.proofs.lemmas.Option.{unwrap_or-slice_get}
use Rattle.inode_refs.specs.CacheMaps.{Cache}
use Rattle.plain_tree.specs.Nodes.{Name}
use Rattle.mount_model.specs.declared.reply.Refusal.{Refusal}
use Rattle.mount_model.specs.PlainMount.{PlainMount}
use Rattle.mount_state.specs.declared.state.MountState.{MountState}
use Rattle.mount_state.specs.SameBut.{IsSame}
use Rattle.mount_state.specs.SameButCaches.{SameButCaches}
use Rattle.mount_model.specs.Walk.{PathParts, WalkResult, looked_in, walk_step, walked_on, walked_from, walk_path}
use Rattle.mount_model.specs.EntryPaths.{parent, parent_parts, last_part}

same_part : (a b : Name) → Some a ≡ Some b → a ≡ b
same_part a b is = cc

-- what is left begins with the part
pub at_part : (path : PathParts) (count i : ℕ) (part : Name) → Some part ≡ slice_get path i → i < count → drop i (take count path) ≡ part ∷ drop (suc i) (take count path)
at_part [] count i part there below = absurd (cc)
at_part (p ∷ ps) zero i part there below = absurd (omega arith)
at_part (p ∷ ps) (suc n) zero part there below = ap (λ x. x ∷ take n ps) (sym (same_part part p there))
at_part (p ∷ ps) (suc n) (suc i) part there below = at_part ps n i part there (omega arith)

module _ (m : PlainMount) (path : PathParts) (count i node : ℕ) (part : Name) (there : Some part ≡ slice_get path i) (below : i < count) where
  goes_on : walked_from m node (drop i (take count path)) ≡ walked_on (λ x. walked_from m x (drop (suc i) (take count path))) (walk_step m node part)
  goes_on = ap (walked_from m node) (at_part path count i part there below)

  pub one_more : {w : WalkResult} → (next : ℕ) → Ok next ≡ walk_step m node part → walked_from m node (drop i (take count path)) ≡ w → walked_from m next (drop (i + 1) (take count path)) ≡ w
  one_more next step on =
      ap (λ k. walked_from m next (drop k (take count path))) (add-one i)
      ∙ ap (walked_on (λ x. walked_from m x (drop (suc i) (take count path)))) step
      ∙ sym goes_on ∙ on

  pub stopped : {w : WalkResult} → (refusal : Refusal) → Err refusal ≡ walk_step m node part → walked_from m node (drop i (take count path)) ≡ w → Err refusal ≡ w
  stopped refusal step on = ap (walked_on (λ x. walked_from m x (drop (suc i) (take count path)))) step ∙ sym goes_on ∙ on

-- the last part is looked up in the directory that the others resolve to
pub parent_at : (m : PlainMount) (path : PathParts) (d : ℕ) → Ok d ≡ walk_path m (parent_parts path) → (part : Name) → part ≡ unwrap_or (slice_get path (length path - 1)) []
    → looked_in m d part ≡ parent m path
parent_at m path d leads part is =
    ap (looked_in m d) (is ∙ unwrap_or-slice_get path (length path - 1) [])
    ∙ ap (walked_on (λ x. looked_in m x (last_part path))) leads

-- the same keys and pins are the same cache
pub same_cache : (old new : Cache) → new.keys ≡ old.keys → new.pins ≡ old.pins → new ≡ old
same_cache old new keys pins = λ i. record { keys = keys i; pins = pins i }

-- a state differs from itself in nothing
pub itself : (s : MountState) → IsSame s s
itself s = record { disk = refl; next_node = refl; ring = refl; meta = refl; keys = refl; pins = refl; handles = refl; modes = refl; names = refl }

-- what two walks change, one after the other
pub same_then : {a b c : MountState} → SameButCaches a b → SameButCaches b c → SameButCaches a c
same_then first second = record {
  disk = second.disk ∙ first.disk;
  next_node = second.next_node ∙ first.next_node;
  ring = second.ring ∙ first.ring;
  meta = second.meta ∙ first.meta;
  keys = tt;
  pins = second.pins ∙ first.pins;
  handles = second.handles ∙ first.handles;
  modes = second.modes ∙ first.modes;
  names = tt;
}
