-- Of two calls that a pass makes, the second has the later place.
use Rattle.std.proofs.Common.{◌≡◌, ℕ, ◌+◌, ◌<◌, [], ◌∷◌, length, ap, sym, ◌∙◌, length-append, arith}
use Rattle.call_history.specs.declared.entry.Entry.{Entry}
use Rattle.turn_lock.specs.Passes.{PassView, IsMadeAt}

module _ {C R : Type 0} where
  pub places_rise : (old between new : PassView C R) (place next : ℕ) (e f : Entry C R)
      → IsMadeAt old between place e → IsMadeAt between new next f → place < next
  places_rise old between new place next e f first second =
      let before = first.1.0 in
      let behind = second.1.0 in
      let rest = second.1.1.0 in
      let grown : length between.seen ≡ length before + 1 =
      ap (λ (pass : PassView C R). length pass.seen) first.1.3 ∙ length-append before (e ∷ []) in
      let found : length between.seen + length rest ≡ length behind =
      sym (length-append between.seen rest) ∙ ap length second.1.1.1 in
      let at : place ≡ length before = first.1.2 in
      let later : next ≡ length behind = second.1.2 in
      omega (arith, grown, found, at, later)
