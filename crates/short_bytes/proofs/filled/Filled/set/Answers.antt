-- The bytes are before zeros.
use Rattle.std.proofs.Common.{ℕ, ◌≤◌, ◌-◌, ◌++◌, length, take, drop, replicate, refl, sym, subst, arith, ◌≡◌, ◌∙◌, ap}
use Rattle.std.proofs.lemmas.List.{take_at}
use Rattle.byte_words.specs.Bytes.{AreBytes}
use Rattle.short_bytes.proofs.FilledLemmas.{filled}
use Rattle.short_bytes.proofs.filled.Filled.set.Goals as goal

pub invariant_of-self : goal.invariant_of-self
invariant_of-self g c =
    let len : ℕ = length c.args.bytes.now in
    subst (λ w. (len ≤ g.row.N) × (length w ≡ g.row.N) × (w ≡ take len w ++ replicate (g.row.N - len) 0) × AreBytes w)
    (sym c.write_over.ensures)
    (filled g.row.N len c.args.bytes.now refl (omega (arith, c.requires)) (λ i. omega (arith, c.type_inv.bytes i)))

pub returns : goal.returns
returns g c =
    ap (λ w. take (length c.args.bytes.now) w) c.write_over.ensures
    ∙ take_at c.args.bytes.now (drop (length c.args.bytes.now) (replicate g.row.N 0)) (length c.args.bytes.now) refl
