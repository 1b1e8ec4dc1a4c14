-- An array of zeros is zeros up to the length and after it.
use Rattle.std.proofs.Common.{◌≤◌, ◌-◌, ◌++◌, length, take, replicate, ap, sym, subst, arith, ◌≡◌, ◌∙◌}
use Rattle.std.proofs.lemmas.List.{length-take-le, take-replicate}
use Rattle.byte_words.specs.Bytes.{AreBytes}
use Rattle.short_bytes.proofs.FilledLemmas.{wiped}
use Rattle.short_bytes.proofs.filled.Filled.wipe.Goals as goal

pub invariant_of-self : goal.invariant_of-self
invariant_of-self g c =
    let zeros : c.wipe.new.bytes ≡ replicate g.row.N 0 = c.wipe.ensures ∙ ap (λ n. replicate n 0) c.self.invariant.1 in
    subst (λ places. (c.self.inside.len ≤ g.row.N) × (length places ≡ g.row.N)
    × (places ≡ take c.self.inside.len places ++ replicate (g.row.N - c.self.inside.len) 0) × AreBytes places)
    (sym zeros) (wiped g.row.N c.self.inside.len c.self.invariant.0)

pub returns : goal.returns
returns g c =
    let zeros : c.wipe.new.bytes ≡ replicate g.row.N 0 = c.wipe.ensures ∙ ap (λ n. replicate n 0) c.self.invariant.1 in
    let seen : length c.args.self.now ≡ c.self.inside.len =
    sym (ap length c.self.view_is) ∙ length-take-le c.self.inside.len c.self.inside.places (omega (arith, c.self.invariant.0, c.self.invariant.1)) in
    ap (λ p. take c.self.inside.len p) zeros ∙ take-replicate c.self.inside.len g.row.N 0 c.self.invariant.0 ∙ ap (λ k. replicate k 0) (sym seen)
