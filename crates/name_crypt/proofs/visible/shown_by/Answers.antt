-- The encoding determines what the text decodes to, and whether it does.
use Rattle.std.proofs.Common.{◌≡◌, ◌≢◌, ◌++◌, ℕ, List, take, replicate, Some, subst, arith, sym}
use Rattle.std.proofs.lemmas.Bool.Decides.{Decides-eqb}
use Rattle.std.proofs.lemmas.Slice.Eq.{strip_prefix_is}
use Rattle.name_crypt.specs.NoKeyText.{HasVisibleBytes}
use Rattle.name_crypt.proofs.ShownLemmas.{too_long, undecoded, unzeroed, shown}
use Rattle.name_crypt.proofs.visible.shown_by.Goals as goal

pub returns-then-text-gt-MAX_TEXT_CHARACTERS : goal.returns-then-text-gt-MAX_TEXT_CHARACTERS
returns-then-text-gt-MAX_TEXT_CHARACTERS c = too_long c.args.text.now c.if-text-gt-MAX_TEXT_CHARACTERS.true

pub returns-in_default : goal.returns-in_default
returns-in_default c = undecoded c.args.text.now (λ i. omega (arith, c.type_inv.text i)) _ c.in_default.ensures.err

pub returns-in-Some : goal.returns-in-Some
returns-in-Some c =
    let whole : List ℕ = take c.in-Ok.len c.decode_slice_unchecked.new.output in
    let cases = strip_prefix_is Decides-eqb whole (replicate 8 0) c.strip_prefix.result c.strip_prefix.ensures.cases in
    let begins : whole ≡ replicate 8 0 ++ c.in-Some.shown.now = rw c.in-Some.is at cases in
    subst (λ (x : List ℕ). HasVisibleBytes c.args.text.now (Some x)) (sym c.of.ensures)
    (shown c.args.text.now (λ i. omega (arith, c.type_inv.text i)) whole c.in-Ok.ensures.ok.0 c.in-Some.shown.now begins)

pub returns-in-None : goal.returns-in-None
returns-in-None c =
    let whole : List ℕ = take c.in-Ok.len c.decode_slice_unchecked.new.output in
    let cases = strip_prefix_is Decides-eqb whole (replicate 8 0) c.strip_prefix.result c.strip_prefix.ensures.cases in
    let never : (rest : List ℕ) → whole ≢ replicate 8 0 ++ rest = rw c.in-None.is at cases in
    unzeroed c.args.text.now (λ i. omega (arith, c.type_inv.text i)) whole c.in-Ok.ensures.ok.0 never
