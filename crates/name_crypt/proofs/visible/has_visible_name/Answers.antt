-- The text of a long name shows its beginning and a hash.
use Rattle.std.proofs.Common.{◌≡◌, ◌≢◌, ◌++◌, ℕ, List, subst, ◌∙◌}
use Rattle.std.specs.Bool.{Decides}
use Rattle.sha2.specs.Sha256.{sha256}
use Rattle.std.proofs.lemmas.Bool.Decides.{Decides-eqb}
use Rattle.std.proofs.lemmas.Slice.Eq.{strip_prefix_is, slice_eq-Decides}
use Rattle.name_crypt.proofs.ShownLemmas.{long_shown, long_other}
use Rattle.name_crypt.proofs.visible.has_visible_name.Goals as goal

pub returns-in-Some : goal.returns-in-Some
returns-in-Some c =
    let cases = strip_prefix_is Decides-eqb c.args.shown.now c.split_at.result.0.now c.strip_prefix.result c.strip_prefix.ensures.cases in
    let begins : c.args.shown.now ≡ c.split_at.result.0.now ++ c.in-Some.digest.now = rw c.in-Some.is at cases in
    let digest : c.as_slice.result.now ≡ sha256 c.split_at.result.1.now = c.as_slice.ensures ∙ c.digest.ensures in
    let same = slice_eq-Decides Decides-eqb c.in-Some.digest.now c.as_slice.result.now c.eq-in-Some.result c.eq-in-Some.ensures in
    long_shown c.args.stored.now c.args.shown.now c.split_at.result.0.now c.if-stored-le-MAX_SPELLED_BYTES.false c.split_at.ensures.front c.in-Some.digest.now c.split_at.result.1.now c.eq-in-Some.result
    c.split_at.ensures.back begins (subst (λ made. Decides c.eq-in-Some.result (c.in-Some.digest.now ≡ made)) digest same)

pub returns-in-None : goal.returns-in-None
returns-in-None c =
    let cases = strip_prefix_is Decides-eqb c.args.shown.now c.split_at.result.0.now c.strip_prefix.result c.strip_prefix.ensures.cases in
    let never : (rest : List ℕ) → c.args.shown.now ≢ c.split_at.result.0.now ++ rest = rw c.in-None.is at cases in
    long_other c.args.stored.now c.args.shown.now c.split_at.result.0.now c.if-stored-le-MAX_SPELLED_BYTES.false c.split_at.ensures.front never
