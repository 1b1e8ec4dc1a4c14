use Rattle.std.proofs.Common.{sym, ap, ◌∙◌, subst}
use Rattle.std.specs.List.Sorted.{IsStrictlySortedBy}
use Rattle.std.specs.Ordering.{nat_cmp}
use Rattle.image_lines.specs.Image.{numbers_of}
use Rattle.image_lines.specs.Places.{DoRise, numbers_at}
use Rattle.image_lines.specs.Marks.{IsIndexOf}
use Rattle.image_lines.proofs.Answered.{same_numbers}
use Rattle.image_lines.proofs.NodeLemmas.{is_image}
use Rattle.image_lines.proofs.image.Image.index_of.Goals as goal

pub index_of-requires : goal.index_of-requires
index_of-requires c = record {
  rising =
      let own = is_image c.self.inside.text.now c.self.inside.places.items c.self.invariant.1 in
      subst DoRise (sym c.as_slice.ensures.value) (subst (IsStrictlySortedBy nat_cmp) (same_numbers c.self.inside.text.now c.self.inside.places.items) own.lines.rising);
}

pub returns : goal.returns
returns c =
    let numbers = ap numbers_at c.as_slice.ensures.value ∙ sym (same_numbers c.self.inside.text.now c.self.inside.places.items) ∙ ap numbers_of c.self.view_is in
    subst (λ ns. IsIndexOf ns c.args.number c.index_of.result) numbers c.index_of.ensures
