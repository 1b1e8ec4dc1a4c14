use Rattle.std.proofs.Common.{◌≡◌, ◌++◌, Some, None, sym, ◌∙◌, ap, arith}
use Rattle.std.specs.Prelude.{slice_get, option_copied}
use Rattle.std.proofs.lemmas.Option.{slice_get_within}
use Rattle.reply_text.proofs.NameLemmas.{parts-more, path_text-parts}
use Rattle.reply_text.proofs.names.put_path.Goals as goal

pub overflow_add-index : goal.overflow_add-index
overflow_add-index c =
    let here : slice_get c.args.path.now c.parts.index ≡ Some c.in-Some.part.now = sym c.part.ensures ∙ ap option_copied c.in-Some.is in
    omega (arith, slice_get_within c.args.path.now c.parts.index _ here, c.len-count.ensures)

pub parts-smaller : goal.parts-smaller
parts-smaller c =
    let here : slice_get c.args.path.now c.parts.index ≡ Some c.in-Some.part.now = sym c.part.ensures ∙ ap option_copied c.in-Some.is in
    omega (arith, slice_get_within c.args.path.now c.parts.index _ here)

pub parts-preserved : goal.parts-preserved
parts-preserved c =
    let here : slice_get c.args.path.now c.parts.index ≡ Some c.in-Some.part.now = sym c.part.ensures ∙ ap option_copied c.in-Some.is in
    record {
      within = omega (arith, slice_get_within c.args.path.now c.parts.index _ here);
      written =
          c.in_ok-put_word.ensures
          ∙ parts-more c.args.path.now c.parts.index c.bytes.result.now _ _ _ (here ∙ ap Some (sym c.bytes.ensures)) c.parts.invariant.written;
    }

pub returns : goal.returns
returns c =
    let past : slice_get c.args.path.now c.parts.index ≡ None = sym c.part.ensures ∙ ap option_copied c.in_default.is in
    c.parts.invariant.written
    ∙ ap (λ parts. c.args.text.now.items ++ (c.args.words.now ++ parts))
    (path_text-parts c.args.path.now c.parts.index (λ none. c.if-count-eq0.false (c.len-count.ensures ∙ none)) past)
