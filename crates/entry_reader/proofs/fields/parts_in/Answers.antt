use Rattle.std.proofs.Common.{rules, refl, sym, arith, ◌∙◌, ap, length, ◌++◌, ◌∷◌, [], map, take}
use Rattle.std.proofs.lemmas.Iterator.Consumers.{YieldsList-at, YieldsList-turn, YieldsList-end}
use Rattle.std.proofs.lemmas.Iterator.Splits.{YieldsList-from_slice_split}
use Rattle.std.proofs.lemmas.List.{length_push}
use Rattle.std.specs.Prelude.{List, ℕ}
use Rattle.std.specs.List.{slice_split}
use Rattle.percent_encoding.specs.Percent.{percent_decode}
use Rattle.script_words.specs.Path.{is_slash}
use borrow.Author.Tests.{tests}
use Rattle.entry_reader.proofs.LoopLemmas.{part_more, parts_all}
use Rattle.entry_reader.proofs.fields.parts_in.Goals as goal

pub pieces-preserved : goal.pieces-preserved
pieces-preserved c =
    let pieces = YieldsList-at c.into_iter-piece-iterator.ensures.into_iter_gives
    (YieldsList-from_slice_split _ is_slash c.args.text.now c.split-piece-items.ensures.rest c.split-piece-items.ensures.done c.split-piece-items.ensures.closure (λ x b q k. (refl, grind (arith, tests, k.shows, k.called)))) in
    let turn = YieldsList-turn pieces c.pieces.yielded _ c.pieces.yielded_by _ _ c.in-Some.piece c.in-Some.is c.next.ensures.steps in
    let count = length_push c.pieces.yielded c.in-Some.piece in
    record {
      can = search rules;
      ends = tt;
      told =
          c.in_ok-push.ensures.appended
          ∙ ap (λ (p : List ℕ). c.pieces.path ++ p ∷ []) (c.new.ensures ∙ c.in_ok-part.ensures)
          ∙ ap (λ (ps : List (List ℕ)). ps ++ percent_decode c.in-Some.piece.now ∷ []) c.pieces.invariant.told
          ∙ part_more (slice_split is_slash c.args.text.now) (length c.pieces.yielded) c.in-Some.piece.now turn.0 turn.1
          ∙ ap (λ (n : ℕ). map percent_decode (take n (slice_split is_slash c.args.text.now))) (sym count);
    }

pub returns : goal.returns
returns c =
    let pieces = YieldsList-at c.into_iter-piece-iterator.ensures.into_iter_gives
    (YieldsList-from_slice_split _ is_slash c.args.text.now c.split-piece-items.ensures.rest c.split-piece-items.ensures.done c.split-piece-items.ensures.closure (λ x b q k. (refl, grind (arith, tests, k.shows, k.called)))) in
    let end = YieldsList-end pieces c.pieces.yielded _ c.pieces.yielded_by _ _ c.in-None.is c.next.ensures.steps in
    c.pieces.invariant.told ∙ parts_all (slice_split is_slash c.args.text.now) (length c.pieces.yielded) (omega (arith, end.1))
