use Rattle.std.proofs.Common.{rules, refl, sym, arith, ◌≤◌, ◌+◌, ◌∙◌, ap, length}
use Rattle.std.proofs.lemmas.Iterator.Consumers.{YieldsList-at, YieldsList-turn, YieldsList-end}
use Rattle.std.proofs.lemmas.Iterator.Splits.{YieldsList-from_slice_split}
use Rattle.std.proofs.lemmas.List.{length_push}
use Rattle.std.specs.List.{slice_split}
use Rattle.script_words.specs.Path.{is_slash}
use Rattle.script_words.proofs.PartSteps.{few_parts-many, few_parts-refused, few_parts-all, onto-more}
use Rattle.script_words.specs.declared.limits.TheConstants.{MAX_PARTS}
use borrow.Author.Tests.{tests}
use Rattle.script_words.proofs.path.read_parts.Goals as goal

pub returns-then-len-ge-MAX_PARTS : goal.returns-then-len-ge-MAX_PARTS
returns-then-len-ge-MAX_PARTS c =
    let many : MAX_PARTS ≤ length c.pieces.yielded = omega (arith, c.pieces.invariant.count) in
    let pieces = YieldsList-at c.into_iter-piece-iterator.ensures.into_iter_gives
    (YieldsList-from_slice_split _ is_slash c.args.text.now c.split-piece-items.ensures.rest c.split-piece-items.ensures.done c.split-piece-items.ensures.closure (λ x b q k. (refl, grind (arith, tests, k.shows, k.called)))) in
    let turn = YieldsList-turn pieces c.pieces.yielded _ c.pieces.yielded_by _ _ c.in-Some.piece c.in-Some.is c.next.ensures.steps in
    few_parts-many (slice_split is_slash c.args.text.now) (length c.pieces.yielded) many turn.0

pub returns-in-None-2 : goal.returns-in-None-2
returns-in-None-2 c =
    let pieces = YieldsList-at c.into_iter-piece-iterator.ensures.into_iter_gives
    (YieldsList-from_slice_split _ is_slash c.args.text.now c.split-piece-items.ensures.rest c.split-piece-items.ensures.done c.split-piece-items.ensures.closure (λ x b q k. (refl, grind (arith, tests, k.shows, k.called)))) in
    let turn = YieldsList-turn pieces c.pieces.yielded _ c.pieces.yielded_by _ _ c.in-Some.piece c.in-Some.is c.next.ensures.steps in
    few_parts-refused c.pieces.parts (slice_split is_slash c.args.text.now) (length c.pieces.yielded) c.in-Some.piece.now c.pieces.invariant.told turn.0 turn.1
    (sym c.in-None-2.is ∙ c.in_ok-part.ensures)

pub pieces-preserved : goal.pieces-preserved
pieces-preserved c =
    let room : length c.pieces.parts + 1 ≤ MAX_PARTS = omega (arith, c.len.ensures) in
    let pieces = YieldsList-at c.into_iter-piece-iterator.ensures.into_iter_gives
    (YieldsList-from_slice_split _ is_slash c.args.text.now c.split-piece-items.ensures.rest c.split-piece-items.ensures.done c.split-piece-items.ensures.closure (λ x b q k. (refl, grind (arith, tests, k.shows, k.called)))) in
    let turn = YieldsList-turn pieces c.pieces.yielded _ c.pieces.yielded_by _ _ c.in-Some.piece c.in-Some.is c.next.ensures.steps in
    let more = onto-more c.pieces.parts (slice_split is_slash c.args.text.now) (length c.pieces.yielded) c.in-Some.piece.now c.in-Some-2.part turn.0 turn.1
    (sym c.in-Some-2.is ∙ c.in_ok-part.ensures) in
    let count = length_push c.pieces.yielded c.in-Some.piece in
    let parts = length_push c.pieces.parts c.in-Some-2.part in
    let pushed = c.in_ok-push-in-Some-2.ensures.appended in
    record {
      can = search rules;
      ends = tt;
      count = ap length pushed ∙ parts ∙ ap (λ n. n + 1) c.pieces.invariant.count ∙ sym count;
      few = rw (pushed, parts) room;
      told = rw (pushed, count) (more ∙ c.pieces.invariant.told);
    }

pub returns : goal.returns
returns c =
    let few : length c.pieces.yielded ≤ MAX_PARTS = omega (arith, c.pieces.invariant.count, c.pieces.invariant.few) in
    let pieces = YieldsList-at c.into_iter-piece-iterator.ensures.into_iter_gives
    (YieldsList-from_slice_split _ is_slash c.args.text.now c.split-piece-items.ensures.rest c.split-piece-items.ensures.done c.split-piece-items.ensures.closure (λ x b q k. (refl, grind (arith, tests, k.shows, k.called)))) in
    let end = YieldsList-end pieces c.pieces.yielded _ c.pieces.yielded_by _ _ c.in-None.is c.next.ensures.steps in
    few_parts-all c.pieces.parts (slice_split is_slash c.args.text.now) (length c.pieces.yielded) c.pieces.invariant.told end.1 few
