-- One block of zeros more, and at the end as many as are required.
use Rattle.std.proofs.Common.{◌≡◌, ◌+◌, ◌-◌, ◌++◌, [], ◌∷◌, length, replicate, false, sym, ap, ◌∙◌, arith, append_assoc}
use Rattle.std.proofs.lemmas.List.{replicate_more}
use Rattle.std.specs.Result.{is_err}
use Rattle.disk_tree.specs.Blocks.{zero_block}
use Rattle.disk_tree.proofs.ResultLemmas.{on_ok}
use Rattle.disk_tree.proofs.blocks.BlockList.grow.Goals as goal

pub loop-preserved : goal.loop-preserved
loop-preserved c =
    let fine : is_err c.push_zeros.result ≡ false = sym c.is_err.ensures.value ∙ c.if-is_err.false in
    let one_more : c.loop.counter - c.len-before.result + 1 ≡ c.loop.counter + 1 - c.len-before.result = omega arith in
    record {
      size = c.loop.invariant.size;
      few = omega arith;
      made = on_ok c.push_zeros.result (c.push_zeros.new.items.items ≡ c.loop.self-inside.items.items ++ zero_block ∷ []) fine c.push_zeros.ensures.put
          ∙ ap (λ xs. xs ++ zero_block ∷ []) c.loop.invariant.made
          ∙ append_assoc c.args.self.now (replicate (c.loop.counter - c.len-before.result) zero_block) (zero_block ∷ [])
          ∙ ap (λ xs. c.args.self.now ++ xs) (replicate_more (c.loop.counter - c.len-before.result) zero_block)
          ∙ ap (λ k. c.args.self.now ++ replicate k zero_block) one_more;
    }

pub returns-clause-grown : goal.returns-clause-grown
returns-clause-grown c =
    let all : c.loop.counter - c.len-before.result ≡ c.args.count - length c.args.self.now = omega arith in
    c.loop.invariant.made ∙ ap (λ k. c.args.self.now ++ replicate k zero_block) all
