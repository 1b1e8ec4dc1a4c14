use Rattle.std.proofs.Common.{◌∙◌, List, [], ℕ, ap, replicate, slice_index_or}
use Rattle.std.proofs.lemmas.List.{get_or-replicate}
use Rattle.argon_kdf.proofs.CopyLemmas.{copied}
use Rattle.argon_kdf.specs.Blocks.{zero_block}
use Rattle.argon_kdf.proofs.zero_blocks.Goals as goal

pub returns-clause-zero : goal.returns-clause-zero
unfolding zero_block
returns-clause-zero c = λ n low.
    let same = c.in_ok-memory.ensures.items_if_clones_equal (λ y h. copied y h) in
    ap (λ (items : List (List ℕ)). slice_index_or items n []) same
    ∙ get_or-replicate c.args.count n (replicate 128 0) [] low
