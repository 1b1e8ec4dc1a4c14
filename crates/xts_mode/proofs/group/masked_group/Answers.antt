-- Block by block.
use Rattle.std.proofs.Common.{◌≡◌, List, ℕ, [], ◌∷◌, get_or}
use Rattle.byte_words.specs.Blocks.{block_at}
use Rattle.byte_words.specs.Xor.{xor_bytes}
use Rattle.aes_core.proofs.SquareLemmas.{of_eight}
use Rattle.xts_mode.proofs.group.masked_group.Goals as goal

pub returns : goal.returns
returns c =
    let blocks : List (List ℕ) = c.masked_block.result ∷ c.masked_block-2.result ∷ c.masked_block-3.result ∷ c.masked_block-4.result ∷ c.masked_block-5.result ∷ c.masked_block-6.result ∷ c.masked_block-7.result ∷ c.masked_block-8.result ∷ [] in
    of_eight (λ b. get_or blocks b [] ≡ xor_bytes (block_at 16 c.args.group.now b) (get_or c.args.masks b []))
    c.masked_block.ensures c.masked_block-2.ensures c.masked_block-3.ensures c.masked_block-4.ensures c.masked_block-5.ensures c.masked_block-6.ensures c.masked_block-7.ensures c.masked_block-8.ensures
