-- Each block in its place.
use Rattle.std.proofs.Common.{◌≡◌, List, ℕ, [], get_or, ap, ◌∙◌, arith}
use Rattle.byte_words.specs.Blocks.{first_blocks}
use Rattle.byte_words.specs.Xor.{xor_bytes}
use Rattle.byte_words.proofs.InPlace.{none_in_place, all_in_place}
use Rattle.xts_mode.proofs.GroupLemmas.{block_written}
use Rattle.xts_mode.proofs.group.write_masked.Goals as goal

pub blocks_of_group-init : goal.blocks_of_group-init
blocks_of_group-init c = none_in_place 16 (λ b. xor_bytes (get_or c.args.blocks.now b []) (get_or c.args.masks.now b [])) c.args.group.now

pub blocks_of_group-preserved : goal.blocks_of_group-preserved
blocks_of_group-preserved c =
    block_written c.args.blocks.now c.args.masks.now c.blocks_of_group.b _ c.blocks_of_group.group c.args.group.now c.requires.blocks c.requires.masks (omega arith) (omega arith) (omega arith)
    c.blocks_of_group.invariant

pub returns : goal.returns
returns c =
    let done : c.blocks_of_group.b ≡ 8 = omega arith in
    let f : ℕ → List ℕ = λ b. xor_bytes (get_or c.args.blocks.now b []) (get_or c.args.masks.now b []) in
    all_in_place 16 f c.blocks_of_group.b c.blocks_of_group.group c.args.group.now c.blocks_of_group.invariant (omega arith) ∙ ap (λ k. first_blocks f k) done
