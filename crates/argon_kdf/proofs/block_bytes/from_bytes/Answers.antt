use Rattle.std.proofs.Common.{◌≡◌, ◌∙◌, arith}
use Rattle.std.proofs.lemmas.List.{length-set}
use Rattle.blake2_core.specs.Words.{word_at}
use Rattle.argon_kdf.specs.Blocks.{block_of}
use Rattle.argon_kdf.proofs.Loops.{mapped_more, mapped_all}
use Rattle.argon_kdf.proofs.block_bytes.from_bytes.Goals as goal

pub words-preserved : goal.words-preserved
words-preserved c = record {
  long = length-set _ _ _ ∙ c.words.invariant.long;
  written =
      mapped_more (word_at c.args.bytes.now) c.words.block c.words.i _
      (omega arith) c.words.invariant.written c.read_word.ensures;
}

pub returns : goal.returns
unfolding block_of
returns c =
    let done : c.words.i ≡ 128 = omega arith in
    mapped_all (word_at c.args.bytes.now) c.words.block 128 (omega arith)
    (rw done at c.words.invariant.written)
