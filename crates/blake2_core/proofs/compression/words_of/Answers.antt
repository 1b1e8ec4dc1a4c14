use Rattle.std.proofs.Common.{◌∷◌, []}
use Rattle.blake2_core.specs.Words.{block_words}
use Rattle.blake2_core.proofs.compression.words_of.Goals as goal

pub returns : goal.returns
unfolding block_words
returns c = λ i. c.read_word.ensures i ∷ c.read_word-2.ensures i ∷ c.read_word-3.ensures i ∷ c.read_word-4.ensures i ∷ c.read_word-5.ensures i ∷ c.read_word-6.ensures i ∷ c.read_word-7.ensures i ∷ c.read_word-8.ensures i ∷ c.read_word-9.ensures i ∷ c.read_word-10.ensures i ∷ c.read_word-11.ensures i ∷ c.read_word-12.ensures i ∷ c.read_word-13.ensures i ∷ c.read_word-14.ensures i ∷ c.read_word-15.ensures i ∷ c.read_word-16.ensures i ∷ []
