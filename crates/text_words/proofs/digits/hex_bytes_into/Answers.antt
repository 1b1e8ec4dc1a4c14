use Rattle.std.proofs.Common.{refl}
use Rattle.text_words.proofs.DigitLemmas.{digits_exactly}
use Rattle.text_words.proofs.digits.hex_bytes_into.Goals as goal

pub returns-clause-exact : goal.returns-clause-exact
returns-clause-exact c = digits_exactly c.args.text.now c.args.out.now c.read_digits.new.out c.read_digits.result _ refl c.read_digits.ensures
