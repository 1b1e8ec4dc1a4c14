use Rattle.std.proofs.Common.{refl}
use Rattle.text_words.proofs.DigitLemmas.{lower_written, lower_every}
use Rattle.text_words.proofs.digits.lower_hex_bytes_into.Goals as goal

pub returns-clause-written : goal.returns-clause-written
returns-clause-written c =
    lower_written c.args.text.now c.args.out.now c.read_lower_digits.new.out c.read_lower_digits.result _ refl c.read_lower_digits.ensures

pub returns-clause-every : goal.returns-clause-every
returns-clause-every c =
    lower_every c.args.text.now c.args.out.now c.read_lower_digits.new.out c.read_lower_digits.result _ refl c.read_lower_digits.ensures
