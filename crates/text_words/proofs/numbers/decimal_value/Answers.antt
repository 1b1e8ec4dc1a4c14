use Rattle.std.proofs.Common.{arith, ◌^◌}
use Rattle.text_words.proofs.NumberLemmas.{numeral_of, every_numeral}
use Rattle.text_words.proofs.numbers.decimal_value.Goals as goal

pub returns-clause-numeral : goal.returns-clause-numeral
returns-clause-numeral c = numeral_of (2 ^ 32) c.args.text.now c.read_number_below_2_32.result (omega arith) c.read_number_below_2_32.ensures

pub returns-clause-every : goal.returns-clause-every
returns-clause-every c = every_numeral (2 ^ 32) c.args.text.now c.read_number_below_2_32.result (omega arith) c.read_number_below_2_32.ensures
