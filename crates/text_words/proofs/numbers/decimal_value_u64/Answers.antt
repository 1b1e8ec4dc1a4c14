use Rattle.std.proofs.Common.{arith, ◌^◌}
use Rattle.text_words.proofs.NumberLemmas.{numeral_of, every_numeral}
use Rattle.text_words.proofs.numbers.decimal_value_u64.Goals as goal

pub returns-clause-numeral : goal.returns-clause-numeral
returns-clause-numeral c = numeral_of (2 ^ 64) c.args.text.now c.read_number.result (omega arith) c.read_number.ensures

pub returns-clause-every : goal.returns-clause-every
returns-clause-every c = every_numeral (2 ^ 64) c.args.text.now c.read_number.result (omega arith) c.read_number.ensures
