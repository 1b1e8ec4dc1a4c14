-- The next unit is the one that was passed, and is written over.
use Rattle.std.proofs.Common.{◌≡◌, ◌/◌, ap, ◌∙◌, arith}
use Rattle.byte_words.proofs.InPlace.{none_in_place}
use Rattle.xts_mode.specs.Xts.{xts_decrypted}
use Rattle.xts_mode.proofs.UnitLemmas.{length-xts_decrypted}
use Rattle.policy_ctx.specs.Policy.{unit_bytes}
use Rattle.data_crypt.specs.Units.{unit_count}
use Rattle.data_crypt.proofs.UnitLemmas.{unit_by, one_more_unit, units_done}
use Rattle.data_crypt.proofs.open_block.Goals as goal

pub units-init : goal.units-init
units-init c = none_in_place (unit_bytes c.args.unit) (unit_by (xts_decrypted c.args.key.now) c.args.unit c.args.first c.args.block.now) c.args.block.now

pub units-preserved : goal.units-preserved
units-preserved c = one_more_unit c.args.unit c.args.block.now c.requires.block_size (xts_decrypted c.args.key.now) c.args.first (λ index x even. length-xts_decrypted c.args.key.now index x even)
    c.units.block c.decrypt_unit.new.unit c.size-size.result c.units.i c.size-size.ensures c.units-test.true c.units.invariant c.decrypt_unit.ensures

pub returns : goal.returns
returns c =
    let count : 4096 / c.size-size.result ≡ unit_count c.args.unit = ap (λ u. 4096 / u) c.size-size.ensures in
    let at_end : c.units.i ≡ 4096 / c.size-size.result = omega arith in
    units_done c.args.unit c.args.block.now c.requires.block_size (xts_decrypted c.args.key.now) c.args.first c.units.block c.units.i (at_end ∙ count) c.units.invariant
