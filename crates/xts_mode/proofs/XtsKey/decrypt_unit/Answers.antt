-- Each loop is the step that both directions share.
use Rattle.std.proofs.Common.{◌++◌, ap, sym, ◌∙◌, arith}
use Rattle.aes_core.specs.Aes.{decrypted_block}
use Rattle.aes_core.proofs.RoundLemmas.{length-decrypted_block}
use Rattle.xts_mode.specs.Xts.{first_tweak, tweaked, xts_decrypted}
use Rattle.xts_mode.proofs.LoopLemmas.{no_groups, one_more_group, groups_are_blocks, one_more_block, whole_unit}
use Rattle.xts_mode.proofs.XtsKey.decrypt_unit.Goals as goal

pub groups-init : goal.groups-init
groups-init c = no_groups (decrypted_block c.self.inside.cipher) (length-decrypted_block c.self.inside.cipher) (c.self.inside.cipher ++ c.self.inside.tweaker) c.args.index c.args.unit.now
    _ (c.first_tweak-tweak.ensures ∙ ap (λ k. first_tweak k c.args.index) (sym c.self.view_is))

pub groups-preserved : goal.groups-preserved
groups-preserved c = one_more_group (decrypted_block c.self.inside.cipher) (length-decrypted_block c.self.inside.cipher) (c.self.inside.cipher ++ c.self.inside.tweaker) c.args.index c.args.unit.now
    c.groups.unit c.decrypt_group-tweak.new.group c.groups.tweak c.decrypt_group-tweak.result c.groups.g _ (omega arith) c.groups.invariant c.decrypt_group-tweak.ensures.group c.decrypt_group-tweak.ensures.next

pub units-init : goal.units-init
units-init c = groups_are_blocks (decrypted_block c.self.inside.cipher) (length-decrypted_block c.self.inside.cipher) (c.self.inside.cipher ++ c.self.inside.tweaker) c.args.index c.args.unit.now
    c.groups.unit c.groups.tweak c.groups.g _ (omega arith) c.groups.invariant

pub units-preserved : goal.units-preserved
units-preserved c = one_more_block (decrypted_block c.self.inside.cipher) (length-decrypted_block c.self.inside.cipher) (c.self.inside.cipher ++ c.self.inside.tweaker) c.args.index c.args.unit.now
    c.units.unit c.copy_from_slice.new.self c.units.tweak c.times_alpha-tweak.result c.units.j _ (omega arith) c.units.invariant
    (c.copy_from_slice.ensures.after ∙ c.decrypt_tweaked-block.ensures ∙ ap (λ b. tweaked (decrypted_block c.self.inside.cipher) c.units.tweak b) c.block_at.ensures) c.times_alpha-tweak.ensures

pub returns : goal.returns
unfolding xts_decrypted
returns c = whole_unit decrypted_block c.self.inside.cipher c.self.inside.tweaker _ c.args.index c.args.unit.now c.units.unit c.units.tweak c.units.j
    (c.self.invariant.0) c.self.view_is c.requires.whole_blocks (omega arith) c.units.invariant
