-- Each block of the group between two additions of its mask.
use Rattle.std.proofs.Common.{[], get_or, length, ap, ◌∙◌}
use Rattle.byte_words.proofs.NumberLemmas.{length-little_endian_bytes}
use Rattle.aes_core.specs.Aes.{encrypted_block}
use Rattle.aes_core.proofs.RoundLemmas.{length-encrypted_block}
use Rattle.xts_mode.specs.Groups.{tweak_from}
use Rattle.xts_mode.proofs.GroupLemmas.{group_made}
use Rattle.xts_mode.proofs.group.encrypt_group.Goals as goal

pub write_masked-requires-clause-blocks : goal.write_masked-requires-clause-blocks
write_masked-requires-clause-blocks c b low = ap length (c.encrypt_eight_with-sealed.ensures b low) ∙ length-encrypted_block c.args.key.now (get_or c.masked_group.result b [])

pub write_masked-requires-clause-masks : goal.write_masked-requires-clause-masks
write_masked-requires-clause-masks c b low = ap length (c.group_masks-masks.ensures b low) ∙ length-little_endian_bytes 16 (tweak_from c.args.tweak b)

pub returns-clause-group : goal.returns-clause-group
returns-clause-group c = c.write_masked.ensures
    ∙ group_made (encrypted_block c.args.key.now) c.args.tweak c.args.group.now c.masked_group.result c.encrypt_eight_with-sealed.result c.group_masks-masks.result c.group_masks-masks.ensures c.masked_group.ensures c.encrypt_eight_with-sealed.ensures
