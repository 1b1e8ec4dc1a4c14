use Rattle.fsc_tool.proofs.DumpLawLemmas.{dump_listed, dump_listed_whole}
use Rattle.fsc_tool.proofs.laws.dumps_are_listed.Goals as goal

pub returns-clause-listing : goal.returns-clause-listing
returns-clause-listing g c = λ old new seed script raw a b text listing dump.
    dump_listed seed script c.mount_images_list_mounts.ensures raw a b _ text listing dump

pub returns-clause-whole : goal.returns-clause-whole
returns-clause-whole g c = λ old new seed script raw a b status text dump given run quiet.
    dump_listed_whole seed script c.mount_images_list_mounts.ensures c.mount_images_are_images.ensures.images c.mount_images_are_short.ensures
    raw a b _ status text dump given run quiet
