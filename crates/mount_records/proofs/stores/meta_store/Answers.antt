use Rattle.std.proofs.Common.{inl, refl}
use Rattle.mount_records.proofs.StoredLemmas.{stored_gives}
use Rattle.mount_records.proofs.stores.meta_store.Goals as goal

pub returns-in-Ok-clause-represents : goal.returns-in-Ok-clause-represents
returns-in-Ok-clause-represents c = λ m st.
    inl (stored_gives c.args.state.now _ m st
    (record { disk = refl; next_node = refl; ring = refl; meta = tt; keys = refl; pins = refl; handles = refl; modes = refl; names = refl })
    c.args.name.now c.as_slice.result.now c.args.bytes.now c.as_slice-2.result.now c.args.expected
    c.in-Ok.version c.as_slice.ensures c.as_slice-2.ensures
    c.in-Ok.ensures.refused c.in-Ok.ensures.version c.in-Ok.ensures.stored)
