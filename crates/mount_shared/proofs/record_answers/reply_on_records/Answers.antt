use Rattle.std.proofs.Common.{refl}
use Rattle.meta_files.specs.Records.{record_of}
use Rattle.mount_model.specs.declared.call.Op.TheVariants.{MetaLoad, MetaStore}
use Rattle.mount_shared.proofs.MadeLemmas.{itself, all_kept, made_given_or_none}
use Rattle.mount_shared.proofs.RecordLemmas.{load_due, store_due, load_told, store_told}
use Rattle.mount_shared.proofs.record_answers.reply_on_records.Goals as goal

pub returns-in-MetaLoad-clause-made : goal.returns-in-MetaLoad-clause-made
returns-in-MetaLoad-clause-made c = λ caller.
    made_given_or_none c.args.state.now c.args.state.now caller c.args.call.now (MetaLoad c.in-MetaLoad.name) c.meta_load.result c.in-MetaLoad.is refl
    (λ cs. refl)
    (load_told (record_of c.args.state.now.meta c.in-MetaLoad.name) c.meta_load.result c.meta_load.ensures.held c.meta_load.ensures.absent)
    refl (λ _. itself c.args.state.now)
    (λ m st. load_due c.args.state.now m st c.in-MetaLoad.name c.meta_load.result c.meta_load.ensures.absent)
    c.meta_load.ensures.represents

pub returns-in-MetaStore-clause-made : goal.returns-in-MetaStore-clause-made
returns-in-MetaStore-clause-made c = λ caller.
    made_given_or_none c.args.state.now c.meta_store.new.state caller c.args.call.now
    (MetaStore c.in-MetaStore.name c.in-MetaStore.expected c.in-MetaStore.bytes) c.meta_store.result c.in-MetaStore.is refl
    (λ cs. refl)
    (store_told c.args.state.now.meta c.in-MetaStore.name c.in-MetaStore.bytes c.in-MetaStore.expected c.meta_store.result
    c.meta_store.ensures.refused c.meta_store.ensures.accepted)
    c.meta_store.ensures.same.ring
    (λ no. all_kept c.args.state.now c.meta_store.new.state (c.meta_store.ensures.kept no))
    (λ m st. store_due c.args.state.now m st c.in-MetaStore.name c.in-MetaStore.bytes c.in-MetaStore.expected c.meta_store.result c.meta_store.ensures.refused)
    c.meta_store.ensures.represents
