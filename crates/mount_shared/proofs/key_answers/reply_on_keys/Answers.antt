use Rattle.std.proofs.Common.{◌≡◌, refl, sym, ◌∙◌}
use Rattle.mount_model.specs.declared.reply.Reply.TheVariants.{Done, Refused}
use Rattle.mount_model.specs.declared.reply.Refusal.TheVariants.{NoMemory}
use Rattle.mount_model.specs.declared.call.Op.TheVariants.{DropCaches}
use Rattle.mount_shared.proofs.KeyLemmas.{made_add_key, made_remove_key, made_remove_key_all, made_key_status}
use Rattle.mount_shared.proofs.MadeLemmas.{itself, made_given}
use Rattle.mount_shared.proofs.key_answers.reply_on_keys.Goals as goal

pub returns-in-AddKey-clause-made : goal.returns-in-AddKey-clause-made
returns-in-AddKey-clause-made c = λ caller.
    made_add_key c.args.state.now c.add_key.new.state caller c.args.call.now c.add_key.result c.in-AddKey.raw c.in-AddKey.is
    c.add_key.ensures.refused c.add_key.ensures.accepted c.add_key.ensures.kept c.add_key.ensures.gained
    c.add_key.ensures.represents

pub returns-in-RemoveKey-clause-made : goal.returns-in-RemoveKey-clause-made
returns-in-RemoveKey-clause-made c = λ caller.
    made_remove_key c.args.state.now c.remove_key.new.state caller c.args.call.now c.remove_key.result c.in-RemoveKey.id c.in-RemoveKey.is
    c.remove_key.ensures.told c.remove_key.ensures.kept c.remove_key.ensures.taken
    c.remove_key.ensures.represents

pub returns-in-RemoveKeyAll-clause-made : goal.returns-in-RemoveKeyAll-clause-made
returns-in-RemoveKeyAll-clause-made c = λ caller.
    made_remove_key_all c.args.state.now c.remove_key_all.new.state caller c.args.call.now c.remove_key_all.result c.in-RemoveKeyAll.id c.in-RemoveKeyAll.is
    c.remove_key_all.ensures.told c.remove_key_all.ensures.kept c.remove_key_all.ensures.taken
    c.remove_key_all.ensures.represents

pub returns-in-KeyStatus-clause-made : goal.returns-in-KeyStatus-clause-made
returns-in-KeyStatus-clause-made c = λ caller.
    made_key_status c.args.state.now c.args.state.now caller c.args.call.now c.key_status.result c.in-KeyStatus.id c.in-KeyStatus.is
    c.key_status.ensures.told refl
    (λ _. itself c.args.state.now) c.key_status.ensures.represents

pub returns-in-DropCaches-clause-made : goal.returns-in-DropCaches-clause-made
returns-in-DropCaches-clause-made c = λ caller.
    made_given c.args.state.now c.drop_caches.new.state caller c.args.call.now DropCaches c.drop_caches.result c.in-DropCaches.is
    (λ cs. refl) c.drop_caches.ensures.told c.drop_caches.ensures.same.ring (λ _. c.drop_caches.ensures.same)
    (λ _ bad. let told : Done ≡ Refused NoMemory = sym c.drop_caches.ensures.told ∙ bad in absurd (cc)) c.drop_caches.ensures.represents
