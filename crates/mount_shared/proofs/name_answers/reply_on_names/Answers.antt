use Rattle.std.proofs.Common.{refl, subst}
use Rattle.std.proofs.lemmas.Bool.{true≢false}
use Rattle.mount_model.specs.declared.call.Op.TheVariants.{Stat, SetPolicy, GetPolicy, ReadLink, Mkdir, Create, Symlink, Unlink, Rmdir, Rename}
use Rattle.mount_model.specs.declared.call.Op.TheVariants as op
use Rattle.mount_model.specs.Fits.{OpFits}
use Rattle.mount_shared.proofs.MadeLemmas.{made_given, made_given_or_none}
use Rattle.mount_shared.proofs.name_answers.reply_on_names.Goals as goal

pub returns-in-Stat : goal.returns-in-Stat
returns-in-Stat g c = λ caller.
    made_given c.args.state.now c.stat.new.state caller c.args.call.now (Stat c.in-Stat.path) c.stat.result c.in-Stat.is
    (λ cs. refl) tt c.stat.ensures.same.ring (λ _. c.stat.ensures.same)
    (λ no. absurd (true≢false no)) c.stat.ensures.represents

pub returns-in-GetPolicy : goal.returns-in-GetPolicy
returns-in-GetPolicy g c = λ caller.
    made_given c.args.state.now c.get_policy.new.state caller c.args.call.now (GetPolicy c.in-GetPolicy.path) c.get_policy.result c.in-GetPolicy.is
    (λ cs. refl) tt c.get_policy.ensures.same.ring (λ _. c.get_policy.ensures.same)
    (λ no. absurd (true≢false no)) c.get_policy.ensures.represents

pub returns-in-ReadLink : goal.returns-in-ReadLink
returns-in-ReadLink g c = λ caller.
    made_given_or_none c.args.state.now c.read_link.new.state caller c.args.call.now (ReadLink c.in-ReadLink.path) c.read_link.result c.in-ReadLink.is refl
    (λ cs. refl) tt c.read_link.ensures.same.ring (λ _. c.read_link.ensures.same) c.read_link.ensures.due
    c.read_link.ensures.represents

pub returns-in-Mkdir : goal.returns-in-Mkdir
returns-in-Mkdir g c = λ caller.
    made_given_or_none c.args.state.now c.mkdir.new.state caller c.args.call.now (Mkdir c.in-Mkdir.path c.in-Mkdir.nonce) c.mkdir.result c.in-Mkdir.is refl
    (λ cs. refl) tt c.mkdir.ensures.same.ring c.mkdir.ensures.refused
    (λ m st. c.mkdir.ensures.due m st (subst OpFits c.in-Mkdir.is c.requires.fits))
    (λ m st. c.mkdir.ensures.represents m st (subst OpFits c.in-Mkdir.is c.requires.fits))

pub returns-in-Create : goal.returns-in-Create
returns-in-Create g c = λ caller.
    made_given_or_none c.args.state.now c.create.new.state caller c.args.call.now (Create c.in-Create.path c.in-Create.nonce) c.create.result c.in-Create.is refl
    (λ cs. refl) tt c.create.ensures.same.ring c.create.ensures.refused
    (λ m st. c.create.ensures.due m st (subst OpFits c.in-Create.is c.requires.fits))
    (λ m st. c.create.ensures.represents m st (subst OpFits c.in-Create.is c.requires.fits))

pub returns-in-Unlink : goal.returns-in-Unlink
returns-in-Unlink g c = λ caller.
    made_given c.args.state.now c.unlink.new.state caller c.args.call.now (Unlink c.in-Unlink.path) c.unlink.result c.in-Unlink.is
    (λ cs. refl) tt c.unlink.ensures.same.ring c.unlink.ensures.refused
    (λ no. absurd (true≢false no)) (λ m st. c.unlink.ensures.represents m st (subst OpFits c.in-Unlink.is c.requires.fits))

pub returns-in-Rmdir : goal.returns-in-Rmdir
returns-in-Rmdir g c = λ caller.
    made_given c.args.state.now c.rmdir.new.state caller c.args.call.now (Rmdir c.in-Rmdir.path) c.rmdir.result c.in-Rmdir.is
    (λ cs. refl) tt c.rmdir.ensures.same.ring c.rmdir.ensures.refused
    (λ no. absurd (true≢false no)) (λ m st. c.rmdir.ensures.represents m st (subst OpFits c.in-Rmdir.is c.requires.fits))

pub returns-in-List : goal.returns-in-List
returns-in-List g c = λ caller.
    made_given_or_none c.args.state.now c.list.new.state caller c.args.call.now (op.List c.in-List.path c.in-List.start) c.list.result c.in-List.is refl
    (λ cs. refl) tt c.list.ensures.same.ring (λ _. c.list.ensures.same) c.list.ensures.due
    c.list.ensures.represents

pub returns-in-SetPolicy : goal.returns-in-SetPolicy
returns-in-SetPolicy g c = λ caller.
    made_given_or_none c.args.state.now c.set_policy.new.state caller c.args.call.now (SetPolicy c.in-SetPolicy.path c.in-SetPolicy.policy c.in-SetPolicy.nonce) c.set_policy.result c.in-SetPolicy.is refl
    (λ cs. refl) tt c.set_policy.ensures.same.ring c.set_policy.ensures.refused c.set_policy.ensures.due
    (λ m st. c.set_policy.ensures.represents m st (subst OpFits c.in-SetPolicy.is c.requires.fits))

pub returns-in-Symlink : goal.returns-in-Symlink
returns-in-Symlink g c = λ caller.
    made_given_or_none c.args.state.now c.symlink.new.state caller c.args.call.now (Symlink c.in-Symlink.path c.in-Symlink.target c.in-Symlink.nonce) c.symlink.result c.in-Symlink.is refl
    (λ cs. refl) tt c.symlink.ensures.same.ring c.symlink.ensures.refused
    (λ m st. let fits = subst OpFits c.in-Symlink.is c.requires.fits in c.symlink.ensures.due m st fits.0 fits.1)
    (λ m st. let fits = subst OpFits c.in-Symlink.is c.requires.fits in c.symlink.ensures.represents m st fits.0 fits.1)

pub returns-in-Rename : goal.returns-in-Rename
returns-in-Rename g c = λ caller.
    made_given_or_none c.args.state.now c.rename.new.state caller c.args.call.now (Rename c.in-Rename.old_path c.in-Rename.new_path) c.rename.result c.in-Rename.is refl
    (λ cs. refl) tt c.rename.ensures.same.ring c.rename.ensures.refused
    (λ m st. let fits = subst OpFits c.in-Rename.is c.requires.fits in c.rename.ensures.due m st fits.0 fits.1)
    (λ m st. let fits = subst OpFits c.in-Rename.is c.requires.fits in c.rename.ensures.represents m st fits.0 fits.1)
