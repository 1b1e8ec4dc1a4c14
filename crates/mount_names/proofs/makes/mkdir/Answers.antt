use Rattle.std.proofs.Common.{[], refl}
use Rattle.plain_tree.specs.Nodes.{Dir}
use Rattle.mount_names.proofs.MakeLemmas.{made_due, mkdir_well}
use Rattle.mount_state.proofs.PassedEntryLemmas.{same_names}
use Rattle.mount_names.proofs.makes.mkdir.Goals as goal

pub returns-in-Ok-clause-represents : goal.returns-in-Ok-clause-represents
returns-in-Ok-clause-represents g c = λ m st fits.
    c.make.ensures.represents m c.args.path.now (Dir []) (c.in-Ok.ensures.represents m st) (c.in-Ok.ensures.placed m st fits) refl
    (c.empty_dir.ensures) (mkdir_well m c.args.path.now c.args.nonce.now st.well fits)

pub returns-in-Ok-clause-due : goal.returns-in-Ok-clause-due
returns-in-Ok-clause-due g c = λ m st fits.
    made_due c.place_at.new.state m (c.in-Ok.ensures.represents m st) c.args.path.now c.in-Ok.place (c.in-Ok.ensures.placed m st fits) c.args.nonce.now (Dir []) refl
    c.make.result

pub returns-in-Ok-clause-brought : goal.returns-in-Ok-clause-brought
returns-in-Ok-clause-brought g c = λ m st pair is.
    c.in-Ok.ensures.brought m st pair (same_names _ _ c.make.ensures.names pair is)
