use Rattle.std.proofs.Common.{ℕ, List, [], refl, ap, ◌∙◌}
use Rattle.plain_tree.specs.Nodes.{File}
use Rattle.disk_tree.specs.declared.node.Body.TheVariants as stored
use Rattle.mount_names.proofs.MakeLemmas.{made_due, create_well, no_stored_blocks}
use Rattle.mount_state.proofs.PassedEntryLemmas.{same_names}
use Rattle.mount_names.proofs.makes.create.Goals as goal

pub returns-in-Ok-clause-represents : goal.returns-in-Ok-clause-represents
returns-in-Ok-clause-represents g c = λ m st fits.
    c.make.ensures.represents m c.args.path.now (File []) (c.in-Ok.ensures.represents m st) (c.in-Ok.ensures.placed m st fits) refl
    (c.empty_file.ensures ∙ ap (λ (bs : List (List ℕ)). stored.File bs 0) (no_stored_blocks _)) (create_well m c.args.path.now c.args.nonce.now st.well fits)

pub returns-in-Ok-clause-due : goal.returns-in-Ok-clause-due
returns-in-Ok-clause-due g c = λ m st fits.
    made_due c.place_at.new.state m (c.in-Ok.ensures.represents m st) c.args.path.now c.in-Ok.place (c.in-Ok.ensures.placed m st fits) c.args.nonce.now (File []) refl
    c.make.result

pub returns-in-Ok-clause-brought : goal.returns-in-Ok-clause-brought
returns-in-Ok-clause-brought g c = λ m st pair is.
    c.in-Ok.ensures.brought m st pair (same_names _ _ c.make.ensures.names pair is)
