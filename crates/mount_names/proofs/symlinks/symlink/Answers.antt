use Rattle.std.proofs.Common.{◌≡◌, false, nat_lt, sym, ap, ◌∙◌}
use Rattle.plain_tree.specs.Nodes.{Link}
use Rattle.name_crypt.specs.declared.limits.TheConstants.{MAX_NAME_BYTES}
use Rattle.mount_model.specs.NameAnswers.{is_long_target}
use Rattle.mount_names.proofs.MakeLemmas.{made_due}
use Rattle.mount_names.proofs.LinkLemmas.{symlink_well}
use Rattle.mount_state.proofs.PassedEntryLemmas.{same_names}
use Rattle.mount_names.proofs.symlinks.symlink.Goals as goal

pub returns-in-Ok-clause-represents : goal.returns-in-Ok-clause-represents
returns-in-Ok-clause-represents g c = λ m st fits target.
    let short : is_long_target (Link c.args.target.now) ≡ false = ap (nat_lt MAX_NAME_BYTES) (sym c.len-long.ensures) ∙ c.in-Ok.ensures.short in
    c.link_at.ensures.represents m c.args.path.now (c.in-Ok.ensures.represents m st) (c.in-Ok.ensures.placed m st fits) short target
    (symlink_well m c.args.path.now c.args.nonce.now c.args.target.now st.well fits target)

pub returns-in-Ok-clause-due : goal.returns-in-Ok-clause-due
returns-in-Ok-clause-due g c = λ m st fits target.
    let short : is_long_target (Link c.args.target.now) ≡ false = ap (nat_lt MAX_NAME_BYTES) (sym c.len-long.ensures) ∙ c.in-Ok.ensures.short in
    made_due c.place_at.new.state m (c.in-Ok.ensures.represents m st) c.args.path.now c.in-Ok.place (c.in-Ok.ensures.placed m st fits) c.args.nonce.now
    (Link c.args.target.now) short c.link_at.result

pub returns-in-Ok-clause-brought : goal.returns-in-Ok-clause-brought
returns-in-Ok-clause-brought g c = λ m st pair is.
    c.in-Ok.ensures.brought m st pair (same_names _ _ c.link_at.ensures.names pair is)
