use Rattle.std.proofs.Common.{false}
use Rattle.mount_model.specs.declared.reply.Refusal.TheVariants.{Inval}
use Rattle.mount_model.specs.UnlinkAnswers.{answer_to_rmdir}
use Rattle.mount_model.specs.EntryPaths.{is_root}
use Rattle.mount_names.proofs.FoundLemmas.{end_refused}
use Rattle.mount_names.proofs.PlaceLemmas.{some_parts}
use Rattle.mount_names.proofs.RemovalLemmas.{unlinked_dir, rmdir_well, refused_given}
use Rattle.mount_names.proofs.removals.rmdir.Goals as goal

pub returns-in-Ok-clause-represents : goal.returns-in-Ok-clause-represents
returns-in-Ok-clause-represents g c = λ m st fits.
    let path = c.args.path.now in
    c.remove_dir.ensures.represents m path (c.in-Ok.ensures.represents m st) (some_parts path c.is_empty.result c.if-is_empty.false c.is_empty.ensures.1)
    (c.in-Ok.ensures.value m st) c.last_bytes.ensures (rmdir_well m path st.well fits)

pub returns-in-Err-clause-represents : goal.returns-in-Err-clause-represents
returns-in-Err-clause-represents g c = λ m st fits.
    let path = c.args.path.now in
    let named = some_parts path c.is_empty.result c.if-is_empty.false c.is_empty.ensures.1 in
    refused_given m (answer_to_rmdir m path) c.in-Err.refusal
    (end_refused m path false c.in-Err.refusal (c.in-Err.ensures.value m st) (is_root path) named Inval (unlinked_dir m)) c.entry_at.new.state (c.in-Err.ensures.represents m st)

pub returns-in-Ok-clause-brought : goal.returns-in-Ok-clause-brought
returns-in-Ok-clause-brought g c = λ m st pair is. c.in-Ok.ensures.brought m st pair (c.remove_dir.ensures.no_more pair is)
