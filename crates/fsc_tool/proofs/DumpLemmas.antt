-- Which run an image is of.
use Rattle.std.proofs.Common.{◌≡◌, ℕ, false, List, sym, ap, ◌∙◌, subst}
use Rattle.std.specs.List.{list_any}
use Rattle.call_history.specs.Placed.{entries_of}
use Rattle.call_history.proofs.Placing.{map-numbered}
use Rattle.mount_model.specs.History.{History, NeverOutOfMemory, is_out_of_memory, mount_after}
use Rattle.mount_model.specs.Lawful.{KeysAgree}
use Rattle.mount_shared.specs.IsStateAfter.{IsStateAfter}
use Rattle.mount_state.specs.declared.state.MountState.{MountState}
use Rattle.script_lang.specs.declared.commands.Section.{Section}
use Rattle.reply_text.specs.Logged.{PlacedLogged, LoggedEntry, LoggedHistory, logged_history}
use Rattle.reply_text.specs.declared.notes.Note.{Note}
use Rattle.image_lines.specs.ImageText.{image_text}
use Rattle.tree_image.specs.Images.{image_of}
use Rattle.tree_image.proofs.ImageLemmas.{images_agree}
use Rattle.listing_laws.proofs.NonceLemmas.{have_nonces}
use Rattle.fsc_session.specs.Serial.{serial_history}
use Rattle.fsc_session.proofs.SerialLemmas.{lawful_serial}
use Rattle.fsc_tool.specs.ImageOfRun.{IsImageAfter, IsImageOfRun, RanOnMount}
use Rattle.fsc_tool.proofs.NonceLemmas.{run_nonces}
use Rattle.fsc_tool.proofs.GenLemmas.{never_wants, unplaced_want}

-- the image of the disk that a run in rotation left
pub image_is : (seed : List ℕ) (script : List Section) (told : PlacedLogged) (notes : List Note) (state : MountState) (text : List ℕ)
    → RanOnMount seed script told notes state → list_any (λ (x : ℕ × LoggedEntry). is_out_of_memory x.1.reply) told ≡ false
    → text ≡ image_text (image_of state.disk) → IsImageOfRun seed script text
image_is seed script told notes state text ran none written =
    let is : entries_of told ≡ logged_history ran.history = ap entries_of ran.in_place ∙ map-numbered 0 (logged_history ran.history) in
    let no_out_of_memory : NeverOutOfMemory ran.history =
    never_wants ran.history
    (subst (λ (h : LoggedHistory). list_any (λ (e : LoggedEntry). is_out_of_memory e.reply) h ≡ false) is (unplaced_want told ∙ none)) in
    let reached_by : IsStateAfter ran.history state = ran.run.1 in
    λ agree.
    let same : ran.history ≡ serial_history seed script =
    lawful_serial seed script ran.history ran.run.0.order.0 ran.run.0.order.1 ran.run.0.run.lawfully no_out_of_memory agree in
    let own : KeysAgree ran.history = subst KeysAgree (sym same) agree in
    subst (λ (h : History). IsImageAfter seed script h text) same (record {
      run = ran.run.0;
      no_out_of_memory = no_out_of_memory;
      image = written ∙ ap image_text (images_agree state.disk state.next_node (mount_after ran.history) (reached_by.represents own).tree);
      well = (reached_by.represents own).well;
      nonces = have_nonces ran.history (run_nonces seed script ran.history ran.run.0.run.callers);
    })
