-- What the listing of a dump contains.
use Rattle.std.proofs.Common.{◌≡◌, ◌⊎◌, ℕ, List, Option, option_map, inl, inr, refl, sym, ap, ◌∙◌, subst, ⊎_elim, arith}
use Rattle.std.specs.Prelude.{Ok, length}
use Rattle.fsc_keys.specs.Keys.{key_id_of}
use Rattle.mount_model.specs.PlainMount.{PlainMount}
use Rattle.mount_model.specs.History.{mount_after}
use Rattle.script_lang.specs.declared.commands.Section.{Section}
use Rattle.fsc_session.specs.Serial.{serial_history}
use Rattle.image_lines.specs.ImageText.{image_text}
use Rattle.image_lines.specs.Reading.{image_read}
use Rattle.image_lines.specs.declared.TheConstants.{MAX_IMAGE_BYTES}
use Rattle.image_lines.proofs.ImageLaws.{images_are_texts}
use Rattle.tree_image.specs.Images.{mount_image}
use Rattle.listing_laws.specs.Laws.{MountImagesAreImages, MountImagesListMounts}
use Rattle.listing_laws.specs.Sizes.{MountImagesAreShort}
use Rattle.fsc_outside.specs.Causes.{Rose}
use Rattle.fsc_outside.specs.Reads.{ReadCall}
use Rattle.fsc_outside.specs.Whole.{GotWhole}
use Rattle.fsc_tool.specs.declared.status.Status.{Status}
use Rattle.fsc_tool.specs.declared.status.Status.TheVariants.{Done, NoMemory}
use Rattle.fsc_tool.specs.DumpLaws.{IsDump, DumpsAreListed, DumpsAreListedWhole, listing_after}
use Rattle.fsc_tool.specs.ImageEnds.{HasListing}
use Rattle.fsc_tool.specs.Inspection.{EndsInspection, IsInspection}
use Rattle.fsc_tool.specs.Outside.{Outside}
use Rattle.fsc_tool.specs.Replay.{IsOrNoMemory, GivenInput}
use Rattle.fsc_tool.proofs.TopLemmas.{gave_told}

module _ (seed : List ℕ) (script : List Section) where
  abbrev left : PlainMount
  left = mount_after (serial_history seed script)

  pub dump_listed : MountImagesListMounts → (raw : Option (List ℕ)) (a b : Outside) (AfterReads : List ReadCall → Type 0) (text : List ℕ)
      (listing : HasListing raw AfterReads a.source b.source text) → IsDump seed script raw listing.input → text ≡ listing_after seed script raw
  dump_listed told raw a b AfterReads text listing dump =
      let image = dump.image dump.agree in
      let read : image_read (image_text (mount_image left)) ≡ Ok listing.image =
      ap image_read (sym image.image) ∙ (images_are_texts listing.input listing.image).1 (listing.right, listing.written) in
      told left image.well image.nonces raw dump.only listing.image text read listing.listing

  pub dump_listed_whole : MountImagesListMounts → MountImagesAreImages → MountImagesAreShort → (raw : Option (List ℕ)) (a b : Outside)
      (AfterReads : List ReadCall → Type 0) (status : Status) (text : List ℕ) → IsDump seed script raw text → GivenInput a b text
      → IsInspection raw AfterReads a b status → ¬ Rose a.sink.faults b.sink.faults
      → ((status ≡ Done) × GotWhole a.sink b.sink (listing_after seed script raw)) ⊎ (status ≡ NoMemory)
  dump_listed_whole told images short raw a b AfterReads status text dump given run quiet =
      let image = dump.image dump.agree in
      let few = (short left image.well image.nonces).read in
      ⊎_elim
      (λ is. inl (is, whole (subst (EndsInspection raw AfterReads a b) is run.ends)))
      (λ is. inr is)
      (run.complete (mount_image left) (subst (GivenInput a b) image.image given) (omega (arith, few)) (images left image.well image.nonces) quiet)
    where
      whole : EndsInspection raw AfterReads a b Done → GotWhole a.sink b.sink (listing_after seed script raw)
      whole done =
          let same : done.right.input ≡ text = gave_told a.source b.source text done.right.input given.left done.right.read.gave in
          subst (GotWhole a.sink b.sink)
          (dump_listed told raw a b AfterReads done.text done.right (subst (IsDump seed script raw) (sym same) dump)) done.written
