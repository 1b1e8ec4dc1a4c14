-- How a run ends that reads an image: what it lists of it, or how the source failed it.
use Rattle.std.specs.Prelude.{◌≡◌, ◌+◌, ℕ, List, Option}
use Rattle.fsc_outside.specs.declared.input.InputLimits.{InputLimits}
use Rattle.fsc_outside.specs.Input.{ReadOneByteMore}
use Rattle.fsc_outside.specs.WholeTexts.{ReadWhole}
use Rattle.fsc_outside.specs.Reads.{ReadCall}
use Rattle.fsc_outside.specs.States.{SourceState}
use Rattle.image_lines.specs.Image.{Image}
use Rattle.image_lines.specs.ImageText.{image_text}
use Rattle.image_lines.specs.Rules.{IsImage}
use Rattle.image_lines.specs.declared.TheConstants.{MAX_IMAGE_BYTES}
use Rattle.tree_listing.specs.Listing.{IsListing}
use Rattle.fsc_tool.specs.ReadEnds.{EndsEarly, ReadSome}
use Rattle.fsc_tool.specs.Outside.{Outside}

-- that many bytes; no text of that length has more lines than these
abbrev pub image_limits : InputLimits
image_limits = record { bytes = MAX_IMAGE_BYTES; lines = MAX_IMAGE_BYTES + 1 }

-- the source gave the text of an image within the limit, by calls of which `AfterReads` holds; the text is
-- the listing of this image with the raw key, or with none
pub record HasListing (raw : Option (List ℕ)) (AfterReads : List ReadCall → Type 0)
    (source source' : SourceState)
    (text : List ℕ) : Type 0 where
  pub input : List ℕ
  pub read : ReadWhole image_limits AfterReads source source' input
  pub image : Image
  pub right : IsImage image
  pub written : input ≡ image_text image
  pub listing : IsListing image raw text

-- the source gave one byte more than the limit
pub record EndsImageTooLong (AfterReads : List ReadCall → Type 0) (a b : Outside) : Type 0 where
  pub early : EndsEarly a b
  pub bytes : List ℕ
  pub gave : ReadOneByteMore image_limits AfterReads a.source b.source bytes
  pub quiet : b.source.faults ≡ a.source.faults

-- there was no memory; nothing failed, and nothing was written
pub record EndsImageNoMemory (AfterReads : List ReadCall → Type 0) (a b : Outside) : Type 0 where
  pub early : EndsEarly a b
  pub read : ReadSome image_limits AfterReads a b
  pub quiet : b.source.faults ≡ a.source.faults
