-- A run that lists an image: what it writes, and how it ends. It asks for no seed.
use Rattle.std.specs.Prelude.{◌≡◌, ◌<◌, ◌≤◌, ℕ, List, length, replicate, Option, Err}
use Rattle.std.specs.Option.{option_map}
use Rattle.fsc_outside.specs.Causes.{Rose}
use Rattle.fsc_outside.specs.Reads.{ReadCall}
use Rattle.image_lines.specs.Image.{Image}
use Rattle.image_lines.specs.ImageText.{image_text}
use Rattle.image_lines.specs.Reading.{image_read}
use Rattle.image_lines.specs.Rules.{IsImage}
use Rattle.image_lines.specs.declared.TheConstants.{MAX_IMAGE_BYTES}
use Rattle.fsc_tool.specs.declared.status.Status.{Status}
use Rattle.fsc_tool.specs.declared.status.Status.TheVariants.{Done, BadLine, ReadFault, WriteFault, TooLong}
use Rattle.fsc_tool.specs.declared.status.Status.TheVariants.{NoMemory}
use Rattle.fsc_tool.specs.ReadEnds.{EndsBadLine, EndsReadFault}
use Rattle.fsc_tool.specs.TextEnds.{EndsDone, EndsWriteFault}
use Rattle.fsc_tool.specs.Outside.{Outside}
use Rattle.fsc_tool.specs.Replay.{IsOrNoMemory, GivenInput}
use Rattle.fsc_tool.specs.ImageEnds.{image_limits, HasListing, EndsImageTooLong, EndsImageNoMemory}

-- zeros in place of the raw key, if there is one
abbrev pub wiped_key : Option (List ℕ) → Option (List ℕ)
wiped_key raw = option_map (λ key. replicate (length key) 0) raw

-- what the status means; no other status is possible
abbrev pub EndsInspection : Option (List ℕ) → (List ReadCall → Type 0) → Outside → Outside → Status → Type 0
EndsInspection raw AfterReads a b Done = EndsDone (HasListing raw AfterReads a.source b.source) a.sink b.sink
EndsInspection raw AfterReads a b WriteFault
    = EndsWriteFault (HasListing raw AfterReads a.source b.source) a.sink b.sink
EndsInspection raw AfterReads a b (BadLine line) = EndsBadLine image_limits image_read AfterReads line a b
EndsInspection raw AfterReads a b ReadFault = EndsReadFault image_limits AfterReads a b
EndsInspection raw AfterReads a b TooLong = EndsImageTooLong AfterReads a b
EndsInspection raw AfterReads a b NoMemory = EndsImageNoMemory AfterReads a b
EndsInspection raw AfterReads a b other = ⊥

-- a run that lists an image with the raw key, or with none; `AfterReads` holds of the source's calls in
-- between
pub record IsInspection (raw : Option (List ℕ)) (AfterReads : List ReadCall → Type 0) (a b : Outside)
    (status : Status)
    : Type 0 where
  -- what the status means, with its cause and what was read
  pub ends : EndsInspection raw AfterReads a b status
  -- no seed is asked for
  pub unasked : b.seeds ≡ a.seeds
  -- the other statuses, for a source with known bytes
  pub too_long : (input : List ℕ) → GivenInput a b input → MAX_IMAGE_BYTES < length input
      → IsOrNoMemory TooLong status
  pub bad_line : (input : List ℕ) (line : ℕ) → GivenInput a b input → length input ≤ MAX_IMAGE_BYTES
      → image_read input ≡ Err line → IsOrNoMemory (BadLine line) status
  pub complete : (image : Image) → GivenInput a b (image_text image)
      → length (image_text image) ≤ MAX_IMAGE_BYTES
      → IsImage image → ¬ Rose a.sink.faults b.sink.faults → IsOrNoMemory Done status
