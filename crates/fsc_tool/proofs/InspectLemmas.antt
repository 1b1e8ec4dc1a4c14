-- What the meaning of a status implies for a run that lists an image, if the source's bytes are known.
use Rattle.std.proofs.Common.{◌≡◌, ℕ, ◌+◌, ◌<◌, ◌≤◌, Bool, true, false, inl, inr, List, length, Option, Some, Ok, Err, refl, sym, ap, ◌∙◌, arith, subst}
use Rattle.std.specs.Prelude.{count_by, if◌then◌else◌}
use Rattle.std.specs.Io.KnownBytes.{Consumes}
use Rattle.std.proofs.lemmas.List.Sums.{count_by-le-length}
use Rattle.text_words.specs.Lines.{is_ended, is_line_feed}
use Rattle.fsc_outside.specs.States.{SourceState}
use Rattle.fsc_outside.specs.Causes.{Rose}
use Rattle.fsc_outside.specs.Input.{ReadOneByteMore, ReadTooManyLines, EndsReading}
use Rattle.fsc_outside.specs.WholeTexts.{ReadToEnd, IsWithin, ReadWhole}
use Rattle.fsc_outside.specs.Reads.{ReadCall}
use Rattle.fsc_outside.specs.declared.input.InputFault.{InputFault}
use Rattle.fsc_outside.specs.declared.input.InputFault.TheVariants as fault
use Rattle.image_lines.specs.Image.{Image}
use Rattle.image_lines.specs.ImageText.{image_text}
use Rattle.image_lines.specs.Reading.{image_read}
use Rattle.image_lines.specs.Rules.{IsImage}
use Rattle.image_lines.specs.declared.TheConstants.{MAX_IMAGE_BYTES}
use Rattle.fsc_tool.specs.declared.status.Status.{Status}
use Rattle.fsc_tool.specs.declared.status.Status.TheVariants.{Done, Usage, BadLine, ReadFault, WriteFault, SeedFault, TooLong, Refused, NoMemory}
use Rattle.mount_model.specs.History.{History}
use Rattle.fsc_tool.specs.declared.form.ToolForm.{ToolForm}
use Rattle.fsc_tool.specs.declared.form.ToolForm.TheVariants.{Inspect}
use Rattle.fsc_tool.specs.Tool.{IsRunIn}
use Rattle.fsc_tool.specs.Faults.{input_status, image_status}
use Rattle.image_lines.proofs.ImageLaws.{images_are_texts}
use Rattle.image_lines.specs.ReadFaults.{IsReadFault}
use Rattle.image_lines.specs.declared.fault.ImageFault.{ImageFault}
use Rattle.image_lines.specs.declared.fault.ImageFault.TheVariants as image
use Rattle.fsc_tool.specs.Inspection.{EndsInspection, IsInspection}
use Rattle.fsc_tool.specs.ImageEnds.{HasListing, image_limits}
use Rattle.fsc_tool.specs.Outside.{Outside}
use Rattle.fsc_tool.specs.Replay.{IsOrNoMemory, GivenInput}
use Rattle.fsc_tool.specs.Written.{EndsLog}
use Rattle.fsc_tool.proofs.TopLemmas.{gave_told, told_part}

-- the text of an image is read as that image
is_read : (image : Image) (input : List ℕ) → IsImage image → input ≡ image_text image → image_read input ≡ Ok image
is_read image input right written = (images_are_texts input image).1 (right, written)

-- a known input was read whole
same_read : (old new : SourceState) (input bytes : List ℕ) → old.left ≡ Some input → ReadToEnd old new bytes → image_read bytes ≡ image_read input
same_read old new input bytes told gave = ap image_read (gave_told old new input bytes told gave)

not_short : (old new : SourceState) (input bytes : List ℕ) → old.left ≡ Some input → ReadToEnd old new bytes
    → IsWithin image_limits bytes → MAX_IMAGE_BYTES < length input → ⊥
not_short old new input bytes told gave short long =
    let within : length input ≤ MAX_IMAGE_BYTES =
    subst (λ (xs : List ℕ). length xs ≤ MAX_IMAGE_BYTES) (gave_told old new input bytes told gave) short.bytes in
    omega (arith, within, long)

not_long : (AfterReads : List ReadCall → Type 0) (old new : SourceState) (input bytes : List ℕ) → old.left ≡ Some input
    → ReadOneByteMore image_limits AfterReads old new bytes → length input ≤ MAX_IMAGE_BYTES → ⊥
not_long AfterReads old new input bytes told more within =
    let part = told_part new.left input bytes (subst (λ (left : Option (List ℕ)). Consumes left new.left bytes) told more.given) in
    let size : length bytes ≡ MAX_IMAGE_BYTES + 1 = more.size in
    omega (arith, part, size, within)

-- no text within the limit of bytes has too many lines
few_lines : (AfterReads : List ReadCall → Type 0) (old new : SourceState) (bytes : List ℕ) → ReadTooManyLines image_limits AfterReads old new bytes → ⊥
few_lines AfterReads old new bytes more = at (is_ended bytes) more.lines
  where
    at : (ended : Bool) → MAX_IMAGE_BYTES + 1 < count_by is_line_feed bytes + (if ended then 0 else 1) → ⊥
    at true lines =
        let count = count_by-le-length is_line_feed bytes in
        let size : length bytes ≤ MAX_IMAGE_BYTES = more.size in omega (arith, count, lines, size)
    at false lines =
        let count = count_by-le-length is_line_feed bytes in
        let size : length bytes ≤ MAX_IMAGE_BYTES = more.size in omega (arith, count, lines, size)

module _ (raw : Option (List ℕ)) (AfterReads : List ReadCall → Type 0) (a b : Outside) where
  long_ends : (status : Status) → EndsInspection raw AfterReads a b status → (input : List ℕ) → GivenInput a b input → MAX_IMAGE_BYTES < length input
      → IsOrNoMemory TooLong status
  long_ends TooLong h input told long = inl refl
  long_ends NoMemory h input told long = inr refl
  long_ends Usage h input told long = absurd h
  long_ends (Refused place) h input told long = absurd h
  long_ends SeedFault h input told long = absurd h
  long_ends ReadFault h input told long = absurd (told.read h.part.cause)
  long_ends Done h input told long = absurd (not_short a.source b.source input h.right.input told.left h.right.read.gave h.right.read.within long)
  long_ends WriteFault h input told long = absurd (not_short a.source b.source input h.right.input told.left h.right.read.gave h.right.read.within long)
  long_ends (BadLine line) h input told long = absurd (not_short a.source b.source input h.input told.left h.read.gave h.read.within long)

  listing_is_none : (input : List ℕ) (line : ℕ) (text : List ℕ) → GivenInput a b input → image_read input ≡ Err line
      → HasListing raw AfterReads a.source b.source text → ⊥
  listing_is_none input line text told bad h =
      let same = sym (is_read h.image h.input h.right h.written) ∙ same_read a.source b.source input h.input told.left h.read.gave ∙ bad in
      cc same

  bad_line_ends : (status : Status) → EndsInspection raw AfterReads a b status → (input : List ℕ) (line : ℕ) → GivenInput a b input
      → length input ≤ MAX_IMAGE_BYTES → image_read input ≡ Err line → IsOrNoMemory (BadLine line) status
  bad_line_ends NoMemory h input line told within bad = inr refl
  bad_line_ends Usage h input line told within bad = absurd h
  bad_line_ends (Refused place) h input line told within bad = absurd h
  bad_line_ends SeedFault h input line told within bad = absurd h
  bad_line_ends ReadFault h input line told within bad = absurd (told.read h.part.cause)
  bad_line_ends TooLong h input line told within bad = absurd (not_long AfterReads a.source b.source input h.bytes told.left h.gave within)
  bad_line_ends (BadLine other) h input line told within bad =
      let same = sym h.bad ∙ same_read a.source b.source input h.input told.left h.read.gave ∙ bad in inl (ap BadLine (cc same))
  bad_line_ends Done h input line told within bad = absurd (listing_is_none input line h.text told bad h.right)
  bad_line_ends WriteFault h input line told within bad = absurd (listing_is_none input line h.text told bad h.right)

  image_ends : (status : Status) → EndsInspection raw AfterReads a b status → (image : Image) → GivenInput a b (image_text image)
      → length (image_text image) ≤ MAX_IMAGE_BYTES → IsImage image → ¬ Rose a.sink.faults b.sink.faults → IsOrNoMemory Done status
  image_ends Done h image told within right written = inl refl
  image_ends NoMemory h image told within right written = inr refl
  image_ends Usage h image told within right written = absurd h
  image_ends (Refused place) h image told within right written = absurd h
  image_ends SeedFault h image told within right written = absurd h
  image_ends ReadFault h image told within right written = absurd (told.read h.part.cause)
  image_ends WriteFault h image told within right written = absurd (written h.written.cause)
  image_ends TooLong h image told within right written = absurd (not_long AfterReads a.source b.source (image_text image) h.bytes told.left h.gave within)
  image_ends (BadLine line) h image told within right written =
      let same = sym h.bad ∙ same_read a.source b.source (image_text image) h.input told.left h.read.gave ∙ is_read image (image_text image) right refl in
      absurd (cc same)

  -- ---- the theorem, from what each status means

  pub inspection_is : (status : Status) → b.seeds ≡ a.seeds → EndsInspection raw AfterReads a b status → IsInspection raw AfterReads a b status
  inspection_is status still h = record {
    ends = h;
    unasked = still;
    too_long = long_ends status h;
    bad_line = bad_line_ends status h;
    complete = image_ends status h;
  }

  -- ---- what a run does, from its parts

  -- an input that isn't read
  pub unread_ends : (fault : InputFault) → EndsReading image_limits AfterReads a.source b.source (Err fault) → b.sink ≡ a.sink → b.seeds ≡ a.seeds
      → EndsInspection raw AfterReads a b (input_status fault)
  unread_ends fault.ReadFault h unwritten unasked = record { early = record { unwritten = unwritten; unasked = unasked }; part = h }
  unread_ends fault.NoMemory h unwritten unasked =
      record { early = record { unwritten = unwritten; unasked = unasked }; read = inl h; quiet = h.quiet }
  unread_ends fault.TooLong h unwritten unasked = elim h.gave [
    | inl more ↦ record { early = record { unwritten = unwritten; unasked = unasked }; bytes = h.bytes; gave = more; quiet = h.quiet }
    | inr lines ↦ absurd (few_lines AfterReads a.source b.source h.bytes lines)
  ]

  -- an input that is read whole, after which there was no memory
  pub want_ends : (input : List ℕ) → ReadWhole image_limits AfterReads a.source b.source input → b.sink ≡ a.sink → b.seeds ≡ a.seeds
      → EndsInspection raw AfterReads a b NoMemory
  want_ends input read unwritten unasked =
      record { early = record { unwritten = unwritten; unasked = unasked }; read = inr (input, read); quiet = read.quiet }

  -- and one that isn't an image
  pub no_image_ends : (input : List ℕ) (fault : ImageFault) → ReadWhole image_limits AfterReads a.source b.source input → IsReadFault fault (image_read input)
      → b.sink ≡ a.sink → b.seeds ≡ a.seeds → EndsInspection raw AfterReads a b (image_status fault)
  no_image_ends input (image.BadLine line) read bad unwritten unasked =
      record { early = record { unwritten = unwritten; unasked = unasked }; input = input; read = read; bad = bad }
  no_image_ends input image.NoMemory read bad unwritten unasked = want_ends input read unwritten unasked

  -- a listing that was written
  pub listed_ends : (text : List ℕ) (status : Status) → HasListing raw AfterReads a.source b.source text → EndsLog text a.sink b.sink status
      → b.seeds ≡ a.seeds → IsInspection raw AfterReads a b status
  listed_ends text Done right h still = inspection_is Done still (record { text = text; right = right; written = h })
  listed_ends text WriteFault right h still = inspection_is WriteFault still (record { text = text; right = right; written = h })
  listed_ends text NoMemory right h still = inspection_is NoMemory still (want_ends right.input right.read h still)
  listed_ends text Usage right h still = absurd h
  listed_ends text (Refused place) right h still = absurd h
  listed_ends text (BadLine line) right h still = absurd h
  listed_ends text ReadFault right h still = absurd h
  listed_ends text SeedFault right h still = absurd h
  listed_ends text TooLong right h still = absurd h

  pub never_usage : (status : Status) → EndsInspection raw AfterReads a b status → status ≡ Usage → ⊥
  never_usage status h is = subst (λ (s : Status). EndsInspection raw AfterReads a b s) is h

  -- ---- the form

  pub inspects : (lawful other : History → Type 0) (form : ToolForm) (status : Status) → IsInspection raw AfterReads a b status
      → form ≡ Inspect raw → IsRunIn lawful other AfterReads (Some form) a b status
  inspects lawful other form status run is = subst (λ (asked : ToolForm). IsRunIn lawful other AfterReads (Some asked) a b status) (sym is) run
