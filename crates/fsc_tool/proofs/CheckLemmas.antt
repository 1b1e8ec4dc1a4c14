-- What the meaning of a status implies for a run that checks a log, if the source's bytes are known.
use Rattle.std.proofs.Common.{◌≡◌, ◌⊎◌, ℕ, ◌+◌, ◌<◌, ◌≤◌, Bool, true, false, inl, inr, List, length, Option, Some, Ok, Err, refl, sym, ap, ◌∙◌, arith, subst}
use Rattle.std.specs.Prelude.{count_by, if◌then◌else◌}
use Rattle.std.specs.Io.KnownBytes.{Consumes}
use Rattle.std.proofs.lemmas.List.Sums.{count_by-le-length}
use Rattle.text_words.specs.Lines.{is_ended, is_line_feed}
use Rattle.fsc_outside.specs.States.{SourceState}
use Rattle.fsc_outside.specs.Input.{ReadOneByteMore, ReadTooManyLines, EndsReading}
use Rattle.fsc_outside.specs.WholeTexts.{IsWithin, ReadWhole}
use Rattle.fsc_outside.specs.Reads.{ReadCall}
use Rattle.fsc_outside.specs.declared.input.InputFault.{InputFault}
use Rattle.fsc_outside.specs.declared.input.InputFault.TheVariants as fault
use Rattle.script_lang.specs.declared.commands.Section.{Section}
use Rattle.mount_model.specs.History.{History}
use Rattle.fsc_tool.specs.declared.limits.TheConstants.{MAX_CERTIFICATE_BYTES}
use Rattle.fsc_tool.specs.declared.status.Status.{Status}
use Rattle.fsc_tool.specs.declared.status.Status.TheVariants.{Done, Usage, BadLine, ReadFault, WriteFault, SeedFault, TooLong, Refused, NoMemory}
use Rattle.fsc_tool.specs.declared.form.ToolForm.{ToolForm}
use Rattle.fsc_tool.specs.declared.form.ToolForm.TheVariants.{Check, CheckStrictly}
use Rattle.fsc_tool.specs.Checking.{EndsChecking, IsChecking}
use Rattle.fsc_tool.specs.CheckStatus.{IsVerdict, StatusOfInput}
use Rattle.fsc_tool.specs.CertificateEnds.{certificate_limits}
use Rattle.fsc_tool.specs.ReadEnds.{EndsEarly}
use Rattle.fsc_tool.specs.Faults.{input_status}
use Rattle.fsc_tool.specs.Limits.{input_limits, IsLong}
use Rattle.fsc_tool.specs.Outside.{Outside}
use Rattle.fsc_tool.specs.Splitting.{read_certificate, script_part}
use Rattle.fsc_tool.specs.Replay.{IsOrNoMemory, GivenInput}
use Rattle.fsc_tool.specs.Tool.{IsRunIn}
use Rattle.fsc_tool.proofs.TopLemmas.{gave_told, told_part}

not_long : (AfterReads : List ReadCall → Type 0) (old new : SourceState) (input bytes : List ℕ) → old.left ≡ Some input
    → ReadOneByteMore certificate_limits AfterReads old new bytes → length input ≤ MAX_CERTIFICATE_BYTES → ⊥
not_long AfterReads old new input bytes told more within =
    let part = told_part new.left input bytes (subst (λ (left : Option (List ℕ)). Consumes left new.left bytes) told more.given) in
    let size : length bytes ≡ MAX_CERTIFICATE_BYTES + 1 = more.size in
    omega (arith, part, size, within)

-- no text within the limit of bytes has too many lines
few_lines : (AfterReads : List ReadCall → Type 0) (old new : SourceState) (bytes : List ℕ) → ReadTooManyLines certificate_limits AfterReads old new bytes → ⊥
few_lines AfterReads old new bytes more = at (is_ended bytes) more.lines
  where
    at : (ended : Bool) → MAX_CERTIFICATE_BYTES + 1 < count_by is_line_feed bytes + (if ended then 0 else 1) → ⊥
    at true lines =
        let count = count_by-le-length is_line_feed bytes in
        let size : length bytes ≤ MAX_CERTIFICATE_BYTES = more.size in omega (arith, count, lines, size)
    at false lines =
        let count = count_by-le-length is_line_feed bytes in
        let size : length bytes ≤ MAX_CERTIFICATE_BYTES = more.size in omega (arith, count, lines, size)

-- a text within limits isn't beyond one
pub not_both : (part : List ℕ) → IsWithin input_limits part → IsLong part → ⊥
not_both part within long = elim long [
  | inl many ↦ (let short = within.bytes in omega (arith, many, short))
  | inr many ↦ (let few = within.lines in omega (arith, many, few))
]

module _ (strict : Bool) (seed : List ℕ) (AfterReads : List ReadCall → Type 0) (a b : Outside) where
  -- an input that was read whole is the known one
  same : (input bytes : List ℕ) → GivenInput a b input → ReadWhole certificate_limits AfterReads a.source b.source bytes → bytes ≡ input
  same input bytes told read = gave_told a.source b.source input bytes told.left read.gave

  not_short : (input bytes : List ℕ) → GivenInput a b input → ReadWhole certificate_limits AfterReads a.source b.source bytes
      → IsWithin input_limits (script_part bytes) → (MAX_CERTIFICATE_BYTES < length input) ⊎ IsLong (script_part input) → ⊥
  not_short input bytes told read within long =
      let is = same input bytes told read in
      let most : length input ≤ MAX_CERTIFICATE_BYTES = subst (λ (xs : List ℕ). length xs ≤ MAX_CERTIFICATE_BYTES) is read.within.bytes in
      elim long [
        | inl many ↦ omega (arith, many, most)
        | inr part ↦ not_both (script_part input) (subst (λ (xs : List ℕ). IsWithin input_limits (script_part xs)) is within) part
      ]

  long_ends : (status : Status) → EndsChecking strict seed AfterReads a b status → (input : List ℕ) → GivenInput a b input
      → (MAX_CERTIFICATE_BYTES < length input) ⊎ IsLong (script_part input) → IsOrNoMemory TooLong status
  long_ends TooLong h input told long = inl refl
  long_ends NoMemory h input told long = inr refl
  long_ends Usage h input told long = absurd h
  long_ends SeedFault h input told long = absurd h
  long_ends WriteFault h input told long = absurd h
  long_ends ReadFault h input told long = absurd (told.read h.part.cause)
  long_ends Done h input told long = absurd (not_short input h.input told h.read h.is_so.within long)
  long_ends (Refused place) h input told long = absurd (not_short input h.input told h.read h.is_so.within long)
  long_ends (BadLine line) h input told long = absurd (not_short input h.input told h.read h.is_so.within long)

  -- how a known input is read
  read_so : (input bytes : List ℕ) → GivenInput a b input → ReadWhole certificate_limits AfterReads a.source b.source bytes
      → read_certificate bytes ≡ read_certificate input
  read_so input bytes told read = ap read_certificate (same input bytes told read)

  -- the status isn't `TooLong` for a known input within the limits
  not_too_long : (input : List ℕ) → GivenInput a b input → length input ≤ MAX_CERTIFICATE_BYTES → IsWithin input_limits (script_part input)
      → EndsChecking strict seed AfterReads a b TooLong → ⊥
  not_too_long input told most within h = elim h [
    | inl more ↦ not_long AfterReads a.source b.source input more.bytes told.left more.gave most
    | inr part ↦ not_both (script_part input) within
        (subst (λ (xs : List ℕ). IsLong (script_part xs)) (same input part.input told part.read) part.is_so)
  ]

  bad_line_ends : (status : Status) → EndsChecking strict seed AfterReads a b status → (input : List ℕ) (line : ℕ) → GivenInput a b input
      → length input ≤ MAX_CERTIFICATE_BYTES → IsWithin input_limits (script_part input) → read_certificate input ≡ Err line
      → IsOrNoMemory (BadLine line) status
  bad_line_ends NoMemory h input line told most within bad = inr refl
  bad_line_ends Usage h input line told most within bad = absurd h
  bad_line_ends SeedFault h input line told most within bad = absurd h
  bad_line_ends WriteFault h input line told most within bad = absurd h
  bad_line_ends ReadFault h input line told most within bad = absurd (told.read h.part.cause)
  bad_line_ends TooLong h input line told most within bad = absurd (not_too_long input told most within h)
  bad_line_ends (BadLine other) h input line told most within bad =
      let is = sym h.is_so.bad ∙ read_so input h.input told h.read ∙ bad in inl (ap BadLine (cc is))
  bad_line_ends Done h input line told most within bad =
      let is = sym h.is_so.parts ∙ read_so input h.input told h.read ∙ bad in absurd (cc is)
  bad_line_ends (Refused place) h input line told most within bad =
      let is = sym h.is_so.parts ∙ read_so input h.input told h.read ∙ bad in absurd (cc is)

  verdict_ends : (status : Status) → EndsChecking strict seed AfterReads a b status → (input : List ℕ) (parts : List Section × List ℕ) → GivenInput a b input
      → length input ≤ MAX_CERTIFICATE_BYTES → IsWithin input_limits (script_part input) → read_certificate input ≡ Ok parts
      → IsVerdict status ⊎ (status ≡ NoMemory)
  verdict_ends NoMemory h input parts told most within read = inr refl
  verdict_ends Usage h input parts told most within read = absurd h
  verdict_ends SeedFault h input parts told most within read = absurd h
  verdict_ends WriteFault h input parts told most within read = absurd h
  verdict_ends ReadFault h input parts told most within read = absurd (told.read h.part.cause)
  verdict_ends TooLong h input parts told most within read = absurd (not_too_long input told most within h)
  verdict_ends Done h input parts told most within read = inl (inl refl)
  verdict_ends (Refused place) h input parts told most within read = inl (inr (place, refl))
  verdict_ends (BadLine line) h input parts told most within read =
      let is = sym h.is_so.bad ∙ read_so input h.input told h.read ∙ read in absurd (cc is)

  -- ---- the theorem, from what each status means

  pub checking_is : (status : Status) → EndsEarly a b → EndsChecking strict seed AfterReads a b status → IsChecking strict seed AfterReads a b status
  checking_is status early h = record {
    ends = h;
    silent = early;
    too_long = long_ends status h;
    bad_line = bad_line_ends status h;
    complete = verdict_ends status h;
  }

  -- ---- what a run does, from its parts

  -- an input that isn't read
  pub unread_ends : (fault : InputFault) → EndsReading certificate_limits AfterReads a.source b.source (Err fault) → EndsEarly a b
      → EndsChecking strict seed AfterReads a b (input_status fault)
  unread_ends fault.ReadFault h early = record { early = early; part = h }
  unread_ends fault.NoMemory h early = record { read = inl h; quiet = h.quiet }
  unread_ends fault.TooLong h early = elim h.gave [
    | inl more ↦ inl (record { bytes = h.bytes; gave = more; quiet = h.quiet })
    | inr lines ↦ absurd (few_lines AfterReads a.source b.source h.bytes lines)
  ]

  -- and one that is
  pub read_ends : (input : List ℕ) (status : Status) → ReadWhole certificate_limits AfterReads a.source b.source input → StatusOfInput strict seed input status
      → EndsChecking strict seed AfterReads a b status
  read_ends input Done read so = record { input = input; read = read; is_so = so }
  read_ends input (Refused place) read so = record { input = input; read = read; is_so = so }
  read_ends input (BadLine line) read so = record { input = input; read = read; is_so = so }
  read_ends input TooLong read so = inr (record { input = input; read = read; is_so = so })
  read_ends input NoMemory read so = record { read = inr (input, read); quiet = read.quiet }
  read_ends input Usage read so = absurd so
  read_ends input ReadFault read so = absurd so
  read_ends input WriteFault read so = absurd so
  read_ends input SeedFault read so = absurd so

  pub never_usage : (status : Status) → EndsChecking strict seed AfterReads a b status → status ≡ Usage → ⊥
  never_usage status h is = subst (λ (s : Status). EndsChecking strict seed AfterReads a b s) is h

-- ---- the forms

pub checks : (seed : List ℕ) (AfterReads : List ReadCall → Type 0) (a b : Outside) (lawful other : History → Type 0) (form : ToolForm) (status : Status)
    → IsChecking false seed AfterReads a b status → form ≡ Check seed → IsRunIn lawful other AfterReads (Some form) a b status
checks seed AfterReads a b lawful other form status run is = subst (λ (asked : ToolForm). IsRunIn lawful other AfterReads (Some asked) a b status) (sym is) run

pub checks_strictly : (seed : List ℕ) (AfterReads : List ReadCall → Type 0) (a b : Outside) (lawful other : History → Type 0) (form : ToolForm) (status : Status)
    → IsChecking true seed AfterReads a b status → form ≡ CheckStrictly seed → IsRunIn lawful other AfterReads (Some form) a b status
checks_strictly seed AfterReads a b lawful other form status run is = subst (λ (asked : ToolForm). IsRunIn lawful other AfterReads (Some asked) a b status) (sym is) run
