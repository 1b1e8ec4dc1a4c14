-- What the meaning of a status implies for it, if the source's bytes are known.
use Rattle.std.proofs.Common.{◌≡◌, ℕ, ◌<◌, ◌≤◌, ◌^◌, inl, inr, List, ◌++◌, length, Option, Some, None, Err, refl, sym, ap, ap₂, ◌∙◌, arith, subst, append-nil, length-append}
use Rattle.std.proofs.lemmas.List.{length-map}
use Rattle.std.specs.Io.KnownBytes.{Consumes, IsAtEnd}
use Rattle.text_words.specs.Lines.{line_count}
use Rattle.mount_model.specs.History.{History}
use Rattle.script_lang.specs.declared.commands.Section.{Section}
use Rattle.script_lang.specs.Script.{parsed_script}
use Rattle.fsc_outside.specs.States.{SourceState, SeedState}
use Rattle.fsc_outside.specs.Input.{ReadIsTooLong}
use Rattle.fsc_outside.specs.WholeTexts.{ReadToEnd, IsWithin}
use Rattle.fsc_outside.specs.Reads.{ReadCall}
use Rattle.fsc_tool.specs.declared.status.Status.{Status}
use Rattle.fsc_tool.specs.declared.status.Status.TheVariants.{Done, Usage, BadLine, ReadFault, WriteFault, SeedFault, TooLong, Refused, NoMemory}
use Rattle.fsc_tool.specs.declared.form.Seeding.{Seeding}
use Rattle.fsc_tool.specs.declared.form.Seeding.TheVariants.{Given}
use Rattle.fsc_tool.specs.Limits.{input_limits, IsLong}
use Rattle.fsc_tool.specs.Outside.{Outside}
use Rattle.fsc_tool.specs.Seed.{ComesFrom, IsSeedOf}
use Rattle.fsc_tool.specs.Ends.{Ends}
use Rattle.fsc_tool.specs.Replay.{GivenInput, IsReplayable, IsOrNoMemory, IsReplay}
use Rattle.fsc_tool.specs.Prepared.{IsPrepared, NoText}
use Rattle.fsc_tool.specs.LogOfRun.{IsLogOfRun}
use Rattle.fsc_tool.specs.TextOfRun.{HasText}
use Rattle.fsc_tool.specs.Written.{EndsLog}
use Rattle.call_history.specs.Placed.{entries_of}
use Rattle.call_history.proofs.Placing.{length-numbered}
use Rattle.reply_text.specs.Logged.{PlacedLogged, logged_history, log_of_history}
use Rattle.fsc_session.proofs.ShownRuns.{told_log}
use Rattle.reply_text.specs.Notes.{notes_text}
use Rattle.reply_text.specs.declared.notes.Note.{Note}
use Rattle.script_runs.specs.Runs.{IsLogOf}

-- ---- what the source gave

told_whole : (new : Option (List ℕ)) (input bytes : List ℕ) → Consumes (Some input) new bytes → IsAtEnd new → bytes ≡ input
told_whole None input bytes given ended = absurd given
told_whole (Some rest) input bytes given ended =
    sym (let all : input ≡ bytes ++ rest = given in all ∙ ap (λ xs. bytes ++ xs) ended ∙ append-nil bytes)

pub told_part : (new : Option (List ℕ)) (input bytes : List ℕ) → Consumes (Some input) new bytes → length bytes ≤ length input
told_part None input bytes given = absurd given
told_part (Some rest) input bytes given = omega (arith, ap length given, length-append bytes rest)

-- a source that gave everything it had left gave its known bytes
pub gave_told : (old new : SourceState) (input bytes : List ℕ) → old.left ≡ Some input → ReadToEnd old new bytes → bytes ≡ input
gave_told old new input bytes told gave =
    told_whole new.left input bytes (subst (λ (left : Option (List ℕ)). Consumes left new.left bytes) told gave.given) gave.ended

-- it can't have given too much of a text within the limits
not_too_much : (AfterReads : List ReadCall → Type 0) (old new : SourceState) (input bytes : List ℕ) → old.left ≡ Some input
    → ReadIsTooLong input_limits AfterReads old new bytes → IsWithin input_limits input → ⊥
not_too_much AfterReads old new input bytes told (inl more) within =
    let part = told_part new.left input bytes (subst (λ (left : Option (List ℕ)). Consumes left new.left bytes) told more.given) in
    omega (arith, part, more.size, within.bytes)
not_too_much AfterReads old new input bytes told (inr more) within =
    let whole = gave_told old new input bytes told more.gave in
    let lines : input_limits.lines < line_count input = subst (λ (xs : List ℕ). input_limits.lines < line_count xs) whole more.lines in
    omega (arith, lines, within.lines)

-- nor a part within the limits of a text that is beyond them
not_short : (old new : SourceState) (input bytes : List ℕ) → old.left ≡ Some input → ReadToEnd old new bytes
    → IsWithin input_limits bytes → IsLong input → ⊥
not_short old new input bytes told gave short long =
    let same : IsWithin input_limits input = subst (IsWithin input_limits) (gave_told old new input bytes told gave) short in
    elim long [
      | inl many ↦ omega (arith, many, same.bytes)
      | inr many ↦ omega (arith, many, same.lines)
    ]

same_script : (old new : SourceState) (input bytes : List ℕ) → old.left ≡ Some input → ReadToEnd old new bytes
    → parsed_script bytes ≡ parsed_script input
same_script old new input bytes told gave = ap parsed_script (gave_told old new input bytes told gave)

-- ---- a seed that the arguments give

own_seed : (seeding : Seeding) (old new : SeedState) (seed own : List ℕ) → seeding ≡ Given own → IsSeedOf seeding old new seed → new ≡ old
own_seed seeding old new seed own is taken = (subst (λ (s : Seeding). ComesFrom s old new seed) is taken.given).1

module _ (IsRight : List ℕ → List Section → List ℕ → Type 0) (AfterReads : List ReadCall → Type 0) (seeding : Seeding) (a b : Outside) where
  abbrev IsText : List ℕ → Type 0
  IsText = HasText IsRight AfterReads seeding a b

  unasked : (status : Status) → Ends IsText AfterReads seeding a b status → (own : List ℕ) → seeding ≡ Given own → b.seeds ≡ a.seeds
  unasked Done h own said = own_seed seeding a.seeds b.seeds h.right.seed own said h.right.seeded
  unasked WriteFault h own said = own_seed seeding a.seeds b.seeds h.right.seed own said h.right.seeded
  unasked Usage h own said = absurd h
  unasked (Refused place) h own said = absurd h
  unasked (BadLine line) h own said = h.early.unasked
  unasked ReadFault h own said = h.early.unasked
  unasked TooLong h own said = h.early.unasked
  unasked SeedFault h own said = let no = sym h.asked ∙ said in absurd (cc no)
  unasked NoMemory h own said = elim h.seeds [
    | inl still ↦ still
    | inr taken ↦ own_seed seeding a.seeds b.seeds taken.0 own said taken.1
  ]

  -- ---- a source with known bytes

  long_ends : (status : Status) → Ends IsText AfterReads seeding a b status → (input : List ℕ) → GivenInput a b input → IsLong input → IsOrNoMemory TooLong status
  long_ends TooLong h input told long = inl refl
  long_ends NoMemory h input told long = inr refl
  long_ends Usage h input told long = absurd h
  long_ends (Refused place) h input told long = absurd h
  long_ends ReadFault h input told long = absurd (told.read h.part.cause)
  long_ends Done h input told long = absurd (not_short a.source b.source input h.right.input told.left h.right.read.gave h.right.read.within long)
  long_ends WriteFault h input told long = absurd (not_short a.source b.source input h.right.input told.left h.right.read.gave h.right.read.within long)
  long_ends (BadLine line) h input told long = absurd (not_short a.source b.source input h.input told.left h.read.gave h.read.within long)
  long_ends SeedFault h input told long = absurd (not_short a.source b.source input h.input told.left h.read.gave h.read.within long)

  bad_line_ends : (status : Status) → Ends IsText AfterReads seeding a b status → (input : List ℕ) (line : ℕ) → GivenInput a b input → IsWithin input_limits input
      → parsed_script input ≡ Err line → IsOrNoMemory (BadLine line) status
  bad_line_ends NoMemory h input line told within bad = inr refl
  bad_line_ends Usage h input line told within bad = absurd h
  bad_line_ends (Refused place) h input line told within bad = absurd h
  bad_line_ends ReadFault h input line told within bad = absurd (told.read h.part.cause)
  bad_line_ends TooLong h input line told within bad = absurd (not_too_much AfterReads a.source b.source input h.much.bytes told.left h.much.gave within)
  bad_line_ends (BadLine other) h input line told within bad =
      let same = sym h.bad ∙ same_script a.source b.source input h.input told.left h.read.gave ∙ bad in
      inl (ap BadLine (cc same))
  bad_line_ends Done h input line told within bad =
      let same = sym h.right.spelled ∙ same_script a.source b.source input h.right.input told.left h.right.read.gave ∙ bad in absurd (cc same)
  bad_line_ends WriteFault h input line told within bad =
      let same = sym h.right.spelled ∙ same_script a.source b.source input h.right.input told.left h.right.read.gave ∙ bad in absurd (cc same)
  bad_line_ends SeedFault h input line told within bad =
      let same = sym h.script.1 ∙ same_script a.source b.source input h.input told.left h.read.gave ∙ bad in absurd (cc same)

  script_ends : (status : Status) → Ends IsText AfterReads seeding a b status → (input : List ℕ) → IsReplayable a b input → IsOrNoMemory Done status
  script_ends Done h input fine = inl refl
  script_ends NoMemory h input fine = inr refl
  script_ends Usage h input fine = absurd h
  script_ends (Refused place) h input fine = absurd h
  script_ends ReadFault h input fine = absurd (fine.told.read h.part.cause)
  script_ends WriteFault h input fine = absurd (fine.written h.written.cause)
  script_ends SeedFault h input fine = absurd (fine.seeded h.seeds.cause)
  script_ends TooLong h input fine = absurd (not_too_much AfterReads a.source b.source input h.much.bytes fine.told.left h.much.gave fine.within)
  script_ends (BadLine line) h input fine =
      let same = sym h.bad ∙ same_script a.source b.source input h.input fine.told.left h.read.gave ∙ fine.script.1 in absurd (cc same)

  -- ---- the theorem, from what each status means

  pub replay_is : (status : Status) → Ends IsText AfterReads seeding a b status → IsReplay IsRight AfterReads seeding a b status
  replay_is status h = record {
    ends = h;
    own_seed = unasked status h;
    too_long = long_ends status h;
    bad_line = bad_line_ends status h;
    complete = script_ends status h;
  }

  -- ---- what a run does, from its parts

  -- a run that ended before its first call
  pub unrun_ends : (status : Status) → Ends NoText AfterReads seeding a b status → IsReplay IsRight AfterReads seeding a b status
  unrun_ends status h = replay_is status (ends status h)
    where
      ends : (status : Status) → Ends NoText AfterReads seeding a b status → Ends IsText AfterReads seeding a b status
      ends Done h = absurd h.right
      ends WriteFault h = absurd h.right
      ends Usage h = h
      ends (Refused place) h = h
      ends (BadLine line) h = h
      ends ReadFault h = h
      ends SeedFault h = h
      ends TooLong h = h
      ends NoMemory h = h

  -- a run that found no memory for its calls
  pub want_ends : (script : List Section) (seed : List ℕ) → IsPrepared AfterReads seeding a.source b.source a.seeds b.seeds script seed → b.sink ≡ a.sink
      → IsReplay IsRight AfterReads seeding a b NoMemory
  want_ends script seed prepared unwritten = replay_is NoMemory (record {
    read = inr (prepared.input, prepared.read);
    quiet = prepared.read.quiet;
    seeds = inr (seed, prepared.seeded);
    unwritten = unwritten;
  })

  -- a run of which this text is right
  pub text_ends : (script : List Section) (seed : List ℕ) (text : List ℕ) (status : Status)
      → IsPrepared AfterReads seeding a.source b.source a.seeds b.seeds script seed → IsRight seed script text
      → EndsLog text a.sink b.sink status → IsReplay IsRight AfterReads seeding a b status
  text_ends script seed text status prepared is h = ended status h
    where
      right : HasText IsRight AfterReads seeding a b text
      right = record {
        input = prepared.input;
        read = prepared.read;
        script = script;
        spelled = prepared.spelled;
        seed = seed;
        seeded = prepared.seeded;
        right = is;
      }

      ended : (status : Status) → EndsLog text a.sink b.sink status → IsReplay IsRight AfterReads seeding a b status
      ended Done h = replay_is Done (record { text = text; right = right; written = h })
      ended WriteFault h = replay_is WriteFault (record { text = text; right = right; written = h })
      ended NoMemory h = want_ends script seed prepared h
      ended Usage h = absurd h
      ended (Refused place) h = absurd h
      ended (BadLine line) h = absurd h
      ended ReadFault h = absurd h
      ended SeedFault h = absurd h
      ended TooLong h = absurd h

-- a run with these entries and notes
pub run_ends : (IsRun : List ℕ → List Section → History → Type 0) (AfterReads : List ReadCall → Type 0) (seeding : Seeding) (a b : Outside)
    (script : List Section) (seed : List ℕ) (told : PlacedLogged) (notes : List Note) (status : Status)
    → IsPrepared AfterReads seeding a.source b.source a.seeds b.seeds script seed → IsLogOf IsRun seed script told notes
    → length told < 2 ^ 64 → EndsLog (log_of_history (entries_of told) ++ notes_text notes) a.sink b.sink status → IsReplay (IsLogOfRun IsRun) AfterReads seeding a b status
run_ends IsRun AfterReads seeding a b script seed told notes status prepared ran few h =
    let count : length told ≡ length ran.history =
    ap length ran.in_place ∙ length-numbered 0 (logged_history ran.history) ∙ length-map ran.history _ in
    text_ends (IsLogOfRun IsRun) AfterReads seeding a b script seed (log_of_history (entries_of told) ++ notes_text notes) status prepared (record {
      history = ran.history;
      run = ran.run;
      short = subst (λ (n : ℕ). n < 2 ^ 64) count few;
      ranged = ran.ranged;
      log = ap₂ (λ (lines : List ℕ) (ns : List Note). lines ++ notes_text ns) (told_log told ran.history ran.in_place) ran.noted;
    }) h
