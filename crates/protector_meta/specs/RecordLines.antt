-- Which line is at fault in a text, and which is missing.
use Rattle.std.specs.Prelude.{ℕ, ◌≡◌, ◌+◌, ◌-◌, List, [], ◌∷◌, ◌++◌, length, take}
use Rattle.text_words.specs.Lines.{pieces_of}
use Rattle.protector_meta.specs.declared.fault.MetaFault.{MetaFault}
use Rattle.protector_meta.specs.declared.fault.MetaFault.TheVariants.{Bad, NoMemory}

-- the lines of a text that a line feed ends; the text after the last line feed is none of them
abbrev pub ended_lines : List ℕ → List (List ℕ)
ended_lines text = take (length (pieces_of text) - 1) (pieces_of text)

-- which lines are those of a record, from the first to the last
abbrev pub RecordTest : Type 1
RecordTest = List (List ℕ) → Type 0

-- a record begins with these lines
abbrev pub Begins : RecordTest → List (List ℕ) → Type 0
Begins IsRecord lines = (more : List (List ℕ)) × IsRecord (lines ++ more)

-- the first line at fault in a text is at this place, counted from 1: a record begins with the lines
-- before it, and the line itself is missing or no record begins with them and it. A piece that no line
-- feed ends counts as missing. In a whole record the line after its last is at fault
pub record IsFirstBad (IsRecord : RecordTest) (text : List ℕ) (place : ℕ) : Type 0 where
  pub before : List (List ℕ)
  pub others : List (List ℕ)
  pub parts : ended_lines text ≡ before ++ others
  pub counted : place ≡ length before + 1
  pub fit : Begins IsRecord before
  pub unfit : (line : List ℕ) (more : List (List ℕ)) → others ≡ line ∷ more
      → Begins IsRecord (before ++ line ∷ []) → ⊥

-- the fault names that place
abbrev pub NamesFirstBadLine : RecordTest → List ℕ → MetaFault → Type 0
NamesFirstBadLine IsRecord text (Bad line) = IsFirstBad IsRecord text line
NamesFirstBadLine IsRecord text NoMemory = ⊥
