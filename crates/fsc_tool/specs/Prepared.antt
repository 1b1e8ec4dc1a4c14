-- What a run has before its first call, and the text of one that has none.
use Rattle.std.specs.Prelude.{◌≡◌, ℕ, List, Ok}
use Rattle.script_lang.specs.declared.commands.Section.{Section}
use Rattle.script_lang.specs.Script.{parsed_script}
use Rattle.fsc_outside.specs.WholeTexts.{ReadWhole}
use Rattle.fsc_outside.specs.Reads.{ReadCall}
use Rattle.fsc_outside.specs.States.{SourceState, SeedState}
use Rattle.fsc_tool.specs.declared.form.Seeding.{Seeding}
use Rattle.fsc_tool.specs.Limits.{input_limits}
use Rattle.fsc_tool.specs.Seed.{IsSeedOf}

-- the source gave this script within the limits, and this is the seed
pub record IsPrepared (AfterReads : List ReadCall → Type 0) (seeding : Seeding) (source source' : SourceState)
    (seeds seeds' : SeedState) (script : List Section) (seed : List ℕ) : Type 0 where
  pub input : List ℕ
  pub read : ReadWhole input_limits AfterReads source source' input
  pub spelled : parsed_script input ≡ Ok script
  pub seeded : IsSeedOf seeding seeds seeds' seed

-- no text
abbrev pub NoText : List ℕ → Type 0
NoText text = ⊥
