-- The text of a run of a script, from the source's input and the seed.
use Rattle.std.specs.Prelude.{◌≡◌, ℕ, List, Ok}
use Rattle.script_lang.specs.declared.commands.Section.{Section}
use Rattle.script_lang.specs.Script.{parsed_script}
use Rattle.fsc_outside.specs.WholeTexts.{ReadWhole}
use Rattle.fsc_outside.specs.Reads.{ReadCall}
use Rattle.fsc_tool.specs.declared.form.Seeding.{Seeding}
use Rattle.fsc_tool.specs.Limits.{input_limits}
use Rattle.fsc_tool.specs.Outside.{Outside}
use Rattle.fsc_tool.specs.Seed.{IsSeedOf}

-- the source gave an input within the limits, by calls of which `AfterReads` holds, that is this script; the
-- run had this seed; and the text is one of a run of the script with the seed
pub record HasText (IsText : List ℕ → List Section → List ℕ → Type 0)
    (AfterReads : List ReadCall → Type 0) (seeding : Seeding) (a b : Outside) (text : List ℕ) : Type 0 where
  pub input : List ℕ
  pub read : ReadWhole input_limits AfterReads a.source b.source input
  pub script : List Section
  pub spelled : parsed_script input ≡ Ok script
  pub seed : List ℕ
  pub seeded : IsSeedOf seeding a.seeds b.seeds seed
  pub right : IsText seed script text
