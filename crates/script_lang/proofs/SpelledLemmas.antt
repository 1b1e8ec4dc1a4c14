-- What a text spells can be written: each command can be asked for, and each caller and command has a
-- line.
use Rattle.std.proofs.Common.{◌≡◌, ℕ, ◌≤◌, ◌+◌, ◌==◌, Bool, true, false, inl, inr, List, [], ◌∷◌, length, Option, Some, None, Ok, Err, refl, sym, ◌∙◌, arith}
use Rattle.std.specs.Prelude.{IfSome, nat_lt, if◌then◌else◌}
use Rattle.std.specs.Option.{option_map_or}
use Rattle.std.proofs.lemmas.Bool.{ltb-true, cases_Bool}
use Rattle.text_words.specs.Lines.{pieces_of}
use Rattle.script_lang.specs.Sections.{first_misplaced_line, commands_of, sections_of}
use Rattle.script_lang.specs.Script.{statements_in, statements_of, parsed_script}
use Rattle.script_lang.specs.Writing.{first_free_line}
use Rattle.script_lang.specs.Spelled.{FollowInOrder, HaveSpace, IsWritable}
use Rattle.script_lang.specs.declared.limits.TheConstants.{MAX_CALLERS}
use Rattle.script_lang.specs.declared.commands.Command.{Command}
use Rattle.script_lang.specs.declared.commands.Section.{Section}
use Rattle.script_lang.specs.declared.statements.Statement.{Statement}
use Rattle.script_lang.specs.declared.statements.Statement.TheVariants.{Nothing, Caller, Order}
use Rattle.script_lang.proofs.StatementLemmas.{IsSpelledStatement, statement_of-said}
use Rattle.script_lang.proofs.ReadingLemmas.{first_bad_from, first_bad_from-line}

-- all statements of lines can be made
abbrev AreSaid : List (Option Statement) → Type 0
AreSaid [] = Unit {0}
AreSaid (line ∷ more) = IfSome line IsSpelledStatement × AreSaid more

AreSaid-statements_in : (pieces : List (List ℕ)) → AreSaid (statements_in pieces)
unfolding statements_in
AreSaid-statements_in [] = tt
AreSaid-statements_in (last ∷ []) = ended (length last == 0)
  where
    ended : (b : Bool) → (let lines : List (Option Statement) = if b then [] else None ∷ [] in AreSaid lines)
    ended true = tt
    ended false = (tt, tt)
AreSaid-statements_in (line ∷ next ∷ more) = (statement_of-said line, AreSaid-statements_in (next ∷ more))

-- ---- the commands of a section

StandBehind-le : (m n : ℕ) (commands : List Command) → m ≤ n → FollowInOrder n commands → FollowInOrder m commands
StandBehind-le m n [] le h = tt
StandBehind-le m n (command ∷ more) le h = let first = h.0 in (omega arith, h.1)

first_free_line-le : (m n : ℕ) (commands : List Command) → m ≤ n → first_free_line m commands ≤ first_free_line n commands
first_free_line-le m n [] le = le
first_free_line-le m n (command ∷ more) le = omega arith

first_free_line-from : (n : ℕ) (commands : List Command) → FollowInOrder n commands → n ≤ first_free_line n commands
first_free_line-from n [] h = omega arith
first_free_line-from n (command ∷ more) h = let first = h.0 in let rest = first_free_line-from (command.line + 1) more h.1.1 in omega arith

StandBehind-commands_of : (n : ℕ) (lines : List (Option Statement)) → AreSaid lines → FollowInOrder n (commands_of n lines)
unfolding commands_of
StandBehind-commands_of n [] said = tt
StandBehind-commands_of n (None ∷ more) said = StandBehind-le n (n + 1) _ (omega arith) (StandBehind-commands_of (n + 1) more said.1)
StandBehind-commands_of n (Some Nothing ∷ more) said = StandBehind-le n (n + 1) _ (omega arith) (StandBehind-commands_of (n + 1) more said.1)
StandBehind-commands_of n (Some (Caller uid) ∷ more) said = tt
StandBehind-commands_of n (Some (Order verb) ∷ more) said = (omega arith, (said.0, StandBehind-commands_of (n + 1) more said.1))

-- ---- the sections

HaveSpace-le : (m n : ℕ) (sections : List Section) → m ≤ n → HaveSpace n sections → HaveSpace m sections
HaveSpace-le m n [] le h = tt
HaveSpace-le m n (section ∷ more) le h = (
  h.0,
  (
    StandBehind-le (m + 1) (n + 1) section.commands (omega arith) h.1.0,
    HaveSpace-le (first_free_line (m + 1) section.commands) (first_free_line (n + 1) section.commands) more (first_free_line-le (m + 1) (n + 1) section.commands (omega arith)) h.1.1,
  ),
)

-- the sections of lines begin after the commands before them
HaveSpace-sections_of : (n : ℕ) (lines : List (Option Statement)) → AreSaid lines
    → HaveSpace (first_free_line n (commands_of n lines)) (sections_of n lines)
unfolding commands_of sections_of
HaveSpace-sections_of n [] said = tt
HaveSpace-sections_of n (None ∷ more) said =
    HaveSpace-le _ _ (sections_of (n + 1) more) (first_free_line-le n (n + 1) (commands_of (n + 1) more) (omega arith)) (HaveSpace-sections_of (n + 1) more said.1)
HaveSpace-sections_of n (Some Nothing ∷ more) said =
    HaveSpace-le _ _ (sections_of (n + 1) more) (first_free_line-le n (n + 1) (commands_of (n + 1) more) (omega arith)) (HaveSpace-sections_of (n + 1) more said.1)
HaveSpace-sections_of n (Some (Caller uid) ∷ more) said =
    (said.0, (StandBehind-commands_of (n + 1) more said.1, HaveSpace-sections_of (n + 1) more said.1))
HaveSpace-sections_of n (Some (Order verb) ∷ more) said = HaveSpace-sections_of (n + 1) more said.1

-- ---- how many callers there are

-- if each line is allowed after those before it, there are few enough callers
sections_of-few : (n m callers : ℕ) (lines : List (Option Statement)) → callers ≤ MAX_CALLERS → first_bad_from n callers lines ≡ None
    → callers + length (sections_of m lines) ≤ MAX_CALLERS
unfolding first_bad_from sections_of
sections_of-few n m callers [] few good = omega arith
sections_of-few n m callers (None ∷ more) few good = absurd (cc good)
sections_of-few n m callers (Some Nothing ∷ more) few good = sections_of-few (n + 1) (m + 1) callers more few good
sections_of-few n m callers (Some (Caller uid) ∷ more) few good =
    elim (cases_Bool (nat_lt callers MAX_CALLERS)) [
      | inl room ↦
          let rest = sections_of-few (n + 1) (m + 1) (callers + 1) more (omega (arith, ltb-true callers MAX_CALLERS room)) (rw room at good) in
          omega arith
      | inr other ↦ absurd (cc (rw other at good))
    ]
sections_of-few n m callers (Some (Order verb) ∷ more) few good =
    elim (cases_Bool (nat_lt 0 callers)) [
      | inl room ↦ sections_of-few (n + 1) (m + 1) callers more few (rw room at good)
      | inr other ↦ absurd (cc (rw other at good))
    ]

-- ---- a script that a text spells

both : {X : Type 0} (o : Option ℕ) (x z : X) → option_map_or Err o (Ok x) ≡ Ok z → (o ≡ None) × (x ≡ z)
both None x z h = (refl, cc h)
both (Some n) x z h = absurd (cc h)

pub IsWritable-spelled : (text : List ℕ) (script : List Section) → parsed_script text ≡ Ok script → IsWritable script
unfolding parsed_script
IsWritable-spelled text script h =
    let lines = statements_of text in
    let said = AreSaid-statements_in (pieces_of text) in
    let parts = both (first_misplaced_line [] lines) (sections_of 1 lines) script h in
    let good : first_bad_from 1 0 lines ≡ None = sym (first_bad_from-line [] lines) ∙ parts.0 in
    rw (← parts.1) (
      let few = sections_of-few 1 1 0 lines (omega arith) good in omega arith,
      HaveSpace-le 1 _ (sections_of 1 lines) (first_free_line-from 1 (commands_of 1 lines) (StandBehind-commands_of 1 lines said)) (HaveSpace-sections_of 1 lines said),
    )
