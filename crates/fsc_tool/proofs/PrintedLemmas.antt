-- A log after the line that separates it from its script: where the script ends.
use Rattle.std.proofs.Common.{◌≡◌, ℕ, ◌+◌, ◌==◌, Bool, true, false, inl, inr, List, [], ◌∷◌, ◌++◌, length, take, drop, Option, None, Some, Result, Ok, Err, refl, sym, ap, ap₂, ◌∙◌, arith, subst, append-nil, append_assoc, length-append}
use Rattle.std.specs.Prelude.{⊤, count_by, if◌then◌else◌}
use Rattle.std.specs.List.{All}
use Rattle.std.specs.Option.{option_map, option_map_or}
use Rattle.std.specs.Str.{bytes_eq}
use Rattle.std.proofs.Math.Seq.{take-append_seam, drop-append-add}
use Rattle.std.proofs.lemmas.Bool.{cases_Bool}
use Rattle.std.proofs.lemmas.List.Elements.{All-nil, All-cons, All-append}
use Rattle.std.proofs.lemmas.List.Splits.{slice_split_at, slice_split_none}
use Rattle.std.proofs.lemmas.Slice.Eq.{bytes_eq-Decides}
use Rattle.text_words.specs.Lines.{is_line_feed, pieces_of}
use Rattle.script_lang.specs.Script.{parsed_script, statements_in, statements_of}
use Rattle.script_lang.specs.Sections.{first_misplaced_line, is_caller, may_stand, sections_of}
use Rattle.script_lang.specs.Statements.{statement_of}
use Rattle.script_lang.specs.declared.commands.Section.{Section}
use Rattle.script_lang.specs.declared.statements.Statement.{Statement}
use Rattle.script_lang.proofs.ReadingLemmas.{statements_in-line}
use Rattle.fsc_tool.specs.Splitting.{bytes_before, read_certificate, certificate_text, split_input, split_input_at, parting, script_part, unless_bad, with_log}
use Rattle.fsc_tool.proofs.PartLemmas.{parts_behind, parts_here}

-- ---- each line of a script is a statement

unfoldable AreSaid : List (Option Statement) → Type 0
AreSaid [] = ⊤
AreSaid (None ∷ more) = ⊥
AreSaid (Some said ∷ more) = AreSaid more

is_said : (line : Option Statement) (more : List (Option Statement)) → AreSaid (line ∷ more) → line ≡ None → ⊥
unfolding AreSaid
is_said None more all none = all
is_said (Some said) more all none = cc none

rest_said : (line : Option Statement) (more : List (Option Statement)) → AreSaid (line ∷ more) → AreSaid more
unfolding AreSaid
rest_said None more all = absurd all
rest_said (Some said) more all = all

placed_said : (before lines : List (Option Statement)) → first_misplaced_line before lines ≡ None → AreSaid lines
unfolding first_misplaced_line AreSaid
placed_said before [] none = tt
placed_said before (None ∷ more) none = cc none
placed_said before (Some said ∷ more) none =
    let next : Bool → Option ℕ = λ b. if b then first_misplaced_line (before ++ Some said ∷ []) more else Some (length before + 1) in
    elim (cases_Bool (may_stand (count_by is_caller before) (Some said))) [
      | inl room ↦ placed_said (before ++ Some said ∷ []) more (sym (ap next room) ∙ none)
      | inr other ↦ let no : Some (length before + 1) ≡ None = sym (ap next other) ∙ none in absurd (cc no)
    ]

script_said : (input : List ℕ) (script : List Section) → parsed_script input ≡ Ok script → AreSaid (statements_of input)
unfolding parsed_script
script_said input script is = at (first_misplaced_line [] (statements_of input)) refl
  where
    answer : Option ℕ → Result (List Section) ℕ
    answer fault = option_map_or Err fault (Ok (sections_of 1 (statements_of input)))

    at : (fault : Option ℕ) → first_misplaced_line [] (statements_of input) ≡ fault → AreSaid (statements_of input)
    at None none = placed_said [] (statements_of input) none
    at (Some line) some = let no : answer (Some line) ≡ Ok script = sym (ap answer some) ∙ is in absurd (cc no)

-- ---- and the separating line is none

parting_says_nothing : statement_of parting ≡ None
parting_says_nothing = refl

not_parting : (line : List ℕ) (more : List (Option Statement)) → AreSaid (statement_of line ∷ more) → bytes_eq line parting ≡ false
not_parting line more said = elim (cases_Bool (bytes_eq line parting)) [
  | inl same ↦ absurd (is_said (statement_of line) more said (ap statement_of ((bytes_eq-Decides line parting).0 same) ∙ parting_says_nothing))
  | inr other ↦ other
]

abbrev IsPlain : ℕ → Type 0
IsPlain b = is_line_feed b ≡ false

abbrev AreFeedless : List ℕ → Type 0
AreFeedless line = All IsPlain line

-- nor is a piece without a line feed left
unended : (b : ℕ) (line : List ℕ) → statements_in ((b ∷ line) ∷ []) ≡ None ∷ []
unfolding statements_in
unended b line = grind arith

nothing_unended : (line : List ℕ) → AreFeedless line → AreSaid (statements_of line) → line ≡ []
unfolding AreSaid
nothing_unended [] plain said = refl
nothing_unended (b ∷ line) plain said =
    absurd (subst AreSaid (ap statements_in (slice_split_none is_line_feed (b ∷ line) plain) ∙ unended b line) said)

-- ---- so the script ends where the log's line begins

module _ (log : List ℕ) where
  abbrev behind : List ℕ
  behind = parting ++ 10 ∷ log

  plain_parting : AreFeedless parting
  plain_parting =
      All-cons IsPlain 45 (45 ∷ 45 ∷ []) refl (All-cons IsPlain 45 (45 ∷ []) refl (All-cons IsPlain 45 [] refl (All-nil IsPlain)))

  at_end : (line : List ℕ) → line ≡ [] → bytes_before (pieces_of ((line ++ []) ++ behind)) ≡ Some (length (line ++ []))
  at_end [] none = ap bytes_before (slice_split_at is_line_feed parting 10 log plain_parting refl) ∙ parts_here parting log refl
  at_end (b ∷ line) none = absurd (cc none)

  -- a line that was begun, and what follows it
  script_ends : (line text : List ℕ) → AreFeedless line → AreSaid (statements_of (line ++ text))
      → bytes_before (pieces_of ((line ++ text) ++ behind)) ≡ Some (length (line ++ text))
  script_ends line [] plain said =
      at_end line (nothing_unended line plain (subst (λ (xs : List ℕ). AreSaid (statements_of xs)) (append-nil line) said))
  script_ends line (b ∷ text) plain said = elim (cases_Bool (is_line_feed b)) [
    | inl feed ↦
        let cut : pieces_of (line ++ b ∷ text) ≡ line ∷ pieces_of text = slice_split_at is_line_feed line b text plain feed in
        let both : AreSaid (statement_of line ∷ statements_of text) =
        subst AreSaid (ap statements_in cut ∙ statements_in-line line text) said in
        let rest : bytes_before (pieces_of (text ++ behind)) ≡ Some (length text) =
        script_ends [] text (All-nil IsPlain) (rest_said (statement_of line) (statements_of text) both) in
        let size : length line + 1 + length text ≡ length (line ++ b ∷ text) =
        (let long = length-append line (b ∷ text) in omega (arith, long)) in
        ap (λ (xs : List ℕ). bytes_before (pieces_of xs)) (append_assoc line (b ∷ text) behind)
        ∙ ap bytes_before (slice_split_at is_line_feed line b (text ++ behind) plain feed)
        ∙ parts_behind line (text ++ behind) (not_parting line (statements_of text) both)
        ∙ ap (option_map (λ (bytes : ℕ). length line + 1 + bytes)) rest ∙ ap (λ (n : ℕ). Some n) size
    | inr other ↦
        let longer : (line ++ b ∷ []) ++ text ≡ line ++ b ∷ text = append_assoc line (b ∷ []) text in
        let more : AreFeedless (line ++ b ∷ []) = All-append IsPlain line (b ∷ []) plain (All-cons IsPlain b [] other (All-nil IsPlain)) in
        subst (λ (xs : List ℕ). bytes_before (pieces_of (xs ++ behind)) ≡ Some (length xs)) longer
        (script_ends (line ++ b ∷ []) text more (subst (λ (xs : List ℕ). AreSaid (statements_of xs)) (sym longer) said))
  ]

  module _ (input : List ℕ) (script : List Section) (is : parsed_script input ≡ Ok script) where
    pub parted_is : split_input (certificate_text input log) ≡ Some (input, log)
    parted_is =
        ap (option_map (split_input_at (certificate_text input log))) (script_ends [] input (All-nil IsPlain) (script_said input script is))
        ∙ ap₂ (λ (part end : List ℕ). Some (part, end)) (take-append_seam input behind) (drop-append-add input behind 4)

    pub script_part_is : script_part (certificate_text input log) ≡ input
    script_part_is =
        ap (λ (parts : Option (List ℕ × List ℕ)). option_map_or (λ parts. parts.0) parts (certificate_text input log)) parted_is

    pub read_is : read_certificate (certificate_text input log) ≡ Ok (script, log)
    read_is =
        ap₂ (λ (part : List ℕ) (parts : Option (List ℕ × List ℕ)).
        unless_bad (parsed_script part) (with_log (certificate_text input log) parts)) script_part_is parted_is
        ∙ ap (λ (read : Result (List Section) ℕ). unless_bad read (with_log (certificate_text input log) (Some (input, log)))) is
