-- Why a line is at fault: that it is the line at which reading ends, and how it is found line by line.
use Rattle.std.proofs.Common.{◌≡◌, ℕ, ◌<◌, ◌≤◌, ◌+◌, ◌==◌, inl, inr, List, [], ◌∷◌, ◌++◌, length, Option, Some, None, Result, Ok, Err, refl, sym, ap, ◌∙◌, arith, append-nil, subst}
use Rattle.std.specs.Prelude.{nat_lt, if◌then◌else◌}
use Rattle.std.specs.Option.{option_map, option_map_or}
use Rattle.std.specs.Result.{result_err}
use Rattle.std.proofs.lemmas.Bool.{cases_Bool, eqb-true}
use Rattle.std.proofs.lemmas.List.Splits.{length-slice_split}
use Rattle.text_words.specs.Lines.{pieces_of, is_line_feed}
use Rattle.script_lang.specs.Sections.{is_caller, may_stand, first_misplaced_line, sections_of}
use Rattle.script_lang.specs.Statements.{statement_of}
use Rattle.script_lang.specs.Script.{statements_in, statements_of, parsed_script}
use Rattle.script_faults.specs.LineFaults.{fault_of_statement, fault_after, callers_with, fault_from, first_fault}
use Rattle.script_lang.specs.declared.limits.TheConstants.{MAX_CALLERS}
use Rattle.script_faults.specs.declared.faults.LineFault.{LineFault}
use Rattle.script_faults.specs.declared.faults.LineFault.TheVariants as fault
use Rattle.script_faults.specs.declared.faults.FaultyLine.{FaultyLine}
use Rattle.script_lang.specs.declared.commands.Section.{Section}
use Rattle.script_lang.specs.declared.statements.Statement.{Statement}
use Rattle.script_lang.specs.declared.statements.Statement.TheVariants.{Nothing, Caller, Order}
use Rattle.script_lang.proofs.ReadingLemmas.{first_bad_from, first_bad_from-line}

abbrev pub number_of_line : Option FaultyLine → Option ℕ
number_of_line found = option_map (λ found. found.line) found

-- a line has a fault exactly when it is not allowed after those before it, and then its number is the
-- result
at_line : (n callers : ℕ) (line : List ℕ) (said : Option Statement) (rest : ℕ → Option FaultyLine) (bad : ℕ → Option ℕ)
    → ((c : ℕ) → number_of_line (rest c) ≡ bad c)
    → number_of_line (option_map_or (λ found. Some (record { line = n; fault = found })) (fault_of_statement callers line said) (rest (if is_caller said then callers + 1 else callers)))
    ≡ (if may_stand callers said then bad (if is_caller said then callers + 1 else callers) else Some n)
at_line n callers line None rest bad same = refl
at_line n callers line (Some Nothing) rest bad same = same callers
at_line n callers line (Some (Caller uid)) rest bad same =
    elim (cases_Bool (nat_lt callers MAX_CALLERS)) [
      | inl room ↦ rw room (same (callers + 1))
      | inr other ↦ rw other refl
    ]
at_line n callers line (Some (Order verb)) rest bad same =
    elim (cases_Bool (nat_lt 0 callers)) [
      | inl some ↦ rw some (same callers)
      | inr none ↦ rw none refl
    ]

fault_from-number : (n callers : ℕ) (pieces : List (List ℕ)) → number_of_line (fault_from n callers pieces) ≡ first_bad_from n callers (statements_in pieces)
unfolding fault_from first_bad_from statements_in
fault_from-number n callers [] = refl
fault_from-number n callers (last ∷ []) =
    elim (cases_Bool (length last == 0)) [
      | inl none ↦ rw none refl
      | inr some ↦ rw some refl
    ]
fault_from-number n callers (line ∷ next ∷ more) =
    at_line n callers line (statement_of line) (λ c. fault_from (n + 1) c (next ∷ more)) (λ c. first_bad_from (n + 1) c (statements_in (next ∷ more)))
    (λ c. fault_from-number (n + 1) c (next ∷ more))

-- the first line at fault is the one at which reading ends
pub first_fault-number : (text : List ℕ) → number_of_line (first_fault text) ≡ result_err (parsed_script text)
unfolding parsed_script
first_fault-number text =
    fault_from-number 1 0 (pieces_of text) ∙ sym (first_bad_from-line [] (statements_of text)) ∙ by_first (first_misplaced_line [] (statements_of text)) (sections_of 1 (statements_of text))
  where
    by_first : (first : Option ℕ) (script : List Section) → first ≡ result_err (option_map_or Err first (Ok script))
    by_first None script = refl
    by_first (Some n) script = refl

-- ---- from line to line

fault_from-line : (n callers : ℕ) (line text : List ℕ) → fault_from n callers (line ∷ pieces_of text)
    ≡ option_map_or (λ found. Some (record { line = n; fault = found })) (fault_after callers line) (fault_from (n + 1) (callers_with callers line) (pieces_of text))
unfolding fault_from
fault_from-line n callers line text = by_pieces (pieces_of text) (let e = length-slice_split is_line_feed text in omega arith)
  where
    by_pieces : (pieces : List (List ℕ)) → 0 < length pieces → fault_from n callers (line ∷ pieces)
        ≡ option_map_or (λ found. Some (record { line = n; fault = found })) (fault_after callers line) (fault_from (n + 1) (callers_with callers line) pieces)
    by_pieces [] some = absurd (omega arith)
    by_pieces (next ∷ more) some = refl

-- after a line without fault the search continues with the rest
pub fault_passed : (n callers after : ℕ) (text line rest : List ℕ) (found : Option FaultyLine) (passed : Result ℕ LineFault)
    → found ≡ fault_from n callers (pieces_of text) → pieces_of text ≡ line ∷ pieces_of rest
    → passed ≡ Ok after → result_err passed ≡ fault_after callers line → after ≡ callers_with callers line
    → found ≡ fault_from (n + 1) after (pieces_of rest)
fault_passed n callers after text line rest found passed told cut is none more =
    let no_fault : fault_after callers line ≡ None = sym none ∙ ap result_err is in
    told ∙ rw (cut, fault_from-line n callers line rest, no_fault, more) refl

-- a fault is the result
pub fault_met : (n callers : ℕ) (text line rest : List ℕ) (found : Option FaultyLine) (why : LineFault) (passed : Result ℕ LineFault)
    → found ≡ fault_from n callers (pieces_of text) → pieces_of text ≡ line ∷ pieces_of rest
    → passed ≡ Err why → result_err passed ≡ fault_after callers line
    → Some (record { line = n; fault = why }) ≡ found
fault_met n callers text line rest found why passed told cut is some =
    let a_fault : fault_after callers line ≡ Some why = sym some ∙ ap result_err is in
    sym (told ∙ rw (cut, fault_from-line n callers line rest, a_fault) refl)

unended_at : (n callers : ℕ) (last : List ℕ) → 0 < length last → fault_from n callers (last ∷ []) ≡ Some (record { line = n; fault = fault.NotEnded })
unfolding fault_from
unended_at n callers last some =
    elim (cases_Bool (length last == 0)) [
      | inl none ↦ let e : length last ≡ 0 = eqb-true _ _ none in absurd (omega arith)
      | inr other ↦ rw other refl
    ]

-- a last piece that no line feed ended
pub fault_unended : (n callers : ℕ) (text line : List ℕ) (found : Option FaultyLine)
    → found ≡ fault_from n callers (pieces_of text) → pieces_of text ≡ line ∷ [] → text ≡ line ++ [] → 0 < length text
    → Some (record { line = n; fault = fault.NotEnded }) ≡ found
fault_unended n callers text line found told cut whole some =
    let e : text ≡ line = whole ∙ append-nil line in
    let at_end : fault_from n callers (line ∷ []) ≡ Some (record { line = n; fault = fault.NotEnded }) = unended_at n callers line (subst (λ (xs : List ℕ). 0 < length xs) e some) in
    sym (told ∙ rw cut at_end)

-- a line begins at most one caller
pub few_before : (n callers after : ℕ) (line : List ℕ) → after ≡ callers_with callers line → callers ≤ n → after ≤ n + 1
few_before n callers after line more few =
    elim (cases_Bool (is_caller (statement_of line))) [
      | inl named ↦ rw (more, named) (omega arith)
      | inr other ↦ rw (more, other) (omega arith)
    ]

-- no text is left
pub fault_none : (n callers : ℕ) (text : List ℕ) (found : Option FaultyLine)
    → found ≡ fault_from n callers (pieces_of text) → length text ≡ 0 → None ≡ found
unfolding fault_from
fault_none n callers [] found told none = sym told
fault_none n callers (b ∷ bytes) found told none = absurd (omega arith)
