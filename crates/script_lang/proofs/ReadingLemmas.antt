-- What the reader makes of a text: it goes from line to line, and has the sections so far.
use Rattle.std.proofs.Common.{◌≡◌, ℕ, suc, ◌<◌, ◌≤◌, ◌+◌, ◌-◌, ◌==◌, Bool, true, false, cond, inl, inr, List, [], ◌∷◌, ◌++◌, length, Option, Some, None, Result, Ok, Err, refl, sym, ap, ◌∙◌, arith, append-nil, append_assoc, subst, length-append}
use Rattle.std.specs.Prelude.{slice_set, slice_index_or, nat_lt, count_by, IfOk, if◌then◌else◌}
use Rattle.std.specs.Option.{option_map, option_map_or}
use Rattle.std.proofs.lemmas.Bool.{lt-ltb, ltb-true, cases_Bool, true≢false}
use Rattle.std.proofs.lemmas.List.Sums.{sum_by_push}
use Rattle.std.proofs.lemmas.List.Splits.{length-slice_split}
use Rattle.text_words.specs.Lines.{pieces_of, is_line_feed}
use Rattle.script_lang.specs.Statements.{statement_of}
use Rattle.script_lang.specs.Sections.{is_caller, may_stand, first_misplaced_line, commands_of, sections_of}
use Rattle.script_lang.specs.Script.{statements_in, statements_of, parsed_script, Reads}
use Rattle.script_lang.specs.Reading.{with_commands, with_command, after_line, AddsCommand, AddsStatement, TakesLine}
use Rattle.script_lang.specs.declared.limits.TheConstants.{MAX_CALLERS}
use Rattle.script_lang.specs.declared.commands.Command.{Command}
use Rattle.script_lang.specs.declared.commands.Section.{Section}
use Rattle.script_lang.specs.declared.verb.Verb.{Verb}
use Rattle.script_lang.specs.declared.statements.Statement.{Statement}
use Rattle.script_lang.specs.declared.statements.Statement.TheVariants.{Nothing, Caller, Order}
use Rattle.script_lang.specs.declared.reader.ScriptFault.{ScriptFault}
use Rattle.script_lang.specs.declared.reader.ScriptFault.TheVariants.{BadLine, NoMemory}

-- ---- more commands of the last section

-- the last section replaced by one with one command more
pub with_command-set : (sections : List Section) (last : Section) (command : Command) (commands : List Command)
    → 0 < length sections → last ≡ slice_index_or sections (length sections - 1) last → commands ≡ last.commands ++ command ∷ []
    → slice_set sections (length sections - 1) (record { uid = last.uid; commands = commands }) ≡ with_commands sections (command ∷ [])
with_command-set [] last command commands some is more = absurd (omega arith)
with_command-set (x ∷ []) last command commands some is more = rw (more, is) refl
with_command-set (x ∷ y ∷ rest) last command commands some is more =
    let e : length (x ∷ y ∷ rest) - 1 ≡ suc (length (y ∷ rest) - 1) = omega arith in
    rw e (ap (λ ss. x ∷ ss) (with_command-set (y ∷ rest) last command commands (omega arith) (rw e at is) more))

-- what adding a command answers
pub add_command-some : (sections : List Section) (n : ℕ) (last : Section) (command : Command) (commands : List Command)
    → n ≡ length sections → 0 < n → last ≡ slice_index_or sections (n - 1) last → commands ≡ last.commands ++ command ∷ []
    → AddsStatement (with_command sections command) (slice_set sections (n - 1) (record { uid = last.uid; commands = commands })) true
add_command-some sections n last command commands len some is more =
    let there : nat_lt 0 (length sections) ≡ true = lt-ltb 0 (length sections) (omega arith) in
    rw (there, len) (refl, with_command-set sections last command commands (omega arith) (rw len at is) more)

-- what reading a command into the last section answers
pub command_read : {E : Type 0} (n : ℕ) (sections : List Section) (count : ℕ) (last : Section) (said : Option Verb) (commands : List Command) (answer : Result Bool E)
    → count ≡ length sections → 0 < count → last ≡ slice_index_or sections (count - 1) last → IfOk answer (AddsCommand n said last.commands commands)
    → IfOk answer (AddsStatement (after_line n sections (option_map Order said)) (slice_set sections (count - 1) (record { uid = last.uid; commands = commands })))
command_read n sections count last said commands (Err fault) len some is read = tt
command_read n sections count last None commands (Ok added) len some is read = read
command_read n sections count last (Some verb) commands (Ok added) len some is read =
    rw read.0 (add_command-some sections count last (record { line = n; verb = verb }) commands len some is read.1)

-- a command before the first section
pub no_section : (n : ℕ) (sections : List Section) (count : ℕ) (said : Option Verb) (there : Bool)
    → count ≡ length sections → there ≡ false → (0 < count → there ≡ true) → AddsStatement (after_line n sections (option_map Order said)) sections false
no_section n [] count None there len none some = refl
no_section n [] count (Some verb) there len none some = refl
no_section n (x ∷ xs) count said there len none some = absurd (true≢false (sym (some (omega (arith, len))) ∙ none))

-- what a true answer means
pub line_added : (after : Option (List Section)) (new : List Section) (answer : Bool) → AddsStatement after new answer → answer ≡ true → after ≡ Some new
line_added None new answer h is = absurd (true≢false (sym is ∙ h))
line_added (Some sections) new answer h is = ap Some (sym h.1)

pub line_not_added : (after : Option (List Section)) (new : List Section) (answer : Bool) → AddsStatement after new answer → answer ≡ false → after ≡ None
line_not_added None new answer h is = refl
line_not_added (Some sections) new answer h is = absurd (true≢false (sym h.0 ∙ is))

length-with_commands : (sections : List Section) (commands : List Command) → length (with_commands sections commands) ≡ length sections
length-with_commands [] commands = refl
length-with_commands (last ∷ []) commands = refl
length-with_commands (first ∷ next ∷ more) commands = ap (λ n. suc n) (length-with_commands (next ∷ more) commands)

with_commands-nil : (sections : List Section) → with_commands sections [] ≡ sections
with_commands-nil [] = refl
with_commands-nil (last ∷ []) = ap (λ cs. record { uid = last.uid; commands = cs } ∷ []) (append-nil last.commands)
with_commands-nil (first ∷ next ∷ more) = ap (λ ss. first ∷ ss) (with_commands-nil (next ∷ more))

with_commands-cons : (sections : List Section) (command : Command) (more : List Command)
    → with_commands (with_commands sections (command ∷ [])) more ≡ with_commands sections (command ∷ more)
with_commands-cons [] command more = refl
with_commands-cons (last ∷ []) command more =
    ap (λ cs. record { uid = last.uid; commands = cs } ∷ []) (append_assoc last.commands (command ∷ []) more)
with_commands-cons (first ∷ next ∷ []) command more = ap (λ ss. first ∷ ss) (with_commands-cons (next ∷ []) command more)
with_commands-cons (first ∷ next ∷ other ∷ rest) command more = ap (λ ss. first ∷ ss) (with_commands-cons (next ∷ other ∷ rest) command more)

with_commands-new : (sections : List Section) (uid : ℕ) (commands : List Command)
    → with_commands (sections ++ record { uid = uid; commands = [] } ∷ []) commands ≡ sections ++ record { uid = uid; commands = commands } ∷ []
with_commands-new [] uid commands = refl
with_commands-new (first ∷ []) uid commands = refl
with_commands-new (first ∷ next ∷ more) uid commands = ap (λ ss. first ∷ ss) (with_commands-new (next ∷ more) uid commands)

-- ---- from line to line

-- the number of the first line that is not allowed after those before it. `callers` is the number of
-- callers before the lines, and n the number of the first line
unfoldable pub first_bad_from : ℕ → ℕ → List (Option Statement) → Option ℕ
first_bad_from n callers [] = None
first_bad_from n callers (line ∷ more) =
    if may_stand callers line then first_bad_from (n + 1) (if is_caller line then callers + 1 else callers) more else Some n

pub first_bad_from-line : (before lines : List (Option Statement))
    → first_misplaced_line before lines ≡ first_bad_from (length before + 1) (count_by is_caller before) lines
unfolding first_misplaced_line first_bad_from
first_bad_from-line before [] = refl
first_bad_from-line before (line ∷ more) =
    let longer : length (before ++ line ∷ []) ≡ length before + 1 = length-append before (line ∷ []) in
    let counted : count_by is_caller (before ++ line ∷ []) ≡ (if is_caller line then count_by is_caller before + 1 else count_by is_caller before) =
    sum_by_push _ before line ∙ one_more (count_by is_caller before) (is_caller line) in
    ap (λ (o : Option ℕ). if may_stand (count_by is_caller before) line then o else Some (length before + 1))
    (first_bad_from-line (before ++ line ∷ []) more ∙ rw (longer, counted) refl)
  where
    one_more : (n : ℕ) (b : Bool) → n + cond b 1 0 ≡ (if b then n + 1 else n)
    one_more n true = refl
    one_more n false = omega arith

-- what the lines after these sections make, the first of them line n: the script, or the first bad line
pub read_from : ℕ → List Section → List (Option Statement) → Result (List Section) ℕ
read_from n sections lines =
    option_map_or Err (first_bad_from n (length sections) lines) (Ok (with_commands sections (commands_of n lines) ++ sections_of n lines))

pub read_from-text : (text : List ℕ) → parsed_script text ≡ read_from 1 [] (statements_of text)
unfolding parsed_script read_from
read_from-text text = rw (first_bad_from-line [] (statements_of text)) refl

pub read_from-end : (n : ℕ) (sections : List Section) → read_from n sections [] ≡ Ok sections
unfolding read_from first_bad_from commands_of sections_of
read_from-end n sections = ap Ok (append-nil _ ∙ with_commands-nil sections)

-- the first line, and what follows it
pub read_from-line : (n : ℕ) (sections : List Section) (line : Option Statement) (more : List (Option Statement))
    → read_from n sections (line ∷ more) ≡ option_map_or (λ after. read_from (n + 1) after more) (after_line n sections line) (Err n)
unfolding read_from first_bad_from commands_of sections_of
read_from-line n sections None more = refl
read_from-line n sections (Some Nothing) more = refl
read_from-line n sections (Some (Caller uid)) more =
    elim (cases_Bool (nat_lt (length sections) MAX_CALLERS)) [
      | inl room ↦
          let new : Section = record { uid = uid; commands = [] } in
          rw room (rw (length-append sections (new ∷ []), with_commands-nil sections, with_commands-new sections uid (commands_of (n + 1) more), append_assoc) refl)
      | inr other ↦ rw other refl
    ]
read_from-line n sections (Some (Order verb)) more =
    let command : Command = record { line = n; verb = verb } in
    elim (cases_Bool (nat_lt 0 (length sections))) [
      | inl room ↦ rw room (rw (length-with_commands sections (command ∷ []), with_commands-cons sections command (commands_of (n + 1) more)) refl)
      | inr other ↦ rw other refl
    ]

-- ---- lines of a text

-- a line that was ended, and what follows it
pub statements_in-line : (line text : List ℕ) → statements_in (line ∷ pieces_of text) ≡ statement_of line ∷ statements_of text
unfolding statements_in
statements_in-line line text = by_pieces (pieces_of text) (let e = length-slice_split is_line_feed text in omega arith)
  where
    by_pieces : (pieces : List (List ℕ)) → 0 < length pieces → statements_in (line ∷ pieces) ≡ statement_of line ∷ statements_in pieces
    by_pieces [] some = absurd (omega arith)
    by_pieces (next ∷ more) some = refl

-- a last piece with something in it
statements_in-unended : (last : List ℕ) → 0 < length last → statements_in (last ∷ []) ≡ None ∷ []
unfolding statements_in
statements_in-unended [] some = absurd (omega arith)
statements_in-unended (b ∷ bytes) some = grind arith

-- no text
pub statements_of-nil : (text : List ℕ) → length text ≡ 0 → statements_of text ≡ []
unfolding statements_in
statements_of-nil [] none = refl
statements_of-nil (b ∷ bytes) none = absurd (omega arith)

-- after a line in the grammar reading continues with the rest
pub line_taken : (n : ℕ) (sections after : List Section) (text line rest : List ℕ) (parsed : Result (List Section) ℕ)
    → parsed ≡ read_from n sections (statements_of text) → pieces_of text ≡ line ∷ pieces_of rest
    → after_line n sections (statement_of line) ≡ Some after → parsed ≡ read_from (n + 1) after (statements_of rest)
line_taken n sections after text line rest parsed told cut took =
    told ∙ rw (cut, statements_in-line line rest, read_from-line n sections (statement_of line) (statements_of rest), took) refl

-- reading ends at a line that is refused
pub line_refused : (n : ℕ) (sections after : List Section) (text line rest : List ℕ) (parsed : Result (List Section) ℕ) (fault : ScriptFault)
    → parsed ≡ read_from n sections (statements_of text) → pieces_of text ≡ line ∷ pieces_of rest
    → TakesLine n (after_line n sections (statement_of line)) (Err fault) after → Reads (Err fault) parsed
line_refused n sections after text line rest parsed NoMemory told cut refused = tt
line_refused n sections after text line rest parsed (BadLine m) told cut refused =
    rw refused.1
    (told ∙ rw (cut, statements_in-line line rest, read_from-line n sections (statement_of line) (statements_of rest), refused.0) refl)

-- a last piece that no line feed ended
pub line_unended : (n : ℕ) (sections : List Section) (text line : List ℕ) (parsed : Result (List Section) ℕ)
    → parsed ≡ read_from n sections (statements_of text) → pieces_of text ≡ line ∷ [] → text ≡ line ++ [] → 0 < length text
    → parsed ≡ Err n
line_unended n sections text line parsed told cut whole some =
    let e : text ≡ line = whole ∙ append-nil line in
    told ∙ rw (cut, statements_in-unended line (subst (λ (xs : List ℕ). 0 < length xs) e some), read_from-line n sections None []) refl

pub nonempty : (xs : List ℕ) → (length xs == 0) ≡ false → 0 < length xs
nonempty [] h = absurd (cc h)
nonempty (x ∷ xs) h = omega arith

-- what follows a line is shorter than the text
pub shorter : (text line rest : List ℕ) → text ≡ line ++ (10 ∷ rest) → length rest < length text
shorter text line rest whole = omega (arith, ap length whole, length-append line (10 ∷ rest))

chosen : (b : Bool) (x : List Section) → b ≡ true → (let o : Option (List Section) = if b then Some x else None in o ≡ Some x)
chosen b x h = rw h refl

left_out : (b : Bool) (x : List Section) → b ≡ false → (let o : Option (List Section) = if b then Some x else None in o ≡ None)
left_out b x h = rw h refl

some_eq : {x y : List Section} → Some x ≡ Some y → x ≡ y
some_eq h = cc h

-- no more sections than callers may be
pub few_callers : (n : ℕ) (sections after : List Section) (line : Option Statement) → length sections ≤ MAX_CALLERS
    → after_line n sections line ≡ Some after → length after ≤ MAX_CALLERS
few_callers n sections after None few took = absurd (cc took)
few_callers n sections after (Some Nothing) few took = let e : sections ≡ after = cc took in omega (arith, ap length e)
few_callers n sections after (Some (Caller uid)) few took =
    let new : Section = record { uid = uid; commands = [] } in
    elim (cases_Bool (nat_lt (length sections) MAX_CALLERS)) [
      | inl room ↦
          let e : Some (sections ++ new ∷ []) ≡ Some after = sym (chosen (nat_lt (length sections) MAX_CALLERS) (sections ++ new ∷ []) room) ∙ took in
          omega (arith, ltb-true _ _ room, ap length (some_eq e), length-append sections (new ∷ []))
      | inr other ↦ absurd (cc (sym (left_out (nat_lt (length sections) MAX_CALLERS) (sections ++ new ∷ []) other) ∙ took))
    ]
few_callers n sections after (Some (Order verb)) few took =
    let command : Command = record { line = n; verb = verb } in
    elim (cases_Bool (nat_lt 0 (length sections))) [
      | inl room ↦
          let e : Some (with_commands sections (command ∷ [])) ≡ Some after = sym (chosen (nat_lt 0 (length sections)) (with_commands sections (command ∷ [])) room) ∙ took in
          omega (arith, ap length (some_eq e), length-with_commands sections (command ∷ []))
      | inr other ↦ absurd (cc (sym (left_out (nat_lt 0 (length sections)) (with_commands sections (command ∷ [])) other) ∙ took))
    ]
