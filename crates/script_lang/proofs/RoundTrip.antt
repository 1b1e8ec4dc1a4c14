-- What is written of a script reads back as it.
use Rattle.std.proofs.Common.{◌≡◌, ℕ, zero, suc, ◌<◌, ◌≤◌, ◌+◌, ◌-◌, false, List, [], ◌∷◌, ◌++◌, length, Option, Some, None, Result, Ok, refl, sym, ap, ◌∙◌, arith, append_assoc, add-zero}
use Rattle.std.specs.Prelude.{◌↔◌}
use Rattle.std.specs.List.{All}
use Rattle.std.proofs.lemmas.Bool.{lt-ltb}
use Rattle.std.proofs.lemmas.List.Splits.{slice_split_at}
use Rattle.text_words.specs.Lines.{is_line_feed}
use Rattle.script_lang.specs.Statements.{statement_of}
use Rattle.script_lang.specs.Sections.{commands_of, sections_of}
use Rattle.script_lang.specs.Script.{statements_of, parsed_script}
use Rattle.script_lang.specs.VerbText.{verb_text}
use Rattle.script_lang.specs.Writing.{empty_lines, caller_text, commands_text, first_free_line, sections_text, script_text}
use Rattle.script_lang.specs.Spelled.{FollowInOrder, HaveSpace, IsWritable, IsSpelled}
use Rattle.script_lang.specs.declared.limits.TheConstants.{MAX_CALLERS}
use Rattle.script_lang.specs.declared.commands.Command.{Command}
use Rattle.script_lang.specs.declared.commands.Section.{Section}
use Rattle.script_lang.specs.declared.statements.Statement.{Statement}
use Rattle.script_lang.specs.declared.statements.Statement.TheVariants.{Nothing, Caller, Order}
use Rattle.script_lang.proofs.ReadingLemmas.{statements_in-line, statements_of-nil, first_bad_from, first_bad_from-line}
use Rattle.script_lang.proofs.SpelledLemmas.{IsWritable-spelled}
use Rattle.script_lang.proofs.TextLemmas.{statement_of-caller, caller_text-feedless, statement_of-verb, verb_text-feedless}

-- ---- the statements of the lines of a written script

-- that many empty lines, and then these
nothings : ℕ → List (Option Statement) → List (Option Statement)
nothings zero lines = lines
nothings (suc n) lines = Some Nothing ∷ nothings n lines

-- the lines of commands from line n on, and then these
command_lines : ℕ → List Command → List (Option Statement) → List (Option Statement)
command_lines n [] lines = lines
command_lines n (command ∷ more) lines = nothings (command.line - n) (Some (Order command.verb) ∷ command_lines (command.line + 1) more lines)

-- the lines of sections from line n on
section_lines : ℕ → List Section → List (Option Statement)
section_lines n [] = []
section_lines n (section ∷ more) =
    Some (Caller section.uid) ∷ command_lines (n + 1) section.commands (section_lines (first_free_line (n + 1) section.commands) more)

-- a line before a text
statements_of-line : (line text : List ℕ) → All (λ b. is_line_feed b ≡ false) line
    → statements_of (line ++ 10 ∷ text) ≡ statement_of line ∷ statements_of text
statements_of-line line text clean = rw (slice_split_at is_line_feed line 10 text clean refl) (statements_in-line line text)

statements_of-empty : (n : ℕ) (text : List ℕ) → statements_of (empty_lines n ++ text) ≡ nothings n (statements_of text)
unfolding nothings
statements_of-empty zero text = refl
statements_of-empty (suc n) text = statements_in-line [] (empty_lines n ++ text) ∙ ap (λ lines. Some Nothing ∷ lines) (statements_of-empty n text)

statements_of-commands : (n : ℕ) (commands : List Command) (text : List ℕ) → FollowInOrder n commands
    → statements_of (commands_text n commands ++ text) ≡ command_lines n commands (statements_of text)
unfolding commands_text command_lines
statements_of-commands n [] text h = refl
statements_of-commands n (command ∷ more) text h =
    let rest = commands_text (command.line + 1) more ++ text in
    ap (λ t. statements_of t) (regrouped (empty_lines (command.line - n)) (verb_text command.verb) (commands_text (command.line + 1) more) text)
    ∙ (statements_of-empty (command.line - n) (verb_text command.verb ++ 10 ∷ rest)
    ∙ ap (nothings (command.line - n))
    (statements_of-line (verb_text command.verb) rest (verb_text-feedless command.verb h.1.0)
    ∙ ap (λ said. said ∷ statements_of rest) (statement_of-verb command.verb h.1.0)
    ∙ ap (λ lines. Some (Order command.verb) ∷ lines) (statements_of-commands (command.line + 1) more text h.1.1)))
  where
    regrouped : (a b c d : List ℕ) → a ++ (b ++ 10 ∷ []) ++ c ++ d ≡ a ++ (b ++ 10 ∷ (c ++ d))
    regrouped a b c d = simp append_assoc

statements_of-sections : (n : ℕ) (sections : List Section) → HaveSpace n sections
    → statements_of (sections_text n sections) ≡ section_lines n sections
unfolding sections_text section_lines
statements_of-sections n [] h = statements_of-nil [] refl
statements_of-sections n (section ∷ more) h =
    let next = first_free_line (n + 1) section.commands in
    let rest = sections_text next more in
    ap (λ t. statements_of t) (append_assoc (caller_text section.uid) (10 ∷ commands_text (n + 1) section.commands) rest)
    ∙ (statements_of-line (caller_text section.uid) (commands_text (n + 1) section.commands ++ rest) (caller_text-feedless section.uid h.0)
    ∙ ap (λ said. said ∷ statements_of (commands_text (n + 1) section.commands ++ rest)) (statement_of-caller section.uid h.0)
    ∙ ap (λ lines. Some (Caller section.uid) ∷ lines)
    (statements_of-commands (n + 1) section.commands rest h.1.0
    ∙ ap (command_lines (n + 1) section.commands) (statements_of-sections next more h.1.1)))

-- ---- the sections that those lines make

commands_of-nothings : (m n : ℕ) (lines : List (Option Statement)) → commands_of m (nothings n lines) ≡ commands_of (m + n) lines
unfolding nothings commands_of
commands_of-nothings m zero lines = rw add-zero refl
commands_of-nothings m (suc n) lines =
    let e : m + 1 + n ≡ m + suc n = omega arith in
    commands_of-nothings (m + 1) n lines ∙ ap (λ k. commands_of k lines) e

sections_of-nothings : (m n : ℕ) (lines : List (Option Statement)) → sections_of m (nothings n lines) ≡ sections_of (m + n) lines
unfolding nothings sections_of
sections_of-nothings m zero lines = rw add-zero refl
sections_of-nothings m (suc n) lines =
    let e : m + 1 + n ≡ m + suc n = omega arith in
    sections_of-nothings (m + 1) n lines ∙ ap (λ k. sections_of k lines) e

commands_of-command_lines : (n : ℕ) (commands : List Command) (lines : List (Option Statement)) → FollowInOrder n commands
    → ((k : ℕ) → commands_of k lines ≡ []) → commands_of n (command_lines n commands lines) ≡ commands
unfolding commands_of command_lines
commands_of-command_lines n [] lines h none = none n
commands_of-command_lines n (command ∷ more) lines h none =
    let first = h.0 in
    let here : n + (command.line - n) ≡ command.line = omega arith in
    commands_of-nothings n (command.line - n) _
    ∙ rw here (ap (λ cs. command ∷ cs) (commands_of-command_lines (command.line + 1) more lines h.1.1 none))

sections_of-command_lines : (n : ℕ) (commands : List Command) (lines : List (Option Statement)) → FollowInOrder n commands
    → sections_of n (command_lines n commands lines) ≡ sections_of (first_free_line n commands) lines
unfolding sections_of command_lines
sections_of-command_lines n [] lines h = refl
sections_of-command_lines n (command ∷ more) lines h =
    let first = h.0 in
    let here : n + (command.line - n) ≡ command.line = omega arith in
    sections_of-nothings n (command.line - n) _
    ∙ rw here (sections_of-command_lines (command.line + 1) more lines h.1.1)

-- there is no command before the first caller
commands_of-section_lines : (k n : ℕ) (sections : List Section) → commands_of k (section_lines n sections) ≡ []
unfolding commands_of section_lines
commands_of-section_lines k n [] = refl
commands_of-section_lines k n (section ∷ more) = refl

sections_of-section_lines : (n : ℕ) (sections : List Section) → HaveSpace n sections → sections_of n (section_lines n sections) ≡ sections
unfolding sections_of section_lines
sections_of-section_lines n [] h = refl
sections_of-section_lines n (section ∷ more) h =
    let next = first_free_line (n + 1) section.commands in
    let own = commands_of-command_lines (n + 1) section.commands (section_lines next more) h.1.0 (λ k. commands_of-section_lines k next more) in
    let others = sections_of-command_lines (n + 1) section.commands (section_lines next more) h.1.0 ∙ sections_of-section_lines next more h.1.1 in
    ap (λ cs. record { uid = section.uid; commands = cs } ∷ sections_of (n + 1) (command_lines (n + 1) section.commands (section_lines next more))) own
    ∙ ap (λ ss. section ∷ ss) others

-- ---- each of those lines is allowed after those before it

first_bad_from-nothings : (m n callers : ℕ) (lines : List (Option Statement)) → ((k : ℕ) → first_bad_from k callers lines ≡ None)
    → first_bad_from m callers (nothings n lines) ≡ None
unfolding first_bad_from nothings
first_bad_from-nothings m zero callers lines good = good m
first_bad_from-nothings m (suc n) callers lines good = first_bad_from-nothings (m + 1) n callers lines good

first_bad_from-order : (k callers : ℕ) (verb : _) (lines : List (Option Statement)) → 0 < callers → first_bad_from (k + 1) callers lines ≡ None
    → first_bad_from k callers (Some (Order verb) ∷ lines) ≡ None
unfolding first_bad_from
first_bad_from-order k callers verb lines some good = rw (lt-ltb 0 callers some) good

first_bad_from-commands : (k n callers : ℕ) (commands : List Command) (lines : List (Option Statement)) → 0 < callers
    → ((k : ℕ) → first_bad_from k callers lines ≡ None) → first_bad_from k callers (command_lines n commands lines) ≡ None
unfolding command_lines
first_bad_from-commands k n callers [] lines some good = good k
first_bad_from-commands k n callers (command ∷ more) lines some good =
    first_bad_from-nothings k (command.line - n) callers _
    (λ j. first_bad_from-order j callers command.verb _ some (first_bad_from-commands (j + 1) (command.line + 1) callers more lines some good))

first_bad_from-sections : (k n callers : ℕ) (sections : List Section) → callers + length sections ≤ MAX_CALLERS
    → first_bad_from k callers (section_lines n sections) ≡ None
unfolding first_bad_from section_lines
first_bad_from-sections k n callers [] few = refl
first_bad_from-sections k n callers (section ∷ more) few =
    rw (lt-ltb callers MAX_CALLERS (omega arith))
    (first_bad_from-commands (k + 1) (n + 1) (callers + 1) section.commands _ (omega arith)
    (λ j. first_bad_from-sections j (first_free_line (n + 1) section.commands) (callers + 1) more (omega arith)))

-- ---- the script

pub parsed_script-script_text : (script : List Section) → IsWritable script → parsed_script (script_text script) ≡ Ok script
unfolding parsed_script script_text
parsed_script-script_text script h =
    let few = h.0 in
    rw (statements_of-sections 1 script h.1)
    (rw (first_bad_from-line [] (section_lines 1 script), first_bad_from-sections 1 1 0 script (omega arith), sections_of-section_lines 1 script h.1) refl)

pub parsed_script-spelled : (script : List Section) → IsSpelled script → parsed_script (script_text script) ≡ Ok script
parsed_script-spelled script spelled = parsed_script-script_text script (IsWritable-spelled spelled.0 script spelled.1)

pub script_text-distinct : (one other : List Section) → IsSpelled one → IsSpelled other → script_text one ≡ script_text other → one ≡ other
script_text-distinct one other hone hother same =
    ok_eq one other (sym (parsed_script-spelled one hone) ∙ ap parsed_script same ∙ parsed_script-spelled other hother)
  where
    ok_eq : (one other : List Section) → (let r : Result (List Section) ℕ = Ok one in r ≡ Ok other) → one ≡ other
    ok_eq one other e = cc e

pub IsSpelled-writable : (script : List Section) → IsSpelled script ↔ IsWritable script
IsSpelled-writable script = (λ h. IsWritable-spelled h.0 script h.1, λ h. (script_text script, parsed_script-script_text script h))
