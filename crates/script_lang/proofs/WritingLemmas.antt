-- The writer goes on by a command, and by a section.
use Rattle.std.proofs.Common.{◌≡◌, ℕ, suc, ◌<◌, ◌≤◌, ◌+◌, ◌-◌, List, [], ◌∷◌, ◌++◌, length, drop, drop-cons, get_or, codes, refl, sym, ap, ◌∙◌, add-one, append_assoc, append-nil}
use Rattle.std.proofs.lemmas.List.{drop_all}
use Rattle.script_lang.specs.VerbText.{verb_text}
use Rattle.script_lang.specs.Writing.{empty_lines, caller_text, commands_text, first_free_line, sections_text, script_text}
use Rattle.script_lang.specs.declared.commands.Command.{Command}
use Rattle.script_lang.specs.declared.commands.Section.{Section}

-- the rest of a list begins with the item at its place
drop_item : {X : Type 0} (xs : List X) (i : ℕ) (x : X) → i < length xs → x ≡ get_or xs i x → drop i xs ≡ x ∷ drop (i + 1) xs
drop_item xs i x lt is = rw add-one (drop-cons xs i x lt ∙ ap (λ y. y ∷ drop (suc i) xs) (sym is))

pub commands_text-more : (text after whole : List ℕ) (n i : ℕ) (command : Command) (commands : List Command)
    → i < length commands → command ≡ get_or commands i command
    → after ≡ text ++ empty_lines (command.line - n) ++ verb_text command.verb ++ 10 ∷ []
    → text ++ commands_text n (drop i commands) ≡ whole
    → after ++ commands_text (command.line + 1) (drop (i + 1) commands) ≡ whole
unfolding commands_text
commands_text-more text after whole n i command commands lt is wrote told =
    rw wrote (simp append_assoc (simp append_assoc at (rw (drop_item commands i command lt is) at told)))

pub first_free_line-more : (n i line : ℕ) (command : Command) (commands : List Command)
    → i < length commands → command ≡ get_or commands i command
    → first_free_line n (drop i commands) ≡ line → first_free_line (command.line + 1) (drop (i + 1) commands) ≡ line
first_free_line-more n i line command commands lt is told = rw (drop_item commands i command lt is) at told

pub commands_text-end : (text whole : List ℕ) (n i : ℕ) (commands : List Command) → length commands ≤ i
    → text ++ commands_text n (drop i commands) ≡ whole → text ≡ whole
unfolding commands_text
commands_text-end text whole n i commands le told = sym (append-nil text) ∙ rw (drop_all i commands le) at told

pub sections_text-more : (text after whole : List ℕ) (n next i : ℕ) (section : Section) (sections : List Section)
    → i < length sections → section ≡ get_or sections i section
    → after ≡ text ++ (caller_text section.uid ++ codes "\n") ++ commands_text (n + 1) section.commands
    → next ≡ first_free_line (n + 1) section.commands
    → text ++ sections_text n (drop i sections) ≡ whole
    → after ++ sections_text next (drop (i + 1) sections) ≡ whole
unfolding sections_text
sections_text-more text after whole n next i section sections lt is wrote behind told =
    rw (wrote, behind) (simp append_assoc (simp append_assoc at (rw (drop_item sections i section lt is) at told)))

pub sections_text-end : (text whole : List ℕ) (n i : ℕ) (sections : List Section) → length sections ≤ i
    → text ++ sections_text n (drop i sections) ≡ whole → text ≡ whole
unfolding sections_text
sections_text-end text whole n i sections le told = sym (append-nil text) ∙ rw (drop_all i sections le) at told

pub script_text-line : (script : List Section) → sections_text 1 script ≡ script_text script
unfolding script_text
script_text-line script = refl
