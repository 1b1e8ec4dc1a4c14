-- How the words after a command's name are read, one by one.
use Rattle.std.specs.Prelude.{ℕ, ◌≡◌, ◌==◌, List, length, drop, slice_get, Option}
use Rattle.std.specs.Prelude.{Some, None, Result, Ok, Err, if◌then◌else◌}
use Rattle.std.specs.Option.{option_map, option_and_then}
use Rattle.script_lang.specs.declared.words.Unread.{Unread}
use Rattle.script_lang.specs.declared.words.Unread.TheVariants.{OutsideGrammar, NoMemory}

-- A form reads some of the words. It gives their value and the words that are left, or none if they are
-- outside the grammar.
abbrev pub Form : Type 0 → Type 0
Form A = List (List ℕ) → Option (A × List (List ℕ))

-- no further word
abbrev pub says : {A : Type 0} → A → Form A
says a = λ words. Some (a, words)

-- one form, and then the next
infixl 10 ◌>>=◌
abbrev pub ◌>>=◌ : {A B : Type 0} → Form A → (A → Form B) → Form B
form >>= next = λ words. option_and_then (λ x. next x.0 x.1) (form words)

-- one word
abbrev pub word : {A : Type 0} → (List ℕ → Option A) → Form A
word read = λ words. option_map (λ a. (a, drop 1 words)) (option_and_then read (slice_get words 0))

-- one word and what is made of it
abbrev pub only : {A B : Type 0} → (A → B) → (List ℕ → Option A) → Form B
only make read = word read >>= λ a. says (make a)

-- the form, if a word is left
abbrev pub optional : {A : Type 0} → Form A → Form (Option A)
optional form = λ words. if length words == 0 then Some (None, words) else (form >>= λ a. says (Some a)) words

-- what was read, if no word is left
abbrev pub if_no_word_left : {A : Type 0} → A × List (List ℕ) → Option A
if_no_word_left x = if length x.1 == 0 then Some x.0 else None

-- the value of all words
abbrev pub whole : {A : Type 0} → Form A → List (List ℕ) → Option A
whole form words = option_and_then if_no_word_left (form words)

-- the reader returns the form's value and leaves the words that the form leaves, or returns that they are
-- outside the grammar. It may be out of memory at any time
abbrev pub Takes : {A : Type 0} → Result A Unread → Option (A × List (List ℕ)) → List (List ℕ) → Type 0
Takes (Ok a) read left = read ≡ Some (a, left)
Takes (Err OutsideGrammar) read left = read ≡ None
Takes (Err NoMemory) read left = Unit {0}
