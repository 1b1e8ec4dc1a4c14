-- What is made of the words of a line, one after the other.
use Rattle.std.specs.Prelude.{ℕ, ◌≡◌, ⊤, List, [], drop, slice_get, unwrap_or, Result, Ok, Err}

-- what is made of some words, and the words that are left
abbrev pub Form : Type 0 → Type 0
Form A = List (List ℕ) → A × List (List ℕ)

-- no further word
abbrev pub accept_end : {A : Type 0} → A → Form A
accept_end a = λ words. (a, words)

-- one form, and then the next
infixl 10 ◌>>=◌
abbrev pub ◌>>=◌ : {A B : Type 0} → Form A → (A → Form B) → Form B
form >>= next = λ words. next (form words).0 (form words).1

-- one word, which is empty past the last one
abbrev pub word : {A : Type 0} → (List ℕ → A) → Form A
word read = λ words. (read (unwrap_or (slice_get words 0) []), drop 1 words)

-- one word, and what is made of its value
abbrev pub only : {A B : Type 0} → (A → B) → (List ℕ → A) → Form B
only make read = word read >>= λ a. accept_end (make a)

-- a function that reads makes what the form makes, and leaves the words that the form leaves; out of memory
-- is always possible
abbrev pub Makes : {A E : Type 0} → Result A E → A × List (List ℕ) → List (List ℕ) → Type 0
Makes (Ok made) read left = read ≡ (made, left)
Makes (Err error) read left = ⊤
