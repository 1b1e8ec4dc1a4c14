-- Why a line is outside the grammar, by its bytes, its name and the words after it.
use Rattle.std.specs.Prelude.{ℕ, Bool, is_some, ◌==◌, ◌+◌, nat_eq, List, [], ◌∷◌, length, drop, slice_get}
use Rattle.std.specs.Prelude.{codes, Option, Some, None, if◌then◌else◌}
use Rattle.std.specs.List.{starts_with, list_any}
use Rattle.std.specs.Option.{option_map_or, unwrap_or}
use Rattle.std.specs.Str.{bytes_eq}
use Rattle.text_words.specs.Words.{words_of}
use Rattle.script_lang.specs.Names.{name_of}
use Rattle.script_faults.specs.WordKinds.{kinds_of}
use Rattle.script_faults.specs.WordTests.{is_one}
use Rattle.script_faults.specs.declared.faults.TheConstants.{BYTE_ORDER_MARK}
use Rattle.script_faults.specs.declared.faults.LineFault.{LineFault}
use Rattle.script_faults.specs.declared.faults.LineFault.TheVariants as fault
use Rattle.script_faults.specs.declared.word_kinds.WordKind.{WordKind}
use Rattle.script_faults.specs.declared.word_kinds.WordKind.TheVariants as kind

-- whether the word is the name of a command
abbrev pub is_usable : List ℕ → Bool
is_usable word = is_some (name_of word)

-- bytes that no line of a command may have: a byte order mark at the beginning, a carriage return, a tab
abbrev pub spelling_fault : List ℕ → Option LineFault
spelling_fault line =
    if starts_with nat_eq line BYTE_ORDER_MARK then Some fault.ByteOrderMark
    else if list_any (λ b. b == 13) line then Some fault.CarriageReturn
    else if list_any (λ b. b == 9) line then Some fault.Tab
    else None

-- the fault of a word that is an empty one, between or beside spaces, or else is no such word
abbrev pub word_fault : LineFault → List ℕ → LineFault
word_fault otherwise word = if length word == 0 then fault.SpareSpace else otherwise

-- the fault of words that must be of these kinds, the first of them word n after the name. It is the
-- first word that is not of its kind; if each is, that they are too few or too many
abbrev pub words_fault : ℕ → List WordKind → List (List ℕ) → LineFault
words_fault n [] [] = fault.TooManyWords
words_fault n [] (word ∷ words) = word_fault fault.TooManyWords word
words_fault n (wanted ∷ kinds) [] = fault.TooFewWords
words_fault n (wanted ∷ kinds) (word ∷ words) =
    if is_one wanted word then words_fault (n + 1) kinds words
    else word_fault (fault.NoSuchWord n wanted) word

-- the fault of a name and the words after it
abbrev pub named_fault : List ℕ → List (List ℕ) → LineFault
named_fault name words =
    if bytes_eq name (codes "caller") then words_fault 1 (kind.Number ∷ []) words
    else option_map_or (λ known. words_fault 1 (kinds_of known) words) (name_of name)
    (word_fault fault.NoCommand name)

-- the fault of the words of a line, of which the first is the name
abbrev pub fault_of_words : List (List ℕ) → LineFault
fault_of_words words =
    option_map_or (λ name. named_fault name (drop 1 words)) (slice_get words 0) fault.NoCommand

-- why a line outside the grammar is outside it
abbrev pub grammar_fault : List ℕ → LineFault
grammar_fault line = unwrap_or (spelling_fault line) (fault_of_words (words_of line))
