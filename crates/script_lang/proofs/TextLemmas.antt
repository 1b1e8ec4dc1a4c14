-- The statements of the lines that are written of callers and commands.
use Rattle.std.proofs.Common.{◌≡◌, ℕ, suc, ◌<◌, ◌^◌, ◌==◌, ◌||◌, not, Bool, true, false, List, [], ◌∷◌, ◌++◌, length, codes, Option, Some, refl, sym, ap, ◌∙◌, arith, append-nil, subst}
use Rattle.std.specs.Prelude.{slice_index, if◌then◌else◌}
use Rattle.std.specs.List.{All}
use Rattle.std.specs.Option.{option_map, option_and_then}
use Rattle.std.specs.Str.{bytes_eq}
use Rattle.std.proofs.lemmas.Bool.{and_parts, ltb-true}
use Rattle.std.proofs.lemmas.Bool.Decides.{nat_tests}
use Rattle.std.proofs.lemmas.List.Elements.{All-nil, All-cons, All-append}
use Rattle.std.proofs.lemmas.List.Splits.{slice_split_at, slice_split_none}
use Rattle.text_words.specs.Lines.{is_line_feed}
use Rattle.text_words.specs.Numbers.{decimal_of}
use Rattle.text_words.specs.Words.{words_of, is_space}
use Rattle.script_lang.specs.Forms.{word, whole}
use Rattle.script_lang.specs.Names.{name_text}
use Rattle.script_lang.specs.VerbNames.{name_in}
use Rattle.script_words.specs.Numbers.{number_of}
use Rattle.script_lang.specs.Commands.{command_named, verb_of}
use Rattle.script_lang.specs.VerbText.{verb_text, with_leading_spaces}
use Rattle.script_lang.specs.VerbWords.{verb_words}
use Rattle.script_lang.specs.Statements.{statement_of_name, statement_of_words, statement_of}
use Rattle.script_lang.specs.Writing.{caller_text}
use Rattle.script_lang.specs.CommandTasks.{IsAskable}
use Rattle.script_lang.specs.declared.names.CommandName.{CommandName}
use Rattle.script_lang.specs.declared.verb.Verb.{Verb}
use Rattle.script_lang.specs.declared.statements.Statement.{Statement}
use Rattle.script_lang.specs.declared.statements.Statement.TheVariants.{Nothing, Caller, Order}
use Rattle.script_lang.proofs.NameLaws.{is_name_word, name_text-good, name_of-text}
use Rattle.script_words.proofs.PlainWords.{IsPlain, ArePlain, IsPlain-from_test, IsPlain-decimal_of, without}
use Rattle.script_lang.proofs.VerbLaws.{command_named-words, verb_words-plain}
use Rattle.script_words.proofs.WordReadings.{number_of-text}

-- ---- a line of words

-- the words of a line are those that it was written of
words_of-spaced : (first : List ℕ) (words : List (List ℕ)) → IsPlain first → ArePlain words
    → words_of (first ++ with_leading_spaces words) ≡ first ∷ words
words_of-spaced first [] h each = ap words_of (append-nil first) ∙ slice_split_none is_space first (without first 32 h (omega arith))
words_of-spaced first (next ∷ words) h each =
    slice_split_at is_space first 32 (next ++ with_leading_spaces words) (without first 32 h (omega arith)) refl
    ∙ ap (λ ws. first ∷ ws) (words_of-spaced next words each.0 each.1)

spaced-feedless : (words : List (List ℕ)) → ArePlain words → All (λ b. is_line_feed b ≡ false) (with_leading_spaces words)
spaced-feedless [] each = All-nil (λ (b : ℕ). is_line_feed b ≡ false)
spaced-feedless (word ∷ words) each =
    All-cons (λ (b : ℕ). is_line_feed b ≡ false) 32 (word ++ with_leading_spaces words) refl
    (All-append (λ (b : ℕ). is_line_feed b ≡ false) word (with_leading_spaces words) (without word 10 each.0 (omega arith)) (spaced-feedless words each.1))

feedless : (first : List ℕ) (words : List (List ℕ)) → IsPlain first → ArePlain words
    → All (λ b. is_line_feed b ≡ false) (first ++ with_leading_spaces words)
feedless first words h each =
    All-append (λ (b : ℕ). is_line_feed b ≡ false) first (with_leading_spaces words) (without first 10 h (omega arith)) (spaced-feedless words each)

-- the statement of a line that is not empty and begins no comment is that of its words
statement_of-line : (line : List ℕ) → 0 < length line → (slice_index line 0 == 35) ≡ false → statement_of line ≡ statement_of_words (words_of line)
statement_of-line [] some other = absurd (omega arith)
statement_of-line (b ∷ line) some other =
    said (length (b ∷ line) == 0) (b == 35) (statement_of_words (words_of (b ∷ line))) (filled (length line)) other
  where
    filled : (n : ℕ) → (suc n == 0) ≡ false
    filled n = grind (arith, nat_tests)

    said : (empty comment : Bool) (o : Option Statement) → empty ≡ false → comment ≡ false
        → (let p : Option Statement = if empty || comment then Some Nothing else o in p ≡ o)
    said empty comment o he hc = rw (he, hc) refl

-- the same of a line that was written of words
statement_of-spaced : (first : List ℕ) (words : List (List ℕ)) → 0 < length first → (slice_index first 0 == 35) ≡ false
    → IsPlain first → ArePlain words → statement_of (first ++ with_leading_spaces words) ≡ statement_of_name first words
statement_of-spaced [] words some other h each = absurd (omega arith)
statement_of-spaced (b ∷ first) words some other h each =
    statement_of-line ((b ∷ first) ++ with_leading_spaces words) (omega arith) other
    ∙ ap statement_of_words (words_of-spaced (b ∷ first) words h each)

-- ---- the line of a caller

caller_line : (uid : ℕ) → caller_text uid ≡ codes "caller" ++ with_leading_spaces (decimal_of uid ∷ [])
caller_line uid = ap (λ word. codes "caller " ++ word) (sym (append-nil (decimal_of uid)))

caller_words : (uid : ℕ) → uid < 2 ^ 32 → ArePlain (decimal_of uid ∷ [])
caller_words uid small = (IsPlain-decimal_of uid (omega arith), tt)

pub statement_of-caller : (uid : ℕ) → uid < 2 ^ 32 → statement_of (caller_text uid) ≡ Some (Caller uid)
statement_of-caller uid small =
    let words = decimal_of uid ∷ [] in
    let line : statement_of (codes "caller" ++ with_leading_spaces words) ≡ statement_of_name (codes "caller") words =
    statement_of-spaced (codes "caller") words (omega arith) refl (IsPlain-from_test (codes "caller") refl) (caller_words uid small) in
    let named : statement_of_name (codes "caller") words ≡ Some (Caller uid) = rw (number_of-text uid small) refl in
    ap statement_of (caller_line uid) ∙ line ∙ named

pub caller_text-feedless : (uid : ℕ) → uid < 2 ^ 32 → All (λ b. is_line_feed b ≡ false) (caller_text uid)
caller_text-feedless uid small =
    subst (λ (text : List ℕ). All (λ b. is_line_feed b ≡ false) text) (sym (caller_line uid))
    (feedless (codes "caller") (decimal_of uid ∷ []) (IsPlain-from_test (codes "caller") refl) (caller_words uid small))

-- ---- the line of a command

record IsNameWord (first : List ℕ) : Type 0 where
  pub no_caller : bytes_eq first (codes "caller") ≡ false
  pub plain : IsPlain first
  pub no_comment : (slice_index first 0 == 35) ≡ false
  pub some : 0 < length first

was_not : (b : Bool) → not b ≡ true → b ≡ false
was_not true h = absurd (cc h)
was_not false h = refl

name_word : (first : List ℕ) → is_name_word first ≡ true → IsNameWord first
name_word first h =
    let a = and_parts _ _ h in
    let b = and_parts _ _ a.1 in
    let c = and_parts _ _ b.1 in
    record {
      no_caller = was_not _ a.0;
      plain = IsPlain-from_test first b.0;
      no_comment = was_not _ c.0;
      some = ltb-true 0 (length first) c.1;
    }

verb_of-text : (name : CommandName) (words : List (List ℕ)) → verb_of (name_text name) words ≡ command_named name words
verb_of-text name words = ap (option_and_then (λ n. command_named n words)) (name_of-text name)

named : (first : List ℕ) (words : List (List ℕ)) → bytes_eq first (codes "caller") ≡ false
    → statement_of_name first words ≡ option_map Order (verb_of first words)
named first words other = chosen (bytes_eq first (codes "caller")) (option_map Caller (whole (word number_of) words)) (option_map Order (verb_of first words)) other
  where
    chosen : (b : Bool) (x y : Option Statement) → b ≡ false → (let o : Option Statement = if b then x else y in o ≡ y)
    chosen b x y h = rw h refl

-- the statement of a command's line is that command
pub statement_of-verb : (verb : Verb) → IsAskable verb → statement_of (verb_text verb) ≡ Some (Order verb)
unfolding verb_text
statement_of-verb verb asked =
    let is = name_word (name_text (name_in verb)) (name_text-good (name_in verb)) in
    statement_of-spaced (name_text (name_in verb)) (verb_words verb) is.some is.no_comment is.plain (verb_words-plain verb asked)
    ∙ named (name_text (name_in verb)) (verb_words verb) is.no_caller
    ∙ ap (option_map Order) (verb_of-text (name_in verb) (verb_words verb) ∙ command_named-words verb asked)

pub verb_text-feedless : (verb : Verb) → IsAskable verb → All (λ b. is_line_feed b ≡ false) (verb_text verb)
unfolding verb_text
verb_text-feedless verb asked =
    let is = name_word (name_text (name_in verb)) (name_text-good (name_in verb)) in
    feedless (name_text (name_in verb)) (verb_words verb) is.plain (verb_words-plain verb asked)
