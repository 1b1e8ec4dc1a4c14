-- The line of an entry is read as the text of that entry.
use Rattle.std.proofs.Common.{◌≡◌, ℕ, IfSome, ◌-◌, ◌<◌, ◌≤◌, ◌^◌, List, [], ◌∷◌, ◌++◌, length, take, codes, Option, Some, None, refl, ap, ap₂, sym, ◌∙◌, subst, append_assoc, arith}
use Rattle.std.specs.List.{All}
use Rattle.std.proofs.lemmas.List.Elements.{All-nil, All-cons, All-append}
use Rattle.text_words.specs.Numbers.{decimal_of}
use Rattle.text_words.specs.Words.{words_of}
use Rattle.mount_model.specs.declared.call.Op.{Op}
use Rattle.mount_model.specs.declared.reply.Reply.{Reply}
use Rattle.mount_model.specs.Fits.{Fits}
use Rattle.mount_model.specs.History.{MountEntry}
use Rattle.script_lang.specs.Names as commands
use Rattle.reply_text.specs.Calls.{call_text}
use Rattle.reply_text.specs.Replies.{reply_text}
use Rattle.reply_text.specs.Log.{entry_text}
use Rattle.reply_text.specs.LogLaws.{told}
use Rattle.reply_text.proofs.FieldLemmas.{IsField-decimal}
use Rattle.entry_reader.specs.declared.reader.LogEntry.{LogEntry}
use Rattle.entry_reader.specs.Fields.{number_in, place_in}
use Rattle.entry_reader.specs.ReplyForms.{reply_form}
use Rattle.entry_reader.specs.Names.{name_text}
use Rattle.entry_reader.specs.Guess.{entry_after_call, entry_form, guess_of}
use Rattle.entry_reader.specs.Reading.{IsEntry, IsLineOf, IsEntryIfLine, IsEntryOfLine, ReadsBack}
use Rattle.reply_text.proofs.LineLemmas.{lines_tell}
use Rattle.entry_reader.proofs.WordLemmas.{IsWord, field_is_word, spaced, spaced-append, words_of-spaced, without_last}
use Rattle.entry_reader.proofs.BackLemmas.{number_back, place_back}
use Rattle.entry_reader.proofs.CallLemmas.{call_name, call_words, call_text-words, call_name-word, call_words-words, call_read}
use Rattle.entry_reader.proofs.ReplyLemmas.{reply_name, reply_words, reply_text-words, reply_name-word, reply_words-words, reply_read}

-- the words of a reply, after a `=`
abbrev replied_words : MountEntry → List (List ℕ)
replied_words e = codes "=" ∷ name_text (reply_name e.reply) ∷ reply_words e.reply

-- those of a call, and what follows
abbrev asked_words : MountEntry → List (List ℕ)
asked_words e = commands.name_text (call_name e.call.op) ∷ (call_words e.call.op ++ replied_words e)

-- the words of a line after its place
abbrev words_behind : MountEntry → List (List ℕ)
words_behind e = decimal_of e.who ∷ decimal_of e.call.uid ∷ asked_words e

-- ---- a line is its words

asked_text : (e : MountEntry)
    → spaced (commands.name_text (call_name e.call.op)) (call_words e.call.op ++ replied_words e)
    ≡ call_text e.call.op ++ (codes " = " ++ reply_text e.reply)
asked_text e =
    spaced-append (commands.name_text (call_name e.call.op)) (call_words e.call.op) (codes "=") (name_text (reply_name e.reply) ∷ reply_words e.reply)
    ∙ ap₂ (λ (a b : List ℕ). a ++ (codes " = " ++ b)) (sym (call_text-words e.call.op)) (sym (reply_text-words e.reply))

line_text : (place : ℕ) (e : MountEntry) → entry_text place e ≡ spaced (decimal_of place) (words_behind e) ++ codes "\n"
unfolding entry_text
line_text place e =
    regrouped (decimal_of place) (decimal_of e.who) (decimal_of e.call.uid) (call_text e.call.op) (reply_text e.reply)
    ∙ ap (λ (t : List ℕ). (decimal_of place ++ (32 ∷ (decimal_of e.who ++ (32 ∷ (decimal_of e.call.uid ++ (32 ∷ t)))))) ++ codes "\n") (sym (asked_text e))
  where
    regrouped : (p w u c r : List ℕ)
        → (p ++ (codes " " ++ (w ++ (codes " " ++ u)))) ++ (codes " " ++ (c ++ (codes " = " ++ (r ++ codes "\n"))))
        ≡ (p ++ (32 ∷ (w ++ (32 ∷ (u ++ (32 ∷ (c ++ (codes " = " ++ r)))))))) ++ codes "\n"
    regrouped p w u c r = simp append_assoc

-- ---- of which bytes the words are

wide : (n : ℕ) → n < 2 ^ 32 → n < 2 ^ 64
wide n small = omega arith

number_word : (n : ℕ) → n < 2 ^ 64 → IsWord (decimal_of n)
number_word n small = field_is_word (decimal_of n) (IsField-decimal n small)

equals_word : IsWord (codes "=")
equals_word = All-cons (λ b. 33 ≤ b) 61 [] (omega arith) (All-nil (λ b. 33 ≤ b))

replied_are_words : (e : MountEntry) → IsEntry e → All IsWord (replied_words e)
replied_are_words e is =
    All-cons IsWord (codes "=") (name_text (reply_name e.reply) ∷ reply_words e.reply) equals_word
    (All-cons IsWord (name_text (reply_name e.reply)) (reply_words e.reply) (reply_name-word e.reply) (reply_words-words e.reply is.in_range.replied))

words_are_words : (e : MountEntry) → IsEntry e → All IsWord (words_behind e)
words_are_words e is =
    All-cons IsWord (decimal_of e.who) (decimal_of e.call.uid ∷ asked_words e) (number_word e.who (wide e.who is.in_range.who))
    (All-cons IsWord (decimal_of e.call.uid) (asked_words e) (number_word e.call.uid (wide e.call.uid is.in_range.uid))
    (All-cons IsWord (commands.name_text (call_name e.call.op)) (call_words e.call.op ++ replied_words e) (call_name-word e.call.op)
    (All-append IsWord (call_words e.call.op) (replied_words e) (call_words-words e.call.op is.in_range.asked) (replied_are_words e is))))

-- the words of a line
line_words : (place : ℕ) (e : MountEntry) → place < 2 ^ 64 → IsEntry e
    → words_of (take (length (entry_text place e) - 1) (entry_text place e)) ≡ decimal_of place ∷ words_behind e
line_words place e small is =
    ap (λ (t : List ℕ). words_of (take (length t - 1) t)) (line_text place e)
    ∙ ap words_of (without_last (spaced (decimal_of place) (words_behind e)) 10)
    ∙ words_of-spaced (decimal_of place) (words_behind e) (number_word place small) (words_are_words e is)

-- ---- what is read

-- what was read of an entry's line: the entry apart from what no line contains
pub record EntryRead (place : ℕ) (e : MountEntry) : Type 0 where
  pub made : LogEntry
  pub reads : guess_of (entry_text place e) ≡ Some made
  pub at : made.place ≡ place
  pub tells : told made.entry ≡ told e
  pub fits : Fits made.entry.call

abbrev entry_at : ℕ → ℕ → ℕ → Op → Reply → LogEntry
entry_at place who uid op reply =
    record { place = place; entry = record { who = who; call = record { uid = uid; op = op }; reply = reply } }

pub entry_read : (place : ℕ) (e : MountEntry) → place < 2 ^ 64 → IsEntry e → EntryRead place e
entry_read place e small is =
    let asked = call_read e.call.op (replied_words e) is.in_range.asked is.asked is.fits in
    let made : LogEntry = entry_at place e.who e.call.uid asked.made e.reply in
    let replied : reply_form (name_text (reply_name e.reply) ∷ reply_words e.reply) ≡ (e.reply, []) = reply_read e.reply is.in_range.replied is.replied in
    record {
      made = made;
      reads =
          ap (λ (ws : List (List ℕ)). (entry_form ws).0) (line_words place e small is)
          ∙ ap (λ (x : Option Op × List (List ℕ)). (entry_after_call (place_in (decimal_of place)) (number_in (decimal_of e.who)) (number_in (decimal_of e.call.uid)) x.0 x.1).0) asked.reads
          ∙ ap (λ (x : Reply × List (List ℕ)). Some (entry_at (place_in (decimal_of place)) (number_in (decimal_of e.who)) (number_in (decimal_of e.call.uid)) asked.made x.0)) replied
          ∙ ap (λ (n : ℕ). Some (entry_at n (number_in (decimal_of e.who)) (number_in (decimal_of e.call.uid)) asked.made e.reply)) (place_back place small)
          ∙ ap₂ (λ (w u : ℕ). Some (entry_at place w u asked.made e.reply)) (number_back e.who is.in_range.who) (number_back e.call.uid is.in_range.uid);
      at = refl;
      tells = ap (λ (t : List ℕ). told_of e.who e.call.uid t e.reply) asked.same;
      fits = asked.fits;
    }
  where
    told_of : ℕ → ℕ → List ℕ → Reply → ℕ × ℕ × List ℕ × Reply
    told_of who uid asked reply = (who, uid, asked, reply)

-- ---- the text of a line

abbrev line_of : ℕ → ℕ → ℕ → List ℕ → List ℕ → List ℕ
line_of place who uid asked replied =
    (decimal_of place ++ (codes " " ++ (decimal_of who ++ (codes " " ++ decimal_of uid)))) ++ (codes " " ++ (asked ++ (codes " = " ++ (replied ++ codes "\n"))))

-- entries with the same text have the same line
pub told_line : (place : ℕ) (e f : MountEntry) → told e ≡ told f → entry_text place e ≡ entry_text place f
unfolding entry_text
told_line place e f same =
    let who : e.who ≡ f.who = ap (λ (t : ℕ × ℕ × List ℕ × Reply). t.0) same in
    let uid : e.call.uid ≡ f.call.uid = ap (λ (t : ℕ × ℕ × List ℕ × Reply). t.1) same in
    let asked : call_text e.call.op ≡ call_text f.call.op = ap (λ (t : ℕ × ℕ × List ℕ × Reply). t.2) same in
    let reply : e.reply ≡ f.reply = ap (λ (t : ℕ × ℕ × List ℕ × Reply). t.3) same in
    ap₂ (λ (w u : ℕ). line_of place w u (call_text e.call.op) (reply_text e.reply)) who uid
    ∙ ap₂ (λ (c : List ℕ) (r : Reply). line_of place f.who f.call.uid c (reply_text r)) asked reply

-- the line of an entry is read as some entry
pub never_unread : (line : List ℕ) (place : ℕ) (e : MountEntry) → place < 2 ^ 64 → IsEntry e → line ≡ entry_text place e → guess_of line ≡ None → ⊥
never_unread line place e small is same none =
    let both = sym none ∙ ap guess_of same ∙ (entry_read place e small is).reads in absurd (cc both)

-- what is read of an entry's line is retained
never_left : (line : List ℕ) (read : LogEntry) (place : ℕ) (e : MountEntry) → place < 2 ^ 64 → IsEntry e → line ≡ entry_text place e → guess_of line ≡ Some read
    → Fits read.entry.call × (line ≡ entry_text read.place read.entry)
never_left line read place e small is same guessed =
    let made = entry_read place e small is in
    let both : Some made.made ≡ Some read = sym made.reads ∙ ap guess_of (sym same) ∙ guessed in
    let one : made.made ≡ read = cc both in
    subst (λ (x : LogEntry). Fits x.entry.call × (line ≡ entry_text x.place x.entry)) one (
      made.fits,
      same ∙ told_line place e made.made.entry (sym made.tells) ∙ ap (λ (n : ℕ). entry_text n made.made.entry) (sym made.at),
    )

pub kept_exactly : (line : List ℕ) (read : LogEntry) (kept : Option LogEntry) → guess_of line ≡ Some read → IsEntryIfLine line read kept → IsEntryOfLine line kept
kept_exactly line read (Some x) guessed keeps = subst (IsLineOf line) (sym keeps.0) keeps.1
kept_exactly line read None guessed keeps = λ place e small is same. keeps (never_left line read place e small is same guessed)

pub kept_back : (line : List ℕ) (read : LogEntry) (kept : Option LogEntry) → guess_of line ≡ Some read → IsEntryIfLine line read kept → ReadsBack line kept
kept_back line read (Some x) guessed keeps =
    let right = subst (IsLineOf line) (sym keeps.0) keeps.1 in
    λ place e small is same. lines_tell x.place place x.entry e right.place small right.entry.in_range is.in_range (sym right.text ∙ same)
kept_back line read None guessed keeps = λ place e small is same. absurd (keeps (never_left line read place e small is same guessed))

pub kept_filled : (line : List ℕ) (read : LogEntry) (kept : Option LogEntry) → guess_of line ≡ Some read → IsEntryIfLine line read kept
    → IfSome kept (λ entry. guess_of line ≡ Some entry)
kept_filled line read (Some x) guessed keeps = guessed ∙ ap Some (sym keeps.0)
kept_filled line read None guessed keeps = tt
