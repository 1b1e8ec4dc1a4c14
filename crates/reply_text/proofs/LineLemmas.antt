-- A line determines the values of its entry, and a log those of its entries.
use Rattle.std.proofs.Common.{◌≡◌, ℕ, suc, ◌+◌, ◌<◌, ◌^◌, List, [], ◌∷◌, ◌++◌, length, map, codes, refl, ap, sym, ◌∙◌, append_assoc, arith}
use Rattle.std.specs.Prelude.{if◌then◌else◌}
use Rattle.std.specs.List.{All}
use Rattle.std.specs.Str.{bytes_eq}
use Rattle.std.proofs.lemmas.List.{append_cancel_left, append_cancel_right}
use Rattle.std.proofs.lemmas.List.Elements.{All-head, All-tail, All-append}
use Rattle.text_words.specs.Numbers.{decimal_of}
use Rattle.mount_model.specs.declared.reply.Reply.{Reply}
use Rattle.mount_model.specs.History.{MountEntry, History}
use Rattle.reply_text.specs.Calls.{call_text}
use Rattle.reply_text.specs.Replies.{reply_text}
use Rattle.reply_text.specs.Log.{head_text, entry_text, log_from}
use Rattle.reply_text.specs.Notes.{outcome_word, note_text}
use Rattle.reply_text.specs.Ranges.{EntryIsInRange}
use Rattle.reply_text.specs.LogLaws.{told, DifferentRepliesHaveDifferentLines, LinesDetermineTheirEntries, LogsDetermineTheirEntries, NoteLinesDetermineTheirNotes}
use Rattle.reply_text.specs.declared.notes.Note.{Note}
use Rattle.reply_text.specs.declared.outcome.Outcome.{Outcome}
use Rattle.reply_text.specs.declared.outcome.Outcome.TheVariants.{Done, Refused, Conflict, BadRecord, WrongKind, WrongKey, NotListed, Listed, Full, LastOne, NoMemory, OddReply, Current}
use Rattle.reply_text.proofs.FieldLemmas.{IsCallByte, IsLineByte, no_space, parted, number_field, IsField-decimal}
use Rattle.reply_text.proofs.ReplyLemmas.{reply_text-injective}
use Rattle.reply_text.proofs.CallLemmas.{call_literal, IsCall-call_text, IsLine-reply_text, line_call, line, lined_more}

wide : (n : ℕ) → n < 2 ^ 32 → n < 2 ^ 64
wide n small = omega arith

-- ---- a line

-- what follows the head: the call, the reply and the line feed
abbrev behind_head : MountEntry → List ℕ
behind_head e = codes " " ++ (call_text e.call.op ++ (codes " = " ++ (reply_text e.reply ++ codes "\n")))

-- the line, field by field
abbrev by_fields : ℕ → MountEntry → List ℕ
by_fields place e = decimal_of place ++ (codes " " ++ (decimal_of e.who ++ (codes " " ++ (decimal_of e.call.uid ++ behind_head e))))

entry_text-by_fields : (place : ℕ) (e : MountEntry) → entry_text place e ≡ by_fields place e
unfolding entry_text
entry_text-by_fields place e = regrouped (decimal_of place) (decimal_of e.who) (decimal_of e.call.uid) (behind_head e)
  where
    regrouped : (p w u rest : List ℕ) → (p ++ (codes " " ++ (w ++ (codes " " ++ u)))) ++ rest ≡ p ++ (codes " " ++ (w ++ (codes " " ++ (u ++ rest))))
    regrouped p w u rest = append_assoc p (codes " " ++ (w ++ (codes " " ++ u))) rest ∙ ap (λ t. p ++ (codes " " ++ t)) (append_assoc w (codes " " ++ u) rest)

not_equals : IsCallByte 61 → ⊥
not_equals h = h.1 refl

-- a call and a reply are separated by the first `=`
call_and_reply : (a b x y : List ℕ) → All IsCallByte a → All IsCallByte b
    → codes " " ++ (a ++ (codes " = " ++ (x ++ codes "\n"))) ≡ codes " " ++ (b ++ (codes " = " ++ (y ++ codes "\n"))) → (a ≡ b) × (x ≡ y)
call_and_reply a b x y ha hb e =
    let parts =
    parted IsCallByte (a ++ codes " ") (b ++ codes " ") _ _ (spaced a ha) (spaced b hb) not_equals not_equals
    (append_assoc a (codes " ") (codes "= " ++ (x ++ codes "\n")) ∙ append_cancel_left (codes " ") _ _ e ∙ sym (append_assoc b (codes " ") (codes "= " ++ (y ++ codes "\n")))) in
    (append_cancel_right a b (codes " ") parts.0, append_cancel_right x y (codes "\n") (append_cancel_left (codes "= ") _ _ parts.1))
  where
    spaced : (a : List ℕ) → All IsCallByte a → All IsCallByte (a ++ codes " ")
    spaced a ha = All-append IsCallByte a (codes " ") ha (call_literal (codes " ") refl)

abbrev told_of : ℕ → ℕ → List ℕ → Reply → ℕ × ℕ × List ℕ × Reply
told_of who uid asked reply = (who, uid, asked, reply)

told_same : (a b c d : ℕ) (x y : List ℕ) (r s : Reply) → a ≡ b → c ≡ d → x ≡ y → r ≡ s → told_of a c x r ≡ told_of b d y s
told_same a b c d x y r s h i j k = rw (h, i, j, k) refl

pub lines_tell : LinesDetermineTheirEntries
lines_tell place other e f hp ho he hf same =
    let fields = sym (entry_text-by_fields place e) ∙ same ∙ entry_text-by_fields other f in
    let places = number_field place other _ _ hp ho no_space no_space fields in
    let callers = number_field e.who f.who _ _ (wide _ he.who) (wide _ hf.who) no_space no_space (append_cancel_left (codes " ") _ _ places.1) in
    let users = number_field e.call.uid f.call.uid _ _ (wide _ he.uid) (wide _ hf.uid) no_space no_space (append_cancel_left (codes " ") _ _ callers.1) in
    let rest = call_and_reply (call_text e.call.op) (call_text f.call.op) (reply_text e.reply) (reply_text f.reply) (IsCall-call_text e.call.op he.asked) (IsCall-call_text f.call.op hf.asked) users.1 in (
      places.0,
      told_same e.who f.who e.call.uid f.call.uid (call_text e.call.op) (call_text f.call.op) e.reply f.reply callers.0 users.0 rest.0
          (reply_text-injective e.reply f.reply he.replied hf.replied rest.1),
    )

pub different_replies : DifferentRepliesHaveDifferentLines
unfolding entry_text
different_replies place who call a b ha hb same =
    reply_text-injective a b ha hb
    (append_cancel_right (reply_text a) (reply_text b) (codes "\n")
    (append_cancel_left (codes " = ") _ _ (append_cancel_left (call_text call.op) _ _ (append_cancel_left (codes " ") _ _
    (append_cancel_left (head_text place (record { who = who; call = call; reply = a })) _ _ same)))))

-- ---- a log

-- the line before its line feed
abbrev body : ℕ → MountEntry → List ℕ
body place e =
    decimal_of place ++ (codes " " ++ (decimal_of e.who ++ (codes " " ++ (decimal_of e.call.uid ++ (codes " " ++ (call_text e.call.op ++ (codes " = " ++ reply_text e.reply)))))))

entry_text-body : (place : ℕ) (e : MountEntry) → entry_text place e ≡ body place e ++ codes "\n"
entry_text-body place e =
    entry_text-by_fields place e ∙ regrouped (decimal_of place) (decimal_of e.who) (decimal_of e.call.uid) (call_text e.call.op) (reply_text e.reply)
  where
    regrouped : (p w u c r : List ℕ)
        → p ++ (codes " " ++ (w ++ (codes " " ++ (u ++ (codes " " ++ (c ++ (codes " = " ++ (r ++ codes "\n"))))))))
        ≡ (p ++ (codes " " ++ (w ++ (codes " " ++ (u ++ (codes " " ++ (c ++ (codes " = " ++ r)))))))) ++ codes "\n"
    regrouped p w u c r = sym (simp append_assoc)

IsLine-body : (place : ℕ) (e : MountEntry) → place < 2 ^ 64 → EntryIsInRange e → All IsLineByte (body place e)
IsLine-body place e small h =
    lined_more (decimal_of place) _ (IsField-decimal place small) (line (codes " ") _ refl
    (lined_more (decimal_of e.who) _ (IsField-decimal e.who (wide _ h.who)) (line (codes " ") _ refl
    (lined_more (decimal_of e.call.uid) _ (IsField-decimal e.call.uid (wide _ h.uid)) (line (codes " ") _ refl
    (All-append IsLineByte (call_text e.call.op) _ (line_call _ (IsCall-call_text e.call.op h.asked)) (line (codes " = ") _ refl (IsLine-reply_text e.reply h.replied))))))))

not_feed : IsLineByte 10 → ⊥
not_feed h = absurd (omega arith)

-- the first line of a text, and the rest
first_line : (a b x y : List ℕ) → All IsLineByte a → All IsLineByte b → (a ++ codes "\n") ++ x ≡ (b ++ codes "\n") ++ y
    → (a ++ codes "\n" ≡ b ++ codes "\n") × (x ≡ y)
first_line a b x y ha hb e =
    let parts = parted IsLineByte a b _ _ ha hb not_feed not_feed (sym (append_assoc a (codes "\n") x) ∙ e ∙ append_assoc b (codes "\n") y) in
    (ap (λ t. t ++ codes "\n") parts.0, append_cancel_left (codes "\n") x y parts.1)

pub first_entry : (place : ℕ) (e f : MountEntry) (x y : List ℕ) → place < 2 ^ 64 → EntryIsInRange e → EntryIsInRange f
    → entry_text place e ++ x ≡ entry_text place f ++ y → (told e ≡ told f) × (x ≡ y)
first_entry place e f x y small he hf same =
    let be = entry_text-body place e in
    let bf = entry_text-body place f in
    let parts =
    first_line (body place e) (body place f) x y (IsLine-body place e small he) (IsLine-body place f small hf)
    (ap (λ t. t ++ x) (sym be) ∙ same ∙ ap (λ t. t ++ y) bf) in
    ((lines_tell place place e f small small he hf (be ∙ parts.0 ∙ sym bf)).1, parts.1)

pub nothing_told : (place : ℕ) (e : MountEntry) (x : List ℕ) → [] ≡ entry_text place e ++ x → ⊥
nothing_told place e x same =
    let none : [] ≡ by_fields place e ++ x = same ∙ ap (λ t. t ++ x) (entry_text-by_fields place e) in
    ended (decimal_of place) _ x none
  where
    ended : (p rest x : List ℕ) → [] ≡ (p ++ (codes " " ++ rest)) ++ x → ⊥
    ended [] rest x e = absurd (cc e)
    ended (c ∷ p) rest x e = absurd (cc e)

logs_from : (place : ℕ) (g h : History) → place + length g < 2 ^ 64 → place + length h < 2 ^ 64 → All EntryIsInRange g → All EntryIsInRange h
    → log_from place g ≡ log_from place h → map told g ≡ map told h
unfolding log_from
logs_from place [] [] sg sh hg hh same = refl
logs_from place [] (f ∷ h) sg sh hg hh same = absurd (nothing_told place f _ same)
logs_from place (e ∷ g) [] sg sh hg hh same = absurd (nothing_told place e _ (sym same))
logs_from place (e ∷ g) (f ∷ h) sg sh hg hh same =
    let parts = first_entry place e f (log_from (place + 1) g) (log_from (place + 1) h) (below place (length g) sg) (All-head EntryIsInRange e g hg) (All-head EntryIsInRange f h hh) same in
    let more = logs_from (place + 1) g h (next place (length g) sg) (next place (length h) sh) (All-tail EntryIsInRange e g hg) (All-tail EntryIsInRange f h hh) parts.1 in
    joined (told e) (told f) (map told g) (map told h) parts.0 more
  where
    below : (p n : ℕ) → p + suc n < 2 ^ 64 → p < 2 ^ 64
    below p n h = omega arith

    next : (p n : ℕ) → p + suc n < 2 ^ 64 → p + 1 + n < 2 ^ 64
    next p n h = omega arith

    joined : (a b : ℕ × ℕ × List ℕ × Reply) (x y : List (ℕ × ℕ × List ℕ × Reply)) → a ≡ b → x ≡ y → a ∷ x ≡ b ∷ y
    joined a b x y h i = rw (h, i) refl

pub logs_tell : LogsDetermineTheirEntries
logs_tell g h sg sh hg hh same = logs_from 0 g h (from_none _ sg) (from_none _ sh) hg hh same
  where
    from_none : (n : ℕ) → n < 2 ^ 64 → 0 + n < 2 ^ 64
    from_none n h = omega arith

-- ---- a note

outcome_told : List ℕ → Outcome
outcome_told text =
    if bytes_eq text (codes "ok") then Done
    else if bytes_eq text (codes "refused") then Refused
    else if bytes_eq text (codes "conflict") then Conflict
    else if bytes_eq text (codes "bad-record") then BadRecord
    else if bytes_eq text (codes "wrong-kind") then WrongKind
    else if bytes_eq text (codes "wrong-key") then WrongKey
    else if bytes_eq text (codes "not-listed") then NotListed
    else if bytes_eq text (codes "listed") then Listed
    else if bytes_eq text (codes "full") then Full
    else if bytes_eq text (codes "last-one") then LastOne
    else if bytes_eq text (codes "no-memory") then NoMemory
    else if bytes_eq text (codes "odd-reply") then OddReply
    else Current

outcome_told-word : (outcome : Outcome) → outcome_told (outcome_word outcome) ≡ outcome
unfolding outcome_told
outcome_told-word Done = refl
outcome_told-word Refused = refl
outcome_told-word Conflict = refl
outcome_told-word BadRecord = refl
outcome_told-word WrongKind = refl
outcome_told-word WrongKey = refl
outcome_told-word NotListed = refl
outcome_told-word Listed = refl
outcome_told-word Full = refl
outcome_told-word LastOne = refl
outcome_told-word NoMemory = refl
outcome_told-word OddReply = refl
outcome_told-word Current = refl

pub notes_tell : NoteLinesDetermineTheirNotes
unfolding note_text
notes_tell a b ha hb same =
    let callers = number_field a.caller b.caller _ _ (wide _ ha.caller) (wide _ hb.caller) no_space no_space (append_cancel_left (codes "note ") _ _ same) in
    let lines = number_field a.line b.line _ _ (wide _ ha.line) (wide _ hb.line) no_space no_space (append_cancel_left (codes " ") _ _ callers.1) in
    let words = append_cancel_right (outcome_word a.outcome) (outcome_word b.outcome) (codes "\n") (append_cancel_left (codes " ") _ _ lines.1) in
    note_same a b callers.0 lines.0 (sym (outcome_told-word a.outcome) ∙ ap outcome_told words ∙ outcome_told-word b.outcome)
  where
    note_same : (a b : Note) → a.caller ≡ b.caller → a.line ≡ b.line → a.outcome ≡ b.outcome → a ≡ b
    note_same a b h i j = ap (λ (c : ℕ). record a { caller = c }) h ∙ ap (λ (n : ℕ). record { caller = b.caller; line = n; outcome = a.outcome }) i ∙ ap (λ (o : Outcome). record { caller = b.caller; line = b.line; outcome = o }) j
