-- What the first words of a line determine, and that a line is never empty.
use Rattle.std.proofs.Common.{◌≡◌, ℕ, ◌<◌, ◌^◌, List, [], ◌∷◌, ◌++◌, length, codes, refl, ap, sym, ◌∙◌, append_assoc, length-append, arith}
use Rattle.std.proofs.lemmas.List.{append_cancel_left}
use Rattle.text_words.specs.Numbers.{decimal_of}
use Rattle.mount_model.specs.History.{MountEntry}
use Rattle.reply_text.specs.Log.{entry_text}
use Rattle.reply_text.specs.Ranges.{EntryIsInRange}
use Rattle.reply_text.specs.Logged.{line_head}
use Rattle.reply_text.proofs.FieldLemmas.{number_field, no_space}
use Rattle.reply_text.proofs.LineLemmas.{nothing_told}
use Rattle.log_check.specs.Certificate.{BeginsWith}

headed : (place : ℕ) (e : MountEntry) → (more : List ℕ) × (entry_text place e ≡ line_head place e.who e.call.uid ++ (codes " " ++ more))
unfolding entry_text
headed place e = (_, refl)

-- a line begins with place, caller and user
pub has_head : (text : List ℕ) (place : ℕ) (e : MountEntry) → BeginsWith text (entry_text place e) → BeginsWith text (line_head place e.who e.call.uid ++ codes " ")
has_head text place e begins =
    let head = headed place e in
    (head.0 ++ begins.0, begins.1 ∙ ap (λ l. l ++ begins.0) head.1 ∙ regrouped (line_head place e.who e.call.uid) (codes " ") head.0 begins.0)
  where
    regrouped : (a b c y : List ℕ) → (a ++ (b ++ c)) ++ y ≡ (a ++ b) ++ (c ++ y)
    regrouped a b c y = append_assoc a (b ++ c) y ∙ ap (λ l. a ++ l) (append_assoc b c y) ∙ sym (append_assoc a b (c ++ y))

-- so they determine the caller
pub same_caller : (text : List ℕ) (place who uid : ℕ) (e : MountEntry) → who < 2 ^ 64 → EntryIsInRange e → BeginsWith text (line_head place who uid ++ codes " ")
    → BeginsWith text (entry_text place e) → who ≡ e.who
same_caller text place who uid e small range head line =
    let other = has_head text place e line in
    let fields = sym (by_fields (decimal_of place) (decimal_of who) (decimal_of uid) head.0) ∙ sym head.1 ∙ other.1 ∙ by_fields (decimal_of place) (decimal_of e.who) (decimal_of e.call.uid) other.0 in
    let w = range.who in
    (number_field who e.who _ _ small (omega (arith, w)) no_space no_space (append_cancel_left (codes " ") _ _ (append_cancel_left (decimal_of place) _ _ fields))).0
  where
    by_fields : (p w u x : List ℕ) → ((p ++ (codes " " ++ (w ++ (codes " " ++ u)))) ++ codes " ") ++ x ≡ p ++ (codes " " ++ (w ++ (codes " " ++ (u ++ (codes " " ++ x)))))
    by_fields p w u x = simp append_assoc

-- the text after a line is shorter
pub behind_shorter : (place : ℕ) (e : MountEntry) (text rest : List ℕ) → text ≡ entry_text place e ++ rest → length rest < length text
behind_shorter place e text rest is = shorter (entry_text place e) (nothing_told place e []) is
  where
    shorter : (line : List ℕ) → ([] ≡ line ++ [] → ⊥) → text ≡ line ++ rest → length rest < length text
    shorter [] some is = absurd (some refl)
    shorter (x ∷ line) some is = let long = ap length is in let sum = length-append line rest in omega (arith, long, sum)
