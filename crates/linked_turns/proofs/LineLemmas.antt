-- What the lines of calls contain, and the calls of a caller with the same lines.
use Rattle.std.proofs.Common.{◌≡◌, ℕ, ◌+◌, Bool, true, false, cond, List, [], ◌∷◌, map, drop, get_or, refl, ap, ap₂, sym, ◌∙◌, subst}
use Rattle.std.specs.Prelude.{◌==◌}
use Rattle.call_history.specs.Entries.{by, entry, entries_with_places}
use Rattle.call_history.specs.Placed.{entries_of}
use Rattle.mount_model.specs.declared.call.Call.{Call}
use Rattle.mount_model.specs.declared.reply.Reply.{Reply}
use Rattle.mount_model.specs.History.{History, MountEntry}
use Rattle.mount_model.specs.Port.{PlacedCalls}
use Rattle.reply_text.specs.LogLaws.{told}
use Rattle.fsc_commands.specs.Steps.{Steps, Reaches}
use Rattle.fsc_commands.specs.Steps.Steps.{Done, Ask}

pub record Line : Type 0 where
  pub place : ℕ
  pub says : ℕ × ℕ × List ℕ × Reply

abbrev pub line_of : ℕ × MountEntry → Line
line_of x = record { place = x.0; says = told x.1 }

abbrev pub lines : PlacedCalls → List Line
lines placed = map line_of placed

-- lines that begin alike: the first has one place and one reply, and the others are alike
pub record Alike (x y : ℕ × MountEntry) (xs ys : List Line) : Type 0 where
  pub place : x.0 ≡ y.0
  pub reply : x.1.reply ≡ y.1.reply
  pub rest : xs ≡ ys

pub alike : (x y : ℕ × MountEntry) (xs ys : List Line) → line_of x ∷ xs ≡ line_of y ∷ ys → Alike x y xs ys
alike x y xs ys same =
    let first : line_of x ≡ line_of y = ap (λ (l : List Line). get_or l 0 (line_of x)) same in record {
      place = ap (λ (l : Line). l.place) first;
      reply = ap (λ (l : Line). l.says.3) first;
      rest = ap (λ (l : List Line). drop 1 l) same;
    }

-- a call with the same place, caller, words and reply, before the same calls
pub same_call : (x y : ℕ × MountEntry) (xs ys : PlacedCalls) → x.0 ≡ y.0 → x.1.who ≡ y.1.who → x.1.call ≡ y.1.call → x.1.reply ≡ y.1.reply
    → xs ≡ ys → x ∷ xs ≡ y ∷ ys
same_call x y xs ys place who call reply rest =
    ap (λ (p : ℕ). let z : ℕ × MountEntry = (p, x.1) in z ∷ xs) place
    ∙ ap (λ (w : ℕ). let z : ℕ × MountEntry = (y.0, entry w x.1.call x.1.reply) in z ∷ xs) who
    ∙ ap (λ (c : Call). let z : ℕ × MountEntry = (y.0, entry y.1.who c x.1.reply) in z ∷ xs) call
    ∙ ap (λ (r : Reply). let z : ℕ × MountEntry = (y.0, entry y.1.who y.1.call r) in z ∷ xs) reply
    ∙ ap (λ (l : PlacedCalls). y ∷ l) rest

-- a caller's lines in two histories with the same lines
pub lines_by : (c k : ℕ) (g h : History) → map told g ≡ map told h → lines (by c (entries_with_places k g)) ≡ lines (by c (entries_with_places k h))
lines_by c k [] [] same = refl
lines_by c k [] (f ∷ h) same = absurd (cc same)
lines_by c k (e ∷ g) [] same = absurd (cc same)
lines_by c k (e ∷ g) (f ∷ h) same =
    let first : told e ≡ told f = ap (λ (l : List (ℕ × ℕ × List ℕ × Reply)). get_or l 0 (told e)) same in
    let who : e.who ≡ f.who = ap (λ (t : ℕ × ℕ × List ℕ × Reply). t.0) first in
    let rest = lines_by c (k + 1) g h (ap (λ (l : List (ℕ × ℕ × List ℕ × Reply)). drop 1 l) same) in
    chosen (e.who == c) (by c (entries_with_places (k + 1) g)) (by c (entries_with_places (k + 1) h)) first rest
    ∙ ap (λ (w : ℕ). lines (cond (w == c) ((k, f) ∷ by c (entries_with_places (k + 1) h)) (by c (entries_with_places (k + 1) h)))) who
  where
    chosen : (b : Bool) (xs ys : PlacedCalls) → told e ≡ told f → lines xs ≡ lines ys → lines (cond b ((k, e) ∷ xs) xs) ≡ lines (cond b ((k, f) ∷ ys) ys)
    chosen true xs ys first same =
        ap₂ (λ (t : ℕ × ℕ × List ℕ × Reply) (l : List Line). let z : Line = record { place = k; says = t } in z ∷ l) first same
    chosen false xs ys first same = same

-- ---- a caller with an even number

-- steps whose calls have the same lines made the same calls
pub same_calls : {A : Type 0} (steps rest last : Steps A) (xs ys : PlacedCalls) → Reaches steps (entries_of xs) rest → Reaches steps (entries_of ys) last
    → lines xs ≡ lines ys → xs ≡ ys
same_calls steps rest last [] [] so to same = refl
same_calls steps rest last [] (y ∷ ys) so to same = absurd (cc same)
same_calls steps rest last (x ∷ xs) [] so to same = absurd (cc same)
same_calls (Done value) rest last (x ∷ xs) (y ∷ ys) so to same = absurd so
same_calls (Ask who call next) rest last (x ∷ xs) (y ∷ ys) so to same =
    let one = alike x y (lines xs) (lines ys) same in
    let more = subst (λ (r : Reply). Reaches (next r) (entries_of ys) last) (sym one.reply) to.2 in
    same_call x y xs ys one.place (so.0 ∙ sym to.0) (so.1 ∙ sym to.1) one.reply
    (same_calls (next x.1.reply) rest last xs ys so.2 more one.rest)
