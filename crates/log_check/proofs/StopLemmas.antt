-- At the place where a text stops being a log it is refused, and no history goes further; if there is no
-- such place, it is certified.
use Rattle.std.proofs.Common.{◌≡◌, ◌≢◌, Bool, ◌<◌, ◌≤◌, ◌^◌, ℕ, suc, zero, ◌+◌, List, [], ◌∷◌, ◌++◌, length, refl, ap, sym, ◌∙◌, subst, arith, ⊎_elim, inl, inr, append_assoc, append-nil, add-zero}
use Rattle.std.specs.Prelude.{◌⊎◌, All, Option, Some, None, slice_get}
use Rattle.std.proofs.lemmas.Bool.{cases_lt}
use Rattle.std.proofs.lemmas.List.Elements.{All-nil, All-cons, All-head, All-tail}
use Rattle.mount_model.specs.declared.reply.Reply.TheVariants.{Refused}
use Rattle.mount_model.specs.declared.reply.Refusal.TheVariants.{NoMemory}
use Rattle.mount_model.specs.History.{MountEntry, History}
use Rattle.mount_model.specs.Lawful.{IsLawful, KeysAgree}
use Rattle.mount_model.proofs.AgreeLemmas.{KeysAgree-begun}
use Rattle.script_lang.specs.declared.commands.Section.{Section}
use Rattle.reply_text.specs.Log.{entry_text, log_from, log_text}
use Rattle.reply_text.specs.Notes.{notes_text}
use Rattle.reply_text.specs.Ranges.{EntryIsInRange}
use Rattle.reply_text.proofs.BeginningLemmas.{beginnings_tell}
use Rattle.fsc_session.specs.Session.{section_steps}
use Rattle.fsc_session.specs.ScriptRun.{IsRunOf, notes_of}
use Rattle.fsc_session.specs.Meaning.{IsBegunBy, Follows, whole_log}
use Rattle.fsc_session.proofs.MeaningLemmas.{told_determines, run_follows}
use Rattle.log_check.specs.Certificate.{IsPossible, BeginsWith}
use Rattle.log_check.specs.Laws.{LogsOfRunsAreNotRefused}
use Rattle.log_check.specs.Stops.{IsRead, IsBlocked, IsUnended}
use Rattle.log_check.specs.Verdicts.{IsCertified, IsRefusedAt}
use Rattle.log_check.proofs.FollowLemmas.{Follows-begun, run_ends}
use Rattle.log_check.proofs.LegalLemmas.{IsLegal-begun}

-- ---- logs of two pieces

log_from-append : (p : ℕ) (g h : History) → log_from p (g ++ h) ≡ log_from p g ++ log_from (p + length g) h
unfolding log_from
log_from-append p [] h = ap (λ n. log_from n h) (sym (add-zero p))
log_from-append p (e ∷ g) h =
    let on : p + 1 + length g ≡ p + suc (length g) = omega arith in
    ap (λ rest. entry_text p e ++ rest) (log_from-append (p + 1) g h ∙ ap (λ n. log_from (p + 1) g ++ log_from n h) on)
    ∙ sym (append_assoc (entry_text p e) (log_from (p + 1) g) (log_from (p + suc (length g)) h))

log_from-one : (p : ℕ) (e : MountEntry) (h : History) → log_from p (e ∷ h) ≡ entry_text p e ++ log_from (p + 1) h
unfolding log_from
log_from-one p e h = refl

log_from-none : (p : ℕ) → log_from p [] ≡ []
unfolding log_from
log_from-none p = refl

-- the line of the next entry, and the text after it
pub log-more : (h : History) (e : MountEntry) (more : History) → log_text (h ++ e ∷ more) ≡ log_text h ++ (entry_text (length h) e ++ log_from (length h + 1) more)
log-more h e more =
    let counted : 0 + length h ≡ length h = omega arith in
    log_from-append 0 h (e ∷ more) ∙ ap (λ n. log_from 0 h ++ log_from n (e ∷ more)) counted ∙ ap (λ l. log_from 0 h ++ l) (log_from-one (length h) e more)

pub log-next : (h : History) (e : MountEntry) → log_text (h ++ e ∷ []) ≡ log_text h ++ entry_text (length h) e
log-next h e = log-more h e [] ∙ ap (λ l. log_text h ++ (entry_text (length h) e ++ l)) (log_from-none (length h + 1)) ∙ ap (λ l. log_text h ++ l) (append-nil (entry_text (length h) e))

-- ---- the entry at a place

record IsAt (xs : History) (n : ℕ) : Type 0 where
  before : History
  entry : MountEntry
  behind : History
  whole : xs ≡ before ++ entry ∷ behind
  long : length before ≡ n

entry_at : (xs : History) (n : ℕ) → n < length xs → IsAt xs n
entry_at [] n below = absurd (omega arith)
entry_at (x ∷ xs) zero below = record { before = []; entry = x; behind = xs; whole = refl; long = refl }
entry_at (x ∷ xs) (suc n) below =
    let rest = entry_at xs n (omega arith) in
    record {
      before = x ∷ rest.before;
      entry = rest.entry;
      behind = rest.behind;
      whole = ap (λ (l : History). x ∷ l) rest.whole;
      long = ap suc rest.long;
    }

-- ---- possible histories

All-begun : {A : Type 0} (P : A → Type 0) (xs ys : List A) → All P (xs ++ ys) → All P xs
All-begun P [] ys all = All-nil P
All-begun P (x ∷ xs) ys all = All-cons P x xs (All-head P x (xs ++ ys) all) (All-begun P xs ys (All-tail P x (xs ++ ys) all))

abbrev HasReply : MountEntry → Type 0
HasReply e = e.reply ≢ Refused NoMemory

module _ (strict : Bool) where
  IsPossible-begun : (seed : List ℕ) (script : List Section) (g h : History) → IsPossible strict seed script (g ++ h) → IsPossible strict seed script g
  IsPossible-begun seed script g h possible = record {
    follows = Follows-begun seed script g h possible.follows;
    legal = IsLegal-begun g h possible.legal;
    in_range = All-begun EntryIsInRange g h possible.in_range;
    agree = KeysAgree-begun g h possible.agree;
    memory = λ so. All-begun HasReply g h (possible.memory so);
  }

  pub is_possible : (seed : List ℕ) (script : List Section) (text : List ℕ) (place : ℕ) (rest : List ℕ) (h : History) → IsRead strict seed script text place rest h
      → KeysAgree h → IsPossible strict seed script h
  is_possible seed script text place rest h read agree = record {
    follows = read.follows;
    legal = read.lawful.legal agree;
    in_range = read.in_range;
    agree = agree;
    memory = read.memory;
  }

  -- a text begins with one history of a given number of entries, and has one rest
  same_beginning : (seed : List ℕ) (script : List Section) (g h : History) (x y : List ℕ) → length g ≡ length h → length g < 2 ^ 64
      → All EntryIsInRange g → All EntryIsInRange h → Follows seed script g → Follows seed script h → log_text g ++ x ≡ log_text h ++ y → (g ≡ h) × (x ≡ y)
  same_beginning seed script g h x y long small rg rh fg fh same =
      let parts = beginnings_tell g h x y long small rg rh same in
      (told_determines seed script g h fg fh parts.0, parts.1)

  -- ---- no history goes further

  further : (seed : List ℕ) (script : List Section) (text : List ℕ) (place : ℕ) (rest : List ℕ) (h : History) → IsRead strict seed script text place rest h
      → IsBlocked strict seed script h place rest → (other : History) → IsPossible strict seed script other → BeginsWith text (log_text other) → place < length other → ⊥
  further seed script text place rest h read blocked other possible begins below =
      let at = entry_at other place below in
      let parted : other ≡ (at.before ++ at.entry ∷ []) ++ at.behind = at.whole ∙ sym (append_assoc at.before (at.entry ∷ []) at.behind) in
      let up_to = IsPossible-begun seed script (at.before ++ at.entry ∷ []) at.behind (subst (IsPossible strict seed script) parted possible) in
      let before = IsPossible-begun seed script at.before (at.entry ∷ []) up_to in
      let line = entry_text (length at.before) at.entry in
      let after = log_from (length at.before + 1) at.behind in
      let text_is : log_text h ++ rest ≡ log_text at.before ++ (line ++ (after ++ begins.0)) =
      sym read.read ∙ begins.1 ∙ ap (λ (g : History). log_text g ++ begins.0) at.whole ∙ ap (λ l. l ++ begins.0) (log-more at.before at.entry at.behind)
      ∙ append_assoc (log_text at.before) (line ++ after) begins.0 ∙ ap (λ l. log_text at.before ++ l) (append_assoc line after begins.0) in
      let same = same_beginning seed script h at.before rest (line ++ (after ++ begins.0)) (read.long ∙ sym at.long) (subst (λ n. n < 2 ^ 64) (sym read.long) read.small)
      read.in_range before.in_range read.follows before.follows text_is in
      blocked at.entry (subst (λ (g : History). IsPossible strict seed script (g ++ at.entry ∷ [])) (sym same.0) up_to)
      (after ++ begins.0, same.1 ∙ ap (λ n. entry_text n at.entry ++ (after ++ begins.0)) at.long)

  at_most : (a b : ℕ) → (b < a → ⊥) → a ≤ b
  at_most a b never = ⊎_elim (λ (low : b < a). absurd (never low)) (λ (most : a ≤ b). most) (cases_lt b a)

  below_or_same : (a b : ℕ) → a ≤ b → (a < b) ⊎ (a ≡ b)
  below_or_same a b most = ⊎_elim (λ (low : a < b). inl low) (λ (high : b ≤ a). inr (omega arith)) (cases_lt a b)

  pub refused : (seed : List ℕ) (script : List Section) (text : List ℕ) (place : ℕ) (rest : List ℕ) (h : History) → IsRead strict seed script text place rest h
      → IsBlocked strict seed script h place rest → IsUnended seed script h rest → IsRefusedAt strict seed script text place
  refused seed script text place rest h read blocked unended = record {
    history = h;
    follows = read.follows;
    begins = (rest, read.read);
    long = read.long;
    lawful = read.lawful;
    in_range = read.in_range;
    memory = read.memory;
    possible = is_possible seed script text place rest h read;
    most = most;
    no_log = λ other possible run log. ⊎_elim (λ low. shorter other possible run log low) (λ same. alike other possible run log same) (below_or_same (length other) place (most other possible (notes other, log)));
  }
    where
      notes : History → List ℕ
      notes other = notes_text (notes_of seed script other)

      most : (other : History) → IsPossible strict seed script other → BeginsWith text (log_text other) → length other ≤ place
      most other possible begins = at_most (length other) place (λ below. further seed script text place rest h read blocked other possible begins below)

      alike : (other : History) → IsPossible strict seed script other → IsRunOf seed script other → text ≡ whole_log seed script other → length other ≡ place → ⊥
      alike other possible run log same =
          let both = same_beginning seed script h other rest (notes other) (read.long ∙ sym same) (subst (λ n. n < 2 ^ 64) (sym read.long) read.small)
          read.in_range possible.in_range read.follows possible.follows (sym read.read ∙ log) in
          unended (subst (IsRunOf seed script) (sym both.0) run) (both.1 ∙ ap notes (sym both.0))

      shorter : (other : History) → IsPossible strict seed script other → IsRunOf seed script other → text ≡ whole_log seed script other → length other < place → ⊥
      shorter other possible run log low =
          let at = entry_at h (length other) (subst (λ n. length other < n) (sym read.long) low) in
          let parted : h ≡ (at.before ++ at.entry ∷ []) ++ at.behind = at.whole ∙ sym (append_assoc at.before (at.entry ∷ []) at.behind) in
          let up_to = Follows-begun seed script (at.before ++ at.entry ∷ []) at.behind (subst (Follows seed script) parted read.follows) in
          let before = Follows-begun seed script at.before (at.entry ∷ []) up_to in
          let line = entry_text (length at.before) at.entry in
          let after = log_from (length at.before + 1) at.behind in
          let text_is : log_text other ++ notes other ≡ log_text at.before ++ ((line ++ after) ++ rest) =
          sym log ∙ read.read ∙ ap (λ (g : History). log_text g ++ rest) at.whole ∙ ap (λ l. l ++ rest) (log-more at.before at.entry at.behind)
          ∙ append_assoc (log_text at.before) (line ++ after) rest in
          let both = same_beginning seed script other at.before (notes other) ((line ++ after) ++ rest) (sym at.long) (let s = read.small in omega (arith, s, low))
          possible.in_range (All-begun EntryIsInRange at.before (at.entry ∷ at.behind) (subst (All EntryIsInRange) at.whole read.in_range)) possible.follows before text_is in
          run_ends seed script other at.entry run (subst (λ (g : History). Follows seed script (g ++ at.entry ∷ [])) (sym both.0) up_to)

  pub certified : (seed : List ℕ) (script : List Section) (text : List ℕ) (place : ℕ) (rest : List ℕ) (h : History) → IsRead strict seed script text place rest h
      → IsRunOf seed script h → rest ≡ notes_text (notes_of seed script h) → IsCertified strict seed script text
  certified seed script text place rest h read run notes = record {
    history = h;
    runs = run;
    short = subst (λ n. n < 2 ^ 64) (sym read.long) read.small;
    log = read.read ∙ ap (λ l. log_text h ++ l) notes;
    lawful = read.lawful;
    in_range = read.in_range;
    memory = read.memory;
    possible = is_possible seed script text place rest h read;
  }

  -- before the first line
  pub none_read : (seed : List ℕ) (script : List Section) (text : List ℕ) → IsLawful [] → IsRead strict seed script text 0 text []
  none_read seed script text lawful = record {
    read = ap (λ l. l ++ text) (sym (log_from-none 0));
    long = refl;
    small = omega arith;
    follows = λ caller. none_begun (slice_get script caller) caller;
    in_range = All-nil EntryIsInRange;
    lawful = lawful;
    memory = λ _. All-nil HasReply;
  }
    where
      none_begun : (at : Option Section) (caller : ℕ) → IsBegunBy seed caller at []
      none_begun None caller = refl
      none_begun (Some section) caller = (section_steps seed caller section, refl)

-- ---- what a run wrote

pub not_refused : LogsOfRunsAreNotRefused
not_refused strict seed script h place run lawful range agree memory refusal =
    refusal.no_log h (record {
      follows = run_follows seed script h run;
      legal = lawful.legal agree;
      in_range = range;
      agree = agree;
      memory = memory;
    }) run refl
