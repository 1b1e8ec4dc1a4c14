-- A log has one meaning: replies determine the entries of steps, and callers and their entries a history.
use Rattle.std.proofs.Common.{◌≡◌, ◌≢◌, ℕ, ◌+◌, Bool, true, false, cond, List, [], ◌∷◌, map, drop, get_or, Some, None, Option, refl, ap, sym, ◌∙◌, subst, eq-eqb, ne_eqb, ⊎_elim}
use Rattle.std.specs.Prelude.{◌==◌, filter, slice_get}
use Rattle.std.proofs.lemmas.Bool.{cases_eq}
use Rattle.call_history.specs.Entries.{by, entries_with_places}
use Rattle.call_history.specs.Placed.{entries_of}
use Rattle.call_history.proofs.Placing.{map-numbered}
use Rattle.mount_model.specs.declared.call.Call.{Call}
use Rattle.mount_model.specs.declared.reply.Reply.{Reply}
use Rattle.mount_model.specs.Port.{PlacedCalls}
use Rattle.mount_model.specs.History.{History, MountEntry, entries_by}
use Rattle.script_lang.specs.declared.commands.Section.{Section}
use Rattle.reply_text.specs.LogLaws.{told}
use Rattle.reply_text.proofs.BeginningLemmas.{whole_logs_tell}
use Rattle.reply_text.specs.declared.notes.Note.{Note}
use Rattle.fsc_commands.specs.Steps.{Steps, Reaches}
use Rattle.fsc_commands.specs.Steps.Steps.{Done, Ask}
use Rattle.fsc_session.specs.Session.{section_steps}
use Rattle.fsc_session.specs.ScriptRun.{IsRunOf, IsRunOfCaller, notes_of}
use Rattle.fsc_session.specs.Meaning.{IsBegunBy, Follows, LogDeterminesTheHistory, LogsHaveOneMeaning}

abbrev replies : History → List Reply
replies es = map (λ e. e.reply) es

abbrev callers : History → List ℕ
callers es = map (λ e. e.who) es

-- ---- steps

entry_same : (e f : MountEntry) (es fs : History) → e.who ≡ f.who → e.call ≡ f.call → e.reply ≡ f.reply → es ≡ fs → e ∷ es ≡ f ∷ fs
entry_same e f es fs who call reply rest =
    ap (λ (w : ℕ). record { who = w; call = e.call; reply = e.reply } ∷ es) who
    ∙ ap (λ (c : Call). record { who = f.who; call = c; reply = e.reply } ∷ es) call
    ∙ ap (λ (r : Reply). record { who = f.who; call = f.call; reply = r } ∷ es) reply
    ∙ ap (λ (l : History). f ∷ l) rest

-- steps with the same replies made the same calls
same_entries : {A : Type 0} (steps rest last : Steps A) (es fs : History) → Reaches steps es rest → Reaches steps fs last
    → replies es ≡ replies fs → es ≡ fs
same_entries steps rest last [] [] so to same = refl
same_entries steps rest last [] (f ∷ fs) so to same = absurd (cc same)
same_entries steps rest last (e ∷ es) [] so to same = absurd (cc same)
same_entries (Done value) rest last (e ∷ es) (f ∷ fs) so to same = absurd so
same_entries {A} (Ask who call next) rest last (e ∷ es) (f ∷ fs) so to same =
    let first : e.reply ≡ f.reply = ap (λ (l : List Reply). get_or l 0 e.reply) same in
    let more : Reaches (next e.reply) fs last = subst (λ (r : Reply). Reaches (next r) fs last) (sym first) to.2 in
    entry_same e f es fs (so.0 ∙ sym to.0) (so.1 ∙ sym to.1) first
    (same_entries (next e.reply) rest last es fs so.2 more (ap (drop 1) same))

-- ---- callers

-- a caller's entries, without their places
abbrev own : ℕ → History → History
own c h = filter (λ e. e.who == c) h

own-entries : (c k : ℕ) (h : History) → entries_of (by c (entries_with_places k h)) ≡ own c h
own-entries c k [] = refl
own-entries c k (e ∷ h) = chosen (e.who == c) (by c (entries_with_places (k + 1) h)) (own c h) (own-entries c (k + 1) h)
  where
    chosen : (b : Bool) (xs : PlacedCalls) (ys : History) → entries_of xs ≡ ys → entries_of (cond b ((k, e) ∷ xs) xs) ≡ cond b (e ∷ ys) ys
    chosen true xs ys same = ap (λ (l : History). e ∷ l) same
    chosen false xs ys same = same

own-cons : (c : ℕ) (e : MountEntry) (h : History) → e.who ≡ c → own c (e ∷ h) ≡ e ∷ own c h
own-cons c e h is = ap (λ (b : Bool). cond b (e ∷ own c h) (own c h)) (eq-eqb e.who c is)

own-other : (c : ℕ) (e : MountEntry) (h : History) → e.who ≢ c → own c (e ∷ h) ≡ own c h
own-other c e h not_it = ap (λ (b : Bool). cond b (e ∷ own c h) (own c h)) (ne_eqb e.who c not_it)

-- histories of the same callers, each with the same entries, are the same
same_history : (g h : History) → callers g ≡ callers h → ((c : ℕ) → own c g ≡ own c h) → g ≡ h
same_history [] [] who same = refl
same_history [] (f ∷ h) who same = absurd (cc who)
same_history (e ∷ g) [] who same = absurd (cc who)
same_history (e ∷ g) (f ∷ h) who same =
    let caller : e.who ≡ f.who = ap (λ (l : List ℕ). get_or l 0 e.who) who in
    let both : e ∷ own e.who g ≡ f ∷ own e.who h = sym (own-cons e.who e g refl) ∙ same e.who ∙ own-cons e.who f h (sym caller) in
    let first : e ≡ f = ap (λ (l : History). get_or l 0 e) both in
    let behind : (c : ℕ) → own c g ≡ own c h =
    λ c. ⊎_elim
    (λ (is : e.who ≡ c). ap (drop 1) (sym (own-cons c e g is) ∙ same c ∙ own-cons c f h (sym caller ∙ is)))
    (λ (not_it : e.who ≢ c). sym (own-other c e g not_it) ∙ same c ∙ own-other c f h (λ is. not_it (caller ∙ is)))
    (cases_eq e.who c) in
    ap (λ (x : MountEntry). x ∷ g) first ∙ ap (λ (l : History). f ∷ l) (same_history g h (ap (drop 1) who) behind)

-- ---- values of lines

told_callers : (g h : History) → map told g ≡ map told h → callers g ≡ callers h
told_callers [] [] same = refl
told_callers [] (f ∷ h) same = absurd (cc same)
told_callers (e ∷ g) [] same = absurd (cc same)
told_callers (e ∷ g) (f ∷ h) same =
    let first : told e ≡ told f = ap (λ (l : List (ℕ × ℕ × List ℕ × Reply)). get_or l 0 (told e)) same in
    let who : e.who ≡ f.who = ap (λ (t : ℕ × ℕ × List ℕ × Reply). t.0) first in
    ap (λ (w : ℕ). w ∷ callers g) who ∙ ap (λ (l : List ℕ). f.who ∷ l) (told_callers g h (ap (drop 1) same))

told_replies : (c : ℕ) (g h : History) → map told g ≡ map told h → replies (own c g) ≡ replies (own c h)
told_replies c [] [] same = refl
told_replies c [] (f ∷ h) same = absurd (cc same)
told_replies c (e ∷ g) [] same = absurd (cc same)
told_replies c (e ∷ g) (f ∷ h) same =
    let first : told e ≡ told f = ap (λ (l : List (ℕ × ℕ × List ℕ × Reply)). get_or l 0 (told e)) same in
    let who : e.who ≡ f.who = ap (λ (t : ℕ × ℕ × List ℕ × Reply). t.0) first in
    let reply : e.reply ≡ f.reply = ap (λ (t : ℕ × ℕ × List ℕ × Reply). t.3) first in
    let rest = told_replies c g h (ap (drop 1) same) in
    chosen (e.who == c) (own c g) (own c h) reply rest ∙ ap (λ (w : ℕ). replies (cond (w == c) (f ∷ own c h) (own c h))) who
  where
    chosen : (b : Bool) (xs ys : History) → e.reply ≡ f.reply → replies xs ≡ replies ys → replies (cond b (e ∷ xs) xs) ≡ replies (cond b (f ∷ ys) ys)
    chosen true xs ys reply same = ap (λ (r : Reply). r ∷ replies xs) reply ∙ ap (λ (l : List Reply). f.reply ∷ l) same
    chosen false xs ys reply same = same

same_begun : (seed : List ℕ) (c : ℕ) (at : Option Section) (xs ys : PlacedCalls) → IsBegunBy seed c at xs → IsBegunBy seed c at ys
    → replies (entries_of xs) ≡ replies (entries_of ys) → entries_of xs ≡ entries_of ys
same_begun seed c None xs ys so to same = ap entries_of (so ∙ sym to)
same_begun seed c (Some section) xs ys so to same =
    same_entries (section_steps seed c section) so.0 to.0 (entries_of xs) (entries_of ys) so.1 to.1 same

pub told_determines : LogDeterminesTheHistory
told_determines seed script g h so to same = same_history g h (told_callers g h same) (λ c.
    let mine : entries_of (entries_by c g) ≡ own c g = own-entries c 0 g in
    let other : entries_of (entries_by c h) ≡ own c h = own-entries c 0 h in
    sym mine
    ∙ same_begun seed c (slice_get script c) (entries_by c g) (entries_by c h) (so c) (to c) (ap replies mine ∙ told_replies c g h same ∙ ap replies (sym other))
    ∙ other)

-- ---- the law

caller_begun : (seed : List ℕ) (c : ℕ) (at : Option Section) (placed : PlacedCalls) → IsRunOfCaller seed c at placed → IsBegunBy seed c at placed
caller_begun seed c None placed run = run
caller_begun seed c (Some section) placed run = (Done run.0, run.1)

-- a run follows its script
pub run_follows : (seed : List ℕ) (script : List Section) (history : History) → IsRunOf seed script history → Follows seed script history
run_follows seed script history run c = caller_begun seed c (slice_get script c) (entries_by c history) (run c)

pub one_meaning : LogsHaveOneMeaning
one_meaning seed script g h sg sh rg rh so to same =
    told_determines seed script g h (run_follows seed script g so) (run_follows seed script h to)
    (whole_logs_tell g h (notes_of seed script g) (notes_of seed script h) sg sh rg rh same)
