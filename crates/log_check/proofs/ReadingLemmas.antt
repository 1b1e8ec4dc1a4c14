-- Which caller has the next line, and what a line that was read, or wasn't, makes of the callers.
use Rattle.std.proofs.Common.{◌≡◌, ◌≢◌, ◌<◌, ◌^◌, ℕ, Bool, ◌+◌, List, [], ◌∷◌, ◌++◌, length, Option, Some, None, refl, ap, sym, ◌∙◌, subst, arith, ⊎_elim, append_assoc, length-append, get_or}
use Rattle.std.specs.Prelude.{All, slice_get, option_map, codes}
use Rattle.std.proofs.Math.ListN.{set}
use Rattle.std.proofs.lemmas.Bool.{cases_eq}
use Rattle.std.proofs.lemmas.List.{length-set, get_or-set_other, get_or-set_same}
use Rattle.std.proofs.lemmas.List.Elements.{All-nil, All-cons, All-head, All-tail, All-append}
use Rattle.std.proofs.lemmas.Option.{slice_get_within, slice_get_cases, get_or_from_slice_get, slice_get-get_or}
use Rattle.call_history.specs.Entries.{entry}
use Rattle.call_history.specs.Placed.{entries_of}
use Rattle.mount_model.specs.declared.call.Call.{Call}
use Rattle.mount_model.specs.declared.reply.Reply.{Reply}
use Rattle.mount_model.specs.declared.reply.Reply.TheVariants.{Refused}
use Rattle.mount_model.specs.declared.reply.Refusal.TheVariants.{NoMemory}
use Rattle.mount_model.specs.Port.{PlacedCalls}
use Rattle.mount_model.specs.History.{MountEntry, History, entries_by}
use Rattle.mount_model.specs.Lawful.{IsLawful}
use Rattle.script_lang.specs.declared.commands.Section.{Section}
use Rattle.reply_text.specs.Log.{entry_text, log_text}
use Rattle.reply_text.specs.Ranges.{EntryIsInRange}
use Rattle.reply_text.specs.Logged.{line_head}
use Rattle.fsc_session.specs.Session.{next_call}
use Rattle.next_calls.specs.Callers.{CallerView, call_of}
use Rattle.next_calls.specs.EntriesSoFar.{Awaits}
use Rattle.log_check.specs.Certificate.{IsPossible, BeginsWith}
use Rattle.log_check.specs.NextLines.{IsNextCaller}
use Rattle.log_check.specs.Reading.{IsCaller, CallersFollow}
use Rattle.log_check.specs.Replies.{ReadsReplyLine, IsUnreplied, ReplyHasMemory}
use Rattle.log_check.specs.Stops.{IsRead, IsBlocked}
use Rattle.log_check.proofs.FollowLemmas.{follows_next, follows_on, entries_by-own, entries_by-other}
use Rattle.log_check.proofs.HeadLemmas.{has_head, same_caller}
use Rattle.log_check.proofs.StopLemmas.{log-next}

abbrev HasReply : MountEntry → Type 0
HasReply e = e.reply ≢ Refused NoMemory

abbrev pub pair : ℕ → Call → ℕ × Call
pair who call = (who, call)

some_same : {A : Type 0} {x y : A} → Some x ≡ Some y → x ≡ y
some_same same = cc same

told_call : (n who : ℕ) (call : Call) (waiting : Option Call) → option_map (λ (c : Call). pair n c) waiting ≡ Some (pair who call) → waiting ≡ Some call
told_call n who call None is = absurd (cc is)
told_call n who call (Some own) is = ap (λ (p : ℕ × Call). Some p.1) (some_same is)

-- ---- the list of callers

pub at_number : (callers : List CallerView) (n : ℕ) → n < length callers → (caller : CallerView) × (slice_get callers n ≡ Some caller)
at_number callers n below = ⊎_elim
    (λ there. (there.0, there.2))
    (λ past. let over = past.0 in absurd (omega (arith, over, below)))
    (slice_get_cases callers n).1

set_same : (callers : List CallerView) (n : ℕ) (new other : CallerView) → slice_get (set callers n new) n ≡ Some other → other ≡ new
set_same callers n new other is =
    let within = slice_get_within (set callers n new) n other is in
    let long = length-set callers n new in
    sym (get_or_from_slice_get (set callers n new) n other new is) ∙ get_or-set_same callers n new new (omega (arith, within, long))

set_other : (callers : List CallerView) (n j : ℕ) (new other : CallerView) → j ≢ n → slice_get (set callers n new) j ≡ Some other → slice_get callers j ≡ Some other
set_other callers n j new other apart is =
    let within = slice_get_within (set callers n new) j other is in
    let long = length-set callers n new in
    slice_get-get_or callers j other (omega (arith, within, long))
    ∙ ap (λ (c : CallerView). Some c) (sym (get_or-set_other callers n j new other apart) ∙ get_or_from_slice_get (set callers n new) j other other is)

last_of : {A : Type 0} (P : A → Type 0) (xs : List A) (y : A) → All P (xs ++ y ∷ []) → P y
last_of P [] y all = All-head P y [] all
last_of P (x ∷ xs) y all = last_of P xs y (All-tail P x (xs ++ y ∷ []) all)

pub whose_within : (callers : List CallerView) (place : ℕ) (text : List ℕ) (number : ℕ) (call : Call) → IsNextCaller callers place text (Some (pair number call)) → number < length callers
whose_within callers place text number call whose = slice_get_within callers number whose.0 whose.1

-- the caller that was read at the number
pub is_there : (callers : List CallerView) (number : ℕ) (read caller : CallerView) → read ≡ get_or callers number read → slice_get callers number ≡ Some caller → read ≡ caller
is_there callers number read caller at here = at ∙ get_or_from_slice_get callers number caller read here

-- ---- the next entry is its caller's next call

module _ {M : Type 0} (strict : Bool) (reached_by : History → M → Type 0) where
  waits_for : (seed : List ℕ) (script : List Section) (h : History) (callers : List CallerView) (mount : M) (e : MountEntry)
      → CallersFollow reached_by seed script h callers mount → IsPossible strict seed script (h ++ e ∷ [])
      → (caller : CallerView) × (slice_get callers e.who ≡ Some caller) × (caller.waiting ≡ Some e.call) × (caller.caller ≡ e.who)
  waits_for seed script h callers mount e stand possible =
      let next = follows_next seed script h e possible.follows in
      let within = slice_get_within script e.who next.0 next.1 in
      let many = stand.own.many in
      let at = at_number callers e.who (omega (arith, within, many)) in
      let own = stand.own.each e.who at.0 at.1 in
      let section : next.0 ≡ at.0.section = some_same (sym next.1 ∙ own.section) in
      let asks : call_of at.0 ≡ Some (pair e.who e.call) =
      sym own.awaits.comes ∙ ap (λ (n : ℕ). next_call seed n at.0.section (entries_of (entries_by e.who h))) own.numbered
      ∙ ap (λ (s : Section). next_call seed e.who s (entries_of (entries_by e.who h))) (sym section) ∙ next.2 in
      (at.0, at.1, told_call at.0.caller e.who e.call at.0.waiting asks, own.numbered)

  -- if no caller has the line that the text begins with, no entry continues the history
  pub blocked_unheard : (seed : List ℕ) (script : List Section) (place : ℕ) (text : List ℕ) (h : History) (callers : List CallerView) (mount : M)
      → IsNextCaller callers place text None → CallersFollow reached_by seed script h callers mount → IsBlocked strict seed script h place text
  blocked_unheard seed script place text h callers mount whose stand e possible begins =
      let waits = waits_for seed script h callers mount e stand possible in
      whose e.who waits.0 waits.1 e.call waits.2
      (subst (λ (n : ℕ). BeginsWith text (line_head place n e.call.uid ++ codes " ")) (sym waits.3) (has_head text place e begins))

  -- nor if a caller has it, but the mount has no reply of such a line
  pub blocked_unreplied : (seed : List ℕ) (script : List Section) (place : ℕ) (text : List ℕ) (h : History) (callers : List CallerView) (mount : M)
      (number who : ℕ) (call : Call) → who < 2 ^ 64 → ((caller : CallerView) → slice_get callers number ≡ Some caller → who ≡ caller.caller)
      → IsNextCaller callers place text (Some (pair number call)) → IsUnreplied strict reached_by mount text place who call
      → CallersFollow reached_by seed script h callers mount → IsBlocked strict seed script h place text
  blocked_unreplied seed script place text h callers mount number who call small known whose so stand e possible begins =
      let found : CallerView = whose.0 in
      let same : who ≡ found.caller = known found whose.1 in
      let own = stand.own.each number found whose.1 in
      let waits = waits_for seed script h callers mount e stand possible in
      let range = last_of EntryIsInRange h e possible.in_range in
      let is_who : found.caller ≡ e.who = same_caller text place found.caller call.uid e (subst (λ n. n < 2 ^ 64) same small) range whose.2.1 begins in
      let at : waits.0 ≡ found = some_same (sym waits.1 ∙ ap (slice_get callers) (sym is_who ∙ own.numbered) ∙ whose.1) in
      let asks : e.call ≡ call = some_same (sym waits.2 ∙ ap (λ (c : CallerView). c.waiting) at ∙ whose.2.0) in
      let who_is : e.who ≡ who = sym is_who ∙ sym same in
      let may : IsPossible strict seed script (h ++ entry who call e.reply ∷ []) =
      subst (λ (c : Call). IsPossible strict seed script (h ++ entry who c e.reply ∷ [])) asks (subst (λ (n : ℕ). IsPossible strict seed script (h ++ entry n e.call e.reply ∷ [])) who_is possible) in
      let line : BeginsWith text (entry_text place (entry who call e.reply)) =
      subst (λ (c : Call). BeginsWith text (entry_text place (entry who c e.reply))) asks (subst (λ (n : ℕ). BeginsWith text (entry_text place (entry n e.call e.reply))) who_is begins) in
      so h stand.reached_of_reply e.reply may.legal may.agree (λ yes. last_of HasReply h e (possible.memory yes)) line

-- ---- a line that was read

-- what taking a reply makes of a caller
abbrev pub TakesReply : List ℕ → Call → Reply → CallerView → CallerView → Type 0
TakesReply seed call reply old new =
    (new.caller ≡ old.caller) × (new.section ≡ old.section)
    × ((placed : PlacedCalls) (place : ℕ) (asked : Call) → Awaits seed old placed → old.waiting ≡ Some asked
    → Awaits seed new (placed ++ (place, entry old.caller asked reply) ∷ []))

still_caller : (seed : List ℕ) (script : List Section) (h : History) (number : ℕ) (caller : CallerView) (e : MountEntry) → e.who ≢ number
    → IsCaller seed script h number caller → IsCaller seed script (h ++ e ∷ []) number caller
still_caller seed script h number caller e apart own = record {
  numbered = own.numbered;
  section = own.section;
  awaits = subst (Awaits seed caller) (sym (entries_by-other number h e apart)) own.awaits;
}

told_caller : (seed : List ℕ) (script : List Section) (h : History) (number : ℕ) (old new : CallerView) (call : Call) (reply : Reply)
    → old.waiting ≡ Some call → TakesReply seed call reply old new → IsCaller seed script h number old
    → IsCaller seed script (h ++ entry number call reply ∷ []) number new
told_caller seed script h number old new call reply waits takes own = record {
  numbered = takes.0 ∙ own.numbered;
  section = own.section ∙ ap (λ (s : Section). Some s) (sym takes.1);
  awaits = subst (Awaits seed new)
      (ap (λ (n : ℕ). entries_by number h ++ (length h, entry n call reply) ∷ []) own.numbered ∙ sym (entries_by-own number h (entry number call reply) refl))
      (takes.2 (entries_by number h) (length h) call own.awaits waits);
}

pub next_of_caller : (seed : List ℕ) (script : List Section) (h : History) (number : ℕ) (caller : CallerView) (call : Call) → caller.waiting ≡ Some call
    → IsCaller seed script h number caller → next_call seed number caller.section (entries_of (entries_by number h)) ≡ Some (pair number call)
next_of_caller seed script h number caller call waits own =
    ap (λ (n : ℕ). next_call seed n caller.section (entries_of (entries_by number h))) (sym own.numbered) ∙ own.awaits.comes
    ∙ ap (λ (o : Option Call). option_map (λ (c : Call). pair caller.caller c) o) waits ∙ ap (λ (n : ℕ). Some (pair n call)) own.numbered

read_on : (strict : Bool) (seed : List ℕ) (script : List Section) (whole text rest : List ℕ) (place : ℕ) (h : History) (number : ℕ) (caller : CallerView) (call : Call) (reply : Reply)
    → IsRead strict seed script whole place text h → place + 1 < 2 ^ 64 → IsCaller seed script h number caller → caller.waiting ≡ Some call
    → text ≡ entry_text place (entry number call reply) ++ rest → EntryIsInRange (entry number call reply) → IsLawful (h ++ entry number call reply ∷ []) → ReplyHasMemory strict reply
    → IsRead strict seed script whole (place + 1) rest (h ++ entry number call reply ∷ [])
read_on strict seed script whole text rest place h number caller call reply read small own waits line range lawful memory = record {
  read = read.read ∙ ap (λ l. log_text h ++ l) (line ∙ ap (λ n. entry_text n e ++ rest) (sym read.long))
      ∙ sym (append_assoc (log_text h) (entry_text (length h) e) rest) ∙ ap (λ l. l ++ rest) (sym (log-next h e));
  long = let sum = length-append h (e ∷ []) in let long = read.long in omega (arith, sum, long);
  small = small;
  follows = follows_on seed script h number caller.section call reply read.follows own.section (next_of_caller seed script h number caller call waits own);
  in_range = All-append EntryIsInRange h (e ∷ []) read.in_range (All-cons EntryIsInRange e [] range (All-nil EntryIsInRange));
  lawful = lawful;
  memory = λ yes. All-append HasReply h (e ∷ []) (read.memory yes) (All-cons HasReply e [] (memory yes) (All-nil HasReply));
}
  where
    e : MountEntry
    e = entry number call reply

module _ {M : Type 0} (strict : Bool) (reached_by : History → M → Type 0) (reached_lawful : (h : History) (mount : M) → reached_by h mount → IsLawful h) where
  stand_on : (seed : List ℕ) (script : List Section) (text rest : List ℕ) (place : ℕ) (h : History) (callers : List CallerView) (old new : M)
      (number : ℕ) (caller caller' : CallerView) (call : Call) (reply : Reply) → slice_get callers number ≡ Some caller → caller.waiting ≡ Some call
      → TakesReply seed call reply caller caller' → ReadsReplyLine strict reached_by old new text place number call reply rest
      → CallersFollow reached_by seed script h callers old → CallersFollow reached_by seed script (h ++ entry number call reply ∷ []) (set callers number caller') new
  stand_on seed script text rest place h callers old new number caller caller' call reply here waits takes read_reply stand = record {
    reached_of_reply = read_reply.reached_of_reply h stand.reached_of_reply;
    own = record {
      many = length-set callers number caller' ∙ stand.own.many;
      each = λ j other is. ⊎_elim
          (λ (same : number ≡ j).
          subst (λ (n : ℕ). IsCaller seed script (h ++ entry number call reply ∷ []) n other) same
          (subst (IsCaller seed script (h ++ entry number call reply ∷ []) number)
          (sym (set_same callers number caller' other (subst (λ (n : ℕ). slice_get (set callers number caller') n ≡ Some other) (sym same) is)))
          (told_caller seed script h number caller caller' call reply waits takes (stand.own.each number caller here))))
          (λ (apart : number ≢ j).
          still_caller seed script h j other (entry number call reply) apart
          (stand.own.each j other (set_other callers number j caller' other (λ same. apart (sym same)) is)))
          (cases_eq number j);
    };
  }

  pub line_read : (seed : List ℕ) (script : List Section) (whole text rest : List ℕ) (place : ℕ) (h : History) (callers callers' : List CallerView) (old new : M)
      (number who : ℕ) (caller' : CallerView) (call : Call) (reply : Reply) → place + 1 < 2 ^ 64
      → ((caller : CallerView) → slice_get callers number ≡ Some caller → (who ≡ caller.caller) × TakesReply seed call reply caller caller')
      → callers' ≡ set callers number caller'
      → IsNextCaller callers place text (Some (pair number call)) → ReadsReplyLine strict reached_by old new text place who call reply rest
      → IsRead strict seed script whole place text h → CallersFollow reached_by seed script h callers old
      → (e : MountEntry) × IsRead strict seed script whole (place + 1) rest (h ++ e ∷ []) × CallersFollow reached_by seed script (h ++ e ∷ []) callers' new
  line_read seed script whole text rest place h callers callers' old new number who caller' call reply small known written whose read_reply read stand =
      let found : CallerView = whose.0 in
      let told = known found whose.1 in
      let own = stand.own.each number found whose.1 in
      let given : ReadsReplyLine strict reached_by old new text place number call reply rest =
      subst (λ (n : ℕ). ReadsReplyLine strict reached_by old new text place n call reply rest) (told.0 ∙ own.numbered) read_reply in
      let after = stand_on seed script text rest place h callers old new number found caller' call reply whose.1 whose.2.0 told.1 given stand in (
        entry number call reply,
        read_on strict seed script whole text rest place h number found call reply read small own whose.2.0 given.line given.in_range (reached_lawful (h ++ entry number call reply ∷ []) new after.reached_of_reply) given.memory,
        subst (λ (cs : List CallerView). CallersFollow reached_by seed script (h ++ entry number call reply ∷ []) cs new) (sym written) after,
      )
