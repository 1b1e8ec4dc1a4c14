-- Histories that follow a script go on by next calls alone, and follow it up to any place.
use Rattle.std.proofs.Common.{◌≡◌, ◌≢◌, ℕ, ◌+◌, Bool, cond, List, [], ◌∷◌, ◌++◌, length, Some, None, Option, refl, ap, sym, ◌∙◌, subst, arith, eq-eqb, ne_eqb, ⊎_elim, append-nil}
use Rattle.std.specs.Prelude.{slice_get}
use Rattle.std.proofs.lemmas.Bool.{cases_eq}
use Rattle.call_history.specs.Entries.{entry, by, entries_with_places}
use Rattle.call_history.specs.Placed.{entries_of}
use Rattle.call_history.proofs.Placing.{numbered-append, by-append}
use Rattle.mount_model.specs.declared.call.Call.{Call}
use Rattle.mount_model.specs.declared.reply.Reply.{Reply}
use Rattle.mount_model.specs.Port.{PlacedCalls}
use Rattle.mount_model.specs.History.{History, MountEntry, entries_by}
use Rattle.script_lang.specs.declared.commands.Section.{Section}
use Rattle.fsc_commands.specs.Steps.{Steps, Reaches, next_of}
use Rattle.fsc_commands.specs.Steps.Steps.{Done, Ask}
use Rattle.fsc_commands.proofs.StepsLemmas.{entries_of-append}
use Rattle.fsc_session.specs.Session.{next_call, section_steps}
use Rattle.fsc_session.specs.ScriptRun.{IsRunOf, IsRunOfCaller}
use Rattle.fsc_session.specs.Meaning.{IsBegunBy, Follows}
use Rattle.log_check.specs.Laws.{NextCallsFollow}

-- ---- steps

abbrev pair : ℕ → Call → ℕ × Call
pair who call = (who, call)

some_same : {A : Type 0} {x y : A} → Some x ≡ Some y → x ≡ y
some_same same = cc same

-- steps continue by their next call, whatever the reply
reached_next : {A : Type 0} (steps rest : Steps A) (es : History) (who : ℕ) (call : Call) (reply : Reply) → Reaches steps es rest → next_of steps es ≡ Some (who, call)
    → (more : Steps A) × Reaches steps (es ++ entry who call reply ∷ []) more
reached_next (Done value) rest [] who call reply so next = absurd (cc next)
reached_next (Done value) rest (e ∷ es) who call reply so next = absurd so
reached_next (Ask w asked more) rest [] who call reply so next =
    let same : pair w asked ≡ pair who call = some_same next in
    (more reply, (ap (λ (p : ℕ × Call). p.0) (sym same), ap (λ (p : ℕ × Call). p.1) (sym same), refl))
reached_next (Ask w asked more) rest (e ∷ es) who call reply so next =
    let behind = reached_next (more e.reply) rest es who call reply so.2 next in
    (behind.0, (so.0, so.1, behind.1))

-- and only so
next_reached : {A : Type 0} (steps rest : Steps A) (es fs : History) (e : MountEntry) → Reaches steps (es ++ e ∷ fs) rest → next_of steps es ≡ Some (e.who, e.call)
next_reached (Done value) rest [] fs e so = absurd so
next_reached (Done value) rest (x ∷ es) fs e so = absurd so
next_reached (Ask w asked more) rest [] fs e so = ap (λ (v : ℕ). Some (v, asked)) (sym so.0) ∙ ap (λ (c : Call). Some (e.who, c)) (sym so.1)
next_reached (Ask w asked more) rest (x ∷ es) fs e so = next_reached (more x.reply) rest es fs e so.2

-- what was reached was reached up to any entry
pub begun_reached : {A : Type 0} (steps rest : Steps A) (es fs : History) → Reaches steps (es ++ fs) rest → (middle : Steps A) × Reaches steps es middle
begun_reached steps rest [] fs so = (steps, refl)
begun_reached (Done value) rest (x ∷ es) fs so = absurd so
begun_reached (Ask w asked more) rest (x ∷ es) fs so =
    let behind = begun_reached (more x.reply) rest es fs so.2 in
    (behind.0, (so.0, so.1, behind.1))

-- there is no next call if the steps are done
pub none_next : {A : Type 0} (steps : Steps A) (es : History) (value : A) → Reaches steps es (Done value) → next_of steps es ≡ None
none_next steps [] value so = ap (λ s. next_of s []) so
none_next (Done other) (x ∷ es) value so = absurd so
none_next (Ask w asked more) (x ∷ es) value so = none_next (more x.reply) es value so.2

-- ---- a caller's entries

-- those in two pieces of a history
pub entries_by-append : (c : ℕ) (g h : History) → entries_by c (g ++ h) ≡ entries_by c g ++ by c (entries_with_places (length g) h)
entries_by-append c g h = ap (by c) (numbered-append 0 g h ∙ ap (λ (n : ℕ). entries_with_places 0 g ++ entries_with_places n h) (let e : 0 + length g ≡ length g = omega arith in e)) ∙ by-append c (entries_with_places 0 g) (entries_with_places (length g) h)

by-own : (c k : ℕ) (e : MountEntry) (h : PlacedCalls) → e.who ≡ c → by c ((k, e) ∷ h) ≡ (k, e) ∷ by c h
by-own c k e h is = ap (λ (b : Bool). cond b ((k, e) ∷ by c h) (by c h)) (eq-eqb e.who c is)

by-other : (c k : ℕ) (e : MountEntry) (h : PlacedCalls) → e.who ≢ c → by c ((k, e) ∷ h) ≡ by c h
by-other c k e h not_it = ap (λ (b : Bool). cond b ((k, e) ∷ by c h) (by c h)) (ne_eqb e.who c not_it)

-- one entry more is its caller's, and no other one's
pub entries_by-own : (c : ℕ) (h : History) (e : MountEntry) → e.who ≡ c → entries_by c (h ++ e ∷ []) ≡ entries_by c h ++ (length h, e) ∷ []
entries_by-own c h e is = entries_by-append c h (e ∷ []) ∙ ap (λ (l : PlacedCalls). entries_by c h ++ l) (by-own c (length h) e [] is)

pub entries_by-other : (c : ℕ) (h : History) (e : MountEntry) → e.who ≢ c → entries_by c (h ++ e ∷ []) ≡ entries_by c h
entries_by-other c h e not_it = entries_by-append c h (e ∷ []) ∙ ap (λ (l : PlacedCalls). entries_by c h ++ l) (by-other c (length h) e [] not_it) ∙ append-nil (entries_by c h)

-- ---- histories

-- a caller's entries are a beginning of a run up to any place
IsBegunBy-begun : (seed : List ℕ) (c : ℕ) (at : Option Section) (xs ys : PlacedCalls) → IsBegunBy seed c at (xs ++ ys) → IsBegunBy seed c at xs
IsBegunBy-begun seed c None [] ys so = refl
IsBegunBy-begun seed c None (x ∷ xs) ys so = absurd (cc so)
IsBegunBy-begun seed c (Some section) xs ys so =
    begun_reached (section_steps seed c section) so.0 (entries_of xs) (entries_of ys)
    (subst (λ (es : History). Reaches (section_steps seed c section) es so.0) (entries_of-append xs ys) so.1)

pub Follows-begun : (seed : List ℕ) (script : List Section) (g h : History) → Follows seed script (g ++ h) → Follows seed script g
Follows-begun seed script g h follows c =
    IsBegunBy-begun seed c (slice_get script c) (entries_by c g) (by c (entries_with_places (length g) h))
    (subst (λ (xs : PlacedCalls). IsBegunBy seed c (slice_get script c) xs) (entries_by-append c g h) (follows c))

begun_next : (seed : List ℕ) (c : ℕ) (at : Option Section) (section : Section) (placed : PlacedCalls) (place : ℕ) (call : Call) (reply : Reply) → at ≡ Some section
    → IsBegunBy seed c at placed → next_call seed c section (entries_of placed) ≡ Some (c, call) → IsBegunBy seed c at (placed ++ (place, entry c call reply) ∷ [])
begun_next seed c at section placed place call reply is so next =
    subst (λ (at : Option Section). IsBegunBy seed c at (placed ++ (place, entry c call reply) ∷ [])) (sym is) (on (subst (λ (at : Option Section). IsBegunBy seed c at placed) is so))
  where
    on : IsBegunBy seed c (Some section) placed → IsBegunBy seed c (Some section) (placed ++ (place, entry c call reply) ∷ [])
    on begun =
        let more = reached_next (section_steps seed c section) begun.0 (entries_of placed) c call reply begun.1 next in
        (more.0, subst (λ (es : History). Reaches (section_steps seed c section) es more.0) (sym (entries_of-append placed ((place, entry c call reply) ∷ []))) more.1)

pub follows_on : NextCallsFollow
follows_on seed script history caller section call reply follows is next c = ⊎_elim
    (λ (own : caller ≡ c). subst (λ (d : ℕ). IsBegunBy seed d (slice_get script d) (entries_by d (history ++ entry caller call reply ∷ []))) own
    (subst (λ (xs : PlacedCalls). IsBegunBy seed caller (slice_get script caller) xs) (sym (entries_by-own caller history (entry caller call reply) refl))
    (begun_next seed caller (slice_get script caller) section (entries_by caller history) (length history) call reply is (follows caller) next)))
    (λ (other : caller ≢ c). subst (λ (xs : PlacedCalls). IsBegunBy seed c (slice_get script c) xs) (sym (entries_by-other c history (entry caller call reply) other)) (follows c))
    (cases_eq caller c)

some_end : {A : Type 0} (xs : List A) (x : A) → xs ++ x ∷ [] ≡ [] → ⊥
some_end [] x so = absurd (cc so)
some_end (y ∷ xs) x so = absurd (cc so)

-- the caller of the next entry has a section, and that entry makes its next call
pub follows_next : (seed : List ℕ) (script : List Section) (h : History) (e : MountEntry) → Follows seed script (h ++ e ∷ [])
    → (section : Section) × (slice_get script e.who ≡ Some section) × (next_call seed e.who section (entries_of (entries_by e.who h)) ≡ Some (e.who, e.call))
follows_next seed script h e follows =
    by_section (slice_get script e.who) refl (subst (λ (xs : PlacedCalls). IsBegunBy seed e.who (slice_get script e.who) xs) (entries_by-own e.who h e refl) (follows e.who))
  where
    by_section : (at : Option Section) → slice_get script e.who ≡ at → IsBegunBy seed e.who at (entries_by e.who h ++ (length h, e) ∷ [])
        → (section : Section) × (slice_get script e.who ≡ Some section) × (next_call seed e.who section (entries_of (entries_by e.who h)) ≡ Some (e.who, e.call))
    by_section None is so = absurd (some_end (entries_by e.who h) (length h, e) so)
    by_section (Some section) is so = (
      section,
      is,
      next_reached (section_steps seed e.who section) so.0 (entries_of (entries_by e.who h)) [] e
          (subst (λ (es : History). Reaches (section_steps seed e.who section) es so.0) (entries_of-append (entries_by e.who h) ((length h, e) ∷ [])) so.1),
    )

-- after a whole run comes nothing
pub run_ends : (seed : List ℕ) (script : List Section) (h : History) (e : MountEntry) → IsRunOf seed script h → Follows seed script (h ++ e ∷ []) → ⊥
run_ends seed script h e run follows =
    let next = follows_next seed script h e follows in
    let whole = subst (λ (at : Option Section). IsRunOfCaller seed e.who at (entries_by e.who h)) next.1 (run e.who) in
    let none = none_next (section_steps seed e.who next.0) (entries_of (entries_by e.who h)) whole.0 whole.1 in
    absurd (cc (sym none ∙ next.2))
