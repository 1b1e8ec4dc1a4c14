-- A command's next call, from what a port of listed replies was asked.
use Rattle.std.proofs.Common.{◌≡◌, ◌≢◌, ℕ, ◌+◌, ◌-◌, ◌≤◌, Bool, true, false, List, [], ◌∷◌, ◌++◌, drop, take, reverse, length, get_or, Option, Some, None, Result, Ok, Err, IfOk, OnOk, refl, ap, sym, ◌∙◌, subst, arith, length-append}
use Rattle.std.proofs.Math.Seq.{take-append_seam, drop-append_seam}
use Rattle.std.proofs.lemmas.List.{length-map, length-reverse, reverse-reverse}
use Rattle.call_history.specs.Placed.{entries_of}
use Rattle.mount_model.specs.declared.call.Call.{Call}
use Rattle.mount_model.specs.declared.reply.Reply.{Reply}
use Rattle.mount_model.specs.History.{History, MountEntry}
use Rattle.mount_model.specs.Port.{PlacedCalls}
use Rattle.scripted_port.specs.Scripted.{ScriptedView, ScriptedAfterCalls, scripted_view, after_call}
use Rattle.scripted_port.specs.FurtherCalls.{further_after, further_after_unlisted}
use Rattle.scripted_port.specs.declared.port.Further.{Further}
use Rattle.scripted_port.specs.declared.port.Further.TheVariants.{Unasked, Asked, Lost}
use Rattle.reply_text.specs.Logged.{PlacedLogged, LoggedEntry, logged_calls}
use Rattle.reply_text.specs.declared.outcome.Outcome.{Outcome}
use Rattle.fsc_commands.specs.CommandSteps.{CommandSteps}
use Rattle.fsc_commands.specs.MadeCalls.{MadeCalls}
use Rattle.fsc_commands.specs.Steps.{Steps, Reaches, next_of}
use Rattle.fsc_commands.specs.Steps.Steps.{Done, Ask}
use Rattle.next_calls.specs.declared.next.Next.{Next}
use Rattle.next_calls.specs.declared.next.Next.TheVariants as next
use Rattle.next_calls.specs.NextCalls.{IsNext, replies_of, logged_replies, remaining_replies}

behind_kept : (replies : List Reply) (further : Further) (call : Call) (lost : Bool) → further ≢ Unasked → further_after replies further call lost ≡ further
behind_kept [] Unasked call lost asked = absurd (asked refl)
behind_kept [] (Asked other) call lost asked = refl
behind_kept [] Lost call lost asked = refl
behind_kept (r ∷ rs) further call lost asked = refl

-- a recorded call stays
further_stays : (port after : ScriptedView) (made : PlacedCalls) → ScriptedAfterCalls port made after → port.further ≢ Unasked → after.further ≡ port.further
further_stays port after [] after_calls asked = ap (λ (p : ScriptedView). p.further) after_calls
further_stays port after (x ∷ xs) after_calls asked =
    let kept = behind_kept port.replies port.further x.1.call after_calls.0 asked in
    further_stays (after_call port x.1.call after_calls.0) after xs after_calls.2 (λ none. asked (sym kept ∙ none)) ∙ kept

-- so a call after the listed replies is recorded, or lost
is_kept : (call : Call) (lost : Bool) (further : Further) → further ≡ further_after_unlisted Unasked call lost → further ≢ Unasked
is_kept call true further is none = let wrong = sym is ∙ none in absurd (cc wrong)
is_kept call false further is none = let wrong = sym is ∙ none in absurd (cc wrong)

behind_all : (caller left place : ℕ) (after : ScriptedView) (x : ℕ × MountEntry) (xs : PlacedCalls) (after_calls : ScriptedAfterCalls (scripted_view caller left place [] Unasked) (x ∷ xs) after)
    → after.further ≡ further_after_unlisted Unasked x.1.call after_calls.0
behind_all caller left place after x xs after_calls =
    further_stays (after_call (scripted_view caller left place [] Unasked) x.1.call after_calls.0) after xs after_calls.2 (is_kept x.1.call after_calls.0 _ refl)

kept_call : (call asked : Call) (lost : Bool) (further : Further) → further ≡ further_after_unlisted Unasked call lost → further ≡ Asked asked → call ≡ asked
kept_call call asked true further is it = let wrong = sym is ∙ it in absurd (cc wrong)
kept_call call asked false further is it = let same = sym is ∙ it in cc same

-- the recorded call is the one that comes after any entries that had the listed replies
pub further_is_next : {A : Type 0} (steps : Steps A) (value : A) (made : PlacedCalls) (caller left place : ℕ) (replies : List Reply) (after : ScriptedView)
    (call : Call) (told : History) → ScriptedAfterCalls (scripted_view caller left place replies Unasked) made after → Reaches steps (entries_of made) (Done value)
    → after.further ≡ Asked call → replies_of told ≡ replies → next_of steps told ≡ Some (caller, call)
further_is_next steps value [] caller left place replies after call told after_calls so asked same =
    let wrong = sym asked ∙ ap (λ (p : ScriptedView). p.further) after_calls in absurd (cc wrong)
further_is_next (Done other) value (x ∷ xs) caller left place replies after call told after_calls so asked same = absurd so
further_is_next (Ask who it next) value (x ∷ xs) caller left place [] after call (t ∷ ts) after_calls so asked same = absurd (cc same)
further_is_next (Ask who it next) value (x ∷ xs) caller left place [] after call [] after_calls so asked same =
    let is = kept_call x.1.call call after_calls.0 after.further (behind_all caller left place after x xs after_calls) asked in
    ap (λ (w : ℕ). Some (w, it)) (sym so.0 ∙ after_calls.1.who) ∙ ap (λ (c : Call). Some (caller, c)) (sym so.1 ∙ is)
further_is_next (Ask who it next) value (x ∷ xs) caller left place (r ∷ rs) after call [] after_calls so asked same = absurd (cc same)
further_is_next (Ask who it next) value (x ∷ xs) caller left place (r ∷ rs) after call (t ∷ ts) after_calls so asked same =
    let reply : x.1.reply ≡ t.reply = after_calls.1.reply ∙ sym (ap (λ (l : List Reply). get_or l 0 r) same) in
    further_is_next (next t.reply) value xs caller (left - 1) (place + 1) rs after call ts after_calls.2
    (subst (λ (y : Reply). Reaches (next y) (entries_of xs) (Done value)) reply so.2) asked (ap (drop 1) same)

-- if no call was asked after them, no call comes after such entries
pub ended_none : {A : Type 0} (steps : Steps A) (value : A) (made : PlacedCalls) (caller left place : ℕ) (replies : List Reply) (after : ScriptedView)
    (told : History) → ScriptedAfterCalls (scripted_view caller left place replies Unasked) made after → Reaches steps (entries_of made) (Done value)
    → after.further ≡ Unasked → replies_of told ≡ replies → next_of steps told ≡ None
ended_none steps value [] caller left place replies after told after_calls so none same = ap (λ s. next_of s told) so
ended_none (Done other) value (x ∷ xs) caller left place replies after told after_calls so none same = absurd so
ended_none (Ask who it next) value (x ∷ xs) caller left place [] after told after_calls so none same =
    absurd (is_kept x.1.call after_calls.0 after.further (behind_all caller left place after x xs after_calls) none)
ended_none (Ask who it next) value (x ∷ xs) caller left place (r ∷ rs) after [] after_calls so none same = absurd (cc same)
ended_none (Ask who it next) value (x ∷ xs) caller left place (r ∷ rs) after (t ∷ ts) after_calls so none same =
    let reply : x.1.reply ≡ t.reply = after_calls.1.reply ∙ sym (ap (λ (l : List Reply). get_or l 0 r) same) in
    ended_none (next t.reply) value xs caller (left - 1) (place + 1) rs after ts after_calls.2
    (subst (λ (y : Reply). Reaches (next y) (entries_of xs) (Done value)) reply so.2) none (ap (drop 1) same)

entry_same : (e f : MountEntry) → e.who ≡ f.who → e.call ≡ f.call → e.reply ≡ f.reply → e ≡ f
entry_same e f who call reply =
    ap (λ (w : ℕ). let it : MountEntry = record { who = w; call = e.call; reply = e.reply } in it) who
    ∙ ap (λ (c : Call). let it : MountEntry = record { who = f.who; call = c; reply = e.reply } in it) call
    ∙ ap (λ (r : Reply). let it : MountEntry = record { who = f.who; call = f.call; reply = r } in it) reply

-- and the listed replies are those of the entries that were made, and more
listed_first : (made : PlacedCalls) (caller left place : ℕ) (replies : List Reply) (after : ScriptedView) → ScriptedAfterCalls (scripted_view caller left place replies Unasked) made after
    → after.further ≡ Unasked → (unasked : List Reply) × (replies ≡ replies_of (entries_of made) ++ unasked)
listed_first [] caller left place replies after after_calls none = (replies, refl)
listed_first (x ∷ xs) caller left place [] after after_calls none = absurd (is_kept x.1.call after_calls.0 after.further (behind_all caller left place after x xs after_calls) none)
listed_first (x ∷ xs) caller left place (r ∷ rs) after after_calls none =
    let rest = listed_first xs caller (left - 1) (place + 1) rs after after_calls.2 none in
    (rest.0, ap (λ (y : Reply). y ∷ rs) (sym after_calls.1.reply) ∙ ap (λ (l : List Reply). x.1.reply ∷ l) rest.1)

-- the entries after which steps have ended are the only ones that had their replies and any after them
pub ended_alone : {A : Type 0} (steps rest : Steps A) (value : A) (es told : History) (unasked : List Reply) → Reaches steps es (Done value)
    → replies_of told ≡ replies_of es ++ unasked → Reaches steps told rest → (told ≡ es) × (rest ≡ Done value)
ended_alone steps rest value [] [] unasked so same to = (refl, sym to ∙ so)
ended_alone steps rest value [] (t ∷ ts) unasked so same to = absurd (subst (λ s. Reaches s (t ∷ ts) rest) so to)
ended_alone (Done other) rest value (e ∷ es) told unasked so same to = absurd so
ended_alone (Ask who it next) rest value (e ∷ es) [] unasked so same to = absurd (cc same)
ended_alone (Ask who it next) rest value (e ∷ es) (t ∷ ts) unasked so same to =
    let reply : e.reply ≡ t.reply = sym (ap (λ (l : List Reply). get_or l 0 e.reply) same) in
    let behind = ended_alone (next t.reply) rest value es ts unasked (subst (λ (y : Reply). Reaches (next y) es (Done value)) reply so.2) (ap (drop 1) same) to.2 in
    let first : t ≡ e = entry_same t e (to.0 ∙ sym so.0) (to.1 ∙ sym so.1) (sym reply) in (
      ap (λ (x : MountEntry). x ∷ ts) first ∙ ap (λ (l : History). e ∷ l) behind.0,
      behind.1,
    )

-- if a call was asked after them, the entries that were made had the listed replies first
pub replies_first : (made : PlacedCalls) (caller left place : ℕ) (replies : List Reply) (after : ScriptedView) (call : Call)
    → ScriptedAfterCalls (scripted_view caller left place replies Unasked) made after → after.further ≡ Asked call
    → (more : List Reply) × (replies_of (entries_of made) ≡ replies ++ more)
replies_first [] caller left place replies after call after_calls asked =
    let wrong = sym asked ∙ ap (λ (p : ScriptedView). p.further) after_calls in absurd (cc wrong)
replies_first (x ∷ xs) caller left place [] after call after_calls asked = (replies_of (entries_of (x ∷ xs)), refl)
replies_first (x ∷ xs) caller left place (r ∷ rs) after call after_calls asked =
    let rest = replies_first xs caller (left - 1) (place + 1) rs after call after_calls.2 asked in
    (rest.0, ap (λ (y : Reply). y ∷ replies_of (entries_of xs)) after_calls.1.reply ∙ ap (λ (l : List Reply). r ∷ l) rest.1)

-- ---- a command that was run on the port

-- it has ended
pub is_end : (port after : ScriptedView) (caller calls left before_left most : ℕ) (steps : CommandSteps) (replies : List Reply) (outcome : Option Outcome)
    (old new : PlacedLogged) → port ≡ scripted_view caller calls 0 replies Unasked → after.further ≡ Unasked
    → MadeCalls (ScriptedAfterCalls port) after left before_left most steps outcome old new → IsNext caller steps replies old new (next.Ended outcome)
is_end port after caller calls left before_left most steps replies outcome old new is none made =
    let after_calls : ScriptedAfterCalls (scripted_view caller calls 0 replies Unasked) made.made after = subst (λ (p : ScriptedView). ScriptedAfterCalls p made.made after) is made.reached_by_call in
    record {
      call = λ told same. ended_none steps outcome made.made caller calls 0 replies after told after_calls made.follows none same;
      ends = (made.made, made.grown, made.follows, listed_first made.made caller calls 0 replies after after_calls none);
    }

replies_shown : (placed : PlacedCalls) → logged_replies (logged_calls placed) ≡ replies_of (entries_of placed)
replies_shown [] = refl
replies_shown (x ∷ xs) = ap (λ (l : List Reply). x.1.reply ∷ l) (replies_shown xs)

-- a call was asked after the listed replies: so they are those of the first entries
pub first_replies : (port after : ScriptedView) (caller calls left before_left most : ℕ) (steps : CommandSteps) (replies : List Reply) (outcome : Option Outcome)
    (old new : PlacedLogged) (call : Call) → port ≡ scripted_view caller calls 0 replies Unasked → after.further ≡ Asked call
    → MadeCalls (ScriptedAfterCalls port) after left before_left most steps outcome old new
    → (made : PlacedCalls) × (new ≡ old ++ logged_calls made) × ((more : List Reply) × (logged_replies (logged_calls made) ≡ replies ++ more))
first_replies port after caller calls left before_left most steps replies outcome old new call is asked made =
    let after_calls : ScriptedAfterCalls (scripted_view caller calls 0 replies Unasked) made.made after = subst (λ (p : ScriptedView). ScriptedAfterCalls p made.made after) is made.reached_by_call in
    let more = replies_first made.made caller calls 0 replies after call after_calls asked in
    (made.made, made.grown, (more.0, replies_shown made.made ∙ more.1))

-- there are at least `kept + count` entries
pub has_room : (port after : ScriptedView) (caller calls left before_left most : ℕ) (steps : CommandSteps) (listed : List Reply) (outcome : Option Outcome)
    (old new : PlacedLogged) (call : Call) (kept count : ℕ) → port ≡ scripted_view caller calls 0 (reverse listed) Unasked → after.further ≡ Asked call
    → MadeCalls (ScriptedAfterCalls port) after left before_left most steps outcome old new → kept ≡ length old → count ≡ length listed → kept + count ≤ length new
has_room port after caller calls left before_left most steps listed outcome old new call kept count is asked made all some =
    let first = first_replies port after caller calls left before_left most steps (reverse listed) outcome old new call is asked made in
    let grown = ap length first.1 ∙ length-append old (logged_calls first.0) in
    let same = sym (length-map (logged_calls first.0) (λ (x : ℕ × LoggedEntry). x.1.reply)) in
    let shown = ap length first.2.1 ∙ length-append (reverse listed) first.2.0 in
    let turned = length-reverse listed in
    omega (arith, grown, same, shown, turned, all, some)

-- its call comes next, and the entries are as before
pub is_call : {E : Type 0} (result : Result Next E) (port after : ScriptedView) (caller calls left before_left most : ℕ) (steps : CommandSteps) (listed : List Reply)
    (outcome : Option Outcome) (old grown new : PlacedLogged) (call : Call) (kept : ℕ) → port ≡ scripted_view caller calls 0 (reverse listed) Unasked
    → after.further ≡ Asked call → MadeCalls (ScriptedAfterCalls port) after left before_left most steps outcome old grown → kept ≡ length old
    → IfOk result (λ it. it ≡ next.Call call) → OnOk result (new ≡ take kept grown) → IfOk result (IsNext caller steps (reverse listed) old new)
is_call (Err error) port after caller calls left before_left most steps listed outcome old grown new call kept is asked made all call_is taken = tt
is_call (Ok it) port after caller calls left before_left most steps listed outcome old grown new call kept is asked made all call_is taken =
    let after_calls : ScriptedAfterCalls (scripted_view caller calls 0 (reverse listed) Unasked) made.made after = subst (λ (p : ScriptedView). ScriptedAfterCalls p made.made after) is made.reached_by_call in
    subst (λ (n : Next). IsNext caller steps (reverse listed) old new n) (sym call_is) (record {
      call = λ told same. further_is_next steps outcome made.made caller calls 0 (reverse listed) after call told after_calls made.follows asked same;
      ends = taken ∙ ap (λ (n : ℕ). take n grown) all ∙ ap (take (length old)) made.grown ∙ take-append_seam old (logged_calls made.made);
    })

-- and so are the replies
pub same_listed : {E : Type 0} (result : Result Next E) (port after : ScriptedView) (caller calls left before_left most : ℕ) (steps : CommandSteps) (listed new : List Reply)
    (outcome : Option Outcome) (old grown : PlacedLogged) (call : Call) (kept count : ℕ) → port ≡ scripted_view caller calls 0 (reverse listed) Unasked
    → after.further ≡ Asked call → MadeCalls (ScriptedAfterCalls port) after left before_left most steps outcome old grown → kept ≡ length old → count ≡ length listed
    → IfOk result (λ it. it ≡ next.Call call) → OnOk result (reverse new ≡ take count (logged_replies (drop kept grown)))
    → IfOk result (λ it. new ≡ remaining_replies listed it)
same_listed (Err error) port after caller calls left before_left most steps listed new outcome old grown call kept count is asked made all some call_is taken = tt
same_listed (Ok it) port after caller calls left before_left most steps listed new outcome old grown call kept count is asked made all some call_is taken =
    let first = first_replies port after caller calls left before_left most steps (reverse listed) outcome old grown call is asked made in
    let behind : drop kept grown ≡ logged_calls first.0 = ap (λ (n : ℕ). drop n grown) all ∙ ap (drop (length old)) first.1 ∙ drop-append_seam old (logged_calls first.0) in
    let same : reverse new ≡ reverse listed =
    taken ∙ ap (λ (l : PlacedLogged). take count (logged_replies l)) behind ∙ ap (take count) first.2.1
    ∙ ap (λ (n : ℕ). take n (reverse listed ++ first.2.0)) (some ∙ sym (length-reverse listed)) ∙ take-append_seam (reverse listed) first.2.0 in
    subst (λ (n : Next). new ≡ remaining_replies listed n) (sym call_is)
    (sym (reverse-reverse new) ∙ ap reverse same ∙ reverse-reverse listed)

pub port_is : (port : ScriptedView) (caller calls : ℕ) (listed items : List Reply) → port ≡ scripted_view caller calls 0 (reverse listed) Unasked → listed ≡ items
    → port ≡ scripted_view caller calls 0 (reverse items) Unasked
port_is port caller calls listed items is same = is ∙ ap (λ (l : List Reply). scripted_view caller calls 0 (reverse l) Unasked) same
