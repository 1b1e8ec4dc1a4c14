-- If no call is out of memory, both histories are a function of script and seed.
use Rattle.std.proofs.Common.{◌≡◌, ◌≢◌, ℕ, Bool, true, false, cond, List, [], ◌∷◌, ◌++◌, Option, Some, None, refl, ap, ap₂, sym, ◌∙◌, subst}
use Rattle.std.proofs.lemmas.List.Elements.{All-head, All-tail}
use Rattle.call_history.specs.Entries.{entry}
use Rattle.call_history.specs.Placed.{entries_of}
use Rattle.mount_model.specs.declared.call.Call.{Call}
use Rattle.mount_model.specs.declared.call.Op.{Op}
use Rattle.mount_model.specs.declared.call.Op.TheVariants as op
use Rattle.mount_model.specs.declared.reply.Reply.{Reply}
use Rattle.mount_model.specs.declared.reply.Reply.TheVariants as reply
use Rattle.mount_model.specs.declared.reply.Reply.TheVariants.{Refused}
use Rattle.mount_model.specs.declared.reply.Refusal.TheVariants as refusal
use Rattle.mount_model.specs.declared.reply.Refusal.TheVariants.{NoMemory}
use Rattle.mount_model.specs.PlainMount.{PlainMount}
use Rattle.mount_model.specs.Answer.{answer_of}
use Rattle.mount_model.specs.History.{History, MountEntry, IsLegalFrom, NeverOutOfMemory, mount_after_entry, is_out_of_memory}
use Rattle.mount_model.specs.Port.{PlacedCalls}
use Rattle.mount_model.proofs.StepLemmas.{answered-step}
use Rattle.script_words.specs.Records.{record_of, record_name}
use Rattle.script_words.specs.declared.record_words.Record.{Record}
use Rattle.script_words.specs.declared.record_words.Record.TheVariants.{Protector, Policy}
use Rattle.fsc_commands.specs.Steps.{Steps, Reaches}
use Rattle.fsc_commands.proofs.StepsLemmas.{entries_of-append}
use Rattle.fsc_commands.specs.Steps.Steps.{Done, Ask}
use Rattle.mount_links.specs.declared.asked.Asked.{Asked}
use Rattle.mount_links.specs.declared.asked.Asked.TheVariants.{Load, Store, Other}
use Rattle.mount_links.specs.declared.step.LinkStep.{LinkStep}
use Rattle.mount_links.specs.declared.step.LinkStep.TheVariants.{Alone, Followed, Looked, NotMade}
use Rattle.mount_links.specs.Linked.{own_part, far_part}
use Rattle.mount_links.specs.LinkSteps.{asked_of, asked_of_load, asked_of_store, is_link, IsStepOf}
use Rattle.mount_links.specs.LinkCalls.{load_call}
use Rattle.mount_links.proofs.NameLemmas.{asked_back}
use Rattle.linked_turns.specs.Parts.{is_even, IsLinkedStep, AreLinked, part_0, part_1, parts_0, parts_1}
use Rattle.linked_turns.specs.LinkedSerial.{TwoHistories, histories, linked_histories_of, serial_calls_of}
use Rattle.linked_turns.specs.LinkedAnswers.{linked_by, linked_answer}
use Rattle.linked_turns.specs.TwoMounts.{TwoMounts, two, LinkedAnswer, after_call_on_1, on_mount_0, on_mount_1}

-- ---- an answered entry

abbrev IsAnswerOf : MountEntry → Type 0
IsAnswerOf e = e.reply ≢ Refused NoMemory

given_reply : (reply : Reply) → reply ≢ Refused NoMemory → is_out_of_memory reply ≡ false
given_reply (reply.Added id) h = refl
given_reply (reply.Removed others busy) h = refl
given_reply (reply.Status state by_self users) h = refl
given_reply reply.Done h = refl
given_reply (reply.PolicyIs policy) h = refl
given_reply (reply.Names names more) h = refl
given_reply (reply.Stat kind node size encrypted keyed) h = refl
given_reply (reply.Opened number) h = refl
given_reply (reply.Content bytes) h = refl
given_reply (reply.Target bytes) h = refl
given_reply (reply.Held version bytes) h = refl
given_reply (reply.Stored version) h = refl
given_reply (reply.Refused refusal.NoKey) h = refl
given_reply (reply.Refused refusal.Access) h = refl
given_reply (reply.Refused refusal.Quota) h = refl
given_reply (reply.Refused refusal.Inval) h = refl
given_reply (reply.Refused refusal.Exists) h = refl
given_reply (reply.Refused refusal.NotFound) h = refl
given_reply (reply.Refused refusal.NotDir) h = refl
given_reply (reply.Refused refusal.IsDir) h = refl
given_reply (reply.Refused refusal.NotEmpty) h = refl
given_reply (reply.Refused refusal.XDev) h = refl
given_reply (reply.Refused refusal.NoData) h = refl
given_reply (reply.Refused refusal.BadHandle) h = refl
given_reply (reply.Refused refusal.NameTooLong) h = refl
given_reply (reply.Refused refusal.TooBig) h = refl
given_reply (reply.Refused refusal.NoSpace) h = refl
given_reply (reply.Refused refusal.NoKeyClash) h = refl
given_reply (reply.Refused (refusal.Changed version)) h = refl
given_reply (reply.Refused refusal.NoMemory) h = absurd (h refl)

left_when_given : (m after : PlainMount) (want : Bool) → want ≡ false → cond want m after ≡ after
left_when_given m after want h = rw h refl

-- what holds of a history that goes on from a mount and in which no call is out of memory
pub record GoesOn (m : PlainMount) (h : History) : Type 0 where
  pub legal : IsLegalFrom m h
  pub never : NeverOutOfMemory h

-- its first entry has the mount's answer, and it goes on from the mount that this leaves
record First (m : PlainMount) (e : MountEntry) (es : History) : Type 0 where
  same : e.reply ≡ (answer_of m e.who e.call).reply
  rest : GoesOn (answer_of m e.who e.call).mount es

first_of : (m : PlainMount) (e : MountEntry) (es : History) → GoesOn m (e ∷ es) → First m e es
first_of m e es on =
    let given = All-head IsAnswerOf e es on.never in
    let left : mount_after_entry m e ≡ (answer_of m e.who e.call).mount = left_when_given m _ _ (given_reply e.reply given) in
    record {
      same = answered-step m e _ on.legal.0 given;
      rest = record {
        legal = subst (λ n. IsLegalFrom n es) left on.legal.1;
        never = All-tail IsAnswerOf e es on.never;
      };
    }

-- ---- what a call asks for

not_loaded : (o : Option Record) (label : List ℕ) → asked_of_store o ≡ Load label → ⊥
not_loaded (Some (Protector x)) label e = cc
not_loaded (Some (Policy x)) label e = cc
not_loaded None label e = cc

load_back : (o : Option Record) (name label : List ℕ) → record_of name ≡ o → asked_of_load o ≡ Load label → name ≡ record_name (Protector label)
load_back (Some it) name label is e = asked_back name it label is e
load_back None name label is e = absurd (cc e)

loads : (asked : Op) (label : List ℕ) → asked_of asked ≡ Load label → asked ≡ op.MetaLoad (record_name (Protector label))
loads (op.AddKey raw) label e = absurd (cc e)
loads (op.RemoveKey id) label e = absurd (cc e)
loads (op.RemoveKeyAll id) label e = absurd (cc e)
loads (op.KeyStatus id) label e = absurd (cc e)
loads (op.SetPolicy path policy nonce) label e = absurd (cc e)
loads (op.GetPolicy path) label e = absurd (cc e)
loads (op.Mkdir path nonce) label e = absurd (cc e)
loads (op.Create path nonce) label e = absurd (cc e)
loads (op.Symlink path target nonce) label e = absurd (cc e)
loads (op.ReadLink path) label e = absurd (cc e)
loads (op.Unlink path) label e = absurd (cc e)
loads (op.Rmdir path) label e = absurd (cc e)
loads (op.Rename old_path new_path) label e = absurd (cc e)
loads (op.List path start) label e = absurd (cc e)
loads (op.Stat path) label e = absurd (cc e)
loads (op.OpenNode path) label e = absurd (cc e)
loads (op.Read handle offset len) label e = absurd (cc e)
loads (op.Write handle offset bytes) label e = absurd (cc e)
loads (op.Close handle) label e = absurd (cc e)
loads op.DropCaches label e = absurd (cc e)
loads (op.MetaLoad name) label e = ap op.MetaLoad (load_back (record_of name) name label refl e)
loads (op.MetaStore name expected bytes) label e = absurd (not_loaded (record_of name) label e)

loads_itself : (call : Call) (label : List ℕ) → asked_of call.op ≡ Load label → load_call label call ≡ call
loads_itself call label e = ap (λ (asked : Op). let c : Call = record { uid = call.uid; op = asked } in c) (sym (loads call.op label e))

-- ---- a call

-- it has the answer of both mounts, its entries are those of the answer, and both histories go on after it
record Answered (answer : LinkedAnswer) (given : Reply) (even_made odd_made even odd : History) : Type 0 where
  reply : given ≡ answer.reply
  on_even : even_made ≡ answer.even
  on_odd : odd_made ≡ answer.odd
  even_on : GoesOn answer.left.even even
  odd_on : GoesOn answer.left.odd odd

entry_is : (e : MountEntry) (r : Reply) → e.reply ≡ r → e ∷ [] ≡ entry e.who e.call r ∷ []
entry_is e r same = ap (λ (x : Reply). entry e.who e.call x ∷ []) same

answered_0 : (m : TwoMounts) (e : MountEntry) (even odd : History) → GoesOn m.even (e ∷ even) → GoesOn m.odd odd
    → Answered (on_mount_0 m e.who e.call) e.reply (e ∷ []) [] even odd
answered_0 m e even odd on_even on_odd =
    let first = first_of m.even e even on_even in
    record { reply = first.same; on_even = entry_is e _ first.same; on_odd = refl; even_on = first.rest; odd_on = on_odd }

answered_1 : (m : TwoMounts) (e : MountEntry) (even odd : History) → GoesOn m.even even → GoesOn m.odd (e ∷ odd)
    → Answered (on_mount_1 m e.who e.call) e.reply [] (e ∷ []) even odd
answered_1 m e even odd on_even on_odd =
    let first = first_of m.odd e odd on_odd in
    record { reply = first.same; on_even = refl; on_odd = entry_is e _ first.same; even_on = on_even; odd_on = first.rest }

-- a call whose record was first loaded on mount 1
behind_first : (m : TwoMounts) (look : MountEntry) (next : TwoMounts → LinkedAnswer) (given : Reply) (even_made odd_made even odd : History)
    → GoesOn m.odd (look ∷ odd_made ++ odd) → look.reply ≡ (answer_of m.odd look.who look.call).reply
    → Answered (next (two m.even (answer_of m.odd look.who look.call).mount)) given even_made odd_made even odd
    → Answered (after_call_on_1 m look.who look.call next) given even_made (look ∷ odd_made) even odd
behind_first m look next given even_made odd_made even odd on same after = record {
  reply = after.reply;
  on_even = after.on_even;
  on_odd = ap₂ (λ (r : Reply) (l : History). entry look.who look.call r ∷ l) same after.on_odd;
  even_on = after.even_on;
  odd_on = after.odd_on;
}

chosen : {A : Type 0} (b c : Bool) (x y : A) → b ≡ c → cond b x y ≡ cond c x y
chosen b c x y e = ap (λ (t : Bool). cond t x y) e

-- of a caller with an odd number
odd_call : (m : TwoMounts) (asked : Asked) (step : LinkStep) (x : ℕ × MountEntry) (even odd : History) → asked_of x.1.call.op ≡ asked → IsStepOf asked x.1.reply step
    → GoesOn m.even (entries_of (far_part step x) ++ even) → GoesOn m.odd (entries_of (own_part load_call step x) ++ odd)
    → Answered (linked_by asked m x.1.who x.1.call) x.1.reply (entries_of (far_part step x)) (entries_of (own_part load_call step x)) even odd
odd_call m Other Alone x even odd asks is on_even on_odd = answered_1 m x.1 even odd on_even on_odd
odd_call m Other (Followed label first there) x even odd asks is on_even on_odd = absurd (cc is)
odd_call m Other (Looked label place first) x even odd asks is on_even on_odd = absurd (cc is)
odd_call m Other (NotMade label) x even odd asks is on_even on_odd = absurd (cc is)
odd_call m (Load label) Alone x even odd asks is on_even on_odd =
    let first = first_of m.odd x.1 odd on_odd in
    let here : is_link label (answer_of m.odd x.1.who x.1.call).reply ≡ false = ap (is_link label) (sym first.same) ∙ is in
    rw here (answered_1 m x.1 even odd on_even on_odd)
odd_call m (Load label) (Followed named reply there) x even odd asks is on_even on_odd =
    let look : MountEntry = entry x.1.who (load_call named x.1.call) reply in
    let itself : load_call named x.1.call ≡ x.1.call = ap (λ l. load_call l x.1.call) is.0 ∙ loads_itself x.1.call label asks in
    let look_is : look ≡ entry x.1.who x.1.call reply = ap (λ (c : Call). entry x.1.who c reply) itself in
    let mine : MountEntry = entry x.1.who x.1.call reply in
    let first = first_of m.odd mine odd (subst (λ (e : MountEntry). GoesOn m.odd (e ∷ odd)) look_is on_odd) in
    let here : is_link label (answer_of m.odd x.1.who x.1.call).reply ≡ true = ap (is_link label) (sym first.same) ∙ is.1 in
    rw here
    (subst (λ (e : MountEntry). Answered (after_call_on_1 m x.1.who x.1.call (λ n. on_mount_0 n x.1.who x.1.call)) x.1.reply (x.1 ∷ []) (e ∷ []) even odd) (sym look_is)
    (behind_first m mine (λ n. on_mount_0 n x.1.who x.1.call) x.1.reply (x.1 ∷ []) [] even odd
    (subst (λ (e : MountEntry). GoesOn m.odd (e ∷ odd)) look_is on_odd) first.same
    (answered_0 (two m.even (answer_of m.odd x.1.who x.1.call).mount) x.1 even odd on_even first.rest)))
odd_call m (Load label) (Looked named place reply) x even odd asks is on_even on_odd = absurd is
odd_call m (Load label) (NotMade named) x even odd asks is on_even on_odd = absurd is
odd_call m (Store label) Alone x even odd asks is on_even on_odd = absurd is
odd_call m (Store label) (Followed named reply there) x even odd asks is on_even on_odd = by_label label named (sym is.0) is.1 on_odd
  where
    by_label : (l n : List ℕ) → l ≡ n → is_link l reply ≡ true → GoesOn m.odd (entry x.1.who (load_call n x.1.call) reply ∷ odd)
        → Answered (linked_by (Store l) m x.1.who x.1.call) x.1.reply (x.1 ∷ []) (entry x.1.who (load_call n x.1.call) reply ∷ []) even odd
    by_label l n e link on =
        let look : MountEntry = entry x.1.who (load_call l x.1.call) reply in
        let look_is : entry x.1.who (load_call n x.1.call) reply ≡ look = ap (λ w. entry x.1.who (load_call w x.1.call) reply) (sym e) in
        let mine = subst (λ (f : MountEntry). GoesOn m.odd (f ∷ odd)) look_is on in
        let first = first_of m.odd look odd mine in
        let here : is_link l (answer_of m.odd x.1.who (load_call l x.1.call)).reply ≡ true = ap (is_link l) (sym first.same) ∙ link in
        rw here
        (subst (λ (f : MountEntry). Answered (after_call_on_1 m x.1.who (load_call l x.1.call) (λ n. on_mount_0 n x.1.who x.1.call)) x.1.reply (x.1 ∷ []) (f ∷ []) even odd) (sym look_is)
        (behind_first m look (λ n. on_mount_0 n x.1.who x.1.call) x.1.reply (x.1 ∷ []) [] even odd mine first.same
        (answered_0 (two m.even (answer_of m.odd x.1.who (load_call l x.1.call)).mount) x.1 even odd on_even first.rest)))
odd_call m (Store label) (Looked named place reply) x even odd asks is on_even on_odd = by_label label named (sym is.0) is.1 on_odd
  where
    by_label : (l n : List ℕ) → l ≡ n → is_link l reply ≡ false → GoesOn m.odd (entry x.1.who (load_call n x.1.call) reply ∷ x.1 ∷ odd)
        → Answered (linked_by (Store l) m x.1.who x.1.call) x.1.reply [] (entry x.1.who (load_call n x.1.call) reply ∷ x.1 ∷ []) even odd
    by_label l n e link on =
        let look : MountEntry = entry x.1.who (load_call l x.1.call) reply in
        let look_is : entry x.1.who (load_call n x.1.call) reply ≡ look = ap (λ w. entry x.1.who (load_call w x.1.call) reply) (sym e) in
        let mine = subst (λ (f : MountEntry). GoesOn m.odd (f ∷ x.1 ∷ odd)) look_is on in
        let first = first_of m.odd look (x.1 ∷ odd) mine in
        let here : is_link l (answer_of m.odd x.1.who (load_call l x.1.call)).reply ≡ false = ap (is_link l) (sym first.same) ∙ link in
        rw here
        (subst (λ (f : MountEntry). Answered (after_call_on_1 m x.1.who (load_call l x.1.call) (λ n. on_mount_1 n x.1.who x.1.call)) x.1.reply [] (f ∷ x.1 ∷ []) even odd) (sym look_is)
        (behind_first m look (λ n. on_mount_1 n x.1.who x.1.call) x.1.reply [] (x.1 ∷ []) even odd mine first.same
        (answered_1 (two m.even (answer_of m.odd x.1.who (load_call l x.1.call)).mount) x.1 even odd on_even first.rest)))
odd_call m (Store label) (NotMade named) x even odd asks is on_even on_odd =
    absurd (All-head IsAnswerOf _ odd on_odd.never refl)

-- of any caller
one_call : (m : TwoMounts) (b : Bool) (step : LinkStep) (x : ℕ × MountEntry) (even odd : History) → is_even x.1.who ≡ b → IsLinkedStep b step x
    → GoesOn m.even (entries_of (part_0 b step x) ++ even) → GoesOn m.odd (entries_of (part_1 b step x) ++ odd)
    → Answered (cond b (on_mount_0 m x.1.who x.1.call) (linked_by (asked_of x.1.call.op) m x.1.who x.1.call)) x.1.reply
    (entries_of (part_0 b step x)) (entries_of (part_1 b step x)) even odd
one_call m true step x even odd b is on_even on_odd = answered_0 m x.1 even odd on_even on_odd
one_call m false step x even odd b is on_even on_odd = odd_call m (asked_of x.1.call.op) step x even odd refl is on_even on_odd

-- of all of them, one after another
pub linked_from : {A : Type 0} (m : TwoMounts) (steps : Steps A) (told : PlacedCalls) (ls : List LinkStep) (value : A) → Reaches steps (entries_of told) (Done value)
    → AreLinked ls told → GoesOn m.even (entries_of (parts_0 ls told)) → GoesOn m.odd (entries_of (parts_1 ls told))
    → histories (entries_of (parts_0 ls told)) (entries_of (parts_1 ls told)) ≡ linked_histories_of m steps
linked_from m steps [] [] value so linked on_even on_odd = sym (ap (linked_histories_of m) so)
linked_from m steps [] (l ∷ ls) value so linked on_even on_odd = absurd linked
linked_from m (Done other) (x ∷ xs) ls value so linked on_even on_odd = absurd so
linked_from m (Ask who call next) (x ∷ xs) [] value so linked on_even on_odd = absurd linked
linked_from m (Ask who call next) (x ∷ xs) (l ∷ ls) value so linked on_even on_odd =
    let b = is_even x.1.who in
    let even_cut = entries_of-append (part_0 b l x) (parts_0 ls xs) in
    let odd_cut = entries_of-append (part_1 b l x) (parts_1 ls xs) in
    let answer = linked_answer m x.1.who x.1.call in
    let one : Answered answer x.1.reply (entries_of (part_0 b l x)) (entries_of (part_1 b l x)) (entries_of (parts_0 ls xs)) (entries_of (parts_1 ls xs)) =
    one_call m b l x (entries_of (parts_0 ls xs)) (entries_of (parts_1 ls xs)) refl linked.0
    (subst (GoesOn m.even) even_cut on_even) (subst (GoesOn m.odd) odd_cut on_odd) in
    let rest = linked_from answer.left (next x.1.reply) xs ls value so.2 linked.1 one.even_on one.odd_on in
    ap₂ histories
    (even_cut ∙ ap₂ (λ (l r : History). l ++ r) one.on_even (ap (λ (h : TwoHistories). h.even) rest))
    (odd_cut ∙ ap₂ (λ (l r : History). l ++ r) one.on_odd (ap (λ (h : TwoHistories). h.odd) rest))
    ∙ ap (λ (r : Reply). histories (answer.even ++ (linked_histories_of answer.left (next r)).even) (answer.odd ++ (linked_histories_of answer.left (next r)).odd)) one.reply
    ∙ ap (λ (w : ℕ). linked_histories_of m (Ask w x.1.call next)) so.0
    ∙ ap (λ (c : Call). linked_histories_of m (Ask who c next)) so.1

-- and the callers had these replies
pub calls_from : {A : Type 0} (m : TwoMounts) (steps : Steps A) (told : PlacedCalls) (ls : List LinkStep) (value : A) → Reaches steps (entries_of told) (Done value)
    → AreLinked ls told → GoesOn m.even (entries_of (parts_0 ls told)) → GoesOn m.odd (entries_of (parts_1 ls told))
    → entries_of told ≡ serial_calls_of m steps
calls_from m steps [] [] value so linked on_even on_odd = sym (ap (serial_calls_of m) so)
calls_from m steps [] (l ∷ ls) value so linked on_even on_odd = absurd linked
calls_from m (Done other) (x ∷ xs) ls value so linked on_even on_odd = absurd so
calls_from m (Ask who call next) (x ∷ xs) [] value so linked on_even on_odd = absurd linked
calls_from m (Ask who call next) (x ∷ xs) (l ∷ ls) value so linked on_even on_odd =
    let b = is_even x.1.who in
    let answer = linked_answer m x.1.who x.1.call in
    let one : Answered answer x.1.reply (entries_of (part_0 b l x)) (entries_of (part_1 b l x)) (entries_of (parts_0 ls xs)) (entries_of (parts_1 ls xs)) =
    one_call m b l x (entries_of (parts_0 ls xs)) (entries_of (parts_1 ls xs)) refl linked.0
    (subst (GoesOn m.even) (entries_of-append (part_0 b l x) (parts_0 ls xs)) on_even)
    (subst (GoesOn m.odd) (entries_of-append (part_1 b l x) (parts_1 ls xs)) on_odd) in
    let rest = calls_from answer.left (next x.1.reply) xs ls value so.2 linked.1 one.even_on one.odd_on in
    ap (λ (l : History). x.1 ∷ l) rest
    ∙ ap (λ (r : Reply). entry x.1.who x.1.call r ∷ serial_calls_of answer.left (next r)) one.reply
    ∙ ap (λ (w : ℕ). serial_calls_of m (Ask w x.1.call next)) so.0
    ∙ ap (λ (c : Call). serial_calls_of m (Ask who c next)) so.1
