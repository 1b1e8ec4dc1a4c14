-- The refusals of the calls on records are the expected ones, and leave the records.
use Rattle.std.proofs.Common.{◌≡◌, ℕ, ◌+◌, Bool, true, false, cond, not, ◌&&◌, ◌||◌, ◌==◌, nat_lt, nat_le, List, length, Option, Some, None, inl, sym, ap, subst, ⊎_elim}
use Rattle.std.specs.Prelude.{IfSome, IfNone, is_none}
use Rattle.std.proofs.lemmas.Bool.{true≢false}
use Rattle.meta_files.specs.Records.{RecordList, record_of, version_of}
use Rattle.meta_files.specs.Faults.{store_fault}
use Rattle.meta_files.specs.declared.fault.StoreFault.{StoreFault}
use Rattle.meta_files.specs.declared.fault.StoreFault.TheVariants as fault
use Rattle.meta_files.specs.declared.files.TheConstants.{MAX_RECORD_BYTES, MAX_RECORDS, LAST_VERSION}
use Rattle.mount_model.specs.declared.reply.Reply.{Reply}
use Rattle.mount_model.specs.declared.reply.Reply.TheVariants.{Held, Stored, Refused}
use Rattle.mount_model.specs.declared.reply.Refusal.TheVariants.{NotFound, TooBig, Changed, NoSpace}
use Rattle.mount_model.specs.PlainMount.{PlainMount}
use Rattle.mount_model.specs.AnswerForms.{refusal_with}
use Rattle.mount_model.specs.RecordAnswers.{record_answer, stored, answer_to_meta_load, answer_to_meta_store}
use Rattle.mount_model.specs.KeyReplies.{IsReplyOrNoMemory}
use Rattle.mount_model.specs.Lawful.{is_load_reply, is_store_reply, ReportsStore}
use Rattle.mount_state.specs.AnswerOf.{IsExpectedRefusal}
use Rattle.mount_state.specs.Represents.{Represents}
use Rattle.mount_state.specs.declared.state.MountState.{MountState}
use Rattle.mount_records.specs.Refusals.{refusal_of}

-- ---- loading

told_due : (m : PlainMount) (reply : Reply) (o : Option (ℕ × List ℕ)) → IfNone o (reply ≡ Refused NotFound)
    → IsExpectedRefusal (record_answer m o) reply
told_due m reply None absent due = absent
told_due m reply (Some kept) absent due = absurd (true≢false (sym due))

pub load_due : (s : MountState) (m : PlainMount) → Represents s m → (name : List ℕ) (reply : Reply)
    → IfNone (record_of s.meta name) (reply ≡ Refused NotFound) → IsExpectedRefusal (answer_to_meta_load m name) reply
load_due s m st name reply absent =
    told_due m reply (record_of m.records name)
    (subst (λ (rs : RecordList). IfNone (record_of rs name) (reply ≡ Refused NotFound)) st.records absent)

-- ---- storing

-- the fault is returned, if there is one
abbrev TellsFault : Reply → Option StoreFault → Type 0
TellsFault reply o = IfSome o (λ f. reply ≡ Refused (refusal_of f))

by_tests : (m : PlainMount) (name bytes : List ℕ) (reply : Reply) (a b c d : Bool)
    → TellsFault reply (cond a (Some fault.TooBig) (cond b (Some (fault.Changed (version_of m.records name)))
    (cond c (Some fault.NoSpace) (cond d (Some fault.NoSpace) None))))
    → IsExpectedRefusal (cond a (refusal_with m TooBig) (cond b (refusal_with m (Changed (version_of m.records name)))
    (cond (c || d) (refusal_with m NoSpace) (stored m name bytes)))) reply
by_tests m name bytes reply true b c d told due = told
by_tests m name bytes reply false true c d told due = told
by_tests m name bytes reply false false true d told due = told
by_tests m name bytes reply false false false true told due = told
by_tests m name bytes reply false false false false told due = absurd (true≢false (sym due))

pub store_due : (s : MountState) (m : PlainMount) → Represents s m → (name bytes : List ℕ) (expected : ℕ) (reply : Reply)
    → TellsFault reply (store_fault s.meta name expected bytes)
    → IsExpectedRefusal (answer_to_meta_store m name expected bytes) reply
store_due s m st name bytes expected reply told =
    by_tests m name bytes reply (nat_lt MAX_RECORD_BYTES (length bytes)) (not (version_of m.records name == expected))
    (is_none (record_of m.records name) && nat_le MAX_RECORDS (length m.records)) (version_of m.records name == LAST_VERSION)
    (subst (λ (rs : RecordList). TellsFault reply (store_fault rs name expected bytes)) st.records told)

-- ---- what may be returned

pub load_told : (o : Option (ℕ × List ℕ)) (reply : Reply) → IfSome o (λ kept. IsReplyOrNoMemory (Held kept.0 kept.1) reply)
    → IfNone o (reply ≡ Refused NotFound) → is_load_reply reply ≡ true
load_told None reply held absent = ap is_load_reply absent
load_told (Some kept) reply held absent = ⊎_elim (ap is_load_reply) (ap is_load_reply) held

-- by the tests in their order, of which the first is whether the bytes are too many
store_by : (version : ℕ) (reply : Reply) (a b c d : Bool)
    → TellsFault reply (cond a (Some fault.TooBig) (cond b (Some (fault.Changed version))
    (cond c (Some fault.NoSpace) (cond d (Some fault.NoSpace) None))))
    → IfNone (cond a (Some fault.TooBig) (cond b (Some (fault.Changed version))
    (cond c (Some fault.NoSpace) (cond d (Some fault.NoSpace) None)))) (IsReplyOrNoMemory (Stored (version + 1)) reply)
    → ReportsStore a reply
store_by version reply true b c d told accepted = inl told
store_by version reply false true c d told accepted = ap is_store_reply told
store_by version reply false false true d told accepted = ap is_store_reply told
store_by version reply false false false true told accepted = ap is_store_reply told
store_by version reply false false false false told accepted = ⊎_elim (ap is_store_reply) (ap is_store_reply) accepted

pub store_told : (records : RecordList) (name bytes : List ℕ) (expected : ℕ) (reply : Reply)
    → TellsFault reply (store_fault records name expected bytes)
    → IfNone (store_fault records name expected bytes) (IsReplyOrNoMemory (Stored (version_of records name + 1)) reply)
    → ReportsStore (nat_lt MAX_RECORD_BYTES (length bytes)) reply
store_told records name bytes expected reply =
    store_by (version_of records name) reply (nat_lt MAX_RECORD_BYTES (length bytes)) (not (version_of records name == expected))
    (is_none (record_of records name) && nat_le MAX_RECORDS (length records)) (version_of records name == LAST_VERSION)
