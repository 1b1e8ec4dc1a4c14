-- What is reported of handles and records is so in the state itself, whatever raw keys were added.
use Rattle.std.specs.Prelude.{◌≡◌, ⊤, ℕ, ◌+◌, List, Option, Some, None}
use Rattle.meta_files.specs.Records.{record_of, version_of}
use Rattle.meta_files.specs.Faults.{store_fault}
use Rattle.meta_files.specs.declared.fault.StoreFault.{StoreFault}
use Rattle.mount_model.specs.declared.call.Op.{Op}
use Rattle.mount_model.specs.declared.call.Op.TheVariants.{Close, MetaLoad, MetaStore}
use Rattle.mount_model.specs.declared.reply.Reply.{Reply}
use Rattle.mount_model.specs.declared.reply.Reply.TheVariants.{Done, Held, Stored, Refused}
use Rattle.mount_model.specs.declared.reply.Refusal.TheVariants.{BadHandle, NotFound}
use Rattle.mount_model.specs.KeyReplies.{IsReplyOrNoMemory}
use Rattle.mount_model.specs.OpenHandles.{node_of}
use Rattle.mount_records.specs.Refusals.{refusal_of}
use Rattle.mount_state.specs.declared.state.MountState.{MountState}

-- a close is refused exactly when the caller has no such handle
abbrev pub closed_by : Option ℕ → Reply
closed_by None = Refused BadHandle
closed_by (Some node) = Done

abbrev pub ClosesOwn : MountState → ℕ → Op → Reply → Type 0
ClosesOwn s caller (Close handle) reply = reply ≡ closed_by (node_of s.handles.live caller handle)
ClosesOwn s caller op reply = ⊤

-- the record that there is, or NotFound
abbrev pub LoadedBy : Option (ℕ × List ℕ) → Reply → Type 0
LoadedBy None reply = reply ≡ Refused NotFound
LoadedBy (Some kept) reply = IsReplyOrNoMemory (Held kept.0 kept.1) reply

-- why the record isn't stored, or its version, which is one more
abbrev pub StoredBy : Option StoreFault → ℕ → Reply → Type 0
StoredBy (Some fault) version reply = reply ≡ Refused (refusal_of fault)
StoredBy None version reply = IsReplyOrNoMemory (Stored (version + 1)) reply

-- what is reported of records is what they are
abbrev pub ReportsRecords : MountState → Op → Reply → Type 0
ReportsRecords s (MetaLoad name) reply = LoadedBy (record_of s.meta name) reply
ReportsRecords s (MetaStore name expected bytes) reply =
    StoredBy (store_fault s.meta name expected bytes) (version_of s.meta name) reply
ReportsRecords s op reply = ⊤
