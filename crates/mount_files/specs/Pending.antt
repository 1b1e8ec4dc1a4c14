-- What a read leaves pending outside the turn, and the reply that it ends in.
use Rattle.std.specs.Prelude.{◌≡◌, ℕ, Bool, true, false, [], Option, Some, None}
use Rattle.file_disk.specs.Keys.{pending_seal}
use Rattle.file_disk.specs.Pending.{IsAt, IsCopied, IsOfPart, pending_content, part_len}
use Rattle.file_disk.specs.declared.pending.PendingRead.{PendingRead}
use Rattle.mount_model.specs.declared.reply.Reply.{Reply}
use Rattle.mount_model.specs.declared.reply.Reply.TheVariants.{Content, Refused}
use Rattle.mount_model.specs.PlainMount.{PlainMount}
use Rattle.mount_model.specs.FileAnswers.{content_of}
use Rattle.mount_state.specs.AnswerOf.{IsReplyOrNoMemory}
use Rattle.mount_state.specs.Represents.{Represents}
use Rattle.mount_state.specs.declared.state.MountState.{MountState}
use Rattle.mount_files.specs.OpenFile.{IsOpen}
use Rattle.mount_files.specs.Seals.{IsSealOf}
use Rattle.mount_files.specs.declared.pending.Pending.{Pending}
use Rattle.mount_files.specs.declared.pending.Pending.TheVariants.{Ready, Read}

-- the reply that is ready, or the content once the blocks are decrypted
abbrev pub reply_of : Pending → Reply
reply_of (Ready reply) = reply
reply_of (Read read) = Content (pending_content (Some read))

-- nothing was read: a refusal, or an empty content
abbrev pub reads_nothing : Reply → Bool
reads_nothing (Refused refusal) = true
reads_nothing (Content []) = true
reads_nothing other = false

-- the pending read of a file has the stored bytes of the blocks of the requested part, from the block on in
-- which it begins, and of no others, and what these are sealed with
pub record IsPendingOf (s : MountState) (file offset len : ℕ) (read : PendingRead) : Type 0 where
  pub place : IsAt offset read
  pub size : read.len ≡ part_len s.disk file offset len
  pub text : IsCopied s.disk file read
  pub part : IsOfPart read
  pub key : IsSealOf s file (pending_seal read.key)

-- a reply that is ready contains nothing of the file; every other result is a pending read of it
abbrev pub IsPendingOn : MountState → ℕ → ℕ → ℕ → Pending → Type 0
IsPendingOn s file offset len (Ready reply) = reads_nothing reply ≡ true
IsPendingOn s file offset len (Read read) = IsPendingOf s file offset len read

-- so it is for the file of the open handle; without a handle no read is pending
abbrev pub IsPending : MountState → Option ℕ → ℕ → ℕ → Pending → Type 0
IsPending s None offset len (Ready reply) = reads_nothing reply ≡ true
IsPending s None offset len (Read read) = ⊥
IsPending s (Some file) offset len lent = IsPendingOn s file offset len lent

-- in every mount that the state represents and that has the file open, the reply is what is read of the
-- file
abbrev pub IsReadAs : MountState → ℕ → ℕ → ℕ → Reply → Type 0
IsReadAs s file offset len reply =
    (m : PlainMount) → Represents s m → IsOpen m file → IsReplyOrNoMemory (content_of m file offset len) reply
