-- What a write to an open file answers in the mount.
use Rattle.std.proofs.Common.{◌≡◌, ℕ, ◌+◌, ◌<◌, true, false, cond, List, length, nat_lt, Some, Result, Err, inl, inr, sym, ap, subst, ◌∙◌, arith}
use Rattle.std.proofs.lemmas.Bool.{cases_lt, true≢false}
use Rattle.byte_words.specs.Contents.{with_bytes}
use Rattle.plain_tree.specs.Changes.{written}
use Rattle.mount_limits.specs.declared.TheConstants.{MAX_FILE_BYTES}
use Rattle.disk_tree.specs.DiskTree.{IsFileAt}
use Rattle.disk_tree.specs.declared.fault.DiskFault.{DiskFault}
use Rattle.disk_tree.specs.declared.fault.DiskFault.TheVariants.{NoMemory, NoSpace as DiskNoSpace}
use Rattle.mount_model.specs.declared.reply.Reply.TheVariants.{Done, Refused}
use Rattle.mount_model.specs.declared.reply.Refusal.{Refusal}
use Rattle.mount_model.specs.declared.reply.Refusal.TheVariants.{TooBig, NoSpace}
use Rattle.mount_model.specs.ClaimHistory.{is_refused}
use Rattle.mount_model.specs.PlainMount.{PlainMount}
use Rattle.mount_model.specs.OpenHandles.{node_of}
use Rattle.mount_model.specs.AnswerForms.{Answer, refusal_with, done}
use Rattle.mount_model.specs.FileAnswers.{lacks_blocks_for, answer_to_write}
use Rattle.mount_state.specs.AnswerOf.{IsAnswerOrNoMemory}
use Rattle.mount_state.specs.Represents.{Represents}
use Rattle.mount_state.specs.declared.state.MountState.{MountState}
use Rattle.mount_files.specs.OpenFile.{IsFileRefused}
use Rattle.mount_files.proofs.OpenLemmas.{answered_at}
use Rattle.mount_files.proofs.WrittenLemmas.{after}

module _ (old : MountState) (m : PlainMount) (st : Represents old m) (caller handle offset : ℕ) (bytes : List ℕ) where
  abbrev if_small : ℕ → Answer
  if_small n = cond (lacks_blocks_for m n offset bytes) (refusal_with m NoSpace) (done (record m { nodes = written m.nodes n (with_bytes offset bytes) }))

  abbrev of_file : ℕ → Answer
  of_file n = cond (nat_lt MAX_FILE_BYTES (offset + length bytes)) (refusal_with m TooBig) (if_small n)

  abbrev answer : Answer
  answer = answer_to_write m caller handle offset bytes

  pub write_refused : (refusal : Refusal) → IsFileRefused old caller handle refusal → answer_to_write m caller handle offset bytes ≡ refusal_with m refusal
  write_refused refusal is = is m of_file st

  module _ (file : ℕ) (led : node_of old.handles.live caller handle ≡ Some file) (is_file : IsFileAt old.disk file) where
    module _ (small : nat_lt MAX_FILE_BYTES (offset + length bytes) ≡ false) where
      at_small : answer_to_write m caller handle offset bytes ≡ if_small file
      at_small = answered_at old m st caller handle file led is_file of_file ∙ ap (λ b. cond b (refusal_with m TooBig) (if_small file)) small

      pub write_full : lacks_blocks_for m file offset bytes ≡ true → answer_to_write m caller handle offset bytes ≡ refusal_with m NoSpace
      write_full lacks = at_small ∙ ap (λ b. cond b (refusal_with m NoSpace) (done (after old m st file offset bytes))) lacks

      pub write_done : lacks_blocks_for m file offset bytes ≡ false → answer_to_write m caller handle offset bytes ≡ done (after old m st file offset bytes)
      write_done room = at_small ∙ ap (λ b. cond b (refusal_with m NoSpace) (done (after old m st file offset bytes))) room

  -- the answer and the state after it

  pub given_refusal : (refusal : Refusal) → answer_to_write m caller handle offset bytes ≡ refusal_with m refusal → (new : MountState) → Represents new m
      → IsAnswerOrNoMemory m (answer_to_write m caller handle offset bytes) (Refused refusal) new
  given_refusal refusal is new represents =
      inl (sym (ap (λ (a : Answer). a.reply) is), subst (Represents new) (sym (ap (λ (a : Answer). a.mount) is)) represents)

  pub told_refusal : (refusal : Refusal) → answer_to_write m caller handle offset bytes ≡ refusal_with m refusal → Refused refusal ≡ (answer_to_write m caller handle offset bytes).reply
  told_refusal refusal is = sym (ap (λ (a : Answer). a.reply) is)

  pub given_done : (left : PlainMount) → answer_to_write m caller handle offset bytes ≡ done left → (new : MountState) → Represents new left
      → IsAnswerOrNoMemory m (answer_to_write m caller handle offset bytes) Done new
  given_done left is new represents =
      inl (sym (ap (λ (a : Answer). a.reply) is), subst (Represents new) (sym (ap (λ (a : Answer). a.mount) is)) represents)

  pub not_refused : (left : PlainMount) → answer_to_write m caller handle offset bytes ≡ done left → is_refused (answer_to_write m caller handle offset bytes).reply ≡ true → ⊥
  not_refused left is bad = true≢false (sym bad ∙ ap (λ (a : Answer). is_refused a.reply) is)

pub some_bytes : (n : ℕ) → (n ≡ 0 → ⊥) → 0 < n
some_bytes n some = elim (cases_lt 0 n) [
  | inl is ↦ is
  | inr none ↦ absurd (some (omega arith))
]

pub not_full : {T : Type 0} (r : Result T DiskFault) (fault : DiskFault) → r ≡ Err fault → fault ≡ NoMemory → r ≡ Err DiskNoSpace → ⊥
not_full r fault is wanting full = absurd (cc)
