-- Two mounts, and the answer to a call that goes to the one or the other.
use Rattle.std.specs.Prelude.{ℕ, [], ◌∷◌}
use Rattle.call_history.specs.Entries.{entry}
use Rattle.mount_model.specs.PlainMount.{PlainMount}
use Rattle.mount_model.specs.declared.call.Call.{Call}
use Rattle.mount_model.specs.declared.reply.Reply.{Reply}
use Rattle.mount_model.specs.Answer.{answer_of}
use Rattle.mount_model.specs.History.{History}

-- mount 0 and mount 1
pub record TwoMounts : Type 0 where
  pub even : PlainMount
  pub odd : PlainMount

abbrev pub two : PlainMount → PlainMount → TwoMounts
two even odd = record { even = even; odd = odd }

-- the reply to a caller's call, the mounts that it leaves, and its entries on both
pub record LinkedAnswer : Type 0 where
  pub reply : Reply
  pub left : TwoMounts
  pub even : History
  pub odd : History

abbrev pub on_mount_0 : TwoMounts → ℕ → Call → LinkedAnswer
on_mount_0 m who call =
    record {
      reply = (answer_of m.even who call).reply;
      left = two (answer_of m.even who call).mount m.odd;
      even = entry who call (answer_of m.even who call).reply ∷ [];
      odd = [];
    }

abbrev pub on_mount_1 : TwoMounts → ℕ → Call → LinkedAnswer
on_mount_1 m who call =
    record {
      reply = (answer_of m.odd who call).reply;
      left = two m.even (answer_of m.odd who call).mount;
      even = [];
      odd = entry who call (answer_of m.odd who call).reply ∷ [];
    }

-- a call after another one on mount 1
abbrev pub after_call_on_1 : TwoMounts → ℕ → Call → (TwoMounts → LinkedAnswer) → LinkedAnswer
after_call_on_1 m who first next =
    let after = next (two m.even (answer_of m.odd who first).mount) in
    record after { odd = entry who first (answer_of m.odd who first).reply ∷ after.odd }
