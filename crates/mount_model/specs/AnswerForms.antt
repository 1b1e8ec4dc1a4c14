-- The shapes of answers: a reply and the mount that is left.
use Rattle.std.specs.Prelude.{ℕ, Result, Ok, Err, Option, Some, None}
use Rattle.plain_tree.specs.Nodes.{Name}
use Rattle.mount_model.specs.declared.reply.Reply.{Reply}
use Rattle.mount_model.specs.declared.reply.Reply.TheVariants.{Done, Refused}
use Rattle.mount_model.specs.declared.reply.Refusal.{Refusal}
use Rattle.mount_model.specs.declared.reply.Refusal.TheVariants.{NotFound}
use Rattle.mount_model.specs.PlainMount.{PlainMount}

pub record Answer : Type 0 where
  pub reply : Reply
  pub mount : PlainMount

-- refused: the mount is as before
abbrev pub refusal_with : PlainMount → Refusal → Answer
refusal_with m refusal = record { reply = Refused refusal; mount = m }

-- answered with this reply: the mount is as before
abbrev pub unchanged_with : PlainMount → Reply → Answer
unchanged_with m reply = record { reply = reply; mount = m }

-- done: this is the mount now
abbrev pub done : PlainMount → Answer
done m = record { reply = Done; mount = m }

-- refused if there is a refusal; else done: this is the mount now
abbrev pub done_unless : PlainMount → Option Refusal → PlainMount → Answer
done_unless m None after = done after
done_unless m (Some refusal) after = refusal_with m refusal

-- what is answered at the node that was reached; if none was, its refusal
abbrev pub at_node : PlainMount → Result ℕ Refusal → (ℕ → Answer) → Answer
at_node m (Err refusal) f = refusal_with m refusal
at_node m (Ok n) f = f n

-- what is answered at the entry that was found; NotFound if there is none
abbrev pub at_entry : PlainMount → Option (Name × ℕ) → (Name → ℕ → Answer) → Answer
at_entry m None f = refusal_with m NotFound
at_entry m (Some e) f = f e.0 e.1
