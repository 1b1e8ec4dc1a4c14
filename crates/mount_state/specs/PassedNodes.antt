-- Whether a walk passes a node.
use Rattle.std.specs.Prelude.{ℕ, Bool, Result, Ok, Err, ◌==◌}
use Rattle.std.specs.List.{list_any}
use Rattle.mount_model.specs.declared.reply.Refusal.{Refusal}
use Rattle.mount_model.specs.PlainMount.{PlainMount}
use Rattle.mount_model.specs.Walk.{PathParts, WalkResult}
use Rattle.mount_model.specs.EntryPaths.{passed_from}

-- the node is on the walk, or is its first or its last
abbrev pub passes : PlainMount → ℕ → PathParts → ℕ → Bool
passes m n path node = list_any (λ x. x == node) (passed_from m n path)

-- the node that the walk reaches, and whether it passes the given node
abbrev pub with_past : Bool → WalkResult → Result (ℕ × Bool) Refusal
with_past past (Err refusal) = Err refusal
with_past past (Ok n) = Ok (n, past)
