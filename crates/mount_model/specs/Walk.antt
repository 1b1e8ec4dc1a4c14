-- What paths resolve to.
use Rattle.std.specs.Prelude.{ℕ, List, [], ◌∷◌, length, Result, Ok, Err, Option}
use Rattle.std.specs.Prelude.{Some, None, not, nat_lt, if◌then◌else◌}
use Rattle.std.specs.Str.{bytes_eq}
use Rattle.std.specs.Map.{lookup_entry}
use Rattle.plain_tree.specs.Nodes.{Name}
use Rattle.plain_tree.specs.NodesByNumber.{children, is_dir_at}
use Rattle.name_crypt.specs.declared.limits.TheConstants.{MAX_NAME_BYTES}
use Rattle.mount_model.specs.declared.reply.Refusal.{Refusal}
use Rattle.mount_model.specs.declared.reply.Refusal.TheVariants.{NotFound, NotDir, NameTooLong}
use Rattle.mount_model.specs.PlainMount.{PlainMount}
use Rattle.mount_model.specs.States.{shown}

abbrev pub PathParts : Type 0
PathParts = List Name

abbrev pub WalkResult : Type 0
WalkResult = Result ℕ Refusal

-- the first entry of the directory that is shown as the part: a plain name if the directory is keyed,
-- else a no-key text
abbrev pub visible_entry : PlainMount → ℕ → Name → Option (Name × ℕ)
visible_entry m d part = lookup_entry (λ name. bytes_eq part (shown m d name)) (children m.nodes d)

abbrev pub resolved_to : Option (Name × ℕ) → WalkResult
resolved_to None = Err NotFound
resolved_to (Some e) = Ok e.1

-- the directory in which the part is to be looked up: NotDir if it is none, NameTooLong for a part of
-- more than 255 bytes
abbrev pub looked_in : PlainMount → ℕ → Name → WalkResult
looked_in m d part =
    if not (is_dir_at m.nodes d) then Err NotDir else
    if nat_lt MAX_NAME_BYTES (length part) then Err NameTooLong else
    Ok d

abbrev pub walked_on : (ℕ → WalkResult) → WalkResult → WalkResult
walked_on f (Err refusal) = Err refusal
walked_on f (Ok n) = f n

-- one part further
abbrev pub walk_step : PlainMount → ℕ → Name → WalkResult
walk_step m d part = walked_on (λ _. resolved_to (visible_entry m d part)) (looked_in m d part)

abbrev pub walked_from : PlainMount → ℕ → PathParts → WalkResult
walked_from m n [] = Ok n
walked_from m n (part ∷ parts) = walked_on (λ x. walked_from m x parts) (walk_step m n part)

-- the node to which the path resolves from the root
abbrev pub walk_path : PlainMount → PathParts → WalkResult
walk_path m path = walked_from m 0 path
