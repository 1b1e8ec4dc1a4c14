-- Paths that name an entry: the directory in which it is to be looked up, and the directories above that.
use Rattle.std.specs.Prelude.{ℕ, ◌-◌, Bool, List, [], ◌∷◌, length, take, Ok, Err, ◌==◌, slice_index_or}
use Rattle.std.specs.List.{list_any}
use Rattle.plain_tree.specs.Nodes.{Name}
use Rattle.mount_model.specs.PlainMount.{PlainMount}
use Rattle.mount_model.specs.Walk.{PathParts, WalkResult, looked_in, walked_on, walk_step, walk_path}

abbrev pub is_root : PathParts → Bool
is_root path = length path == 0

abbrev pub parent_parts : PathParts → PathParts
parent_parts path = take (length path - 1) path

abbrev pub last_part : PathParts → Name
last_part path = slice_index_or path (length path - 1) []

-- the directory in which the path's last part is to be looked up
abbrev pub parent : PlainMount → PathParts → WalkResult
parent m path = walked_on (λ d. looked_in m d (last_part path)) (walk_path m (parent_parts path))

abbrev pub passed_on : (ℕ → List ℕ) → WalkResult → List ℕ
passed_on f (Err refusal) = []
passed_on f (Ok n) = f n

-- the nodes on the walk, its first and its last among them
abbrev pub passed_from : PlainMount → ℕ → PathParts → List ℕ
passed_from m n [] = n ∷ []
passed_from m n (part ∷ parts) = n ∷ passed_on (λ x. passed_from m x parts) (walk_step m n part)

-- node x is the directory that holds the path's last part, or is above it
abbrev pub is_at_or_above : PlainMount → ℕ → PathParts → Bool
is_at_or_above m x path = list_any (λ n. n == x) (passed_from m 0 (parent_parts path))
