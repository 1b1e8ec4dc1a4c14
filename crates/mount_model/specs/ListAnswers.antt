-- The call that lists the names of a directory: what it answers. It changes no mount.
use Rattle.std.specs.Prelude.{ℕ, ◌+◌, List, [], ◌∷◌, length, map, take, drop, not, nat_lt, if◌then◌else◌}
use Rattle.std.specs.Ordering.{nat_cmp, is_gt}
use Rattle.std.specs.Cmp.Lexicographic.{slice_cmp}
use Rattle.plain_tree.specs.Nodes.{Name}
use Rattle.plain_tree.specs.NodesByNumber.{children, is_dir_at}
use Rattle.mount_model.specs.declared.limits.TheConstants.{MAX_LISTED}
use Rattle.mount_model.specs.declared.reply.Reply.{Reply}
use Rattle.mount_model.specs.declared.reply.Reply.TheVariants as reply
use Rattle.mount_model.specs.declared.reply.Refusal.TheVariants.{NotDir}
use Rattle.mount_model.specs.PlainMount.{PlainMount}
use Rattle.mount_model.specs.States.{shown}
use Rattle.mount_model.specs.Walk.{PathParts, walk_path}
use Rattle.mount_model.specs.AnswerForms.{Answer, refusal_with, unchanged_with, at_node}

abbrev pub put_in_order : Name → List Name → List Name
put_in_order name [] = name ∷ []
put_in_order name (x ∷ xs) =
    if is_gt (slice_cmp nat_cmp name x) then x ∷ put_in_order name xs else name ∷ x ∷ xs

-- names in the order of their bytes
abbrev pub in_order : List Name → List Name
in_order [] = []
in_order (x ∷ xs) = put_in_order x (in_order xs)

abbrev pub names_of_dir : PlainMount → ℕ → List Name
names_of_dir m d = in_order (map (λ e. shown m d e.0) (children m.nodes d))

-- at most 128 names from number start on, and whether further ones follow
abbrev pub page_of : PlainMount → ℕ → ℕ → Reply
page_of m d start =
    reply.Names (take MAX_LISTED (drop start (names_of_dir m d)))
    (nat_lt (start + MAX_LISTED) (length (names_of_dir m d)))

-- what is answered at node d
abbrev pub page_at : PlainMount → ℕ → ℕ → Answer
page_at m start d =
    if not (is_dir_at m.nodes d) then refusal_with m NotDir else
    unchanged_with m (page_of m d start)

abbrev pub answer_to_list : PlainMount → PathParts → ℕ → Answer
answer_to_list m path start = at_node m (walk_path m path) (page_at m start)
