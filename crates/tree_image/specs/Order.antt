-- The order in which an image has the entries of a directory: by name, byte by byte, and if two names are
-- equal, by number.
use Rattle.std.specs.Prelude.{ℕ, List, [], ◌∷◌, if◌then◌else◌}
use Rattle.std.specs.declared.cmp.Ordering.{Ordering}
use Rattle.std.specs.Ordering.{nat_cmp, is_gt, on, then_cmp}
use Rattle.std.specs.Cmp.Lexicographic.{slice_cmp}
use Rattle.disk_tree.specs.Entries.{Entries}
use Rattle.disk_tree.specs.Nodes.{with_entries}
use Rattle.disk_tree.specs.declared.node.Body.{Body}

abbrev pub entry_cmp : List ℕ × ℕ → List ℕ × ℕ → Ordering
entry_cmp = then_cmp (on (λ e. e.0) (slice_cmp nat_cmp)) (on (λ e. e.1) nat_cmp)

abbrev pub put_in_order : List ℕ × ℕ → Entries → Entries
put_in_order e [] = e ∷ []
put_in_order e (x ∷ xs) = if is_gt (entry_cmp e x) then x ∷ put_in_order e xs else e ∷ x ∷ xs

-- the entries in this order
abbrev pub in_order : Entries → Entries
in_order [] = []
in_order (e ∷ es) = put_in_order e (in_order es)

-- a directory with its entries in order; every other body is unchanged
abbrev pub body_in_order : Body → Body
body_in_order body = with_entries in_order body
