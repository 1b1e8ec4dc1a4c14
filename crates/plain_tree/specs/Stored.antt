-- The entries of a directory as they are stored, each name in its stored form: look-ups and edits of
-- the one list are those of the other.
use Rattle.std.specs.Prelude.{◌≡◌, ℕ, Bool, true, List, map, is_some}
use Rattle.std.specs.Str.{bytes_eq}
use Rattle.std.specs.Map.{lookup}
use Rattle.plain_tree.specs.Nodes.{Name, Children}
use Rattle.plain_tree.specs.BodyChanges.{with_child, without_child}

-- in the same order, leading to the same nodes
abbrev pub stored_children : (Name → List ℕ) → Children → Children
stored_children store children = map (λ e. (store e.0, e.1)) children

-- the name is one of the directory's
abbrev pub IsNameOf : Children → Name → Type 0
IsNameOf children name = is_some (lookup (bytes_eq name) children) ≡ true

-- two tests, of stored names and of plain ones, that agree on the names that are there find the same
abbrev pub SearchesAgree : Type 0
SearchesAgree = (store : Name → List ℕ) (stored plain : List ℕ → Bool) (children : Children)
    → ((name : Name) → IsNameOf children name → stored (store name) ≡ plain name)
    → lookup stored (stored_children store children) ≡ lookup plain children

-- a name put in is its stored form put in
abbrev pub PutsAgree : Type 0
PutsAgree = (store : Name → List ℕ) (name : Name) (x : ℕ) (children : Children)
    → stored_children store (with_child name x children)
    ≡ with_child (store name) x (stored_children store children)

-- removing a name removes its stored form, if no other name is stored alike
abbrev pub RemovalsAgree : Type 0
RemovalsAgree = (store : Name → List ℕ) (name : Name) (children : Children)
    → ((other : Name) → IsNameOf children other → store name ≡ store other → name ≡ other)
    → stored_children store (without_child name children)
    ≡ without_child (store name) (stored_children store children)

-- if texts are made of stored forms, and no two names have one text, no two names have one stored form
abbrev pub StoredFormsDiffer : Type 0
StoredFormsDiffer = (store text : Name → List ℕ) (show : List ℕ → List ℕ) (children : Children)
    → ((name : Name) → text name ≡ show (store name))
    → ((a b : Name) → IsNameOf children a → IsNameOf children b → text a ≡ text b → a ≡ b)
    → (a b : Name) → IsNameOf children a → IsNameOf children b → store a ≡ store b → a ≡ b
