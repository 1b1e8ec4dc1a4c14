-- What changes of a body: the entries of a directory, or the contents of a file.
use Rattle.std.specs.Prelude.{ℕ, List, [], ◌∷◌, ◌++◌}
use Rattle.std.specs.Str.{bytes_eq}
use Rattle.std.specs.Map.{remove_entry}
use Rattle.plain_tree.specs.Nodes.{Name, Children, Body, Dir, File, Link}

-- a change of a directory's entries leaves every other body, and so does one of a file's contents
abbrev pub with_children : (Children → Children) → Body → Body
with_children f (Dir children) = Dir (f children)
with_children f (File contents) = File contents
with_children f (Link target) = Link target

abbrev pub with_contents : (List ℕ → List ℕ) → Body → Body
with_contents f (Dir children) = Dir children
with_contents f (File contents) = File (f contents)
with_contents f (Link target) = Link target

-- a new entry is the last one; when an entry is removed, the others stay in their order
abbrev pub with_child : Name → ℕ → Children → Children
with_child name x children = children ++ (name, x) ∷ []

abbrev pub without_child : Name → Children → Children
without_child name = remove_entry (bytes_eq name)
