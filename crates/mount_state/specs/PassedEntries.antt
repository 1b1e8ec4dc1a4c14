-- Which names a walk caches: those of entries that it passes.
use Rattle.std.specs.Prelude.{ℕ, List, [], ◌∷◌, Contains, ◌⊎◌, Option, Some, None, Ok, Err}
use Rattle.dentry_cache.specs.Names.{Pair, NameList, key_of}
use Rattle.plain_tree.specs.Nodes.{Name}
use Rattle.mount_model.specs.PlainMount.{PlainMount}
use Rattle.mount_model.specs.Walk.{PathParts, WalkResult, walk_step}
use Rattle.mount_state.specs.Represents.{Represents}
use Rattle.mount_state.specs.declared.state.MountState.{MountState}

-- the part's entry in the directory, with the node that it resolves to, if it resolves to one
abbrev pub found_entry : ℕ → Name → Option ℕ → List Pair
found_entry dir part None = []
found_entry dir part (Some n) = (key_of dir part, n) ∷ []

abbrev pub entries_on : (ℕ → List Pair) → WalkResult → List Pair
entries_on f (Err refusal) = []
entries_on f (Ok n) = f n

-- the entries that the walk passes from this node on, up to the first part that is refused
abbrev pub passed_entries : PlainMount → ℕ → PathParts → List Pair
passed_entries m n [] = []
passed_entries m n (part ∷ parts) =
    entries_on (λ x. (key_of n part, x) ∷ passed_entries m x parts) (walk_step m n part)

-- a name that is cached was cached before, or is that of one of these entries
abbrev pub CachesOnly : NameList → NameList → List Pair → Type 0
CachesOnly old new passed =
    (pair : Pair) → Contains new.pairs pair → Contains old.pairs pair ⊎ Contains passed pair

-- the same of the entries that a walk along the path passes, in each mount that the state represents
abbrev pub CachesPassed : MountState → MountState → PathParts → Type 0
CachesPassed old new path =
    (m : PlainMount) → Represents old m → CachesOnly old.names new.names (passed_entries m 0 path)
