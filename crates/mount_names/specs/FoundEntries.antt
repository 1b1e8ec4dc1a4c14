-- The entry of a directory that is found by a part, as the state has it: with the name as it is stored.
use Rattle.std.specs.Prelude.{◌≡◌, ℕ, Bool, ◌&&◌, not, List, Option, Some, None, IfSome, option_map, Result, Ok, Err, if◌then◌else◌}
use Rattle.plain_tree.specs.Nodes.{Name}
use Rattle.plain_tree.specs.NodesByNumber.{context_at}
use Rattle.disk_tree.specs.DiskTree.{Disk, children}
use Rattle.disk_tree.specs.Entries.{number_under}
use Rattle.mount_model.specs.declared.reply.Refusal.{Refusal}
use Rattle.mount_model.specs.declared.reply.Refusal.TheVariants.{NoKey, NotFound}
use Rattle.mount_model.specs.PlainMount.{PlainMount}
use Rattle.mount_model.specs.States.{is_keyed}
use Rattle.mount_model.specs.Walk.{PathParts, WalkResult, visible_entry}
use Rattle.mount_model.specs.EntryPaths.{last_part, parent}
use Rattle.mount_state.specs.Stored.{stored_form}
use Rattle.mount_names.specs.Places.{Entry}

-- on the disk the stored name resolves to the node
abbrev pub IsEntryOn : Disk → Entry → Type 0
IsEntryOn disk entry = number_under entry.stored (children disk entry.dir) ≡ Some entry.number

-- ---- in a mount

-- the stored form of a name of the directory
abbrev pub form_in : PlainMount → ℕ → Name → List ℕ
form_in m d name = stored_form m.raws d (context_at m.nodes d) name

abbrev pub entry_in : PlainMount → ℕ → Name × ℕ → Entry
entry_in m d e = record { dir = d; stored = form_in m d e.0; number = e.1 }

-- the entry that is found by the part
abbrev pub entry_of_part : PlainMount → ℕ → Name → Option Entry
entry_of_part m d part = option_map (entry_in m d) (visible_entry m d part)

-- the stored form of what was found; if nothing was, none or one that resolves to no node
abbrev pub IsStoredFor : Disk → PlainMount → ℕ → Option (Name × ℕ) → Option (List ℕ) → Type 0
IsStoredFor disk m d None stored = IfSome stored (λ bytes. number_under bytes (children disk d) ≡ None)
IsStoredFor disk m d (Some e) stored = stored ≡ Some (form_in m d e.0)

-- ---- at the end of a path

abbrev pub or_not_found : Option Entry → Result Entry Refusal
or_not_found None = Err NotFound
or_not_found (Some entry) = Ok entry

-- the entry of the directory that is found by the part, or why there is none; with `by_name` by its name
-- alone, and then a locked directory has none
abbrev pub entry_for_part : Bool → PlainMount → Name → ℕ → Result Entry Refusal
entry_for_part by_name m part d =
    if by_name && not (is_keyed m d) then Err NoKey else or_not_found (entry_of_part m d part)

abbrev pub entry_after_walk : Bool → PlainMount → Name → WalkResult → Result Entry Refusal
entry_after_walk by_name m part (Err refusal) = Err refusal
entry_after_walk by_name m part (Ok d) = entry_for_part by_name m part d

-- the entry that is found by the path's last part, or why there is none
abbrev pub entry_end : Bool → PlainMount → PathParts → Result Entry Refusal
entry_end by_name m path = entry_after_walk by_name m (last_part path) (parent m path)
