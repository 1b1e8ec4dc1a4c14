-- The parts that are left resolve from the node reached to the node of the whole path, and the state
-- represents the same mount. What was cached, and what the parts that are left pass, the whole path passes.
use Rattle.std.proofs.Common.{◌≡◌, ◌+◌, ◌≤◌, take, drop}
use Rattle.mount_model.specs.PlainMount.{PlainMount}
use Rattle.mount_model.specs.Walk.{walked_from, walk_path}
use Rattle.mount_state.specs.PassedEntries.{passed_entries, CachesOnly}
use Rattle.mount_state.specs.SameButCaches.{SameButCaches}
use Rattle.mount_state.specs.Represents.{Represents}
use Rattle.mount_state.proofs.PassedEntryLemmas.{IsWithin}
use Rattle.mount_state.proofs.walk.walked_parts.Given as goal

abbrev pub invariant-loop-i : goal.invariant-loop-i
invariant-loop-i g l =
    ((m : PlainMount) → Represents l.fn.state m → walked_from m l.node (drop l.i (take l.count l.path)) ≡ walk_path m (take l.count l.path))
    × ((m : PlainMount) → Represents l.fn.state m → Represents l.state m)
    × SameButCaches l.fn.state l.state
    × (l.steps ≤ l.fn.steps + l.i)
    × ((m : PlainMount) → Represents l.fn.state m → CachesOnly l.fn.state.names l.state.names (passed_entries m 0 (take l.count l.path)))
    × ((m : PlainMount) → Represents l.fn.state m → IsWithin (passed_entries m l.node (drop l.i (take l.count l.path))) (passed_entries m 0 (take l.count l.path)))
