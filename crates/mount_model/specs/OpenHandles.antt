-- The open handles of a mount: the node on which a caller has one, and how many a caller ever opened.
use Rattle.std.specs.Prelude.{ℕ, Bool, Option, ◌==◌, ◌&&◌, not, filter}
use Rattle.std.specs.Option.{option_map, unwrap_or}
use Rattle.std.specs.List.{find, list_any}
use Rattle.std.specs.FinMap as map
use Rattle.number_map.specs.Numbered.{NumberedValues}
use Rattle.mount_model.specs.declared.handle.Handle.{Handle}
use Rattle.mount_model.specs.PlainMount.{HandleList}

abbrev pub is_handle : ℕ → ℕ → Handle → Bool
is_handle caller number h = (h.caller == caller) && (h.number == number)

-- the node on which the caller has the handle of that number
abbrev pub node_of : HandleList → ℕ → ℕ → Option ℕ
node_of handles caller number = option_map (λ h. h.node) (find (is_handle caller number) handles)

-- some handle is on the node
abbrev pub has_handle : HandleList → ℕ → Bool
has_handle handles n = list_any (λ h. h.node == n) handles

abbrev pub without_handle : ℕ → ℕ → HandleList → HandleList
without_handle caller number handles = filter (λ h. not (is_handle caller number h)) handles

-- how many handles the caller ever opened
abbrev pub opens_of : NumberedValues ℕ → ℕ → ℕ
opens_of opened caller = unwrap_or (map.get opened caller) 0
