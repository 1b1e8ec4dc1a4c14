-- What holds of the open handles of every mount that a history leaves.
use Rattle.std.specs.Prelude.{◌≡◌, ℕ, ◌<◌, ◌≤◌, Bool, true, false, length, is_some, not, ◌&&◌}
use Rattle.std.specs.List.{list_any, IsDistinct}
use Rattle.number_map.specs.Numbered.{NumberedValues, get}
use Rattle.plain_tree.specs.Nodes.{Nodes}
use Rattle.plain_tree.specs.NodesByNumber.{is_named}
use Rattle.mount_model.specs.declared.handle.Handle.{Handle}
use Rattle.mount_model.specs.declared.limits.TheConstants.{MAX_HANDLES, MAX_OPENS}
use Rattle.mount_model.specs.PlainMount.{HandleList}
use Rattle.mount_model.specs.OpenHandles.{is_handle, has_handle, opens_of}
use Rattle.mount_model.specs.OpenAnswers.{is_link_at}

-- a directory or a file that is there
abbrev pub is_openable : Nodes → ℕ → Bool
is_openable nodes n = is_some (get nodes n) && not (is_link_at nodes n)

-- the caller has the handle of that number
abbrev pub is_live : HandleList → ℕ → ℕ → Bool
is_live handles caller number = list_any (is_handle caller number) handles

abbrev pub is_same_handle : Handle → Handle → Bool
is_same_handle g h = is_handle g.caller g.number h

pub record HasHandles (nodes : Nodes) (handles : HandleList) (opened : NumberedValues ℕ) : Type 0 where
  -- a handle is on a directory or a file
  pub on : (n : ℕ) → has_handle handles n ≡ true → is_openable nodes n ≡ true
  -- a node without name has one
  pub nameless : (n : ℕ) → is_some (get nodes n) ≡ true → is_named nodes n ≡ false
      → has_handle handles n ≡ true
  -- its number is below the count of its caller
  pub numbered : (caller number : ℕ) → is_live handles caller number ≡ true → number < opens_of opened caller
  -- no two of a caller have one number
  pub distinct : IsDistinct is_same_handle handles
  pub few : length handles ≤ MAX_HANDLES
  pub few_opens : (caller : ℕ) → opens_of opened caller ≤ MAX_OPENS
