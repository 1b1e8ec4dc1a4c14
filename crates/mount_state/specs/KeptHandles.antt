-- How handles are stored; words of private functions.
use Rattle.std.specs.Prelude.{◌≡◌, ℕ, ◌<◌, ◌≤◌, true, List}
use Rattle.std.specs.List.{count_by}
use Rattle.std.specs.declared.cmp.Ordering.{Ordering}
use Rattle.std.specs.Ordering.{nat_cmp, ordering_then}
use Rattle.std.specs.BTreeMap.{BTreeMap, get}
use Rattle.number_map.specs.Numbered.{NumberedValues}
use Rattle.key_counts.specs.MapViews.{map_by_order}
use Rattle.mount_model.specs.PlainMount.{HandleList}
use Rattle.mount_model.specs.OpenHandles.{is_handle, node_of, opens_of}
use Rattle.mount_model.specs.SoundHandles.{is_live}

-- the order of the index: by caller, and then by number
abbrev pub pair_cmp : ℕ × ℕ → ℕ × ℕ → Ordering
pair_cmp a b = ordering_then (nat_cmp a.0 b.0) (nat_cmp a.1 b.1)

abbrev pub opened_in : List (ℕ × ℕ) → NumberedValues ℕ
opened_in entries = map_by_order nat_cmp (λ count. count) entries

-- the index has each handle's node, a live number is below the caller's count, and no two handles of a
-- caller have one number
pub record IsIndexed (live : HandleList) (index : BTreeMap (ℕ × ℕ) ℕ) (opened : NumberedValues ℕ)
    : Type 0 where
  pub indexed : (caller number : ℕ) → get pair_cmp index (caller, number) ≡ node_of live caller number
  pub numbered : (caller number : ℕ) → is_live live caller number ≡ true → number < opens_of opened caller
  pub single : (caller number : ℕ) → count_by (is_handle caller number) live ≤ 1
