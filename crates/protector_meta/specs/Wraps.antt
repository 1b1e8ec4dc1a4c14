-- The wraps of a policy's key: one for each protector that opens it, in the order in which they were added.
use Rattle.std.specs.Prelude.{ℕ, ◌≤◌, ◌==◌, Bool, not, IsFalse, nat_le, List, []}
use Rattle.std.specs.Prelude.{◌∷◌, length, Option, Some, None, if◌then◌else◌}
use Rattle.std.specs.List.{list_any, find, filter}
use Rattle.std.specs.Str.{bytes_eq}
use Rattle.protector_meta.specs.declared.wraps.TheConstants.{MAX_WRAPS}
use Rattle.protector_meta.specs.declared.wraps.Wrap.{Wrap}
use Rattle.protector_meta.specs.declared.wraps.WrapFault.{WrapFault}
use Rattle.protector_meta.specs.declared.wraps.WrapFault.TheVariants.{Listed, Full, NotListed, LastOne}

-- whether the wrap is for the protector of this label
abbrev pub is_for : List ℕ → Wrap → Bool
is_for label wrap = bytes_eq wrap.protector label

-- whether one of the wraps is
abbrev pub is_listed : List ℕ → List Wrap → Bool
is_listed label wraps = list_any (is_for label) wraps

-- no protector has two wraps
abbrev pub AreDistinct : List Wrap → Type 0
AreDistinct [] = Unit {0}
AreDistinct (wrap ∷ wraps) = IsFalse (is_listed wrap.protector wraps) × AreDistinct wraps

-- 1 to MAX_WRAPS wraps, each for another protector
pub record AreWraps (wraps : List Wrap) : Type 0 where
  pub some : 1 ≤ length wraps
  pub few : length wraps ≤ MAX_WRAPS
  pub distinct : AreDistinct wraps

-- the wrap for the protector of this label, if it is listed
abbrev pub wrap_for : List ℕ → List Wrap → Option Wrap
wrap_for label wraps = find (is_for label) wraps

-- the wraps for the other protectors, in their order
abbrev pub wraps_without : List ℕ → List Wrap → List Wrap
wraps_without label wraps = filter (λ wrap. not (is_for label wrap)) wraps

-- why no wrap for the protector of this label can be added: the first that holds
abbrev pub adding_fault : List ℕ → List Wrap → Option WrapFault
adding_fault label wraps =
    if is_listed label wraps then Some Listed else
    if nat_le MAX_WRAPS (length wraps) then Some Full else
    None

-- why its wrap can't be dropped: the first that holds
abbrev pub dropping_fault : List ℕ → List Wrap → Option WrapFault
dropping_fault label wraps =
    if not (is_listed label wraps) then Some NotListed else
    if length wraps == 1 then Some LastOne else
    None
