-- Handles, targets of symlinks and names of records at their limits: the last that passes, and the first
-- that doesn't; and when further names follow a page.
use Rattle.std.specs.Prelude.{◌≡◌, ◌↔◌, ℕ, ◌+◌, Bool, true, false, List, [], length}
use Rattle.plain_tree.specs.Nodes.{Name, Link}
use Rattle.mount_model.specs.declared.call.Op.TheVariants.{MetaLoad}
use Rattle.mount_model.specs.declared.limits.TheConstants.{MAX_LISTED}
use Rattle.mount_model.specs.declared.reply.Reply.TheVariants.{Names}
use Rattle.mount_model.specs.PlainMount.{PlainMount}
use Rattle.mount_model.specs.OpenHandles.{opens_of}
use Rattle.mount_model.specs.Fits.{OpFits}
use Rattle.mount_model.specs.OpenAnswers.{is_out_of_handles}
use Rattle.mount_model.specs.ListAnswers.{page_of}
use Rattle.mount_model.specs.NameAnswers.{is_long_target}

pub record LimitsAreExact : Type 0 where
  -- with 4,095 handles open one more is opened, with 4,096 none
  pub last_handle : (m : PlainMount) (caller : ℕ) → length m.handles ≡ 4095 → opens_of m.opened caller ≡ 0
      → is_out_of_handles m caller ≡ false
  pub no_handle : (m : PlainMount) (caller : ℕ) → length m.handles ≡ 4096 → is_out_of_handles m caller ≡ true
  -- a target has 255 bytes, and not 256
  pub last_target : (target : Name) → length target ≡ 255 → is_long_target (Link target) ≡ false
  pub long_target : (target : Name) → length target ≡ 256 → is_long_target (Link target) ≡ true
  -- a record's name has 64 bytes, and not 65
  pub last_name : (name : List ℕ) → length name ≡ 64 → OpFits (MetaLoad name)
  pub long_name : (name : List ℕ) → length name ≡ 65 → ¬ OpFits (MetaLoad name)

-- a page reports further names exactly when the next page is not empty
abbrev pub FurtherNamesFollow : Type 0
FurtherNamesFollow = (m : PlainMount) (d start : ℕ) (first next : List Name) (more further : Bool)
    → page_of m d start ≡ Names first more → page_of m d (start + MAX_LISTED) ≡ Names next further
    → (more ≡ false) ↔ (next ≡ [])
