-- What callers in threads need, and how their pass to a shared mount is cut in two.
use Rattle.std.specs.Prelude.{◌≡◌, ℕ, ◌+◌, ◌*◌, ◌<◌, ◌≤◌, List, [], ◌++◌, length, sum_by, slice_get, All}
use Rattle.call_history.specs.Entries.{by}
use Rattle.mount_model.specs.Port.{PlacedCalls}
use Rattle.turn_lock.specs.Passes.{SharedView}
use Rattle.mount_shared.specs.SharedCalls.{MountPass}
use Rattle.script_lang.specs.declared.commands.Section.{Section}
use Rattle.reply_text.specs.Logged.{PlacedLogged, logged_calls}
use Rattle.fsc_session.specs.Asking.{AsksRightly}
use Rattle.fsc_session.specs.ScriptRun.{IsRunOfCaller}

-- how many calls the commands of sections make, if each makes `most`
abbrev pub max_calls_of_sections : ℕ → List Section → ℕ
max_calls_of_sections most sections = sum_by (λ section. most * length section.commands) sections

-- the pass belongs to this shared machine, and no call was made with it; it has a caller's number for each
-- section, of which there are one or more, and `most` calls for each command
pub record CanRun (most : ℕ) (shared : SharedView) (pass : MountPass) (sections : List Section) : Type 0 where
  pub belongs : pass.table ≡ shared.table
  pub some_section : 0 < length sections
  pub numbers : pass.who + length sections ≡ pass.high
  pub calls : max_calls_of_sections most sections ≤ pass.left
  pub no_past : pass.past ≡ []
  pub no_own : pass.mine ≡ []
  pub asked : All AsksRightly sections

-- a pass was cut in two, one for the first sections and one for the others
pub record AreHalves (most : ℕ) (shared : SharedView) (old lower upper : MountPass)
    (first others : List Section) : Type 0 where
  pub lower_runs : CanRun most shared lower first
  pub upper_runs : CanRun most shared upper others
  pub one_table : lower.table ≡ old.table
  pub lowest : lower.who ≡ old.who
  pub next : upper.who ≡ lower.high
  pub highest : upper.high ≡ old.high

-- a pass belongs to the same machine, and has the same numbers
pub record IsAsBefore (old new : MountPass) : Type 0 where
  pub same_table : new.table ≡ old.table
  pub same_caller : new.who ≡ old.who
  pub same_high : new.high ≡ old.high

-- the calls that were made by a pass, and by those that it took in
abbrev pub calls_of : MountPass → PlacedCalls
calls_of pass = pass.past ++ pass.mine

-- each caller's entries are a run of its section, if the first section has this caller's number, and no
-- other caller has any
pub record RunFrom (seed : List ℕ) (who : ℕ) (sections : List Section) (placed : PlacedCalls) : Type 0 where
  pub each : (i : ℕ) → IsRunOfCaller seed (who + i) (slice_get sections i) (by (who + i) placed)
  pub none : (caller : ℕ) → caller < who → by caller placed ≡ []

-- `told` has, caller by caller, the shown entries of these calls
abbrev pub Shows : PlacedLogged → PlacedCalls → Type 0
Shows told placed = (caller : ℕ) → by caller told ≡ logged_calls (by caller placed)
