use Rattle.std.proofs.Common.{◌≡◌}
use Rattle.std.proofs.Props.{props}
use mathlib.Core.HLevel.{is_prop→PathP}
use Rattle.mount_state.specs.CachedNames.{NamesForget}
use Rattle.mount_state.specs.Discipline.{Forgets}
use Rattle.mount_state.specs.Safe.{IsSafe}
use Rattle.mount_state.proofs.WalkLemmas.{same_cache}
use Rattle.mount_state.proofs.laws.a_state_is_its_parts.Goals as goal

pub returns : goal.returns
returns c = λ old new same.
    let inodes : new.inodes ≡ old.inodes = same_cache old.inodes new.inodes same.keys same.pins in
    λ i. record {
      disk = same.disk i;
      next_node = same.next_node i;
      ring = same.ring i;
      meta = same.meta i;
      inodes = inodes i;
      handles = same.handles i;
      modes = same.modes i;
      names = same.names i;
      forgets = is_prop→PathP (λ j. Forgets (same.disk j) (same.ring j).claims (inodes j) (same.modes j) (same.handles j).live)
          (λ j. hlevel props) new.forgets old.forgets i;
      remembers = is_prop→PathP (λ j. NamesForget (same.disk j) (same.ring j).claims (same.names j) (same.handles j).live)
          (λ j. hlevel props) new.remembers old.remembers i;
      safe = is_prop→PathP (λ j. IsSafe (same.disk j) (same.next_node j) (same.handles j).live)
          (λ j. hlevel props) new.safe old.safe i;
    }
