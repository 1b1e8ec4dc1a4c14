use Rattle.std.proofs.Common.{rules, ap, ◌∙◌}
use Rattle.user_claims.specs.Claims.{ClaimSet}
use Rattle.user_claims.specs.ClaimCounts.{is_present}
use Rattle.user_claims.proofs.PresentLemmas.{is_present-without_id_other}
use Rattle.mount_state.proofs.FirstLemmas.{none_remembered}
use Rattle.mount_keys.proofs.EvictionLemmas.{evicted_rule}
use Rattle.mount_keys.proofs.clearings.take_all_claims.Goals as goal

pub invariant_of-state : goal.invariant_of-state
invariant_of-state c =
    let s = c.args.state.now in
    record {
      forgets = evicted_rule s.disk s.ring.claims s.inodes s.modes s.handles.live s.forgets c.args.id.now
          c.clear.new.self.claims
          (λ q apart. ap (λ (cs : ClaimSet). is_present cs q) c.clear.ensures.claims
          ∙ is_present-without_id_other s.ring.claims c.args.id.now q apart)
          c.evict_unpinned.new.self c.evict_unpinned.ensures;
      remembers = none_remembered s.disk c.clear.new.self.claims _ s.handles.live (search rules);
      safe = s.safe;
    }
