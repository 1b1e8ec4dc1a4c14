use Rattle.std.proofs.Common.{rules, ◌≡◌, ◌≤◌, cond, not, ◌&&◌, [], sym, ap, ◌∙◌, arith}
use Rattle.user_claims.specs.Claims.{ClaimSet}
use Rattle.user_claims.specs.ClaimCounts.{is_present, count_of_id}
use Rattle.user_claims.proofs.PresentLemmas.{is_present-some, is_present-held, is_present-without_claim_other}
use Rattle.dentry_cache.specs.Names.{with_pairs}
use Rattle.inode_refs.specs.CacheMaps.{Cache}
use Rattle.inode_refs.specs.Evictions.{without_derived_keys}
use Rattle.key_ring.proofs.RingLemmas.{absent_at_zero}
use Rattle.mount_state.proofs.FirstLemmas.{none_remembered}
use Rattle.mount_keys.proofs.EvictionLemmas.{left_rule, left_names, evicted_rule}
use Rattle.mount_keys.proofs.removals.take_claim.Goals as goal

pub invariant_of-state : goal.invariant_of-state
invariant_of-state c =
    let s = c.args.state.now in
    let id = c.args.id.now in
    let after = c.take_claim-left.new.self.claims in
    let some : 1 ≤ count_of_id after id = omega (arith, c.take_claim-left.ensures.left) in
    record {
      forgets = left_rule s.disk s.ring.claims s.inodes s.modes s.handles.live s.forgets id after
          (λ q apart. ap (λ (cs : ClaimSet). is_present cs q) c.take_claim-left.ensures.claims
          ∙ is_present-without_claim_other s.ring.claims id c.args.uid q apart)
          (is_present-some after id some);
      remembers = left_names s.disk s.ring.claims s.names s.handles.live s.remembers id after
          (λ q apart. ap (λ (cs : ClaimSet). is_present cs q) c.take_claim-left.ensures.claims
          ∙ is_present-without_claim_other s.ring.claims id c.args.uid q apart)
          (is_present-some after id some);
      safe = s.safe;
    }

pub invariant_of-state-2 : goal.invariant_of-state-2
invariant_of-state-2 c =
    let s = c.args.state.now in
    let id = c.args.id.now in
    record {
      forgets = evicted_rule s.disk s.ring.claims s.inodes s.modes s.handles.live s.forgets id
          c.take_claim-left.new.self.claims
          (λ q apart. ap (λ (cs : ClaimSet). is_present cs q) c.take_claim-left.ensures.claims
          ∙ is_present-without_claim_other s.ring.claims id c.args.uid q apart)
          c.evict_unpinned.new.self c.evict_unpinned.ensures;
      remembers = none_remembered s.disk c.take_claim-left.new.self.claims _ s.handles.live (search rules);
      safe = s.safe;
    }

pub returns-clause-taken : goal.returns-clause-taken
returns-clause-taken c =
    let s = c.args.state.now in
    let id = c.args.id.now in
    let after = c.take_claim-left.new.self.claims in
    let zero : count_of_id after id ≡ 0 = omega (arith, c.take_claim-left.ensures.left, c.if-left-gt0.false) in
    let absent = absent_at_zero after id zero in
    let held = is_present-held s.ring.claims id c.args.uid c.requires in
    record {
      claims = c.take_claim-left.ensures.claims;
      secrets = c.take_claim-left.ensures.secrets;
      cached = ap (λ (x : Cache). x.keys) c.evict_unpinned.ensures
          ∙ sym (ap (λ b. cond b s.inodes.keys (without_derived_keys s.inodes id)) absent);
      names = c.forget_all.ensures
          ∙ sym (λ i. cond (held i && not (absent i)) (with_pairs s.names []) s.names);
    }
