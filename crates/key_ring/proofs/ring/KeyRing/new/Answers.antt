use Rattle.std.proofs.Common.{is_some, sym, ap, ◌∙◌}
use Rattle.std.specs.FinMap as map
use Rattle.user_claims.specs.Claims.{id_cmp}
use Rattle.user_claims.specs.ClaimCounts.{is_present}
use Rattle.user_claims.proofs.PresentLemmas.{is_present-none}
use Rattle.key_ring.specs.Kept.{secrets_of}
use Rattle.key_ring.proofs.ring.KeyRing.new.Goals as goal

pub invariant_of-result : goal.invariant_of-result
invariant_of-result c id =
    ap (λ es. is_some (map.get (secrets_of es) id)) c.new-2.ensures.empty ∙ (ap is_some (map.get-empty id_cmp id)
    ∙ sym (ap (λ cs. is_present cs id) c.new.ensures ∙ is_present-none id))
