use Rattle.std.proofs.Common.{refl, ap}
use Rattle.dentry_cache.specs.Names.{NameList}
use Rattle.mount_state.specs.Handles.{Handles}
use Rattle.mount_state.proofs.FirstLemmas.{first_forgets, first_safe, first_stands, none_remembered}
use Rattle.mount_state.proofs.state.MountState.new.Goals as goal

pub invariant_of-result : goal.invariant_of-result
invariant_of-result c = record {
  forgets = first_forgets c.in_ok-disk.disk c.in_ok-disk.ensures c.new-5.result.live (ap (λ (h : Handles). h.live) c.new-5.ensures) c.new-2.result.claims c.new-4.result c.new-6.result c.new-2.ensures.claims c.new-4.ensures c.new-6.ensures;
  remembers = none_remembered c.in_ok-disk.disk c.new-2.result.claims c.in_ok-new.field-0 c.new-5.result.live (ap (λ (x : NameList). x.pairs) c.in_ok-new.ensures);
  safe = first_safe c.in_ok-disk.disk c.in_ok-disk.ensures c.new-5.result.live (ap (λ (h : Handles). h.live) c.new-5.ensures);
}

pub returns : goal.returns
returns c = first_stands _ c.in_ok-disk.ensures refl c.new-2.ensures.claims c.new-2.ensures.secrets c.new-3.ensures c.new-4.ensures c.new-5.ensures c.new-6.ensures c.in_ok-new.ensures
