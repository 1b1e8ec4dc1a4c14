use Rattle.std.proofs.Common.{rules, refl, sym, ap, ◌∙◌}
use Rattle.inode_refs.specs.CacheMaps.{Cache, key_at}
use Rattle.mount_state.proofs.FirstLemmas.{none_remembered}
use Rattle.mount_keys.proofs.EvictionLemmas.{all_evicted_rule, all_evicted_was}
use Rattle.mount_keys.proofs.FewerLemmas.{fewer_stand, no_names_more}
use Rattle.mount_keys.proofs.caches.drop_caches.Goals as goal

pub invariant_of-state : goal.invariant_of-state
invariant_of-state c =
    let s = c.args.state.now in
    record {
      forgets = all_evicted_rule s.disk s.ring.claims s.inodes s.modes s.handles.live s.forgets
          c.evict_all_unpinned.new.self c.evict_all_unpinned.ensures;
      remembers = none_remembered s.disk s.ring.claims _ s.handles.live (search rules);
      safe = s.safe;
    }

pub returns-clause-represents : goal.returns-clause-represents
returns-clause-represents c = λ m st.
    let s = c.args.state.now in (
      refl,
      fewer_stand s _ m m.claims st
          (record {
            disk = refl;
            next_node = refl;
            ring = tt;
            meta = refl;
            keys = tt;
            pins = ap (λ (x : Cache). x.pins)
                c.evict_all_unpinned.ensures;
            handles = refl;
            modes = refl;
            names = tt;
          })
          st.well.keys st.keys.claims (λ id raw there. there)
          (λ n k there. all_evicted_was s.inodes n k (sym
          (ap (λ (x : Cache). key_at x n) c.evict_all_unpinned.ensures) ∙ there))
          (no_names_more s.names c.forget_all.new.self c.forget_all.ensures),
    )
