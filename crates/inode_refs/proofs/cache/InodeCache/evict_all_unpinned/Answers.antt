use Rattle.std.proofs.Common.{◌≡◌, eqb, not, rules, ap, sym, subst, ◌∙◌}
use Rattle.inode_refs.specs.CacheMaps.{Cache, KeyMap, pins_at}
use Rattle.inode_refs.specs.Evictions.{without_unpinned_keys, is_unpinned, users_of}
use Rattle.inode_refs.specs.CacheRules.{keys_of, pins_in}
use Rattle.inode_refs.specs.Users.{AreCounted}
use Rattle.inode_refs.proofs.CacheLemmas.{retained_by, left_by_node}
use Rattle.inode_refs.proofs.UserLemmas.{users_stay, counted_alike}
use Rattle.inode_refs.proofs.cache.InodeCache.evict_all_unpinned.Goals as goal

abbrev seen : goal.After-retain → Cache
seen c = record { keys = keys_of c.self.inside.keys.entries; pins = pins_in c.self.inside.pins.entries }

remaining_keys : (c : goal.After-retain) → keys_of c.retain.new.self.entries ≡ without_unpinned_keys (seen c)
remaining_keys c =
    let left = retained_by _ (λ e. not (eqb (pins_at (pins_in c.self.inside.pins.entries) e.0) 0)) _ (λ k v b w f' call. (search rules, (λ y. search rules), search rules)) _ _ c.retain.ensures.filtered in
    left_by_node c.self.inside.keys c.retain.new.self (λ node. not (eqb (pins_at (pins_in c.self.inside.pins.entries) node) 0)) left

pub invariant_of-self : goal.invariant_of-self
invariant_of-self c = record {
  counted =
      (subst (λ (keys : KeyMap). let new : Cache = record (seen c) { keys = keys } in AreCounted c.self.inside.users (users_of new)) (sym (remaining_keys c))
      (counted_alike c.self.inside.users (users_of (seen c)) _ c.self.invariant.counted
      (users_stay (seen c) (λ node. not (is_unpinned (seen c) node)) (λ x pinned. ap not pinned))));
  some = c.self.invariant.some;
}

pub returns : goal.returns
returns c =
    (λ i. record { keys = remaining_keys c i; pins = pins_in c.self.inside.pins.entries })
    ∙ ap (λ (v : Cache). let w : Cache = record v { keys = without_unpinned_keys v } in w) c.self.view_is
