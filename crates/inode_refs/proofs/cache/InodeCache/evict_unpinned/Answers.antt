use Rattle.std.proofs.Common.{◌≡◌, Bool, true, false, eqb, not, ◌&&◌, ◌||◌, rules, refl, sym, ap, subst, ◌∙◌}
use Rattle.std.specs.Option.{option_map_or}
use Rattle.std.specs.Ordering.{nat_cmp}
use Rattle.std.proofs.lemmas.Map.Keys.{IsDistinct-from_sorted}
use Rattle.policy_ctx.specs.KeyIds.{same_id}
use Rattle.inode_refs.specs.declared.node_key.NodeKey.{NodeKey}
use Rattle.inode_refs.specs.CacheMaps.{Cache, KeyMap, pins_at}
use Rattle.inode_refs.specs.Evictions.{without_derived_keys, is_unpinned, has_id, users_of}
use Rattle.inode_refs.specs.CacheRules.{keys_of, pins_in}
use Rattle.inode_refs.specs.Users.{AreCounted}
use Rattle.inode_refs.proofs.CacheLemmas.{retained_by, left_by_key}
use Rattle.inode_refs.proofs.UserLemmas.{users_stay, counted_alike}
use Rattle.inode_refs.proofs.cache.InodeCache.evict_unpinned.Goals as goal

either_not : (a b : Bool) → (not a || not b) ≡ not (a && b)
either_not true b = refl
either_not false b = refl

abbrev seen : goal.After-retain → Cache
seen c = record { keys = keys_of c.self.inside.keys.entries; pins = pins_in c.self.inside.pins.entries }

remaining_keys : (c : goal.After-retain) → keys_of c.retain.new.self.entries ≡ without_derived_keys (seen c) c.args.id.now
remaining_keys c =
    let left = retained_by _ (λ e. not (eqb (pins_at (pins_in c.self.inside.pins.entries) e.0) 0) || not (same_id e.1.value.id c.args.id.now)) _ (λ k v b w f' call. (search rules, (λ y. search rules), search rules)) _ _ c.retain.ensures.filtered in
    ap keys_of left ∙ left_by_key c.self.inside.keys.entries (λ e. not (eqb (pins_at (pins_in c.self.inside.pins.entries) e.0) 0) || not (same_id e.1.value.id c.args.id.now))
    (λ node. not (is_unpinned (seen c) node && has_id (seen c) c.args.id.now node)) (IsDistinct-from_sorted nat_cmp _ c.retain.ensures.was_ordered)
    (λ q key there. either_not (eqb (pins_at (pins_in c.self.inside.pins.entries) q) 0) (same_id key.value.id c.args.id.now)
    ∙ sym (ap (λ o. not (eqb (pins_at (pins_in c.self.inside.pins.entries) q) 0 && option_map_or (λ (k : NodeKey). same_id k.id c.args.id.now) o false)) there))

pub invariant_of-self : goal.invariant_of-self
invariant_of-self c = record {
  counted =
      (subst (λ (keys : KeyMap). let new : Cache = record (seen c) { keys = keys } in AreCounted c.self.inside.users (users_of new)) (sym (remaining_keys c))
      (counted_alike c.self.inside.users (users_of (seen c)) _ c.self.invariant.counted
      (users_stay (seen c) (λ node. not (is_unpinned (seen c) node && has_id (seen c) c.args.id.now node)) (λ x pinned. ap (λ b. not (b && has_id (seen c) c.args.id.now x)) pinned))));
  some = c.self.invariant.some;
}

pub returns : goal.returns
returns c =
    (λ i. record { keys = remaining_keys c i; pins = pins_in c.self.inside.pins.entries })
    ∙ ap (λ (v : Cache). let w : Cache = record v { keys = without_derived_keys v c.args.id.now } in w) c.self.view_is
