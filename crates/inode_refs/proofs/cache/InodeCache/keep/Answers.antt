use Rattle.std.proofs.Common.{eqb, ◌≡◌, true, inl, inr, sym, ap, ◌∙◌}
use Rattle.std.proofs.lemmas.Bool.{eq-eqb}
use Rattle.inode_refs.specs.declared.node_key.NodeKey.{NodeKey}
use Rattle.inode_refs.specs.CacheMaps.{Cache}
use Rattle.inode_refs.specs.Evictions.{is_unpinned, users_of}
use Rattle.inode_refs.specs.CacheRules.{keys_of, pins_in}
use Rattle.inode_refs.proofs.UserLemmas.{users_kept_unpinned, counted_alike, either}
use Rattle.inode_refs.proofs.cache.InodeCache.keep.Goals as goal

pub invariant_of-self : goal.invariant_of-self
invariant_of-self c = record {
  counted =
      (let seen : Cache = record { keys = keys_of c.self.inside.keys.entries; pins = pins_in c.self.inside.pins.entries } in
      let key : NodeKey = record { id = c.args.id; key = c.args.key } in
      let free : is_unpinned seen c.args.node ≡ true = ap (λ (v : Cache). is_unpinned v c.args.node) c.self.view_is ∙ (ap (λ n. eqb n 0) (sym c.pins.ensures) ∙ eq-eqb c.pins.result 0 c.if-pins-eq0.true) in
      counted_alike c.self.inside.users (users_of seen) _ c.self.invariant.counted (λ q. elim (either c.cache_in.result c.cache_in.ensures.kept c.cache_in.ensures.as_before) [
        | inl is ↦ (λ i. users_of (record { keys = is i; pins = seen.pins }) q) ∙ users_kept_unpinned seen c.args.node key q free
        | inr is ↦ λ i. users_of (record { keys = is i; pins = seen.pins }) q
      ]));
  some = c.self.invariant.some;
}
