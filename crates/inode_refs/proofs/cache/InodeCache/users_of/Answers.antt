use Rattle.std.proofs.Common.{eqb, false, not, ◌&&◌, sym, ap, ◌∙◌}
use Rattle.std.specs.Option.{option_map_or}
use Rattle.std.specs.Ordering.{nat_cmp}
use Rattle.std.proofs.lemmas.Map.Keys.{IsDistinct-from_sorted}
use Rattle.policy_ctx.specs.KeyIds.{same_id}
use Rattle.inode_refs.specs.declared.node_key.NodeKey.{NodeKey}
use Rattle.inode_refs.specs.CacheMaps.{Cache, pins_at}
use Rattle.inode_refs.specs.Evictions.{users_of, is_unpinned, has_id}
use Rattle.inode_refs.specs.CacheRules.{keys_of, pins_in, is_user}
use Rattle.inode_refs.proofs.CacheLemmas.{len-left}
use Rattle.inode_refs.proofs.cache.InodeCache.users_of.Goals as goal

pub returns-in-Some : goal.returns-in-Some
returns-in-Some c = c.in-Some.ensures _ c.self.invariant.counted ∙ ap (λ (v : Cache). users_of v c.args.id.now) c.self.view_is

pub returns-in-None : goal.returns-in-None
returns-in-None c =
    let seen : Cache = record { keys = keys_of c.self.inside.keys.entries; pins = pins_in c.self.inside.pins.entries } in
    c.users_in.ensures.counted
    ∙ (sym (len-left c.self.inside.keys.entries (is_user seen.pins c.args.id.now) (λ node. not (is_unpinned seen node) && has_id seen c.args.id.now node)
    (IsDistinct-from_sorted nat_cmp _ c.users_in.ensures.ordered)
    (λ q key there. sym (ap (λ o. not (eqb (pins_at seen.pins q) 0) && option_map_or (λ (k : NodeKey). same_id k.id c.args.id.now) o false) there)))
    ∙ ap (λ (v : Cache). users_of v c.args.id.now) c.self.view_is)
