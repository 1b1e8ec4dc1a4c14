use Rattle.std.proofs.Common.{◌≡◌, ℕ, ◌+◌, Option, ap, ◌∙◌, sym, subst}
use Rattle.std.specs.FinMap as map
use Rattle.policy_ctx.specs.declared.policy.KeyId.{KeyId}
use Rattle.inode_refs.specs.CacheMaps.{Cache, KeyMap}
use Rattle.inode_refs.specs.Evictions.{users_of}
use Rattle.inode_refs.specs.CacheRules.{keys_of, pins_in}
use Rattle.inode_refs.specs.Users.{one_for, AreCounted}
use Rattle.inode_refs.specs.KeyUsers.{user_at}
use Rattle.inode_refs.proofs.UserLemmas.{users_dropped, counted_for}
use Rattle.inode_refs.proofs.cache.InodeCache.drop_key.Goals as goal

-- the users that are left, for the node's own
less : (seen now : Cache) → seen ≡ now → (node : ℕ) (user : Option KeyId) → user ≡ user_at now node → (q : KeyId)
    → users_of (record seen { keys = map.remove seen.keys node }) q + one_for user q ≡ users_of seen q
less seen now same node user is q =
    ap (λ o. users_of (record seen { keys = map.remove seen.keys node }) q + one_for o q) (is ∙ ap (λ (v : Cache). user_at v node) (sym same))
    ∙ users_dropped seen node q

pub less-requires : goal.less-requires
less-requires c =
    let seen : Cache = record { keys = keys_of c.self.inside.keys.entries; pins = pins_in c.self.inside.pins.entries } in
    let after : Cache = record seen { keys = map.remove seen.keys c.args.node } in
    counted_for c.self.inside.users (users_of seen) (users_of after) c.self.invariant.counted c.user_at-user.result
    (less seen c.args.self.now c.self.view_is c.args.node c.user_at-user.result c.user_at-user.ensures)

pub invariant_of-self : goal.invariant_of-self
invariant_of-self c = record {
  counted =
      (let seen : Cache = record { keys = keys_of c.self.inside.keys.entries; pins = pins_in c.self.inside.pins.entries } in
      let after : Cache = record seen { keys = map.remove seen.keys c.args.node } in
      subst (λ (keys : KeyMap). let new : Cache = record seen { keys = keys } in AreCounted c.less.new.self (users_of new)) (sym c.forget.ensures)
      (c.less.ensures (users_of seen) (users_of after) c.self.invariant.counted
      (less seen c.args.self.now c.self.view_is c.args.node c.user_at-user.result c.user_at-user.ensures)));
  some = c.self.invariant.some;
}

pub returns : goal.returns
returns c =
    (λ i. record { keys = c.forget.ensures i; pins = pins_in c.self.inside.pins.entries })
    ∙ ap (λ (v : Cache). let w : Cache = record v { keys = map.remove v.keys c.args.node } in w) c.self.view_is
