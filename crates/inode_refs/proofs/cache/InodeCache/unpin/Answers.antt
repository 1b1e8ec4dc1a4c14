use Rattle.std.proofs.Common.{◌-◌, ◌<◌, ap, ◌∙◌, sym, subst}
use Rattle.std.proofs.Common.{◌≡◌, ℕ, ◌+◌, Option}
use Rattle.policy_ctx.specs.declared.policy.KeyId.{KeyId}
use Rattle.inode_refs.specs.CacheMaps.{Cache, PinMap, pins_of, with_pins}
use Rattle.inode_refs.specs.Evictions.{users_of}
use Rattle.inode_refs.specs.CacheRules.{keys_of, pins_in}
use Rattle.inode_refs.specs.Users.{one_for, AreCounted, HasPins}
use Rattle.inode_refs.specs.KeyUsers.{leaving}
use Rattle.inode_refs.proofs.CacheLemmas.{pins_seen, pins_less}
use Rattle.inode_refs.proofs.UserLemmas.{users_unpinned, counted_for}
use Rattle.inode_refs.proofs.PinLemmas.{HasPins-with_pins}
use Rattle.inode_refs.proofs.cache.InodeCache.unpin.Goals as goal

-- the users that are left, once one is removed
less : (seen now : Cache) → seen ≡ now → (node : ℕ) → 0 < pins_of now node → (user : Option KeyId) → user ≡ leaving now node → (q : KeyId)
    → users_of (record seen { pins = with_pins seen.pins node (pins_of seen node - 1) }) q + one_for user q ≡ users_of seen q
less seen now same node some user is q =
    ap (λ o. users_of (record seen { pins = with_pins seen.pins node (pins_of seen node - 1) }) q + one_for o q) (is ∙ ap (λ (v : Cache). leaving v node) (sym same))
    ∙ users_unpinned seen node q (subst (λ (v : Cache). 0 < pins_of v node) (sym same) some)

pub less-requires : goal.less-requires
less-requires c =
    let seen : Cache = record { keys = keys_of c.self.inside.keys.entries; pins = pins_in c.self.inside.pins.entries } in
    let after : Cache = record seen { pins = with_pins seen.pins c.args.node (pins_of seen c.args.node - 1) } in
    counted_for c.self.inside.users (users_of seen) (users_of after) c.self.invariant.counted c.leaving-user.result
    (less seen c.args.self.now c.self.view_is c.args.node c.requires c.leaving-user.result c.leaving-user.ensures)

pub invariant_of-self : goal.invariant_of-self
invariant_of-self c = record {
  counted =
      (let seen : Cache = record { keys = keys_of c.self.inside.keys.entries; pins = pins_in c.self.inside.pins.entries } in
      let after : Cache = record seen { pins = with_pins seen.pins c.args.node (pins_of seen c.args.node - 1) } in
      subst (λ (pins : PinMap). let new : Cache = record seen { pins = pins } in AreCounted c.less.new.self (users_of new))
      (sym (pins_less c.self.inside.pins c.args.node c.one_less.new.counts c.one_less.ensures))
      (c.less.ensures (users_of seen) (users_of after) c.self.invariant.counted
      (less seen c.args.self.now c.self.view_is c.args.node c.requires c.leaving-user.result c.leaving-user.ensures)));
  some = subst HasPins (sym (pins_less c.self.inside.pins c.args.node c.one_less.new.counts c.one_less.ensures))
      (HasPins-with_pins (pins_in c.self.inside.pins.entries) c.args.node c.self.invariant.some
      (pins_of (record { keys = keys_of c.self.inside.keys.entries; pins = pins_in c.self.inside.pins.entries }) c.args.node - 1));
}

pub one_less-requires : goal.one_less-requires
one_less-requires c = subst (λ n. 0 < n) (sym (pins_seen c.self.inside.pins c.args.node ∙ ap (λ (v : Cache). pins_of v c.args.node) c.self.view_is)) c.requires

pub returns : goal.returns
returns c =
    let less = pins_less c.self.inside.pins c.args.node c.one_less.new.counts c.one_less.ensures in
    (λ i. record { keys = keys_of c.self.inside.keys.entries; pins = less i })
    ∙ ap (λ (v : Cache). let w : Cache = record v { pins = with_pins v.pins c.args.node (pins_of v c.args.node - 1) } in w) c.self.view_is
