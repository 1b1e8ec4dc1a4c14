use Rattle.std.proofs.Common.{◌≡◌, ℕ, ◌+◌, false, Option, Some, None, refl, sym, ap, ◌∙◌, arith}
use Rattle.std.specs.FinMap as map
use Rattle.policy_ctx.specs.declared.policy.KeyId.{KeyId}
use Rattle.inode_refs.specs.declared.node_key.NodeKey.{NodeKey}
use Rattle.inode_refs.specs.CacheMaps.{Cache}
use Rattle.inode_refs.specs.Evictions.{is_unpinned, users_of}
use Rattle.inode_refs.specs.CacheRules.{keys_of, pins_in}
use Rattle.inode_refs.specs.Users.{one_for}
use Rattle.inode_refs.specs.KeyUsers.{id_at}
use Rattle.inode_refs.proofs.CacheLemmas.{at_ok, at_err}
use Rattle.inode_refs.proofs.UserLemmas.{users_kept, users_dropped, user_pinned, has_key, counted_for, counted_alike, from_ok}
use Rattle.inode_refs.proofs.cache.InodeCache.keep_counted.Goals as goal

module _ (seen now : Cache) (same : seen ≡ now) (node : ℕ) (pinned : is_unpinned now node ≡ false) (user : Option KeyId) (is : user ≡ id_at now node) where
  pinned_seen : is_unpinned seen node ≡ false
  pinned_seen = ap (λ (v : Cache). is_unpinned v node) same ∙ pinned

  id_seen : id_at seen node ≡ user
  id_seen = ap (λ (v : Cache). id_at v node) same ∙ sym is

  -- the node's own key is a user
  less : (q : KeyId) → users_of (record seen { keys = map.remove seen.keys node }) q + one_for user q ≡ users_of seen q
  less q = ap (λ o. users_of (record seen { keys = map.remove seen.keys node }) q + one_for o q) (sym id_seen ∙ sym (user_pinned seen node pinned_seen)) ∙ users_dropped seen node q

  -- another key in its place
  other : (key : NodeKey) (q : KeyId) → users_of (record seen { keys = map.insert seen.keys node key }) q + one_for user q ≡ users_of seen q + one_for (Some key.id) q
  other key q = ap (λ o. users_of (record seen { keys = map.insert seen.keys node key }) q + one_for o q) (sym id_seen) ∙ users_kept seen node key q pinned_seen

pub exchange-requires : goal.exchange-requires
exchange-requires c =
    let seen : Cache = record { keys = keys_of c.self.inside.keys.entries; pins = pins_in c.self.inside.pins.entries } in
    counted_for c.self.inside.users (users_of seen) _ c.self.invariant.counted (Some c.in-Some.older)
    (less seen c.args.self.now c.self.view_is c.args.node c.requires (Some c.in-Some.older) c.in-Some.ensures)

pub invariant_of-self : goal.invariant_of-self
invariant_of-self c = record {
  counted =
      (let seen : Cache = record { keys = keys_of c.self.inside.keys.entries; pins = pins_in c.self.inside.pins.entries } in
      let there = has_key seen c.args.node c.in-Some.older (id_seen seen c.args.self.now c.self.view_is c.args.node c.requires (Some c.in-Some.older) c.in-Some.ensures) in
      let keys = from_ok c.cache_in.result (c.cache_in.ensures.cached there) c.cache_in.ensures.kept in
      c.exchange.ensures (users_of seen) _ c.self.invariant.counted
      (λ q. (λ i. users_of (record { keys = keys i; pins = seen.pins }) q + one_for (Some c.in-Some.older) q)
      ∙ other seen c.args.self.now c.self.view_is c.args.node c.requires (Some c.in-Some.older) c.in-Some.ensures c.args.key q));
  some = c.self.invariant.some;
}

pub invariant_of-self-then-is_err : goal.invariant_of-self-then-is_err
invariant_of-self-then-is_err c = record {
  counted =
      (at_err c.more.result (sym c.is_err.ensures.value ∙ c.if-is_err.true) c.more.ensures.kept _ c.self.invariant.counted);
  some = c.self.invariant.some;
}

pub less-requires : goal.less-requires
less-requires c =
    let seen : Cache = record { keys = keys_of c.self.inside.keys.entries; pins = pins_in c.self.inside.pins.entries } in
    counted_for c.more.new.self (λ q. users_of seen q + one_for (Some c.args.key.id) q) (users_of seen)
    (at_ok c.more.result (sym c.is_err.ensures.value ∙ c.if-is_err.false) c.more.ensures.more (users_of seen) _ c.self.invariant.counted (λ q. refl))
    (Some c.args.key.id) (λ q. refl)

pub invariant_of-self-then-is_err-2 : goal.invariant_of-self-then-is_err-2
invariant_of-self-then-is_err-2 c = record {
  counted =
      (let seen : Cache = record { keys = keys_of c.self.inside.keys.entries; pins = pins_in c.self.inside.pins.entries } in
      let keys = at_err c.cache_in-2.result (sym c.is_err-2.ensures.value ∙ c.if-is_err-2.true) c.cache_in-2.ensures.as_before in
      counted_alike c.less.new.self (users_of seen) _
      (c.less.ensures (λ q. users_of seen q + one_for (Some c.args.key.id) q) (users_of seen)
      (at_ok c.more.result (sym c.is_err.ensures.value ∙ c.if-is_err.false) c.more.ensures.more (users_of seen) _ c.self.invariant.counted (λ q. refl)) (λ q. refl))
      (λ q i. users_of (record { keys = keys i; pins = seen.pins }) q));
  some = c.self.invariant.some;
}

pub invariant_of-self-else-is_err-2 : goal.invariant_of-self-else-is_err-2
invariant_of-self-else-is_err-2 c = record {
  counted =
      (let seen : Cache = record { keys = keys_of c.self.inside.keys.entries; pins = pins_in c.self.inside.pins.entries } in
      let keys = at_ok c.cache_in-2.result (sym c.is_err-2.ensures.value ∙ c.if-is_err-2.false) c.cache_in-2.ensures.kept in
      at_ok c.more.result (sym c.is_err.ensures.value ∙ c.if-is_err.false) c.more.ensures.more (users_of seen) _ c.self.invariant.counted
      (λ q. (λ i. users_of (record { keys = keys i; pins = seen.pins }) q)
      ∙ let first = other seen c.args.self.now c.self.view_is c.args.node c.requires None c.in_default.ensures c.args.key q in omega arith));
  some = c.self.invariant.some;
}
