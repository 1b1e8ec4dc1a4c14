use Rattle.std.proofs.Common.{◌≡◌, ℕ, ◌+◌, Option, refl, sym, ap, subst, ◌∙◌}
use Rattle.policy_ctx.specs.declared.policy.KeyId.{KeyId}
use Rattle.inode_refs.specs.declared.node_key.NodeKey.{NodeKey}
use Rattle.inode_refs.specs.CacheMaps.{Cache, pins_at, pins_of, with_pins, with_pinned_key}
use Rattle.inode_refs.specs.Evictions.{users_of}
use Rattle.inode_refs.specs.CacheRules.{keys_of, pins_in}
use Rattle.inode_refs.specs.Users.{one_for, HasPins}
use Rattle.inode_refs.specs.KeyUsers.{coming}
use Rattle.inode_refs.proofs.CacheLemmas.{at_ok, at_err}
use Rattle.inode_refs.proofs.UserLemmas.{users_pinned, counted_for, counted_alike}
use Rattle.inode_refs.proofs.PinLemmas.{HasPins-with_pins, pins_back}
use Rattle.inode_refs.proofs.cache.InodeCache.pin.Goals as goal

-- the users once the node is pinned, with the new one
more : (seen now : Cache) → seen ≡ now → (node : ℕ) (key : Option NodeKey) (user : Option KeyId) → user ≡ coming now node key → (q : KeyId)
    → users_of (record { keys = with_pinned_key seen.keys node key; pins = with_pins seen.pins node (pins_of seen node + 1) }) q ≡ users_of seen q + one_for user q
more seen now same node key user is q =
    users_pinned seen node key q ∙ ap (λ o. users_of seen q + one_for o q) (ap (λ (v : Cache). coming v node key) same ∙ sym is)

pub invariant_of-self : goal.invariant_of-self
invariant_of-self c = record {
  counted =
      (at_err c.more.result (sym c.is_err.ensures.value ∙ c.if-is_err.true) c.more.ensures.kept _ c.self.invariant.counted);
  some = c.self.invariant.some;
}

pub less-requires : goal.less-requires
less-requires c =
    let seen : Cache = record { keys = keys_of c.self.inside.keys.entries; pins = pins_in c.self.inside.pins.entries } in
    counted_for c.more.new.self (λ q. users_of seen q + one_for c.coming-user.result q) (users_of seen)
    (at_ok c.more.result (sym c.is_err.ensures.value ∙ c.if-is_err.false) c.more.ensures.more (users_of seen) _ c.self.invariant.counted (λ q. refl))
    c.coming-user.result (λ q. refl)

pub invariant_of-self-then-is_err-2 : goal.invariant_of-self-then-is_err-2
invariant_of-self-then-is_err-2 c = record {
  counted =
      (let seen : Cache = record { keys = keys_of c.self.inside.keys.entries; pins = pins_in c.self.inside.pins.entries } in
      let failed = sym c.is_err-2.ensures.value ∙ c.if-is_err-2.true in
      let keys = at_err c.pin_in.result failed c.pin_in.ensures.keys in
      let pins = at_err c.pin_in.result failed c.pin_in.ensures.pins in
      counted_alike c.less.new.self (users_of seen) _
      (c.less.ensures (λ q. users_of seen q + one_for c.coming-user.result q) (users_of seen)
      (at_ok c.more.result (sym c.is_err.ensures.value ∙ c.if-is_err.false) c.more.ensures.more (users_of seen) _ c.self.invariant.counted (λ q. refl)) (λ q. refl))
      (λ q i. users_of (record { keys = keys i; pins = pins i }) q));
  some = subst HasPins (sym (at_err c.pin_in.result (sym c.is_err-2.ensures.value ∙ c.if-is_err-2.true) c.pin_in.ensures.pins)) c.self.invariant.some;
}

pub invariant_of-self-else-is_err-2 : goal.invariant_of-self-else-is_err-2
invariant_of-self-else-is_err-2 c = record {
  counted =
      (let seen : Cache = record { keys = keys_of c.self.inside.keys.entries; pins = pins_in c.self.inside.pins.entries } in
      let ok = sym c.is_err-2.ensures.value ∙ c.if-is_err-2.false in
      let keys = at_ok c.pin_in.result ok c.pin_in.ensures.given in
      let pins = at_ok c.pin_in.result ok c.pin_in.ensures.pinned in
      at_ok c.more.result (sym c.is_err.ensures.value ∙ c.if-is_err.false) c.more.ensures.more (users_of seen) _ c.self.invariant.counted
      (λ q. (λ i. users_of (record { keys = keys i; pins = pins i }) q)
      ∙ more seen c.args.self.now c.self.view_is c.args.node c.args.key c.coming-user.result c.coming-user.ensures q));
  some = subst HasPins (sym (at_ok c.pin_in.result (sym c.is_err-2.ensures.value ∙ c.if-is_err-2.false) c.pin_in.ensures.pinned))
      (HasPins-with_pins (pins_in c.self.inside.pins.entries) c.args.node c.self.invariant.some
      (pins_at (pins_in c.self.inside.pins.entries) c.args.node + 1));
}

pub returns-clause-back : goal.returns-clause-back
returns-clause-back c =
    let pins = at_ok c.pin_in.result (sym c.is_err-2.ensures.value ∙ c.if-is_err-2.false) c.pin_in.ensures.pinned in
    (λ i. with_pins (pins i) c.args.node (pins_of (sym c.self.view_is i) c.args.node))
    ∙ (pins_back (pins_in c.self.inside.pins.entries) c.args.node c.self.invariant.some ∙ ap (λ (v : Cache). v.pins) c.self.view_is)
