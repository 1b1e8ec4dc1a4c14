use Rattle.std.proofs.Common.{◌≡◌, ◌+◌, None, IsSome, is_some, refl, ap, subst, sym, ◌∙◌}
use Rattle.std.proofs.lemmas.Bool.{true≢false}
use Rattle.std.specs.Box.{with_value}
use Rattle.std.specs.BTreeMap as tree
use Rattle.std.specs.BTreeMap.{BTreeMap}
use Rattle.std.specs.Option.{option_copied_mut}
use Rattle.policy_ctx.specs.declared.policy.KeyId.{KeyId}
use Rattle.user_claims.specs.Claims.{id_cmp}
use Rattle.key_ring.specs.declared.mode_key.ModeKey.{ModeKey}
use Rattle.key_ring.specs.ModeUsers.{with_users}
use Rattle.key_ring.specs.KeptModes.{ModeBox, modes_of}
use Rattle.key_ring.proofs.ModeLemmas.{held_more, held_first, mode_kept}
use Rattle.key_ring.proofs.mode_keys.hold_in.Goals as goal

pub returns-in-Some-clause-held : goal.returns-in-Some-clause-held
returns-in-Some-clause-held c =
    let there = subst IsSome c.get_mut.ensures.value (subst (λ r. IsSome (option_copied_mut r)) (sym c.in-Some.is) refl) in
    let mode : ModeKey = record { key = c.deref_mut.result.now.key; users = c.count_in.result + c.args.users } in
    let written : ModeBox = with_value c.in-Some.mode.now mode in
    held_more c.args.modes.now c.args.id.now (c.get_mut.follows.lender written) c.in-Some.mode.now written c.in-Some.ensures.value ((c.get_mut.follows.holds written).3 there).0
    c.args.key (c.count_in.result + c.args.users) c.args.users
    (ap (λ (m : ModeKey). let v : ModeKey = record { key = m.key; users = c.count_in.result + c.args.users } in v) c.deref_mut.ensures.value)
    (ap (λ n. n + c.args.users) c.count_in.ensures)

pub returns-in-Err-clause-represents : goal.returns-in-Err-clause-represents
returns-in-Err-clause-represents c = λ has. absurd (true≢false (sym has ∙ ap is_some (mode_kept c.args.modes.now c.args.id.now None c.in_default.ensures.value)))

pub returns-in-Ok-insert-clause-held : goal.returns-in-Ok-insert-clause-held
returns-in-Ok-insert-clause-held c =
    let none = subst (λ (m : BTreeMap KeyId ModeBox). None ≡ tree.get id_cmp m c.args.id.now) (sym c.get_mut.follows.holds-at-none) c.in_default.ensures.value in
    subst (λ (m : BTreeMap KeyId ModeBox). modes_of c.insert.new.self.entries ≡ with_users (modes_of m.entries) c.args.id.now c.args.key c.args.users) c.get_mut.follows.holds-at-none
    (held_first c.get_mut.follows.lender-at-none c.args.id.now c.insert.new.self c.in-Ok.mode c.args.key c.args.users c.args.users none c.in-Ok-insert.ensures.updates.0 c.in-Ok.ensures.ok)

pub returns-clause-represents : goal.returns-clause-represents
returns-clause-represents c = λ has. absurd (true≢false (sym has ∙ ap is_some (mode_kept c.args.modes.now c.args.id.now None c.in_default.ensures.value)))
