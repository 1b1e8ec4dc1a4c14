use Rattle.std.proofs.Common.{◌≡◌, ◌-◌, ◌≤◌, None, IsSome, refl, ap, subst, sym, arith}
use Rattle.std.specs.Box.{with_value}
use Rattle.std.specs.Option.{option_copied_mut, option_map_or}
use Rattle.key_ring.specs.declared.mode_key.ModeKey.{ModeKey}
use Rattle.key_ring.specs.ModeUsers.{users_in}
use Rattle.key_ring.specs.KeptModes.{ModeBox, modes_of}
use Rattle.key_ring.proofs.ModeLemmas.{left_fewer, left_none, mode_kept}
use Rattle.key_ring.proofs.mode_keys.release_in.Goals as goal

pub returns-in-Some : goal.returns-in-Some
returns-in-Some c =
    let none : c.count_in-left.result - 1 ≡ 0 = c.if-left-eq0.true in
    let some : 1 ≤ users_in (modes_of c.args.modes.now.entries) c.args.id.now = c.requires in
    let count : c.count_in-left.result ≡ users_in (modes_of c.args.modes.now.entries) c.args.id.now = c.count_in-left.ensures in
    left_none c.args.modes.now c.args.id.now c.remove.new.self c.remove.ensures.updates.0 (omega arith)

pub returns-in_default : goal.returns-in_default
returns-in_default c =
    let none : c.count_in-left.result - 1 ≡ 0 = c.if-left-eq0.true in
    let some : 1 ≤ users_in (modes_of c.args.modes.now.entries) c.args.id.now = c.requires in
    let count : c.count_in-left.result ≡ users_in (modes_of c.args.modes.now.entries) c.args.id.now = c.count_in-left.ensures in
    left_none c.args.modes.now c.args.id.now c.remove.new.self c.remove.ensures.updates.0 (omega arith)

pub returns-in-Some-get_mut : goal.returns-in-Some-get_mut
returns-in-Some-get_mut c =
    let there = subst IsSome c.get_mut.ensures.value (subst (λ r. IsSome (option_copied_mut r)) (sym c.in-Some-get_mut.is) refl) in
    let mode : ModeKey = record { key = c.deref_mut-in-Some-get_mut.result.now.key; users = c.count_in-left.result - 1 } in
    let written : ModeBox = with_value c.in-Some-get_mut.mode.now mode in
    left_fewer c.args.modes.now c.args.id.now (c.get_mut.follows.lender written) c.in-Some-get_mut.mode.now written c.in-Some-get_mut.ensures.value ((c.get_mut.follows.holds written).3 there).0
    (c.count_in-left.result - 1)
    (ap (λ (m : ModeKey). let v : ModeKey = record { key = m.key; users = c.count_in-left.result - 1 } in v) c.deref_mut-in-Some-get_mut.ensures.value)
    (ap (λ n. n - 1) c.count_in-left.ensures)
    c.if-left-eq0.false

pub returns-in_default-get_mut : goal.returns-in_default-get_mut
returns-in_default-get_mut c =
    let some : 1 ≤ users_in (modes_of c.args.modes.now.entries) c.args.id.now = c.requires in
    let none : users_in (modes_of c.args.modes.now.entries) c.args.id.now ≡ 0 =
    ap (λ o. option_map_or (λ (m : ModeKey). m.users) o 0) (mode_kept c.args.modes.now c.args.id.now None c.in_default-get_mut.ensures.value) in
    absurd (omega arith)
