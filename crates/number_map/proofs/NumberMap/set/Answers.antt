-- A number that has a value retains its slot; a new one uses the vacant slot.
use Rattle.std.proofs.Common.{rules, ◌≡◌, ◌<◌, ◌^◌, ℕ, ◌+◌, length, List, Some, None, is_some, sym, ap, ◌∙◌, refl, arith}
use Rattle.slab.specs.Slab.{get, slab_len}
use Rattle.number_map.specs.Numbered as map
use Rattle.number_map.specs.Slots.{key_at}
use Rattle.number_map.proofs.RisingLemmas.{put_found, put_other, length_put}
use Rattle.number_map.proofs.SlotLemmas.{get_missing, Touches, touched_sound, touched_insert, own_found, own_vacant}
use Rattle.number_map.proofs.NumberMap.set.Given.{Over}
use Rattle.number_map.proofs.NumberMap.set.Goals as goal

pub returns-in-Some-clause-put : goal.returns-in-Some-clause-put
returns-in-Some-clause-put g c =
    let found : Some c.in-Some.field-0.now ≡ key_at c.self.inside.index c.args.number = c.in-Some.ensures in
    touched_insert c.self.inside.slots c.replace.new.slots c.self.inside.index c.self.inside.index c.args.number c.in-Some.field-0.now
    (record {
      own = own_found c.self.inside.slots c.self.inside.index c.args.number c.in-Some.field-0.now c.self.invariant found;
      slots = c.replace.ensures.updates.others;
      numbers = λ other differ. refl;
    })
    c.args.value found c.replace.ensures.updates.changed
    ∙ ap (λ m. map.insert m c.args.number c.args.value) c.self.view_is

pub returns-in_err-reserve-clause-only_new : goal.returns-in_err-reserve-clause-only_new
returns-in_err-reserve-clause-only_new g c =
    let lacks : map.get c.args.self.now c.args.number ≡ None = get_missing c.self.inside.slots c.self.inside.index _ c.args.number c.self.view_is c.in_default.ensures in
    search (rules, lacks)

pub returns-in_err-put-clause-only_new : goal.returns-in_err-put-clause-only_new
returns-in_err-put-clause-only_new g c =
    let lacks : map.get c.args.self.now c.args.number ≡ None = get_missing c.self.inside.slots c.self.inside.index _ c.args.number c.self.view_is c.in_default.ensures in
    search (rules, lacks)

placed : (g : Over) (c : goal.After-insert_reserved g) → key_at c.put.new.self c.args.number ≡ Some c.insert_reserved.result
placed g c =
    ap (λ (i : List (ℕ × ℕ)). key_at i c.args.number) c.in_ok-put.ensures.put
    ∙ put_found c.args.number c.vacant_key-key.result c.self.inside.index
    ∙ ap (λ k. Some k) (c.vacant_key-key.ensures.value ∙ sym c.insert_reserved.ensures.key)

vacant : (g : Over) (c : goal.After-insert_reserved g) → get c.self.inside.slots c.insert_reserved.result ≡ None
vacant g c = ap (λ s. get s c.insert_reserved.result) (sym c.in_ok-reserve.ensures.rest_kept) ∙ c.insert_reserved.ensures.was_vacant

touches : (g : Over) (c : goal.After-insert_reserved g) → Touches c.self.inside.slots c.insert_reserved.new.self c.self.inside.index c.put.new.self c.args.number c.insert_reserved.result
touches g c =
    record {
      own = λ other differ. own_vacant c.self.inside.slots c.self.inside.index c.insert_reserved.result c.self.invariant (vacant g c) other;
      slots = λ other differ. c.insert_reserved.ensures.updates.others other differ ∙ ap (λ s. get s other) c.in_ok-reserve.ensures.rest_kept;
      numbers = λ other differ. ap (λ (i : List (ℕ × ℕ)). key_at i other) c.in_ok-put.ensures.put ∙ put_other c.args.number other c.vacant_key-key.result c.self.inside.index differ;
    }

more_counted : (g : Over) (c : goal.After-insert_reserved g) → slab_len c.insert_reserved.new.self ≡ length c.put.new.self
more_counted g c =
    let index : length c.put.new.self ≡ length c.self.inside.index + 1
    = ap (λ (i : List (ℕ × ℕ)). length i) c.in_ok-put.ensures.put ∙ length_put c.args.number c.vacant_key-key.result c.self.inside.index (sym c.in_default.ensures) in
    let slots : slab_len c.insert_reserved.new.self ≡ slab_len c.self.inside.slots + 1
    = c.insert_reserved.ensures.len ∙ ap (λ s. slab_len s + 1) c.in_ok-reserve.ensures.rest_kept in
    let both : slab_len c.self.inside.slots ≡ length c.self.inside.index = c.self.invariant.counted in
    omega arith

pub invariant_of-self-2 : goal.invariant_of-self-2
invariant_of-self-2 g c =
    let fits : c.args.number < 2 ^ 32 = omega (arith, c.ranges.number) in
    touched_sound c.self.inside.slots c.insert_reserved.new.self c.self.inside.index c.put.new.self c.args.number c.insert_reserved.result
    (touches g c) c.self.invariant fits (more_counted g c)
    (λ k has.
    let one : Some c.insert_reserved.result ≡ Some k = sym (placed g c) ∙ has in
    let same : k ≡ c.insert_reserved.result = cc in
    (same, ap (λ n. is_some (get c.insert_reserved.new.self n)) same ∙ ap is_some c.insert_reserved.ensures.updates.changed))

pub returns-clause-put : goal.returns-clause-put
returns-clause-put g c =
    touched_insert c.self.inside.slots c.insert_reserved.new.self c.self.inside.index c.put.new.self c.args.number c.insert_reserved.result
    (touches g c) c.args.value (sym (placed g c)) c.insert_reserved.ensures.updates.changed
    ∙ ap (λ m. map.insert m c.args.number c.args.value) c.self.view_is
