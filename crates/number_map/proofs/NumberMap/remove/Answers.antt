-- The number is removed from the index, and its value from the slot, which no other number has.
use Rattle.std.proofs.Common.{◌≡◌, length, ◌+◌, Option, Some, None, is_some, IsSome, OnSome, sym, ap, ◌∙◌, arith}
use Rattle.slab.specs.Slab.{slab_len}
use Rattle.number_map.specs.Numbered as map
use Rattle.number_map.specs.Slots.{key_at, stored}
use Rattle.number_map.proofs.NumberedLemmas.{remove_same}
use Rattle.number_map.proofs.RowLemmas.{none_removed}
use Rattle.number_map.proofs.RisingLemmas.{gone_other, length_gone}
use Rattle.number_map.proofs.SlotLemmas.{get_found, get_missing, Touches, touched_sound, touched_remove, own_found, sound_again}
use Rattle.number_map.proofs.NumberMap.remove.Given.{Over}
use Rattle.number_map.proofs.NumberMap.remove.Goals as goal

found : (g : Over) (c : goal.After-try_remove g) → Some c.in-Some.key ≡ key_at c.self.inside.index c.args.number
found g c = sym c.in-Some.is ∙ c.remove.ensures.value

touches : (g : Over) (c : goal.After-try_remove g) → Touches c.self.inside.slots c.try_remove.new.self c.self.inside.index c.remove.new.self c.args.number c.in-Some.key
touches g c =
    record {
      own = own_found c.self.inside.slots c.self.inside.index c.args.number c.in-Some.key c.self.invariant (found g c);
      slots = c.try_remove.ensures.updates.others;
      numbers = λ other differ. ap (λ i. key_at i other) c.remove.ensures.removed ∙ gone_other c.args.number other c.self.inside.index differ;
    }

on_some : {T : Type 0} (o : Option T) (P : Type 0) → IsSome o → OnSome o P → P
on_some None P some holds = absurd (cc)
on_some (Some x) P some holds = holds

less_counted : (g : Over) (c : goal.After-try_remove g) → slab_len c.try_remove.new.self ≡ length c.remove.new.self
less_counted g c =
    let filled = c.self.invariant.filled c.args.number c.in-Some.key (sym (found g c)) in
    let some : IsSome c.try_remove.result = ap is_some c.try_remove.ensures.value ∙ filled in
    let slots : slab_len c.try_remove.new.self + 1 ≡ slab_len c.self.inside.slots = on_some c.try_remove.result _ some c.try_remove.ensures.len in
    let index : length c.remove.new.self + 1 ≡ length c.self.inside.index
    = ap (λ i. length i + 1) c.remove.ensures.removed ∙ length_gone c.args.number c.in-Some.key c.self.inside.index (sym (found g c)) in
    let both : slab_len c.self.inside.slots ≡ length c.self.inside.index = c.self.invariant.counted in
    omega arith

pub invariant_of-self : goal.invariant_of-self
invariant_of-self g c =
    touched_sound c.self.inside.slots c.try_remove.new.self c.self.inside.index c.remove.new.self c.args.number c.in-Some.key
    (touches g c) c.self.invariant (c.self.invariant.ranged c.args.number c.in-Some.key (sym (found g c))) (less_counted g c)
    (λ k has. let lacks : None ≡ Some k = sym c.remove.ensures.gone ∙ has in absurd (cc))

pub returns-in-Some-clause-value : goal.returns-in-Some-clause-value
returns-in-Some-clause-value g c =
    c.try_remove.ensures.value
    ∙ sym (get_found c.self.inside.slots c.self.inside.index _ c.args.number c.in-Some.key c.self.view_is (found g c))

pub returns-in-Some-clause-removed : goal.returns-in-Some-clause-removed
returns-in-Some-clause-removed g c =
    touched_remove c.self.inside.slots c.try_remove.new.self c.self.inside.index c.remove.new.self c.args.number c.in-Some.key
    (touches g c) (sym c.remove.ensures.gone)
    ∙ ap (λ m. map.remove m c.args.number) c.self.view_is

missing : (g : Over) (c : goal.In-None g) → map.get c.args.self.now c.args.number ≡ None
missing g c =
    get_missing c.self.inside.slots c.self.inside.index _ c.args.number c.self.view_is (sym c.in-None.is ∙ c.remove.ensures.value)

-- the index is as it was
unchanged : (g : Over) (c : goal.In-None g) → c.remove.new.self ≡ c.self.inside.index
unchanged g c = c.remove.ensures.removed ∙ sym (none_removed c.args.number c.self.inside.index (sym c.remove.ensures.value ∙ c.in-None.is))

pub invariant_of-self-in-None : goal.invariant_of-self-in-None
invariant_of-self-in-None g c = sound_again c.self.inside.slots c.self.inside.index c.remove.new.self (unchanged g c) c.self.invariant

pub returns-in-None-clause-value : goal.returns-in-None-clause-value
returns-in-None-clause-value g c = sym (missing g c)

pub returns-in-None-clause-removed : goal.returns-in-None-clause-removed
returns-in-None-clause-removed g c =
    ap (stored c.self.inside.slots) (unchanged g c) ∙ c.self.view_is
    ∙ sym (remove_same c.args.self.now c.args.number (missing g c))
