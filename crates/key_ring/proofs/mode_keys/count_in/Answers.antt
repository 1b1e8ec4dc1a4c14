use Rattle.std.proofs.Common.{Some, None, sym, ap, ◌∙◌}
use Rattle.std.specs.Option.{option_map_or}
use Rattle.key_ring.specs.declared.mode_key.ModeKey.{ModeKey}
use Rattle.key_ring.proofs.ModeLemmas.{mode_kept}
use Rattle.key_ring.proofs.mode_keys.count_in.Goals as goal

pub returns-in-Some : goal.returns-in-Some
returns-in-Some c = ap (λ (m : ModeKey). m.users) c.deref.ensures
    ∙ sym (ap (λ o. option_map_or (λ (m : ModeKey). m.users) o 0) (mode_kept c.args.modes.now c.args.id.now (Some c.in-Some.mode.now) c.in-Some.ensures.value))

pub returns-in-None : goal.returns-in-None
returns-in-None c = sym (ap (λ o. option_map_or (λ (m : ModeKey). m.users) o 0) (mode_kept c.args.modes.now c.args.id.now None c.in-None.ensures.value))
