use Rattle.std.proofs.Common.{Some, None, sym, ap, ◌∙◌}
use Rattle.std.specs.Option.{option_map}
use Rattle.key_ring.specs.declared.mode_key.ModeKey.{ModeKey}
use Rattle.key_ring.proofs.ModeLemmas.{mode_kept}
use Rattle.key_ring.proofs.mode_keys.key_in.Goals as goal

pub returns-in-Some : goal.returns-in-Some
returns-in-Some c = ap (λ (m : ModeKey). Some m.key) c.deref.ensures
    ∙ sym (ap (option_map (λ (m : ModeKey). m.key)) (mode_kept c.args.modes.now c.args.id.now (Some c.in-Some.mode.now) c.in-Some.ensures.value))

pub returns-in-None : goal.returns-in-None
returns-in-None c = sym (ap (option_map (λ (m : ModeKey). m.key)) (mode_kept c.args.modes.now c.args.id.now None c.in-None.ensures.value))
