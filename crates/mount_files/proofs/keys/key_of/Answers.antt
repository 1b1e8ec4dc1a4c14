use Rattle.std.proofs.Common.{◌≡◌, Some, option_map, sym, ap, ◌∙◌}
use Rattle.policy_ctx.specs.Context.{context_bytes}
use Rattle.mount_files.proofs.SealLemmas.{key_held}
use Rattle.mount_files.proofs.keys.key_of.Goals as goal

pub returns-in-Ok-Some-clause-held : goal.returns-in-Ok-Some-clause-held
returns-in-Ok-Some-clause-held c = λ has.
    let held = key_held c.args.state.now c.args.file has c.in-Ok-Some.context
    (c.in-Ok-Some.ensures.found ∙ ap (option_map context_bytes) c.in-Ok-Some.field-0-is)
    (λ other sized there. let same = sym c.in-Ok-Some.is ∙ c.context_on.ensures.read other sized there in
    let inner : c.in-Ok-Some.field-0 ≡ Some other = cc same in
    sym c.in-Ok-Some.field-0-is ∙ inner) in
    c.key_under.ensures.held held.0 held.1
