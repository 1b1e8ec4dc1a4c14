use Rattle.std.proofs.Common.{◌≡◌, rules, ap, ◌∙◌}
use Rattle.policy_ctx.specs.declared.policy.KeyId.{KeyId}
use Rattle.policy_ctx.specs.Context.{id_in}
use Rattle.policy_ctx.proofs.Encodings.{id_in-context_bytes}
use Rattle.policy_ctx.proofs.encode.id_in.Goals as goal

pub returns-clause-of_context : goal.returns-clause-of_context
returns-clause-of_context c =
    let copied : KeyId = record { 0 = c.copy_from_slice.new.self } in
    let read : copied ≡ id_in c.args.context.now = search rules in
    λ it size is. read ∙ ap id_in is ∙ id_in-context_bytes it size
