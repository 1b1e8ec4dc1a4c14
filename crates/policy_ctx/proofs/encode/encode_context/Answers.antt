use Rattle.std.proofs.Common.{◌++◌, refl, replicate, ◌∙◌}
use Rattle.policy_ctx.proofs.Encodings.{put_behind}
use Rattle.policy_ctx.proofs.encode.encode_context.Goals as goal

pub returns : goal.returns
returns c =
    put_behind c.copy_from_slice.new.self (replicate 16 0) c.copy_from_slice-2.new.self 24 16 c.copy_from_slice.ensures.len refl
    ∙ (λ i. (c.copy_from_slice.ensures.after ∙ c.encode_policy.ensures) i ++ c.copy_from_slice-2.ensures.after i)
