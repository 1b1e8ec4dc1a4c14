use Rattle.std.proofs.Common.{◌≡◌, length, take, drop, Ok, ◌++◌, ap, sym, ◌∙◌, arith}
use Rattle.std.proofs.lemmas.List.{take-append-drop}
use Rattle.std.proofs.lemmas.Slice.{between_to_end}
use Rattle.policy_ctx.proofs.Encodings.{policy_bytes-injective, take-context_bytes, drop-context_bytes}
use Rattle.policy_ctx.proofs.decode.decode_context.Goals as goal

pub returns-clause-found : goal.returns-clause-found
returns-clause-found c =
    let copied : c.copy_from_slice.new.self ≡ drop 24 c.args.bytes.now =
    c.copy_from_slice.ensures.after ∙ between_to_end c.args.bytes.now 24 (length c.args.bytes.now) (omega arith) in
    sym (take-append-drop 24 c.args.bytes.now) ∙ (λ i. c.in_ok-policy.ensures.found i ++ sym copied i)

pub returns-clause-every : goal.returns-clause-every
returns-clause-every c = λ it sizes is.
    let copied : c.copy_from_slice.new.self ≡ drop 24 c.args.bytes.now =
    c.copy_from_slice.ensures.after ∙ between_to_end c.args.bytes.now 24 (length c.args.bytes.now) (omega arith) in
    let policies : c.in_ok-policy.policy ≡ it.policy =
    policy_bytes-injective c.in_ok-policy.policy it.policy
    (sym c.in_ok-policy.ensures.found ∙ ap (λ b. take 24 b) is ∙ take-context_bytes it sizes.id) in
    let nonces : c.copy_from_slice.new.self ≡ it.nonce = copied ∙ ap (λ b. drop 24 b) is ∙ drop-context_bytes it sizes.id in
    λ i. Ok (record { policy = policies i; nonce = nonces i })
