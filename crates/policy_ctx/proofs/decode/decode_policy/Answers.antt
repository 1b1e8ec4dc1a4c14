use Rattle.std.proofs.Common.{◌≡◌, take, IfOk, [], ap, subst, ◌∙◌, arith}
use Rattle.std.proofs.lemmas.List.{take_all}
use Rattle.policy_ctx.specs.Policy.{policy_bytes}
use Rattle.policy_ctx.specs.PolicyFaults.{header_fault}
use Rattle.policy_ctx.proofs.Encodings.{read_policy_is, header_fault-policy_bytes}
use Rattle.policy_ctx.proofs.decode.decode_policy.Goals as goal

pub returns-clause-found : goal.returns-clause-found
returns-clause-found c =
    let whole : take 24 c.args.bytes.now ≡ c.args.bytes.now = take_all 24 c.args.bytes.now (omega arith) in
    subst (λ b. IfOk c.read_policy.result (λ p. b ≡ policy_bytes p)) whole c.read_policy.ensures.found

pub returns-clause-every : goal.returns-clause-every
returns-clause-every c = λ p size is.
    let whole : take 24 c.args.bytes.now ≡ c.args.bytes.now = take_all 24 c.args.bytes.now (omega arith) in
    read_policy_is c.read_policy.result c.args.bytes.now p c.read_policy.ensures.found c.read_policy.ensures.fault
    (whole ∙ is) (ap header_fault is ∙ header_fault-policy_bytes p [])
