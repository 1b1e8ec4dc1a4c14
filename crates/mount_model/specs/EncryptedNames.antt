-- What an encrypted directory requires of a new name in it: the key, and a no-key text of its own.
use Rattle.std.specs.Prelude.{ℕ, Bool, false, Option, Some, None, not}
use Rattle.policy_ctx.specs.declared.policy.Context.{Context}
use Rattle.user_claims.specs.ClaimCounts.{is_present}
use Rattle.plain_tree.specs.Nodes.{Name}
use Rattle.plain_tree.specs.NodesByNumber.{context_at}
use Rattle.plain_tree.specs.Seals.{has_text}
use Rattle.mount_model.specs.PlainMount.{PlainMount}
use Rattle.mount_model.specs.Sealed.{texts}

-- there is a policy, and no user has a claim on its key
abbrev pub lacks_key : PlainMount → Option Context → Bool
lacks_key m None = false
lacks_key m (Some c) = not (is_present m.claims c.policy.id)

abbrev pub has_text_of : PlainMount → ℕ → Name → Option Context → Bool
has_text_of m d name None = false
has_text_of m d name (Some c) = has_text (texts m.raws) m.nodes d c (texts m.raws d c name)

-- the directory has a policy, and some name in it has the no-key text of this one
abbrev pub clashes : PlainMount → ℕ → Name → Bool
clashes m d name = has_text_of m d name (context_at m.nodes d)
