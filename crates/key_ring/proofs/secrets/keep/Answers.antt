use Rattle.std.proofs.Common.{IsSome, is_some, refl, ap, subst, sym, ◌∙◌}
use Rattle.std.proofs.lemmas.Bool.{true≢false}
use Rattle.std.specs.Box.{with_value}
use Rattle.std.specs.BTreeMap.{BTreeMap}
use Rattle.std.specs.Option.{option_copied_mut, option_map}
use Rattle.policy_ctx.specs.declared.policy.KeyId.{KeyId}
use Rattle.user_claims.proofs.ClaimOrder.{id_cmp_total, id_cmp-IsAntisymmetric}
use Rattle.std.specs.FinMap as map
use Rattle.key_counts.proofs.ShownLemmas.{shown-inserted, get-shown}
use Rattle.key_ring.specs.Kept.{SecretBox, secrets_of}
use Rattle.key_ring.proofs.secrets.keep.Goals as goal

pub returns-in-Some-clause-taken : goal.returns-in-Some-clause-taken
returns-in-Some-clause-taken c =
    let there = subst IsSome c.get_mut.ensures.value (subst (λ r. IsSome (option_copied_mut r)) (sym c.in-Some.is) refl) in
    let secret : SecretBox = with_value (with_value c.in-Some.kept.now c.wipe.new.self) c.args.key in
    shown-inserted id_cmp_total (λ (s : SecretBox). s.value) id_cmp-IsAntisymmetric c.args.secrets.now (c.get_mut.follows.lender secret) c.args.id secret ((c.get_mut.follows.holds secret).3 there).0

pub returns-in-Err-clause-held : goal.returns-in-Err-clause-held
returns-in-Err-clause-held c = λ has. absurd (true≢false (sym has ∙ ap is_some (get-shown id_cmp_total (λ (s : SecretBox). s.value) c.args.secrets.now.entries c.args.id
    ∙ ap (option_map (λ (s : SecretBox). s.value)) (sym c.in_default.ensures.value))))

pub returns-in-Ok-insert-clause-taken : goal.returns-in-Ok-insert-clause-taken
returns-in-Ok-insert-clause-taken c =
    shown-inserted id_cmp_total (λ (s : SecretBox). s.value) id_cmp-IsAntisymmetric c.get_mut.follows.lender-at-none c.insert.new.self c.args.id c.in-Ok.secret c.in-Ok-insert.ensures.updates.0
    ∙ (ap (λ (m : BTreeMap KeyId SecretBox). map.insert (secrets_of m.entries) c.args.id c.in-Ok.secret.value) c.get_mut.follows.holds-at-none
    ∙ ap (map.insert (secrets_of c.args.secrets.now.entries) c.args.id) c.in-Ok.ensures.ok)

pub returns-clause-held : goal.returns-clause-held
returns-clause-held c = λ has. absurd (true≢false (sym has ∙ ap is_some (get-shown id_cmp_total (λ (s : SecretBox). s.value) c.args.secrets.now.entries c.args.id
    ∙ ap (option_map (λ (s : SecretBox). s.value)) (sym c.in_default.ensures.value))))
