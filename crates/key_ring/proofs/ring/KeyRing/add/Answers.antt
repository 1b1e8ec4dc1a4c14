use Rattle.std.proofs.Common.{rules, ◌≡◌, sym, ap, ◌∙◌, subst}
use Rattle.std.proofs.lemmas.Bool.{true≢false}
use Rattle.std.specs.FinMap as map
use Rattle.fsc_keys.specs.Keys.{key_id_of}
use Rattle.user_claims.specs.Claims.{ClaimSet, has_claim, with_claim}
use Rattle.key_ring.specs.Holding.{Holding, SecretMap, HoldsClaimedSecrets}
use Rattle.key_ring.specs.Kept.{secrets_of}
use Rattle.key_ring.proofs.RingLemmas.{exact_taken, undone, unheld, at_ok, at_err}
use Rattle.key_ring.proofs.ring.KeyRing.add.Goals as goal

pub invariant_of-self-then-is_err : goal.invariant_of-self-then-is_err
invariant_of-self-then-is_err c =
    let new = unheld c.self.inside.claims (secrets_of c.self.inside.secrets.entries) c.self.invariant c.id-id.result c.args.uid c.keep.result (sym c.is_err.ensures.value ∙ c.if-is_err.true) c.keep.ensures.held in
    let back = undone c.self.inside.claims (secrets_of c.self.inside.secrets.entries) c.self.invariant c.claim.new.self c.unclaim.new.self c.id-id.result c.args.uid new (search rules) c.unclaim.ensures.gone in
    let untouched : secrets_of c.keep.new.secrets.entries ≡ secrets_of c.self.inside.secrets.entries = at_err c.keep.result (sym c.is_err.ensures.value ∙ c.if-is_err.true) c.keep.ensures.kept in
    subst (λ (cs : ClaimSet). HoldsClaimedSecrets (record { claims = cs; secrets = secrets_of c.keep.new.secrets.entries })) (sym back)
    (subst (λ (s : SecretMap). HoldsClaimedSecrets (record { claims = c.self.inside.claims; secrets = s })) (sym untouched) c.self.invariant)

pub returns-then-is_err-clause-kept : goal.returns-then-is_err-clause-kept
returns-then-is_err-clause-kept c =
    let new = unheld c.self.inside.claims (secrets_of c.self.inside.secrets.entries) c.self.invariant c.id-id.result c.args.uid c.keep.result (sym c.is_err.ensures.value ∙ c.if-is_err.true) c.keep.ensures.held in
    let back = undone c.self.inside.claims (secrets_of c.self.inside.secrets.entries) c.self.invariant c.claim.new.self c.unclaim.new.self c.id-id.result c.args.uid new (search rules) c.unclaim.ensures.gone in
    let untouched : secrets_of c.keep.new.secrets.entries ≡ secrets_of c.self.inside.secrets.entries = at_err c.keep.result (sym c.is_err.ensures.value ∙ c.if-is_err.true) c.keep.ensures.kept in
    let same : Holding = record { claims = c.self.inside.claims; secrets = secrets_of c.self.inside.secrets.entries } in
    (λ i. record { claims = back i; secrets = untouched i }) ∙ c.self.view_is

pub returns-then-is_err-clause-held : goal.returns-then-is_err-clause-held
returns-then-is_err-clause-held c = λ held.
    let new = unheld c.self.inside.claims (secrets_of c.self.inside.secrets.entries) c.self.invariant c.id-id.result c.args.uid c.keep.result (sym c.is_err.ensures.value ∙ c.if-is_err.true) c.keep.ensures.held in
    absurd (true≢false (sym held ∙ (sym (ap (λ (ring : Holding). has_claim ring.claims (key_id_of c.args.raw.now) c.args.uid) c.self.view_is)
    ∙ (sym (ap (λ id. has_claim c.self.inside.claims id c.args.uid) (c.id-id.ensures ∙ ap key_id_of (c.new-key.ensures ∙ c.copy.ensures))) ∙ new))))

pub invariant_of-self-else-is_err : goal.invariant_of-self-else-is_err
invariant_of-self-else-is_err c =
    let taken : secrets_of c.keep.new.secrets.entries ≡ map.insert (secrets_of c.self.inside.secrets.entries) c.id-id.result c.new-key.result = at_ok c.keep.result (sym c.is_err.ensures.value ∙ c.if-is_err.false) c.keep.ensures.taken in
    subst (λ (cs : ClaimSet). HoldsClaimedSecrets (record { claims = cs; secrets = secrets_of c.keep.new.secrets.entries })) (sym (let made : c.claim.new.self ≡ with_claim c.self.inside.claims c.id-id.result c.args.uid = search rules in made))
    (subst (λ (s : SecretMap). HoldsClaimedSecrets (record { claims = with_claim c.self.inside.claims c.id-id.result c.args.uid; secrets = s })) (sym taken)
    (exact_taken c.self.inside.claims (secrets_of c.self.inside.secrets.entries) c.self.invariant c.id-id.result c.args.uid c.new-key.result))
