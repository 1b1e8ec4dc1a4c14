use Rattle.std.proofs.Common.{rules, ◌≡◌, ℕ, Some, None, List, Option, sym, ap, ◌∙◌}
use Rattle.policy_ctx.specs.declared.policy.Context.{Context}
use Rattle.mount_model.specs.EncryptedNames.{lacks_key}
use Rattle.mount_state.specs.Stored.{stored_form}
use Rattle.mount_names.specs.NameCiphers.{names_cipher}
use Rattle.mount_state.proofs.ContextLemmas.{same_some}
use Rattle.mount_names.proofs.ShownLemmas.{sealed_by}
use Rattle.mount_names.proofs.LinkLemmas.{coming_cipher}
use Rattle.mount_names.proofs.symlinks.target_stored.Goals as goal

pub returns-in-Some-derived_cipher-clause-value : goal.returns-in-Some-derived_cipher-clause-value
returns-in-Some-derived_cipher-clause-value g c = λ m st holds.
    let s = c.args.state.now in
    let was : c.args.context.now ≡ Some c.in-Some.context = search rules in
    let is = same_some c.in-Some-derived_cipher.cipher (names_cipher m.raws s.next_node c.in-Some.context)
    (coming_cipher m s.next_node c.in-Some.context s.ring st.keys c.in-Some-derived_cipher.ensures.claimed (ap (lacks_key m) (sym was) ∙ holds)
    (Some c.in-Some-derived_cipher.cipher) c.in-Some-derived_cipher.ensures.value) in
    ap (λ (x : List ℕ). Some x)
    (c.encrypt_stored_name-stored.ensures.value
    ∙ sealed_by m s.next_node c.in-Some.context c.in-Some-derived_cipher.cipher is c.args.target.now
    ∙ ap (λ (o : Option Context). stored_form m.raws s.next_node o c.args.target.now) (sym was))

pub returns-in-None-derived_cipher-clause-value : goal.returns-in-None-derived_cipher-clause-value
returns-in-None-derived_cipher-clause-value g c = λ m st holds.
    let s = c.args.state.now in
    let was : c.args.context.now ≡ Some c.in-Some.context = search rules in
    let bad : None ≡ Some (names_cipher m.raws s.next_node c.in-Some.context)
    = coming_cipher m s.next_node c.in-Some.context s.ring st.keys c.in-None-derived_cipher.ensures.claimed (ap (lacks_key m) (sym was) ∙ holds) None c.in-None-derived_cipher.ensures.value in
    absurd (cc)
