use Rattle.std.proofs.Common.{rules, ◌≡◌, ℕ, Some, List, ap, subst, ◌∙◌}
use Rattle.name_crypt.specs.declared.cipher.NameCipher.{NameCipher}
use Rattle.mount_names.specs.NameCiphers.{names_cipher}
use Rattle.mount_state.proofs.ContextLemmas.{same_some}
use Rattle.mount_names.proofs.ShownLemmas.{sealed_under}
use Rattle.mount_names.proofs.stored_names.sealed_again.Goals as goal

pub returns-clause-value : goal.returns-clause-value
returns-clause-value g c = λ m st names here keyed.
    let made : c.cipher_of.result ≡ Some c.in_ok-made.made = search rules in
    let is = same_some c.in_ok-made.made (names_cipher m.raws c.args.number c.args.context.now)
    (subst (λ o. o ≡ Some (names_cipher m.raws c.args.number c.args.context.now)) made (c.cipher_of.ensures.keyed m st names here keyed)) in
    ap (λ (x : List ℕ). Some x)
    (c.sealed-stored.ensures.value ∙ sealed_under m c.args.number c.args.context.now c.in_ok-made.made.key (ap (λ (x : NameCipher). x.key) is) c.args.name.now)
