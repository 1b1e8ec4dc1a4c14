use Rattle.std.proofs.Common.{rules, ◌≡◌, ℕ, Some, List, Option, sym, ap, subst, ◌∙◌}
use Rattle.byte_words.specs.Bytes.{AreBytes}
use Rattle.policy_ctx.specs.declared.policy.Context.{Context}
use Rattle.fsc_keys.specs.Keys.{key_bytes}
use Rattle.fsc_keys.specs.declared.file_keys.KeyKind.TheVariants.{Names}
use Rattle.mount_model.specs.Sealed.{node_key}
use Rattle.mount_state.specs.NamesCipher.{own_names_key}
use Rattle.mount_state.specs.Stored.{stored_form}
use Rattle.mount_state.proofs.ContextLemmas.{same_some}
use Rattle.mount_state.proofs.KeyedLemmas.{own_is}
use Rattle.mount_names.proofs.ShownLemmas.{sealed_under}
use Rattle.mount_names.proofs.stored_names.stored_as.Goals as goal

pub returns-in-Some-own_cipher-clause-value : goal.returns-in-Some-own_cipher-clause-value
returns-in-Some-own_cipher-clause-value g c = λ m st names here keyed.
    let s = c.args.state.now in
    let was : c.args.context.now ≡ Some c.in-Some.context = search rules in
    let found : own_names_key s.inodes c.args.number c.in-Some.context ≡ Some c.in-Some-own_cipher.cipher.now = search rules in
    let key = own_is m c.args.number c.in-Some.context (sym here ∙ was) s.inodes s.modes st.caches names c.in-Some-own_cipher.cipher.now found in
    ap (λ (x : List ℕ). Some x)
    (c.sealed.ensures.value ∙ sealed_under m c.args.number c.in-Some.context c.in-Some-own_cipher.cipher.now (ap key_bytes key) c.args.name.now)
    ∙ ap (λ (o : Option Context). Some (stored_form m.raws c.args.number o c.args.name.now)) (sym was)

pub returns-in-Some-own_cipher-clause-ranged : goal.returns-in-Some-own_cipher-clause-ranged
returns-in-Some-own_cipher-clause-ranged g c = λ m st names here keyed other there.
    let s = c.args.state.now in
    let was : c.args.context.now ≡ Some c.in-Some.context = search rules in
    let found : own_names_key s.inodes c.args.number c.in-Some.context ≡ Some c.in-Some-own_cipher.cipher.now = search rules in
    let key = own_is m c.args.number c.in-Some.context (sym here ∙ was) s.inodes s.modes st.caches names c.in-Some-own_cipher.cipher.now found in
    let is = same_some c.in-Some.context other (sym was ∙ (here ∙ there)) in
    subst (λ (x : Context). AreBytes (key_bytes (node_key m.raws x Names))) is (subst AreBytes (ap key_bytes key) c.in-Some-own_cipher.ensures.ranged)

pub returns-in-None-clause-value : goal.returns-in-None-clause-value
returns-in-None-clause-value g c = λ m st names here keyed.
    let was : c.args.context.now ≡ Some c.in-Some.context = search rules in
    c.sealed_again.ensures.value m st names (sym here ∙ was) keyed
    ∙ ap (λ (o : Option Context). Some (stored_form m.raws c.args.number o c.args.name.now)) (sym was)
