use Rattle.std.proofs.Common.{◌≡◌, ◌≤◌, ap, sym, ◌∙◌, arith, refl, length, inl, inr, subst, Contains}
use mathlib.Core.Bool.{true≢false}
use Rattle.std.proofs.lemmas.Bool.{cases_eq}
use Rattle.std.proofs.lemmas.List.{nil_from_length}
use Rattle.name_crypt.specs.StoredName.{plain_name_with, before_nul}
use Rattle.name_crypt.proofs.NameLemmas.{before_nul-none, length-before_nul}
use Rattle.name_crypt.proofs.encrypt.decrypt_name_with.Goals as goal

pub returns-in-Ok-clause-value : goal.returns-in-Ok-clause-value
unfolding plain_name_with
returns-in-Ok-clause-value c =
    c.in-Ok.ensures.value ∙ c.before_nul.ensures ∙ ap before_nul (c.bytes.ensures.value ∙ c.decrypted_text-bytes.ensures)

pub returns-in-Ok-clause-not_plain : goal.returns-in-Ok-clause-not_plain
unfolding plain_name_with
returns-in-Ok-clause-not_plain c =
    let is : c.before_nul.result.now ≡ plain_name_with c.args.key.now c.args.iv c.args.stored.now =
    c.before_nul.ensures ∙ ap before_nul (c.bytes.ensures.value ∙ c.decrypted_text-bytes.ensures) in
    let some = (c.in-Ok.ensures.plain.0 refl).0 in
    (λ e. absurd (true≢false (sym e)), λ empty. absurd (omega (arith, ap length (is ∙ empty), some)))

pub returns-in-Err-clause-not_plain : goal.returns-in-Err-clause-not_plain
unfolding plain_name_with
returns-in-Err-clause-not_plain c =
    let is : c.before_nul.result.now ≡ plain_name_with c.args.key.now c.args.iv c.args.stored.now =
    c.before_nul.ensures ∙ ap before_nul (c.bytes.ensures.value ∙ c.decrypted_text-bytes.ensures) in
    let few : length c.before_nul.result.now ≤ 255 =
    omega (arith, ap length c.before_nul.ensures, length-before_nul c.bytes.result.now, c.bytes.ensures.bound) in (
      λ _. elim (cases_eq (length c.before_nul.result.now) 0) [
        | inl zero ↦ sym is ∙ nil_from_length c.before_nul.result.now zero
        | inr more ↦ absurd (true≢false (sym (c.in-Err.ensures.plain.1 (omega (arith, more), few, subst (λ bytes. ¬ Contains bytes 0) (sym c.before_nul.ensures) (before_nul-none c.bytes.result.now)))))
      ],
      λ _. refl,
    )
