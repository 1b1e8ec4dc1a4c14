use Rattle.std.proofs.Common.{◌≡◌, false, inl, inr, sym, ◌∙◌}
use Rattle.std.proofs.lemmas.Bool.{cases_Bool, true≢false}
use Rattle.plain_tree.specs.NodesByNumber.{is_dir_at}
use Rattle.mount_names.proofs.ReadLemmas.{dir_lies}
use Rattle.mount_names.proofs.CipherLemmas.{link_present, secret_there, drawn_cipher_is}
use Rattle.mount_names.proofs.ciphers.cipher_of.Goals as goal

pub returns-clause-keyed : goal.returns-clause-keyed
returns-clause-keyed c = λ m st names here keyed.
    let s = c.args.state.now in
    let context = c.args.context.now in
    let other : is_dir_at m.nodes c.args.number ≡ false = elim (cases_Bool (is_dir_at m.nodes c.args.number)) [
      | inl is ↦ absurd (true≢false (sym (c.is_dir.ensures.1 (dir_lies s.disk s.next_node m st.tree c.args.number is)) ∙ c.if-is_dir.false))
      | inr not_so ↦ not_so
    ] in
    drawn_cipher_is m c.args.number context here s.ring st.keys c.derived_cipher.result c.derived_cipher.ensures.value
    (secret_there m c.args.number context here s.ring st.keys c.derived_cipher.ensures.claimed
    (link_present m c.args.number context here st.well.handles names other keyed))
