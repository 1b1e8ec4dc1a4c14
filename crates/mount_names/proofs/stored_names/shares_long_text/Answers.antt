use Rattle.std.proofs.Common.{is_some, inl, inr, refl, ap, ◌∙◌, arith}
use Rattle.std.specs.Map.{lookup}
use Rattle.name_crypt.specs.NoKeyText.{nokey_text_of}
use Rattle.disk_tree.specs.DiskTree.{children}
use Rattle.mount_state.specs.Resolution.{is_text_of}
use Rattle.mount_names.proofs.ClashLemmas.{clash_found, stored_fits}
use Rattle.mount_names.proofs.stored_names.shares_long_text.Goals as goal

pub returns-in-Ok : goal.returns-in-Ok
returns-in-Ok c = λ m context name st here plain bytes form.
    let s = c.args.state.now in
    c.is_some.ensures
    ∙ (ap is_some (c.entry_by_text.ensures.value
    ∙ ap (λ t. lookup (is_text_of t) (children s.disk c.args.dir)) (c.bytes.ensures.value ∙ (c.nokey_text.ensures ∙ ap nokey_text_of c.in-Ok.ensures.value)))
    ∙ clash_found s.disk s.next_node m st.well st.tree c.args.dir name plain bytes context here c.names_come_back.ensures.fit c.args.stored.now form)

pub returns-in-Err : goal.returns-in-Err
returns-in-Err c = λ m context name st here plain bytes form.
    let s = c.args.state.now in
    let fits = stored_fits s.disk s.next_node m st.well st.tree c.args.dir name plain bytes context here c.names_come_back.ensures.fit c.args.stored.now form in
    elim (c.in-Err.ensures.length.0 refl) [
      | inl small ↦ absurd (omega (arith, fits.0))
      | inr large ↦ absurd (omega (arith, fits.1))
    ]
