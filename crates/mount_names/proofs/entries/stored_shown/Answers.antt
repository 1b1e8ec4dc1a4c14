use Rattle.std.proofs.Common.{◌≡◌, ℕ, Some, List, Option, option_map, refl, sym, ap, subst, ◌∙◌, arith}
use Rattle.std.specs.Prelude.{option_copied}
use Rattle.std.specs.Map.{lookup_entry}
use Rattle.std.proofs.lemmas.Bool.{false≢true}
use Rattle.disk_tree.specs.DiskTree.{entries_in}
use Rattle.disk_tree.specs.declared.node.StoredNode.{StoredNode}
use Rattle.mount_model.specs.Walk.{visible_entry}
use Rattle.mount_state.specs.Resolution.{is_text_of}
use Rattle.mount_state.specs.Stored.{stored_form}
use Rattle.mount_names.specs.FoundEntries.{form_in, IsStoredFor}
use Rattle.mount_names.proofs.FoundLemmas.{other_part, keyed_part, locked_part}
use Rattle.mount_names.proofs.PlaceLemmas.{dir_names}
use Rattle.mount_names.proofs.entries.stored_shown.Goals as goal

pub returns-then-not-keyed-clause-named : goal.returns-then-not-keyed-clause-named
returns-then-not-keyed-clause-named g c = λ m st is_dir keyed.
    let s = c.args.state.now in
    let named = c.stored_by_text.ensures
    ∙ ap (λ (o : Option StoredNode). option_map (λ (e : List ℕ × ℕ). e.0) (lookup_entry (is_text_of c.args.part.now) (entries_in o))) (sym c.requires.there) in
    subst (λ (o : Option (List ℕ)). IsStoredFor s.disk m c.args.dir (visible_entry m c.args.dir c.args.part.now) o) (sym named)
    (locked_part s.disk s.next_node m st.well st.tree c.args.dir c.args.part.now c.names_come_back.ensures.fit (sym keyed ∙ c.if-not-keyed.true))

pub returns-then-not-is_plain-clause-named : goal.returns-then-not-is_plain-clause-named
returns-then-not-is_plain-clause-named g c = λ m st is_dir keyed.
    let s = c.args.state.now in
    other_part s.disk s.next_node m st.well st.tree c.args.dir c.args.part.now (sym keyed ∙ c.if-not-keyed.false)
    (λ plain. false≢true (sym c.if-not-is_plain.true ∙ c.is_plain.ensures.1 plain))

pub returns-clause-named : goal.returns-clause-named
returns-clause-named g c = λ m st is_dir keyed.
    let s = c.args.state.now in
    let d = c.args.dir in
    let here = sym keyed ∙ c.if-not-keyed.false in
    let is = c.reported_context-context.ensures m st in
    let names = dir_names s.disk s.next_node m st.well st.tree d is_dir in
    let key = c.stored_as.ensures.ranged m st names is here in
    let form : option_copied c.stored_as.result ≡ Some (form_in m d c.args.part.now)
    = c.stored_as.ensures.value m st names is here
    ∙ (λ i. Some (stored_form m.raws d (is i) c.args.part.now)) in
    subst (λ (o : Option (List ℕ)). IsStoredFor s.disk m d (visible_entry m d c.args.part.now) o) (sym form)
    (keyed_part s.disk s.next_node m st.well st.tree d c.args.part.now here is_dir c.names_come_back.ensures.distinct key (c.is_plain.ensures.0 c.if-not-is_plain.false) (λ i. omega (arith, c.type_inv.part i)) (form_in m d c.args.part.now) refl)
