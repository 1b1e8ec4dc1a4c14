use Rattle.std.proofs.Common.{rules, ◌≡◌, Some, None, sym, ap, subst, ◌∙◌}
use Rattle.disk_tree.specs.DiskTree.{entries_in}
use Rattle.disk_tree.specs.Entries.{Entries, number_under}
use Rattle.fsc_keys.specs.Keys.{key_bytes}
use Rattle.number_map.specs.Numbered.{get}
use Rattle.policy_ctx.specs.declared.policy.Context.{Context}
use Rattle.name_crypt.specs.StoredName.{stored_name}
use Rattle.mount_model.specs.Sealed.{node_start}
use Rattle.mount_state.specs.Contexts.{context_on_disk}
use Rattle.mount_state.specs.NamesCipher.{own_names_key}
use Rattle.mount_state.proofs.KeyedLemmas.{own_is, dir_kind, context_here, sized_here, resolved_under, led_by_other}
use Rattle.mount_state.proofs.state.MountState.entry_in.Goals as goal

same_context : (x y : Context) → Some x ≡ Some y → x ≡ y
same_context x y e = cc

pub returns-in-Some-clause-represents : goal.returns-in-Some-clause-represents
returns-in-Some-clause-represents g c m context st is_dir here keyed =
    let s = c.args.self.now in
    let d = c.args.dir in
    let was : c.context_of.result ≡ Some c.in_ok-context.context = search rules in
    let stored = sym (ap context_on_disk c.requires.there) ∙ context_here m d context here s.disk s.next_node st.well st.tree is_dir in
    let read : c.in_ok-context.context ≡ context = same_context _ _ (sym was ∙ c.context_of.ensures.read context (sized_here m d context here s.disk s.next_node st.well st.tree is_dir) stored) in
    let found : own_names_key s.inodes d c.in_ok-context.context ≡ Some c.in-Some.cipher.now = search rules in
    let key = own_is m d context here s.inodes s.modes st.caches (dir_kind (get m.nodes d) is_dir) c.in-Some.cipher.now (subst (λ (x : Context). own_names_key s.inodes d x ≡ Some c.in-Some.cipher.now) read found) in
    resolved_under m d context here s.disk s.next_node st.well st.tree is_dir c.names_come_back.ensures.distinct keyed c.in-Some.cipher.now c.in_ok-context.context read (ap key_bytes key) c.in-Some.ensures.ranged
    c.args.name.now c.requires.plain c.slice_is_bytes.ensures
    c.entry_under.result
    (c.entry_under.ensures.value
    ∙ ap (λ (es : Entries). number_under (stored_name c.in-Some.cipher.now (node_start d c.in_ok-context.context) c.in_ok-context.context.policy.pad c.args.name.now) es) (sym (ap entries_in c.requires.there)))

pub returns-clause-represents : goal.returns-clause-represents
returns-clause-represents g c m context st is_dir here keyed =
    let s = c.args.self.now in
    let d = c.args.dir in
    let was : c.context_of.result ≡ Some c.in_ok-context.context = search rules in
    let stored = sym (ap context_on_disk c.requires.there) ∙ context_here m d context here s.disk s.next_node st.well st.tree is_dir in
    let read : c.in_ok-context.context ≡ context = same_context _ _ (sym was ∙ c.context_of.ensures.read context (sized_here m d context here s.disk s.next_node st.well st.tree is_dir) stored) in
    let uncached : own_names_key s.inodes d c.in_ok-context.context ≡ None = search rules in
    led_by_other m d context here s.disk s.next_node st.well st.tree is_dir c.names_come_back.ensures.distinct keyed s.ring s.inodes s.modes s.handles.live s.forgets c.refreshed_entry.ensures.claimed
    st.keys st.caches st.handles.live c.in_ok-context.context read uncached c.args.node.now c.requires.there c.args.name.now c.requires.plain c.slice_is_bytes.ensures c.refreshed_entry.result c.refreshed_entry.ensures.value
