use Rattle.std.proofs.Common.{rules, ◌≡◌, Some, None, ap, ◌∙◌}
use Rattle.fsc_keys.specs.declared.file_keys.FileKey.{FileKey}
use Rattle.fsc_keys.specs.declared.file_keys.KeyKind.TheVariants.{Names}
use Rattle.mount_state.specs.StoredKinds.{is_of_kind}
use Rattle.mount_state.specs.NamesKey.{cached_key}
use Rattle.mount_state.proofs.KeyedLemmas.{cached_is, is_names_key, some_key}
use Rattle.mount_names.specs.NameCiphers.{cipher_with}
use Rattle.mount_names.proofs.ReadLemmas.{dir_read}
use Rattle.mount_names.proofs.CipherLemmas.{drawn_cipher_is}
use Rattle.mount_names.proofs.ciphers.dir_cipher.Goals as goal

pub returns-in-Some-clause-keyed : goal.returns-in-Some-clause-keyed
returns-in-Some-clause-keyed c = λ m st names here keyed.
    let s = c.args.state.now in
    let context = c.args.context.now in
    let is_dir = dir_read s.disk s.next_node m st.tree c.args.dir c.requires in
    let cached : cached_key s.inodes s.modes c.args.dir context ≡ Some c.in-Some.key.now = search rules in
    let key = cached_is m c.args.dir context here s.inodes s.modes st.caches is_dir c.in-Some.key.now cached in
    c.cipher_under.ensures.value (ap (is_of_kind Names) key ∙ is_names_key m context)
    ∙ ap (λ (k : FileKey). Some (cipher_with c.args.dir context k)) key

pub returns-in-None-clause-keyed : goal.returns-in-None-clause-keyed
returns-in-None-clause-keyed c = λ m st names here keyed.
    let s = c.args.state.now in
    let context = c.args.context.now in
    let is_dir = dir_read s.disk s.next_node m st.tree c.args.dir c.requires in
    let uncached : cached_key s.inodes s.modes c.args.dir context ≡ None = search rules in
    drawn_cipher_is m c.args.dir context here s.ring st.keys c.derived_cipher.result c.derived_cipher.ensures.value
    (some_key m c.args.dir context here s.disk s.next_node st.well st.tree is_dir s.ring s.inodes s.modes s.handles.live s.forgets
    c.derived_cipher.ensures.claimed st.keys.claims st.handles.live keyed uncached)
