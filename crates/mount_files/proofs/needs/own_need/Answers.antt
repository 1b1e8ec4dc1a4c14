use Rattle.std.proofs.Common.{rules, ◌≡◌, false, Some, None, is_some, ap, ◌∙◌}
use Rattle.fsc_keys.specs.Keys.{file_key_of}
use Rattle.inode_refs.specs.CacheMaps.{key_at}
use Rattle.key_ring.specs.Holding.{secret_of}
use Rattle.mount_files.proofs.NeedLemmas.{own_secret, drawn_need, own_stands}
use Rattle.mount_files.proofs.needs.own_need.Goals as goal

pub unreachable-requires : goal.unreachable-requires
unreachable-requires c =
    let s = c.args.state.now in
    let uncached : is_some (key_at s.inodes c.args.node) ≡ false = search rules in
    let none : secret_of s.ring c.id_in-id.result ≡ None = search rules in
    own_secret s.disk s.inodes c.args.node c.args.context.now c.requires.there s.ring s.modes s.handles.live s.forgets c.claims-exact.ensures.secrets
    c.requires.keyed c.id_in-id.result c.id_in-id.ensures.read c.requires.own uncached none

pub returns-clause-need : goal.returns-clause-need
returns-clause-need c =
    let s = c.args.state.now in
    drawn_need s.disk s.inodes c.args.node c.args.context.now c.requires.there c.requires.own c.args.kind c.requires.kind
    c.in-Some.secret.now c.nonce_in.result c.id_in-id.result c.id_in-id.ensures.read c.file_key-key.result c.file_key-key.ensures.key

pub returns-clause-represents : goal.returns-clause-represents
returns-clause-represents c = λ m st.
    let s = c.args.state.now in
    let secret : secret_of s.ring c.id_in-id.result ≡ Some c.in-Some.secret.now = search rules in
    own_stands s.disk s.inodes c.args.node c.args.context.now c.requires.there s.next_node m st.well st.tree s.ring st.keys
    c.id_in-id.result c.id_in-id.ensures.read c.in-Some.secret.now secret c.requires.own c.args.kind c.requires.kind c.file_key-key.result
    (c.file_key-key.ensures.key ∙ ap (file_key_of c.in-Some.secret.now c.args.kind) c.nonce_in.ensures)
