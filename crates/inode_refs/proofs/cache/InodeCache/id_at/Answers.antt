use Rattle.std.proofs.Common.{Some, None, sym, ap, ◌∙◌}
use Rattle.std.specs.Option.{option_map}
use Rattle.inode_refs.specs.declared.node_key.NodeKey.{NodeKey}
use Rattle.inode_refs.specs.CacheMaps.{Cache}
use Rattle.inode_refs.specs.KeyUsers.{id_at}
use Rattle.inode_refs.proofs.CacheLemmas.{key_cached}
use Rattle.inode_refs.proofs.cache.InodeCache.id_at.Goals as goal

pub returns-in-Some : goal.returns-in-Some
returns-in-Some c = ap Some c.id.ensures ∙ (ap (λ (k : NodeKey). Some k.id) c.deref.ensures
    ∙ (sym (ap (option_map (λ (k : NodeKey). k.id)) (key_cached c.self.inside.keys c.args.node (Some c.in-Some.kept.now) c.in-Some.ensures.value))
    ∙ ap (λ (v : Cache). id_at v c.args.node) c.self.view_is))

pub returns-in-None : goal.returns-in-None
returns-in-None c = sym (ap (option_map (λ (k : NodeKey). k.id)) (key_cached c.self.inside.keys c.args.node None c.in-None.ensures.value))
    ∙ ap (λ (v : Cache). id_at v c.args.node) c.self.view_is
