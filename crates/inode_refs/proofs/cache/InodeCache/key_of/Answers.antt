use Rattle.std.proofs.Common.{Some, None, sym, ap, ◌∙◌}
use Rattle.std.specs.Option.{option_map}
use Rattle.inode_refs.specs.declared.node_key.NodeKey.{NodeKey}
use Rattle.inode_refs.specs.CacheMaps.{Cache, key_at}
use Rattle.inode_refs.proofs.CacheLemmas.{key_cached}
use Rattle.inode_refs.proofs.cache.InodeCache.key_of.Goals as goal

pub returns-in-Some : goal.returns-in-Some
returns-in-Some c = ap Some c.key.ensures ∙ (ap (λ (k : NodeKey). Some k.key) c.deref.ensures
    ∙ (sym (ap (option_map (λ (k : NodeKey). k.key)) (key_cached c.self.inside.keys c.args.node (Some c.in-Some.kept.now) c.in-Some.ensures.value))
    ∙ ap (λ (v : Cache). option_map (λ (k : NodeKey). k.key) (key_at v c.args.node)) c.self.view_is))

pub returns-in-None : goal.returns-in-None
returns-in-None c = sym (ap (option_map (λ (k : NodeKey). k.key)) (key_cached c.self.inside.keys c.args.node None c.in-None.ensures.value))
    ∙ ap (λ (v : Cache). option_map (λ (k : NodeKey). k.key) (key_at v c.args.node)) c.self.view_is
