use Rattle.std.proofs.Common.{Some, None, sym, ap, ◌∙◌}
use Rattle.std.specs.Option.{option_and_then}
use Rattle.inode_refs.specs.declared.node_key.NodeKey.{NodeKey}
use Rattle.inode_refs.specs.CacheMaps.{Cache}
use Rattle.inode_refs.specs.Ciphers.{names_in, names_key_at}
use Rattle.inode_refs.proofs.CacheLemmas.{key_cached}
use Rattle.inode_refs.proofs.cache.InodeCache.cipher_of.Goals as goal

pub returns-in-Some-clause-value : goal.returns-in-Some-clause-value
returns-in-Some-clause-value c = c.cipher.ensures.value ∙ (ap (λ (k : NodeKey). names_in k.key) c.deref.ensures
    ∙ (sym (ap (option_and_then (λ (k : NodeKey). names_in k.key)) (key_cached c.self.inside.keys c.args.node (Some c.in-Some.kept.now) c.in-Some.ensures.value))
    ∙ ap (λ (v : Cache). names_key_at v c.args.node) c.self.view_is))

pub returns-in-None-clause-value : goal.returns-in-None-clause-value
returns-in-None-clause-value c = sym (ap (option_and_then (λ (k : NodeKey). names_in k.key)) (key_cached c.self.inside.keys c.args.node None c.in-None.ensures.value))
    ∙ ap (λ (v : Cache). names_key_at v c.args.node) c.self.view_is
