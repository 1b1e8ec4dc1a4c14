use Rattle.std.proofs.Common.{◌≡◌, sym, ap, ◌∙◌}
use Rattle.inode_refs.specs.Ciphers.{names_in}
use Rattle.inode_refs.specs.declared.node_key.NodeKey.{NodeKey}
use Rattle.inode_refs.proofs.laws.a_cached_key_is_the_key_that_is_seen.Goals as goal

pub returns : goal.returns
returns c = λ a b first second key.
    let cipher : a.cipher ≡ b.cipher = first.same ∙ ap (λ (k : NodeKey). names_in k.key) key ∙ sym second.same in
    λ i. record { key = key i; cipher = cipher i }
