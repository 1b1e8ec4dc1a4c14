use Rattle.std.proofs.Common.{◌≡◌, OnOk, sym, ◌∙◌, subst}
use Rattle.inode_refs.specs.CacheMaps.{with_pinned_key}
use Rattle.inode_refs.specs.CacheRules.{keys_of}
use Rattle.inode_refs.proofs.CacheLemmas.{given_cached, given_new, key_there}
use Rattle.inode_refs.proofs.kept.give_in.Goals as goal

pub returns-then-contains_key-clause-given : goal.returns-then-contains_key-clause-given
returns-then-contains_key-clause-given c = sym (given_cached (keys_of c.args.keys.now.entries) c.args.node c.args.key (key_there c.args.keys.now c.args.node _ c.contains_key.ensures ∙ c.if-contains_key.true))

pub returns-in-Some-clause-given : goal.returns-in-Some-clause-given
returns-in-Some-clause-given c =
    let new = given_new (keys_of c.args.keys.now.entries) c.args.node c.in-Some.key (key_there c.args.keys.now c.args.node _ c.contains_key.ensures ∙ c.if-contains_key.false) in
    let is = c.in-Some.is in
    subst (λ k. OnOk c.cache_in.result (keys_of c.cache_in.new.keys.entries ≡ with_pinned_key (keys_of c.args.keys.now.entries) c.args.node k)) (sym is)
    (subst (λ m. OnOk c.cache_in.result (keys_of c.cache_in.new.keys.entries ≡ m)) (sym new) c.cache_in.ensures.kept)
