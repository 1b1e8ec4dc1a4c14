use Rattle.std.proofs.Common.{ℕ, None, IsSome, is_some, refl, ap, subst, sym, ◌∙◌}
use Rattle.std.proofs.lemmas.Bool.{true≢false}
use Rattle.std.specs.Box.{with_value}
use Rattle.std.specs.BTreeMap.{BTreeMap}
use Rattle.std.specs.Option.{option_copied_mut}
use Rattle.std.specs.FinMap as map
use Rattle.inode_refs.specs.CacheRules.{KeyBox, keys_of}
use Rattle.inode_refs.proofs.CacheLemmas.{key_written, key_cached}
use Rattle.inode_refs.proofs.kept.cache_in.Goals as goal

pub returns-in-Some-clause-kept : goal.returns-in-Some-clause-kept
returns-in-Some-clause-kept c =
    let there = subst IsSome c.get_mut.ensures.value (subst (λ r. IsSome (option_copied_mut r)) (sym c.in-Some.is) refl) in
    let written : KeyBox = with_value (with_value c.in-Some.kept.now c.wipe.new.self) c.of.result in
    key_written c.args.keys.now (c.get_mut.follows.lender written) c.args.node written ((c.get_mut.follows.holds written).3 there).0
    ∙ ap (map.insert (keys_of c.args.keys.now.entries) c.args.node) c.of.ensures

pub returns-in-Err-clause-cached : goal.returns-in-Err-clause-cached
returns-in-Err-clause-cached c = λ has. absurd (true≢false (sym has ∙ ap is_some (key_cached c.args.keys.now c.args.node None c.in_default.ensures.value)))

pub returns-in-Ok-insert-clause-kept : goal.returns-in-Ok-insert-clause-kept
returns-in-Ok-insert-clause-kept c =
    key_written c.get_mut.follows.lender-at-none c.insert.new.self c.args.node c.in-Ok.boxed c.in-Ok-insert.ensures.updates.0
    ∙ (ap (λ (m : BTreeMap ℕ KeyBox). map.insert (keys_of m.entries) c.args.node c.in-Ok.boxed.value) c.get_mut.follows.holds-at-none
    ∙ ap (map.insert (keys_of c.args.keys.now.entries) c.args.node) (c.in-Ok.ensures.ok ∙ c.of-2.ensures))

pub returns-clause-cached : goal.returns-clause-cached
returns-clause-cached c = λ has. absurd (true≢false (sym has ∙ ap is_some (key_cached c.args.keys.now c.args.node None c.in_default.ensures.value)))
