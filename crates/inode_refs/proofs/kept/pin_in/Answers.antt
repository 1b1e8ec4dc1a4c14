use Rattle.std.proofs.Common.{rules, ◌≡◌, ◌+◌, ◌<◌, ◌^◌, true, false, sym, ap, ◌∙◌, subst}
use Rattle.std.specs.FinMap as map
use Rattle.inode_refs.specs.CacheMaps.{KeyMap}
use Rattle.inode_refs.specs.CacheRules.{keys_of}
use Rattle.inode_refs.proofs.CacheLemmas.{pins_seen, pins_more, taken_back, given_cached, key_there, no_key, pins_there, at_ok}
use Rattle.inode_refs.proofs.UserLemmas.{not_both}
use Rattle.inode_refs.proofs.kept.pin_in.Goals as goal

pub one_more-requires : goal.one_more-requires
one_more-requires c = subst (λ n. n + 1 < 2 ^ 32) (sym (pins_seen c.args.pins.now c.args.node)) c.requires

pub returns-then-not-cached-clause-keys : goal.returns-then-not-cached-clause-keys
returns-then-not-cached-clause-keys c =
    let absent : c.contains_key-cached.result ≡ false = search rules in
    c.forget.ensures ∙ (ap (λ (m : KeyMap). map.remove m c.args.node) c.in_ok-give_in.ensures.given
    ∙ taken_back (keys_of c.args.keys.now.entries) c.args.node c.args.key (no_key _ (key_there c.args.keys.now c.args.node _ c.contains_key-cached.ensures ∙ absent)))

pub returns-else-not-cached-clause-keys : goal.returns-else-not-cached-clause-keys
returns-else-not-cached-clause-keys c =
    let there : c.contains_key-cached.result ≡ true = search rules in
    c.in_ok-give_in.ensures.given ∙ given_cached (keys_of c.args.keys.now.entries) c.args.node c.args.key (key_there c.args.keys.now c.args.node _ c.contains_key-cached.ensures ∙ there)

pub returns-clause-pinned : goal.returns-clause-pinned
returns-clause-pinned c =
    pins_more c.args.pins.now c.args.node c.one_more.new.counts (at_ok c.one_more.result (sym c.is_err.ensures.value ∙ c.if-is_err.false) c.one_more.ensures.more).0

pub returns-then-not-cached-clause-again : goal.returns-then-not-cached-clause-again
returns-then-not-cached-clause-again c pinned no_key =
    not_both c.one_more.result (sym c.is_err.ensures.value ∙ c.if-is_err.true) (c.one_more.ensures.again (pins_there c.args.pins.now c.args.node pinned))

pub returns-else-not-cached-clause-again : goal.returns-else-not-cached-clause-again
returns-else-not-cached-clause-again c pinned no_key =
    not_both c.one_more.result (sym c.is_err.ensures.value ∙ c.if-is_err.true) (c.one_more.ensures.again (pins_there c.args.pins.now c.args.node pinned))
