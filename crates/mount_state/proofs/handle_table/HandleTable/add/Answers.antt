use Rattle.std.proofs.Common.{◌≡◌, ℕ, ◌+◌, ◌<◌, ◌^◌, cond, Some, None, [], ◌∷◌, ◌++◌, sym, ap, ◌∙◌, subst}
use Rattle.std.specs.Ordering.{eq_by_cmp}
use Rattle.std.specs.BTreeMap as tree
use Rattle.number_map.specs.Numbered.{NumberedValues}
use Rattle.inode_refs.proofs.CacheLemmas.{at_ok, at_err}
use Rattle.mount_model.specs.PlainMount.{HandleList}
use Rattle.mount_model.specs.OpenHandles.{opens_of}
use Rattle.mount_state.specs.Handles.{Handles, with_handle}
use Rattle.mount_state.specs.KeptHandles.{pair_cmp, opened_in, IsIndexed}
use Rattle.mount_state.proofs.HandleLemmas.{opens_seen, opened_more, opened_same, index_same, index_put, index_undone, below_most}
use Rattle.mount_state.proofs.handle_table.HandleTable.add.Goals as goal

pub one_more-requires : goal.one_more-requires
one_more-requires c =
    let seen = opens_seen c.self.inside.opened c.args.caller ∙ ap (λ (v : Handles). opens_of v.opened c.args.caller) c.self.view_is in
    subst (λ n. n + 1 < 2 ^ 32) (sym seen) (below_most c.args.self.now.live (opens_of c.args.self.now.opened c.args.caller) c.requires)

pub invariant_of-self-then-is_err : goal.invariant_of-self-then-is_err
invariant_of-self-then-is_err c =
    let same = at_err c.insert.result (sym c.is_err.ensures.value ∙ c.if-is_err.true) c.insert.ensures.err in
    subst (λ (hs : HandleList). IsIndexed hs c.insert.new.self (opened_in c.self.inside.opened.entries)) (sym c.reserve.ensures.items)
    (index_same c.self.inside.live.items c.self.inside.index c.insert.new.self (opened_in c.self.inside.opened.entries) c.self.invariant same)

pub invariant_of-self-then-is_err-2 : goal.invariant_of-self-then-is_err-2
invariant_of-self-then-is_err-2 c =
    let number : c.opens-number.result ≡ opens_of (opened_in c.self.inside.opened.entries) c.args.caller
    = c.opens-number.ensures ∙ sym (ap (λ (v : Handles). opens_of v.opened c.args.caller) c.self.view_is) in
    let put = (at_ok c.insert.result (sym c.is_err.ensures.value ∙ c.if-is_err.false) c.insert.ensures.updates).0 in
    let same = opened_same c.self.inside.opened c.one_more.new.counts (at_err c.one_more.result (sym c.is_err-2.ensures.value ∙ c.if-is_err-2.true) c.one_more.ensures.kept) in
    let kept = index_undone c.self.inside.live.items c.self.inside.index (opened_in c.self.inside.opened.entries) c.self.invariant c.args.caller c.args.node c.insert.new.self c.remove.new.self
    (λ q. put q ∙ ap (λ n. cond (eq_by_cmp pair_cmp (c.args.caller, n) q) (Some c.args.node) (tree.get pair_cmp c.self.inside.index q)) number)
    (λ q. c.remove.ensures.updates.0 q ∙ ap (λ n. cond (eq_by_cmp pair_cmp (c.args.caller, n) q) None (tree.get pair_cmp c.insert.new.self q)) number) in
    subst (λ (hs : HandleList). IsIndexed hs c.remove.new.self (opened_in c.one_more.new.counts.entries)) (sym c.reserve.ensures.items)
    (subst (λ (o : NumberedValues ℕ). IsIndexed c.self.inside.live.items c.remove.new.self o) (sym same) kept)

pub invariant_of-self-2 : goal.invariant_of-self-2
invariant_of-self-2 c =
    let number : c.opens-number.result ≡ opens_of (opened_in c.self.inside.opened.entries) c.args.caller
    = c.opens-number.ensures ∙ sym (ap (λ (v : Handles). opens_of v.opened c.args.caller) c.self.view_is) in
    let put = (at_ok c.insert.result (sym c.is_err.ensures.value ∙ c.if-is_err.false) c.insert.ensures.updates).0 in
    let counted = opened_more c.self.inside.opened c.one_more.new.counts c.args.caller (at_ok c.one_more.result (sym c.is_err-2.ensures.value ∙ c.if-is_err-2.false) c.one_more.ensures.more).0 in
    let kept = index_put c.self.inside.live.items c.self.inside.index (opened_in c.self.inside.opened.entries) c.self.invariant c.args.caller c.args.node c.insert.new.self
    (λ q. put q ∙ ap (λ n. cond (eq_by_cmp pair_cmp (c.args.caller, n) q) (Some c.args.node) (tree.get pair_cmp c.self.inside.index q)) number) in
    let pushed : c.push.new.self.items ≡ c.self.inside.live.items ++ record { caller = c.args.caller; number = opens_of (opened_in c.self.inside.opened.entries) c.args.caller; node = c.args.node } ∷ []
    = c.in-Ok.ensures.items ∙ (λ i. c.reserve.ensures.items i ++ record { caller = c.args.caller; number = number i; node = c.args.node } ∷ []) in
    subst (λ (hs : HandleList). IsIndexed hs c.insert.new.self (opened_in c.one_more.new.counts.entries)) (sym pushed)
    (subst (λ (o : NumberedValues ℕ). IsIndexed (c.self.inside.live.items ++ record { caller = c.args.caller; number = opens_of (opened_in c.self.inside.opened.entries) c.args.caller; node = c.args.node } ∷ []) c.insert.new.self o) (sym counted) kept)

pub returns-clause-opened : goal.returns-clause-opened
returns-clause-opened c =
    let number : c.opens-number.result ≡ opens_of (opened_in c.self.inside.opened.entries) c.args.caller
    = c.opens-number.ensures ∙ sym (ap (λ (v : Handles). opens_of v.opened c.args.caller) c.self.view_is) in
    let counted = opened_more c.self.inside.opened c.one_more.new.counts c.args.caller (at_ok c.one_more.result (sym c.is_err-2.ensures.value ∙ c.if-is_err-2.false) c.one_more.ensures.more).0 in
    let pushed : c.push.new.self.items ≡ c.self.inside.live.items ++ record { caller = c.args.caller; number = opens_of (opened_in c.self.inside.opened.entries) c.args.caller; node = c.args.node } ∷ []
    = c.in-Ok.ensures.items ∙ (λ i. c.reserve.ensures.items i ++ record { caller = c.args.caller; number = number i; node = c.args.node } ∷ []) in
    (λ i. record { live = pushed i; opened = counted i })
    ∙ ap (λ (v : Handles). with_handle v c.args.caller c.args.node) c.self.view_is
