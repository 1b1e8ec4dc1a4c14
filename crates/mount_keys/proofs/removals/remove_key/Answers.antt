use Rattle.std.proofs.Common.{◌≡◌, Bool, true, false, not, ◌&&◌, refl, sym, ap, ◌∙◌}
use Rattle.user_claims.specs.Claims.{ClaimSet, has_claim}
use Rattle.user_claims.specs.ClaimCounts.{is_present}
use Rattle.key_ring.proofs.RingLemmas.{absent_at_zero}
use Rattle.mount_model.specs.declared.reply.Reply.TheVariants.{Removed}
use Rattle.mount_state.specs.KeyUse.{is_in_use}
use Rattle.mount_keys.specs.KeyReplies.{reply_of_removal}
use Rattle.mount_keys.proofs.FewerLemmas.{lost_stand, lost_nothing, loses_none}
use Rattle.mount_keys.proofs.ToldLemmas.{held_told, busy_told, removal_gives}
use Rattle.mount_keys.proofs.removals.remove_key.Goals as goal
use Rattle.mount_keys.proofs.removals.remove_key.Goals.{then-not-others, else-not-others}

-- ---- a claim was taken

both : (others busy told : Bool) → others ≡ false → told ≡ busy → told ≡ (not others && busy)
both others busy told none is = is ∙ sym (ap (λ o. not o && busy) none)

neither : (others busy told : Bool) → others ≡ true → told ≡ not others → told ≡ (not others && busy)
neither others busy told some is = is ∙ (ap not some ∙ sym (ap (λ o. not o && busy) some))

busy_is : (c : goal.Joined-not-others) → c.if-not-others.result
    ≡ (not c.take_claim-others.result && c.is_busy-busy.result)
busy_is c = elim c.if-not-others.branch [
  | then-not-others w ↦ both c.take_claim-others.result c.is_busy-busy.result c.if-not-others.result
      w.if-not-others.true w.result-is
  | else-not-others w ↦ neither c.take_claim-others.result c.is_busy-busy.result c.if-not-others.result
      w.if-not-others.false w.result-is
]

told : (c : goal.Joined-not-others) → Removed c.take_claim-others.result c.if-not-others.result
    ≡ reply_of_removal c.args.state.now c.args.uid c.args.id.now
told c =
    let s = c.args.state.now in
    let id = c.args.id.now in
    let held : has_claim s.ring.claims id c.args.uid ≡ true =
    ap (λ (cs : ClaimSet). has_claim cs id c.args.uid) (sym c.claims.ensures.claims)
    ∙ (sym c.has.ensures ∙ c.if-has.true) in
    held_told s.ring.claims (is_in_use s.disk s.handles.live id) c.args.uid id held c.take_claim-others.result
    c.if-not-others.result
    (c.take_claim-others.ensures.left ∙ ap (λ (cs : ClaimSet). is_present cs id)
    c.take_claim-others.ensures.taken.claims)
    (busy_is c ∙ ap (λ b. not c.take_claim-others.result && b) c.is_busy-busy.ensures.value)

pub returns-then-has-clause-told : goal.returns-then-has-clause-told
returns-then-has-clause-told c = told c

pub returns-then-has-clause-gone : goal.returns-then-has-clause-gone
returns-then-has-clause-gone c = λ is.
    let none : c.take_claim-others.result ≡ false = cc in
    let free : c.if-not-others.result ≡ false = cc in
    let idle : c.is_busy-busy.result ≡ false =
    sym (busy_is c ∙ ap (λ o. not o && c.is_busy-busy.result) none) ∙ free in
    lost_nothing c.args.state.now c.take_claim-others.new.state c.args.id.now
    c.take_claim-others.ensures.same
    (sym c.is_busy-busy.ensures.value ∙ idle) (c.is_busy-busy.ensures.modes idle)
    c.args.uid c.take_claim-others.ensures.taken (sym c.take_claim-others.ensures.left ∙ none)

pub returns-then-has-clause-represents : goal.returns-then-has-clause-represents
returns-then-has-clause-represents c = λ m st.
    removal_gives c.args.state.now m st c.args.uid c.args.id.now c.take_claim-others.new.state
    c.take_claim-others.result c.if-not-others.result (told c)
    (lost_stand c.args.state.now c.take_claim-others.new.state m c.args.uid c.args.id.now st
    c.take_claim-others.ensures.same c.take_claim-others.ensures.taken)

-- ---- no user had one, and a handle needs the key

absent : (c : goal.Then-count_of_id-eq0) → is_present c.args.state.now.ring.claims c.args.id.now ≡ false
absent c =
    ap (λ (cs : ClaimSet). is_present cs c.args.id.now) (sym c.claims-then-busy.ensures.claims)
    ∙ absent_at_zero c.claims-then-busy.result.now c.args.id.now
    (sym c.count_of_id.ensures ∙ c.if-count_of_id-eq0.true)

needed_told : (c : goal.Then-count_of_id-eq0) → Removed false c.is_busy-busy.result
    ≡ reply_of_removal c.args.state.now c.args.uid c.args.id.now
needed_told c =
    let s = c.args.state.now in
    ap (Removed false) c.is_busy-busy.ensures.value
    ∙ busy_told s.ring.claims (is_in_use s.disk s.handles.live c.args.id.now) c.args.uid c.args.id.now
    (absent c) (sym c.is_busy-busy.ensures.value ∙ c.if-busy.true)

pub returns-then-count_of_id-eq0-clause-told : goal.returns-then-count_of_id-eq0-clause-told
returns-then-count_of_id-eq0-clause-told c = needed_told c

pub returns-then-count_of_id-eq0-clause-taken : goal.returns-then-count_of_id-eq0-clause-taken
returns-then-count_of_id-eq0-clause-taken c =
    λ _. loses_none c.args.state.now c.args.uid c.args.id.now c.claims.ensures.secrets (absent c)

pub returns-then-count_of_id-eq0-clause-represents : goal.returns-then-count_of_id-eq0-clause-represents
returns-then-count_of_id-eq0-clause-represents c = λ m st.
    let s = c.args.state.now in
    removal_gives s m st c.args.uid c.args.id.now s false c.is_busy-busy.result (needed_told c)
    (lost_stand s s m c.args.uid c.args.id.now st (record
    { disk = refl; next_node = refl; ring = tt; meta = refl; keys = tt; pins = refl; handles = refl; modes = refl; names = tt })
    (loses_none s c.args.uid c.args.id.now c.claims.ensures.secrets (absent c)))
