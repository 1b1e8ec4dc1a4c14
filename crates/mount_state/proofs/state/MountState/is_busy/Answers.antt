use Rattle.std.proofs.Common.{◌<◌, ◌≤◌, inl, inr, sym, ◌∙◌, subst}
use Rattle.std.proofs.lemmas.Bool.{cases_lt, lt-ltb, le-ltb}
use Rattle.mount_state.proofs.RuleLemmas.{inode_busy, users_busy, not_busy}
use Rattle.mount_state.proofs.StandLemmas.{busy_stands}
use Rattle.mount_state.proofs.state.MountState.is_busy.Goals as goal

pub returns-then-users_of-gt0-clause-value : goal.returns-then-users_of-gt0-clause-value
returns-then-users_of-gt0-clause-value c =
    let s = c.args.self.now in
    lt-ltb 0 c.users_of.result c.if-users_of-gt0.true
    ∙ sym (inode_busy s.disk s.ring s.inodes s.modes s.handles.live s.forgets c.args.id.now (subst (λ n. 0 < n) c.users_of.ensures c.if-users_of-gt0.true))

pub returns-then-users_of-gt0-clause-represents : goal.returns-then-users_of-gt0-clause-represents
returns-then-users_of-gt0-clause-represents c m st =
    let s = c.args.self.now in
    returns-then-users_of-gt0-clause-value c ∙ busy_stands s.disk s.next_node m st.well st.tree s.handles.live st.handles.live c.args.id.now

pub returns-else-users_of-gt0-clause-value : goal.returns-else-users_of-gt0-clause-value
returns-else-users_of-gt0-clause-value c =
    let s = c.args.self.now in
    let modes = c.users_of-else-users_of-gt0.ensures.count in
    elim (cases_lt 0 c.users_of-else-users_of-gt0.result) [
      | inl some ↦ lt-ltb 0 c.users_of-else-users_of-gt0.result some
          ∙ sym (users_busy s.disk s.ring s.inodes s.modes s.handles.live s.forgets c.args.id.now (subst (λ n. 0 < n) modes some))
      | inr none ↦ le-ltb 0 c.users_of-else-users_of-gt0.result none
          ∙ sym (not_busy s.disk s.ring s.inodes s.modes s.handles.live s.forgets c.args.id.now (subst (λ n. n ≤ 0) c.users_of.ensures c.if-users_of-gt0.false) (subst (λ n. n ≤ 0) modes none))
    ]

pub returns-else-users_of-gt0-clause-represents : goal.returns-else-users_of-gt0-clause-represents
returns-else-users_of-gt0-clause-represents c m st =
    let s = c.args.self.now in
    returns-else-users_of-gt0-clause-value c ∙ busy_stands s.disk s.next_node m st.well st.tree s.handles.live st.handles.live c.args.id.now
