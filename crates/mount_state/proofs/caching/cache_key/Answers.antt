use Rattle.std.proofs.Common.{is_some, inl, inr, sym, ap, subst, ◌∙◌}
use Rattle.number_map.specs.Numbered.{get}
use Rattle.inode_refs.specs.CacheMaps.{Cache}
use Rattle.mount_state.specs.StoredKinds.{kind_on_disk, is_of_kind}
use Rattle.mount_state.specs.Discipline.{Forgets}
use Rattle.mount_state.specs.CachedKeys.{RepresentsCaches}
use Rattle.mount_state.proofs.KeepLemmas.{kept_rule, kept_stand, own_there, names_kind, fresh_key, either_cache}
use Rattle.mount_state.proofs.caching.cache_key.Goals as goal

pub invariant_of-state : goal.invariant_of-state
invariant_of-state c =
    let s = c.args.state.now in
    let context = c.in-Some.context in
    let key = c.file_key-key.result in
    record {
      forgets = elim (either_cache c.keep.result c.keep.ensures.kept c.keep.ensures.as_before) [
        | inl is ↦
            subst (λ (cache : Cache). Forgets s.disk s.ring.claims cache s.modes s.handles.live) (sym is)
            (kept_rule s.inodes c.args.dir context.policy.id key s.disk s.ring.claims s.modes s.handles.live s.forgets
            (own_there s.disk c.args.dir context c.in-Some.ensures.found c.in-Some.ensures.sized.id c.in-Some.ensures.own)
            (ap (is_of_kind (kind_on_disk (get s.disk c.args.dir))) c.file_key-key.ensures.key
            ∙ names_kind s.disk c.args.dir c.requires c.in-Some-secret_of.secret.now context.nonce)
            (sym (c.claims-exact.ensures.secrets context.policy.id) ∙ ap is_some (sym c.in-Some-secret_of.ensures)))
        | inr is ↦ subst (λ (cache : Cache). Forgets s.disk s.ring.claims cache s.modes s.handles.live) (sym is) s.forgets
      ];
      remembers = s.remembers;
      safe = s.safe;
    }

pub returns-clause-represents : goal.returns-clause-represents
returns-clause-represents c = λ m represents.
    let s = c.args.state.now in
    let context = c.in-Some.context in
    record {
      well = represents.well;
      tree = represents.tree;
      keys = represents.keys;
      handles = represents.handles;
      caches = elim (either_cache c.keep.result c.keep.ensures.kept c.keep.ensures.as_before) [
        | inl is ↦
            subst (λ (cache : Cache). RepresentsCaches cache s.modes m) (sym is)
            (kept_stand s.inodes c.args.dir context.policy.id c.file_key-key.result s.modes m represents.caches
            (λ d under.
            c.file_key-key.ensures.key
            ∙ fresh_key s.disk s.next_node m represents.well represents.tree c.args.dir context c.in-Some.ensures.found c.in-Some.ensures.sized.id c.in-Some.ensures.own
            c.requires c.in-Some-secret_of.secret.now (represents.keys.secrets context.policy.id c.in-Some-secret_of.secret.now (sym c.in-Some-secret_of.ensures)) d under))
        | inr is ↦ subst (λ (cache : Cache). RepresentsCaches cache s.modes m) (sym is) represents.caches
      ];
      names = represents.names;
      records = represents.records;
    }
