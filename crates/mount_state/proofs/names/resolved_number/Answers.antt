-- A cached name resolves as the mount's entry does, and a newly cached one resolves to the node that was
-- found.
use Rattle.std.proofs.Common.{rules, ◌≡◌, Some, inl, refl, sym, subst, ◌∙◌}
use Rattle.dentry_cache.specs.Names.{key_of}
use Rattle.disk_tree.specs.DiskTree.{Disk, IsDirAt}
use Rattle.plain_tree.specs.NodesByNumber.{entry}
use Rattle.mount_state.proofs.CachedLemmas.{forget_beside, stand_beside, fewer_names_stand, pair_of, keyed_led, dir_told, dir_stands}
use Rattle.mount_state.proofs.PassedEntryLemmas.{same_names, one_cached}
use Rattle.mount_state.proofs.StandLemmas.{keyed_stands}
use Rattle.mount_state.proofs.names.resolved_number.Goals as goal

pub returns-in-Some-clause-found : goal.returns-in-Some-clause-found
returns-in-Some-clause-found g c = λ m st dir.
    let s = c.args.state.now in
    let there = pair_of s.names c.args.dir c.args.part.now c.in-Some.number (sym c.in-Some.ensures.value) in
    let keyed = keyed_stands s.disk s.next_node m st.well st.tree s.ring.claims s.handles.live st.keys.claims st.handles.live c.args.dir in
    sym (st.names.entries (key_of c.args.dir c.args.part.now, c.in-Some.number) there)
    ∙ keyed_led m c.args.dir c.args.part.now (sym keyed ∙ s.remembers.keyed (key_of c.args.dir c.args.part.now, c.in-Some.number) there)

pub returns-in-Some-clause-brought : goal.returns-in-Some-clause-brought
returns-in-Some-clause-brought g c = λ pair is. inl (c.find.ensures.no_more pair is)

-- ---- a name that isn't cached

pub returns-in_err-number-clause-represents : goal.returns-in_err-number-clause-represents
returns-in_err-number-clause-represents g c = λ m st. c.cache_key.ensures.represents m (fewer_names_stand c.args.state.now _ (record { disk = refl; next_node = refl; ring = refl; meta = refl; keys = refl; pins = refl; handles = refl; modes = refl; names = tt }) c.find.ensures.no_more m st)

pub returns-in_err-number-clause-found : goal.returns-in_err-number-clause-found
returns-in_err-number-clause-found g c = λ m st dir.
    let none : c.from_residual.result ≡ c.number_of-found.result.0 = search rules in
    none ∙ c.number_of-found.ensures.found m (c.cache_key.ensures.represents m (fewer_names_stand c.args.state.now _ (record { disk = refl; next_node = refl; ring = refl; meta = refl; keys = refl; pins = refl; handles = refl; modes = refl; names = tt }) c.find.ensures.no_more m st)) dir

pub returns-in_err-number-clause-brought : goal.returns-in_err-number-clause-brought
returns-in_err-number-clause-brought g c = λ pair is. inl (c.find.ensures.no_more pair (same_names _ _ c.cache_key.ensures.names pair is))

pub returns-then-not-by_key-clause-brought : goal.returns-then-not-by_key-clause-brought
returns-then-not-by_key-clause-brought g c = λ pair is. inl (c.find.ensures.no_more pair (same_names _ _ c.cache_key.ensures.names pair is))

pub returns-then-not-by_key-clause-represents : goal.returns-then-not-by_key-clause-represents
returns-then-not-by_key-clause-represents g c = λ m st. c.cache_key.ensures.represents m (fewer_names_stand c.args.state.now _ (record { disk = refl; next_node = refl; ring = refl; meta = refl; keys = refl; pins = refl; handles = refl; modes = refl; names = tt }) c.find.ensures.no_more m st)

pub returns-then-not-by_key-clause-found : goal.returns-then-not-by_key-clause-found
returns-then-not-by_key-clause-found g c = λ m st dir.
    let some : Some c.in_ok-number.number ≡ c.number_of-found.result.0 = search rules in
    some ∙ c.number_of-found.ensures.found m (c.cache_key.ensures.represents m (fewer_names_stand c.args.state.now _ (record { disk = refl; next_node = refl; ring = refl; meta = refl; keys = refl; pins = refl; handles = refl; modes = refl; names = tt }) c.find.ensures.no_more m st)) dir

-- ---- it is cached

pub invariant_of-state-2 : goal.invariant_of-state-2
invariant_of-state-2 g c =
    let k = c.cache_key.new.state in
    record {
      forgets = k.forgets;
      remembers = forget_beside k.disk k.ring.claims k.handles.live k.names c.keep.new.self k.remembers (key_of c.args.dir c.args.part.now, c.in_ok-number.number)
          c.keep.ensures.beside
          (dir_told k.disk c.args.dir (subst (λ (d : Disk). IsDirAt d c.args.dir) (sym c.cache_key.ensures.same.disk) c.requires.dir))
          (c.number_of-found.ensures.keyed c.if-not-by_key.false);
      safe = k.safe;
    }

pub returns-clause-found : goal.returns-clause-found
returns-clause-found g c = λ m st dir.
    let some : Some c.in_ok-number.number ≡ c.number_of-found.result.0 = search rules in
    some ∙ c.number_of-found.ensures.found m (c.cache_key.ensures.represents m (fewer_names_stand c.args.state.now _ (record { disk = refl; next_node = refl; ring = refl; meta = refl; keys = refl; pins = refl; handles = refl; modes = refl; names = tt }) c.find.ensures.no_more m st)) dir

pub returns-clause-brought : goal.returns-clause-brought
returns-clause-brought g c =
    one_cached c.args.state.now.names c.cache_key.new.state.names c.keep.new.self (key_of c.args.dir c.args.part.now, c.in_ok-number.number)
    (λ pair is. c.find.ensures.no_more pair (same_names _ _ c.cache_key.ensures.names pair is)) c.keep.ensures.beside

pub returns-clause-represents : goal.returns-clause-represents
returns-clause-represents g c = λ m st.
    let k = c.cache_key.new.state in
    let after = c.cache_key.ensures.represents m (fewer_names_stand c.args.state.now _ (record { disk = refl; next_node = refl; ring = refl; meta = refl; keys = refl; pins = refl; handles = refl; modes = refl; names = tt }) c.find.ensures.no_more m st) in
    let dir = dir_stands c.args.state.now.disk c.args.state.now.next_node m st.tree c.args.dir c.requires.dir in
    let keyed = keyed_stands k.disk k.next_node m after.well after.tree k.ring.claims k.handles.live after.keys.claims after.handles.live c.args.dir in
    let leads : entry m.nodes c.args.dir c.args.part.now ≡ Some c.in_ok-number.number =
    keyed_led m c.args.dir c.args.part.now (sym keyed ∙ c.number_of-found.ensures.keyed c.if-not-by_key.false)
    ∙ sym (returns-clause-found g c m st dir) in
    record {
      well = after.well;
      tree = after.tree;
      keys = after.keys;
      handles = after.handles;
      caches = after.caches;
      names = stand_beside m.nodes k.names c.keep.new.self after.names (key_of c.args.dir c.args.part.now, c.in_ok-number.number) c.keep.ensures.beside leads;
      records = after.records;
    }
