use Rattle.std.proofs.Common.{◌≤◌, length, inl, refl, sym, subst, ◌∙◌}
use Rattle.fsc_keys.specs.Keys.{key_id_of}
use Rattle.fsc_keys.specs.declared.raw_key.TheConstants.{MIN_RAW_KEY_BYTES, MAX_RAW_KEY_BYTES}
use Rattle.mount_keys.proofs.EvictionLemmas.{added_rule, added_names}
use Rattle.mount_keys.proofs.AdditionLemmas.{added_gives, added_present}
use Rattle.mount_keys.proofs.additions.add_key.Goals as goal

pub invariant_of-state : goal.invariant_of-state
invariant_of-state c =
    let s = c.args.state.now in
    record {
      forgets = added_rule s.disk s.ring c.add-added.new.self s.inodes s.modes s.handles.live s.forgets
          c.add-added.result (key_id_of c.in-Ok.key) c.args.uid c.add-added.ensures.claimed
          c.add-added.ensures.kept;
      remembers = added_names s.disk s.ring c.add-added.new.self s.names s.handles.live s.remembers
          c.add-added.result (key_id_of c.in-Ok.key) c.args.uid c.add-added.ensures.claimed
          c.add-added.ensures.kept;
      safe = s.safe;
    }

pub returns-in-Ok-added-clause-represents : goal.returns-in-Ok-added-clause-represents
returns-in-Ok-added-clause-represents c = λ m st agrees.
    let range : (MIN_RAW_KEY_BYTES ≤ length c.args.raw.now)
    × (length c.args.raw.now ≤ MAX_RAW_KEY_BYTES) =
    subst (λ l. (MIN_RAW_KEY_BYTES ≤ length l) × (length l ≤ MAX_RAW_KEY_BYTES)) c.as_slice.ensures
    (c.in-Ok.ensures.ok_in_range.0 refl) in
    inl (added_gives c.args.state.now m st c.users_of-used.ensures.used _ c.args.uid c.in-Ok.key
    c.args.raw.now c.in-Ok-added.id (agrees refl)
    (c.in-Ok.ensures.value ∙ c.as_slice.ensures) range.0 range.1 c.in-Ok-added.ensures.id
    (λ over. let none = sym c.in-Ok-added.is ∙ c.add-added.ensures.quota.1 over in cc none)
    (record { disk = refl; next_node = refl; ring = tt; meta = refl; keys = refl; pins = refl; handles = refl; modes = refl; names = refl })
    (record { claims = c.in-Ok-added.ensures.claimed; secrets = c.in-Ok-added.ensures.secret }))

pub returns-in-Ok-added-clause-present : goal.returns-in-Ok-added-clause-present
returns-in-Ok-added-clause-present c = λ _.
    let s = c.args.state.now in
    added_present s.disk s.ring.claims c.add-added.new.self.claims s.handles.live c.args.uid c.in-Ok.key
    c.args.raw.now
    (c.in-Ok.ensures.value ∙ c.as_slice.ensures) c.in-Ok-added.ensures.claimed
