-- A state in which a record was stored represents the mount in which it was.
use Rattle.std.proofs.Common.{◌≡◌, ℕ, ◌+◌, Bool, true, false, cond, List, Option, Some, None, Ok, Err}
use Rattle.std.proofs.Common.{Result, IfSome, refl, sym, ap, subst, ◌∙◌, ◌||◌, ◌&&◌, ◌==◌, not, nat_lt}
use Rattle.std.proofs.Common.{nat_le, length}
use Rattle.std.specs.Prelude.{is_none}
use Rattle.std.proofs.lemmas.Bool.{true≢false}
use Rattle.plain_tree.specs.Facts.{AgreesBy}
use Rattle.disk_tree.specs.DiskTree.{Disk}
use Rattle.key_ring.specs.Holding.{Holding}
use Rattle.key_ring.specs.Modes.{Modes}
use Rattle.inode_refs.specs.CacheMaps.{Cache}
use Rattle.meta_files.specs.declared.fault.StoreFault.{StoreFault}
use Rattle.meta_files.specs.declared.fault.StoreFault.TheVariants as fault
use Rattle.meta_files.specs.declared.files.TheConstants.{MAX_RECORD_BYTES, MAX_RECORDS, LAST_VERSION}
use Rattle.meta_files.specs.Records.{RecordList, record_of, version_of, with_record}
use Rattle.meta_files.specs.Faults.{store_fault}
use Rattle.mount_model.specs.declared.reply.Reply.TheVariants.{Stored}
use Rattle.mount_model.specs.declared.reply.Refusal.TheVariants.{TooBig, Changed, NoSpace}
use Rattle.mount_model.specs.PlainMount.{PlainMount}
use Rattle.mount_model.specs.AnswerForms.{Answer, refusal_with}
use Rattle.mount_model.specs.RecordAnswers.{stored, answer_to_meta_store}
use Rattle.mount_model.specs.WellFormed.{HasRecords}
use Rattle.mount_model.proofs.RecordLemmas.{HasRecords-stored}
use Rattle.dentry_cache.specs.Names.{NameList}
use Rattle.mount_state.specs.CachedNames.{RepresentsNames}
use Rattle.mount_state.specs.Handles.{Handles}
use Rattle.mount_state.specs.Stored.{stored_node}
use Rattle.mount_state.specs.Represents.{Represents, RepresentsKeys, RepresentsHandles}
use Rattle.mount_state.specs.CachedKeys.{RepresentsCaches}
use Rattle.mount_state.specs.declared.state.MountState.{MountState}
use Rattle.mount_state.specs.AnswerOf.{IsAnswerOf}
use Rattle.mount_state.proofs.WalkLemmas.{same_cache}
use Rattle.mount_records.specs.SameButRecords.{SameButRecords}

-- ---- what prevented it

-- an answer without a fault
abbrev after_calls : ℕ → Result ℕ StoreFault
after_calls version = Ok version

no_fault : (o : Option StoreFault) (version : ℕ) → IfSome o (λ fault. after_calls version ≡ Err fault) → o ≡ None
no_fault None version is = refl
no_fault (Some fault) version is = absurd (cc)

-- there is no fault if no test passed, and then the last of the answers is given
unpassed : (a b c d : Bool) (f g h k : StoreFault)
    → cond a (Some f) (cond b (Some g) (cond c (Some h) (cond d (Some k) None))) ≡ None
    → (a ≡ false) × (b ≡ false) × (c ≡ false) × (d ≡ false)
unpassed true b c d f g h k is = absurd (cc)
unpassed false true c d f g h k is = absurd (cc)
unpassed false false true d f g h k is = absurd (cc)
unpassed false false false true f g h k is = absurd (cc)
unpassed false false false false f g h k is = (refl, refl, refl, refl)

last_answer : (a b c d : Bool) (x y z w : Answer) → a ≡ false → b ≡ false → c ≡ false → d ≡ false
    → cond a x (cond b y (cond (c || d) z w)) ≡ w
last_answer true b c d x y z w first second third fourth = absurd (true≢false first)
last_answer false true c d x y z w first second third fourth = absurd (true≢false second)
last_answer false false true d x y z w first second third fourth = absurd (true≢false third)
last_answer false false false true x y z w first second third fourth = absurd (true≢false fourth)
last_answer false false false false x y z w first second third fourth = refl

none_of : (a b : Bool) → a ≡ false → b ≡ false → (a || b) ≡ false
none_of a b first second = ap (λ x. x || b) first ∙ second

module _ (m : PlainMount) (name bytes : List ℕ) (expected : ℕ)
    (due : store_fault m.records name expected bytes ≡ None) where
  abbrev version : ℕ
  version = version_of m.records name

  abbrev is_long : Bool
  is_long = nat_lt MAX_RECORD_BYTES (length bytes)

  abbrev is_stale : Bool
  is_stale = not (version == expected)

  abbrev is_crowded : Bool
  is_crowded = is_none (record_of m.records name) && nat_le MAX_RECORDS (length m.records)

  abbrev is_spent : Bool
  is_spent = version == LAST_VERSION

  none_holds : (is_long ≡ false) × (is_stale ≡ false) × (is_crowded ≡ false) × (is_spent ≡ false)
  none_holds = unpassed is_long is_stale is_crowded is_spent fault.TooBig (fault.Changed version)
      fault.NoSpace fault.NoSpace due

  records_well : HasRecords m.records → HasRecords (with_record m.records name (version + 1) bytes)
  records_well well =
      HasRecords-stored m name bytes well none_holds.0
      (none_of is_crowded is_spent none_holds.2 none_holds.3)

  answer_stored : answer_to_meta_store m name expected bytes ≡ stored m name bytes
  answer_stored =
      last_answer is_long is_stale is_crowded is_spent (refusal_with m TooBig) (refusal_with m (Changed version))
      (refusal_with m NoSpace) (stored m name bytes)
      none_holds.0 none_holds.1 none_holds.2 none_holds.3

-- ---- the state

module _ (old new : MountState) (m : PlainMount) (st : Represents old m) (same : SameButRecords old new) where
  -- with whatever records the mount is well formed
  records_stand : (records : RecordList) → HasRecords records → new.meta ≡ records
      → Represents new (record m { records = records })
  records_stand records well are = record {
    well = record { keys = st.well.keys; nodes = st.well.nodes; handles = st.well.handles; records = well };
    tree = record {
      nodes = subst (λ (d : Disk). AgreesBy (stored_node m.raws) m.nodes d) (sym same.disk) st.tree.nodes;
      next = same.next_node ∙ st.tree.next;
    };
    keys = subst (λ (ring : Holding). RepresentsKeys ring (record m { records = records })) (sym same.ring)
        (record { claims = st.keys.claims; secrets = st.keys.secrets });
    handles = subst (λ (handles : Handles). RepresentsHandles handles (record m { records = records }))
        (sym same.handles)
        (record { live = st.handles.live; opened = st.handles.opened });
    caches = subst (λ (cache : Cache). RepresentsCaches cache new.modes (record m { records = records }))
        (sym (same_cache old.inodes new.inodes same.keys same.pins))
        (subst (λ (modes : Modes). RepresentsCaches old.inodes modes (record m { records = records }))
        (sym same.modes)
        (record { file_keys = st.caches.file_keys; mode_keys = st.caches.mode_keys }));
    names = subst (λ (names : NameList). RepresentsNames names m.nodes) (sym same.names) st.names;
    records = are;
  }

  stored_by : (name bytes : List ℕ) (expected version : ℕ)
      → IfSome (store_fault old.meta name expected bytes) (λ fault. after_calls version ≡ Err fault)
      → version ≡ version_of old.meta name + 1 → new.meta ≡ with_record old.meta name version bytes
      → IsAnswerOf (answer_to_meta_store m name expected bytes) (Stored version) new
  stored_by name bytes expected version after_calls is_version are =
      let due : store_fault m.records name expected bytes ≡ None =
      sym (ap (λ rs. store_fault rs name expected bytes) st.records) ∙ no_fault _ version after_calls in
      let told : version ≡ version_of m.records name + 1 =
      is_version ∙ ap (λ rs. version_of rs name + 1) st.records in
      subst (λ (a : Answer). IsAnswerOf a (Stored version) new) (sym (answer_stored m name bytes expected due)) (
        ap Stored told,
        records_stand (with_record m.records name (version_of m.records name + 1) bytes)
            (records_well m name bytes expected due st.well.records)
            (are ∙ (λ i. with_record (st.records i) name (told i) bytes)),
      )

  -- the name and the bytes were taken as slices
  pub stored_gives : (name slice_name bytes slice_bytes : List ℕ) (expected version : ℕ) → slice_name ≡ name
      → slice_bytes ≡ bytes
      → IfSome (store_fault old.meta slice_name expected slice_bytes) (λ fault. after_calls version ≡ Err fault)
      → version ≡ version_of old.meta slice_name + 1 → new.meta
      ≡ with_record old.meta slice_name version slice_bytes
      → IsAnswerOf (answer_to_meta_store m name expected bytes) (Stored version) new
  stored_gives name slice_name bytes slice_bytes expected version name_is bytes_are after_calls is_version are =
      subst (λ (n : List ℕ). IsAnswerOf (answer_to_meta_store m n expected bytes) (Stored version) new) name_is
      (subst (λ (b : List ℕ). IsAnswerOf (answer_to_meta_store m slice_name expected b) (Stored version) new)
      bytes_are
      (stored_by slice_name slice_bytes expected version after_calls is_version are))
