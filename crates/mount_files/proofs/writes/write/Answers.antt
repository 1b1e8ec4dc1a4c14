use Rattle.std.proofs.Common.{◌≡◌, ◌+◌, ◌<◌, false, length, nat_lt, refl, sym, ap, subst, ◌∙◌, arith}
use Rattle.std.proofs.lemmas.Bool.{le-ltb, true≢false}
use Rattle.mount_limits.specs.declared.TheConstants.{MAX_FILE_BYTES}
use Rattle.disk_tree.specs.DiskTree.{Disk}
use Rattle.file_disk.specs.Keys.{seal_of}
use Rattle.file_disk.specs.Bodies.{disk_after_write}
use Rattle.mount_model.specs.declared.reply.Refusal.TheVariants.{NoSpace}
use Rattle.mount_model.specs.FileAnswers.{answer_to_write}
use Rattle.mount_state.specs.CachedNames.{NamesForget}
use Rattle.mount_state.specs.Discipline.{Forgets}
use Rattle.mount_state.specs.Safe.{IsSafe}
use Rattle.mount_files.specs.Writing.{IsWrittenTo}
use Rattle.mount_files.proofs.OpenLemmas.{file_at}
use Rattle.mount_files.proofs.SealLemmas.{seal_is}
use Rattle.mount_files.proofs.RoomLemmas.{room_left, lacks_room}
use Rattle.mount_files.proofs.WrittenLemmas.{on_either, written_rule, written_names, written_safe, written_stands, unwritten_stands, after}
use Rattle.mount_files.proofs.WriteLemmas.{write_refused, write_full, write_done, given_refusal, told_refusal, given_done, not_refused, some_bytes, not_full}
use Rattle.mount_files.proofs.writes.write.Goals as goal

pub returns-in-Err-clause-represents : goal.returns-in-Err-clause-represents
returns-in-Err-clause-represents c = λ m st.
    let s = c.args.state.now in
    given_refusal s m st c.args.caller c.args.handle c.args.offset c.args.bytes.now c.in-Err.refusal
    (write_refused s m st c.args.caller c.args.handle c.args.offset c.args.bytes.now c.in-Err.refusal c.in-Err.ensures.refused) s st

pub returns-in-Err-clause-refused : goal.returns-in-Err-clause-refused
returns-in-Err-clause-refused c = λ m st _.
    let s = c.args.state.now in
    told_refusal s m st c.args.caller c.args.handle c.args.offset c.args.bytes.now c.in-Err.refusal
    (write_refused s m st c.args.caller c.args.handle c.args.offset c.args.bytes.now c.in-Err.refusal c.in-Err.ensures.refused)

pub returns-in-Err-key_of-clause-represents : goal.returns-in-Err-key_of-clause-represents
returns-in-Err-key_of-clause-represents c = λ m st.
    let is_open = file_at c.args.state.now m st c.args.caller c.args.handle c.in-Ok.file c.in-Ok.ensures.held c.in-Ok.ensures.file in
    absurd (true≢false (sym (c.in-Err-key_of.ensures.held (record { mount = m; represents = st; is_open = is_open }))))

pub returns-in-Err-key_of-clause-refused : goal.returns-in-Err-key_of-clause-refused
returns-in-Err-key_of-clause-refused c = λ m st _.
    let is_open = file_at c.args.state.now m st c.args.caller c.args.handle c.in-Ok.file c.in-Ok.ensures.held c.in-Ok.ensures.file in
    absurd (true≢false (sym (c.in-Err-key_of.ensures.held (record { mount = m; represents = st; is_open = is_open }))))

pub invariant_of-state : goal.invariant_of-state
invariant_of-state c =
    let s = c.args.state.now in
    let xs = c.as_slice-piece.result.now in
    let seal = seal_of c.in-Ok-key_of.key in
    record {
      forgets = on_either (λ (d : Disk). Forgets d s.ring.claims s.inodes s.modes s.handles.live) c.write_file.result c.write_file.ensures.written c.write_file.ensures.kept
          (written_rule s.disk c.in-Ok.file seal c.args.offset xs s.ring.claims s.inodes s.modes s.handles.live s.forgets) s.forgets;
      remembers = on_either (λ (d : Disk). NamesForget d s.ring.claims s.names s.handles.live) c.write_file.result c.write_file.ensures.written c.write_file.ensures.kept
          (written_names s.disk c.in-Ok.file seal c.args.offset xs s.ring.claims s.names s.handles.live s.remembers) s.remembers;
      safe = on_either (λ (d : Disk). IsSafe d s.next_node s.handles.live) c.write_file.result c.write_file.ensures.written c.write_file.ensures.kept
          (written_safe s.disk c.in-Ok.file seal c.args.offset xs s.next_node s.handles.live s.safe) s.safe;
    }

pub returns-in-Ok-write_file-clause-represents : goal.returns-in-Ok-write_file-clause-represents
returns-in-Ok-write_file-clause-represents c = λ m st.
    let s = c.args.state.now in
    let xs = c.as_slice-piece.result.now in
    let file = c.in-Ok.file in
    let seal = seal_of c.in-Ok-key_of.key in
    let is_open = file_at s m st c.args.caller c.args.handle file c.in-Ok.ensures.held c.in-Ok.ensures.file in
    let small : nat_lt MAX_FILE_BYTES (c.args.offset + length xs) ≡ false = le-ltb MAX_FILE_BYTES (c.args.offset + length xs) (omega arith) in
    let room = room_left s m st file c.args.offset xs (λ some over. let bad = sym c.in-Ok-write_file.is ∙ c.write_file.ensures.full some over in absurd (cc bad)) in
    given_done s m st c.args.caller c.args.handle c.args.offset c.args.bytes.now (after s m st file c.args.offset xs)
    (ap (answer_to_write m c.args.caller c.args.handle c.args.offset) (sym c.as_slice-piece.ensures)
    ∙ write_done s m st c.args.caller c.args.handle c.args.offset xs file c.in-Ok.ensures.held c.in-Ok.ensures.file small room) _
    (written_stands s m st file c.args.offset xs seal (seal_is s m st file is_open seal c.in-Ok-key_of.ensures.sealed) c.in-Ok-key_of.ensures.ranged _
    c.in-Ok-write_file.ensures.written (record { disk = tt; next_node = refl; ring = refl; meta = refl; keys = refl; pins = refl; handles = refl; modes = refl; names = refl })
    c.slice_is_bytes.ensures small room)

pub returns-in-Ok-write_file-clause-refused : goal.returns-in-Ok-write_file-clause-refused
returns-in-Ok-write_file-clause-refused c = λ m st bad.
    let s = c.args.state.now in
    let xs = c.as_slice-piece.result.now in
    let file = c.in-Ok.file in
    let small : nat_lt MAX_FILE_BYTES (c.args.offset + length xs) ≡ false = le-ltb MAX_FILE_BYTES (c.args.offset + length xs) (omega arith) in
    let room = room_left s m st file c.args.offset xs (λ some over. let no = sym c.in-Ok-write_file.is ∙ c.write_file.ensures.full some over in absurd (cc no)) in
    absurd (not_refused s m st c.args.caller c.args.handle c.args.offset c.args.bytes.now (after s m st file c.args.offset xs)
    (ap (answer_to_write m c.args.caller c.args.handle c.args.offset) (sym c.as_slice-piece.ensures)
    ∙ write_done s m st c.args.caller c.args.handle c.args.offset xs file c.in-Ok.ensures.held c.in-Ok.ensures.file small room) bad)

pub returns-in-Ok-write_file-clause-written : goal.returns-in-Ok-write_file-clause-written
returns-in-Ok-write_file-clause-written c = λ _.
    let s = c.args.state.now in
    subst (λ o. IsWrittenTo s c.write_file.new.disk o c.args.offset c.args.bytes.now) (sym c.in-Ok.ensures.held) (record {
      seal = seal_of c.in-Ok-key_of.key;
      sealed = c.in-Ok-key_of.ensures.sealed;
      written = c.in-Ok-write_file.ensures.written ∙ ap (disk_after_write s.disk c.in-Ok.file (seal_of c.in-Ok-key_of.key) c.args.offset) c.as_slice-piece.ensures;
    })

pub returns-in-Err-NoSpace-clause-represents : goal.returns-in-Err-NoSpace-clause-represents
returns-in-Err-NoSpace-clause-represents c = λ m st.
    let s = c.args.state.now in
    let xs = c.as_slice-piece.result.now in
    let file = c.in-Ok.file in
    let small : nat_lt MAX_FILE_BYTES (c.args.offset + length xs) ≡ false = le-ltb MAX_FILE_BYTES (c.args.offset + length xs) (omega arith) in
    let some : 0 < length xs = some_bytes (length xs) (λ none. true≢false (sym (c.in-Err-NoSpace.ensures.empty none))) in
    let lacks = lacks_room s m st file c.args.offset xs some (c.in-Err-NoSpace.ensures.no_space c.in-Err-NoSpace.field-0-is) in
    given_refusal s m st c.args.caller c.args.handle c.args.offset c.args.bytes.now NoSpace
    (ap (answer_to_write m c.args.caller c.args.handle c.args.offset) (sym c.as_slice-piece.ensures)
    ∙ write_full s m st c.args.caller c.args.handle c.args.offset xs file c.in-Ok.ensures.held c.in-Ok.ensures.file small lacks) _
    (unwritten_stands s m st _ c.in-Err-NoSpace.ensures.kept (record { disk = tt; next_node = refl; ring = refl; meta = refl; keys = refl; pins = refl; handles = refl; modes = refl; names = refl }))

pub returns-in-Err-NoSpace-clause-refused : goal.returns-in-Err-NoSpace-clause-refused
returns-in-Err-NoSpace-clause-refused c = λ m st _.
    let s = c.args.state.now in
    let xs = c.as_slice-piece.result.now in
    let file = c.in-Ok.file in
    let small : nat_lt MAX_FILE_BYTES (c.args.offset + length xs) ≡ false = le-ltb MAX_FILE_BYTES (c.args.offset + length xs) (omega arith) in
    let some : 0 < length xs = some_bytes (length xs) (λ none. true≢false (sym (c.in-Err-NoSpace.ensures.empty none))) in
    let lacks = lacks_room s m st file c.args.offset xs some (c.in-Err-NoSpace.ensures.no_space c.in-Err-NoSpace.field-0-is) in
    told_refusal s m st c.args.caller c.args.handle c.args.offset c.args.bytes.now NoSpace
    (ap (answer_to_write m c.args.caller c.args.handle c.args.offset) (sym c.as_slice-piece.ensures)
    ∙ write_full s m st c.args.caller c.args.handle c.args.offset xs file c.in-Ok.ensures.held c.in-Ok.ensures.file small lacks)

pub returns-in-Err-NoMemory-clause-refused : goal.returns-in-Err-NoMemory-clause-refused
returns-in-Err-NoMemory-clause-refused c = λ m st bad.
    let s = c.args.state.now in
    let xs = c.as_slice-piece.result.now in
    let file = c.in-Ok.file in
    let small : nat_lt MAX_FILE_BYTES (c.args.offset + length xs) ≡ false = le-ltb MAX_FILE_BYTES (c.args.offset + length xs) (omega arith) in
    let room = room_left s m st file c.args.offset xs (λ some over.
    not_full c.write_file.result c.in-Err-NoMemory.field-0 c.in-Err-NoMemory.is c.in-Err-NoMemory.field-0-is (c.write_file.ensures.full some over)) in
    absurd (not_refused s m st c.args.caller c.args.handle c.args.offset c.args.bytes.now (after s m st file c.args.offset xs)
    (ap (answer_to_write m c.args.caller c.args.handle c.args.offset) (sym c.as_slice-piece.ensures)
    ∙ write_done s m st c.args.caller c.args.handle c.args.offset xs file c.in-Ok.ensures.held c.in-Ok.ensures.file small room) bad)
