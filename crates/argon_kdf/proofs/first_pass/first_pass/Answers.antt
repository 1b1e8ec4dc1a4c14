use Rattle.std.proofs.Common.{◌≡◌, [], ◌∷◌, ◌++◌, refl, ap, ◌∙◌, arith, length-set, get_or-set_other}
use Rattle.argon_kdf.specs.Shapes.{shape}
use Rattle.argon_kdf.specs.Slices.{segments_of, slices_of}
use Rattle.argon_kdf.specs.SeenBlocks.{block_at}
use Rattle.argon_kdf.specs.Tables.{empty_table}
use Rattle.argon_kdf.specs.Filling.{with_slices}
use Rattle.argon_kdf.proofs.SliceLemmas.{block_none, slices_append, slices_more}
use Rattle.argon_kdf.proofs.Standing.{Shows_pass, Shows_start}
use Rattle.argon_kdf.proofs.Steps.{with_passes_none, with_passes_next, with_slices_none, with_slices_next}
use Rattle.argon_kdf.proofs.first_pass.first_pass.Goals as goal

pub slices-init : goal.slices-init
slices-init g c =
    let x = shape c.args.layout in
    record {
      count = c.requires.count;
      rooms = λ n d low high. c.requires.rooms n d (omega (arith, c.requires.count));
      has = rw c.in_ok-memory.ensures.items (record { count = refl; slices = λ n low. absurd (omega arith) });
      filled =
          rw (c.in_ok-memory.ensures.items, with_slices_none x c.args.h0.now empty_table 0)
          (Shows_start x (block_at x []) (λ l z low inside. block_none x l z));
    }

pub slices-preserved : goal.slices-preserved
slices-preserved g c =
    let x = shape c.args.layout in
    let h0 = c.args.h0.now in
    let s = c.slices.slice in
    let m = slices_of c.slices.memory.items in
    let v = c.grow_slice.result in
    let before = with_slices x h0 empty_table 0 s in
    let grown : slices_of c.push.new.self.items ≡ m ++ segments_of v.items ∷ [] =
    ap slices_of c.in_ok-push.ensures.items ∙ slices_append c.slices.memory.items v in
    let made = rw c.deref.ensures.value at (c.grow_slice.ensures.made before) in
    record {
      count = length-set _ _ _ ∙ c.slices.invariant.count;
      rooms = λ n d low high.
          rw (get_or-set_other c.slices.rooms s n c.replace-room.new.dest d (omega arith))
          (c.slices.invariant.rooms n d (omega arith) high);
      has = rw grown (slices_more x m s (segments_of v.items) c.slices.invariant.has c.grow_slice.ensures.whole);
      filled = rw (grown, with_slices_next x h0 empty_table 0 s) (made c.slices.invariant.filled);
    }

pub returns-clause-filled : goal.returns-clause-filled
returns-clause-filled g c =
    let x = shape c.args.layout in
    let h0 = c.args.h0.now in
    let done : c.slices.slice ≡ 4 = omega arith in
    rw (with_passes_next x h0 0, with_passes_none x h0)
    (Shows_pass x (block_at x (slices_of c.slices.memory.items)) (with_slices x h0 empty_table 0 4) 0
    (rw done at c.slices.invariant.filled))
