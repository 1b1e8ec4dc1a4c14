use Rattle.std.proofs.Common.{◌≡◌, ℕ, List, ◌+◌, ◌-◌, ◌*◌, ◌/◌, ◌≤◌, ◌++◌, ◌%◌, ◌^◌, false, [], arith, ap, length, length-drop, take, drop, refl, append_assoc, ◌∙◌}
use Rattle.std.proofs.lemmas.List.{take_rest, append-nil, length-take-le}
use Rattle.blake2_core.specs.Compression.{compressed}
use Rattle.blake2_core.specs.Hasher.{Follows}
use Rattle.blake2_core.specs.declared.Blake2b.{Blake2b}
use Rattle.blake2_core.proofs.Following.{Follows_block, Follows_whole, take_block}
use Rattle.blake2_core.proofs.Blake2b.absorb.Goals as goal

-- nothing of the bytes is taken yet
Follows_none : (s : Blake2b) (m : List ℕ) (n : ℕ) → Follows s m n → Follows s (m ++ []) (n + 0)
Follows_none s m n f =
    let same : n + 0 ≡ n = omega arith in
    rw (append-nil m, same) f

-- a block more of the bytes
Follows_more : (s t : Blake2b) (m bytes x : List ℕ) (n i at : ℕ) → Follows s (m ++ take at bytes) (n + i) → s.used ≡ 0
    → at + 128 ≤ length bytes → x ≡ take 128 (drop at bytes) → t.count ≡ (s.count + 128) % 2 ^ 128
    → t.state ≡ compressed s.state x t.count false → t.size ≡ s.size → t.used ≡ 0 → Follows t (m ++ take (at + 128) bytes) (n + (i + 1))
Follows_more s t m bytes x n i at f none fits block count state size empty =
    let long : length x ≡ 128 = ap length block ∙ length-take-le 128 (drop at bytes) (omega (arith, length-drop at bytes)) in
    let grown : take (at + 128) bytes ≡ take at bytes ++ x = rw block (take_block bytes at) in
    let next : n + (i + 1) ≡ n + i + 1 = omega arith in
    rw (grown, ← append_assoc, next) (Follows_block s t (m ++ take at bytes) x (n + i) f none long count state size empty)

pub turns-init : goal.turns-init
turns-init c = record {
  empty = c.requires.empty;
  same_size = refl;
  added = λ m n held. Follows_none c.args.self.now m n held;
}

pub turns-preserved : goal.turns-preserved
turns-preserved c =
    let width : 128 * c.turns.i + 128 - 128 * c.turns.i ≡ 128 = omega arith in
    let next : 128 * (c.turns.i + 1) ≡ 128 * c.turns.i + 128 = omega arith in
    record {
      empty = c.turns.invariant.empty;
      same_size = c.turns.invariant.same_size;
      added = λ m n held.
          rw next
          (Follows_more c.turns.self _ m c.args.bytes.now _ n c.turns.i (128 * c.turns.i) (c.turns.invariant.added m n held) c.turns.invariant.empty
          (omega arith) (rw width refl) refl c.compress.ensures refl c.turns.invariant.empty);
    }

pub keep-requires : goal.keep-requires
keep-requires c =
    let at : ℕ = 128 * ((length c.args.bytes.now - 1) / 128) in
    rw (take_rest c.args.bytes.now at) (omega (arith, length-drop at c.args.bytes.now, c.turns.invariant.empty, c.requires.some))

pub returns-clause-added : goal.returns-clause-added
returns-clause-added c = λ m n held.
    let k : ℕ = (length c.args.bytes.now - 1) / 128 in
    let done : c.turns.i ≡ k = omega arith in
    let kept = c.keep.ensures.added _ _ (rw done at (c.turns.invariant.added m n held)) in
    Follows_whole _ m c.args.bytes.now _ (128 * k) (rw (take_rest c.args.bytes.now (128 * k)) at kept)
