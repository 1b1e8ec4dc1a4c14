use Rattle.std.proofs.Common.{ℕ, List, ◌+◌, ◌-◌, ◌/◌, ◌++◌, arith, length, length-append, length-drop, drop}
use Rattle.std.proofs.lemmas.List.{take_rest}
use Rattle.blake2_core.specs.Digest.{last_block}
use Rattle.blake2_core.proofs.Following.{Holds-Follows, Follows-Holds, Follows_whole}
use Rattle.blake2_core.proofs.Blake2b.update.Goals as goal

pub returns-then-piece-room-clause-added : goal.returns-then-piece-room-clause-added
returns-then-piece-room-clause-added c = λ m held.
    let f = Holds-Follows c.args.self.now m held in
    Follows-Holds _ _ _ (omega (arith, f.counted, length-append m c.args.piece.now)) (c.keep.ensures.added m _ f)

pub returns-then-self-eq0-clause-added : goal.returns-then-self-eq0-clause-added
returns-then-self-eq0-clause-added c = λ m held.
    let f = Holds-Follows c.args.self.now m held in
    Follows-Holds _ _ _ (omega (arith, f.counted, length-append m c.args.piece.now)) (c.absorb.ensures.added m _ f)

pub returns-else-self-eq0-clause-added : goal.returns-else-self-eq0-clause-added
returns-else-self-eq0-clause-added c = λ m held.
    let piece : List ℕ = c.args.piece.now in
    let room : ℕ = 128 - c.args.self.now.used in
    let n : ℕ = last_block m in
    let f = Holds-Follows c.args.self.now m held in
    let whole = c.absorb-else-self-eq0.ensures.added _ _ (c.fill.ensures.added m n f) in
    Follows-Holds _ (m ++ piece) (n + 1 + (length (drop room piece) - 1) / 128) (omega (arith, f.counted, length-append m piece, length-drop room piece))
    (Follows_whole _ m piece _ room (rw (take_rest piece room) at whole))
