use Rattle.std.proofs.Common.{ℕ, ◌+◌, ◌*◌, [], ◌∷◌, arith}
use Rattle.argon_kdf.proofs.Squares.{column_word}
use Rattle.argon_kdf.proofs.block.column_of.Goals as goal

pub returns : goal.returns
returns c = λ j.
    let i : ℕ = c.args.i in
    column_word c.args.block.now i 0 (2 * i) c.requires (omega arith) (omega arith) j
    ∷ column_word c.args.block.now i 1 (2 * i + 1) c.requires (omega arith) (omega arith) j
    ∷ column_word c.args.block.now i 2 (2 * i + 16) c.requires (omega arith) (omega arith) j
    ∷ column_word c.args.block.now i 3 (2 * i + 17) c.requires (omega arith) (omega arith) j
    ∷ column_word c.args.block.now i 4 (2 * i + 32) c.requires (omega arith) (omega arith) j
    ∷ column_word c.args.block.now i 5 (2 * i + 33) c.requires (omega arith) (omega arith) j
    ∷ column_word c.args.block.now i 6 (2 * i + 48) c.requires (omega arith) (omega arith) j
    ∷ column_word c.args.block.now i 7 (2 * i + 49) c.requires (omega arith) (omega arith) j
    ∷ column_word c.args.block.now i 8 (2 * i + 64) c.requires (omega arith) (omega arith) j
    ∷ column_word c.args.block.now i 9 (2 * i + 65) c.requires (omega arith) (omega arith) j
    ∷ column_word c.args.block.now i 10 (2 * i + 80) c.requires (omega arith) (omega arith) j
    ∷ column_word c.args.block.now i 11 (2 * i + 81) c.requires (omega arith) (omega arith) j
    ∷ column_word c.args.block.now i 12 (2 * i + 96) c.requires (omega arith) (omega arith) j
    ∷ column_word c.args.block.now i 13 (2 * i + 97) c.requires (omega arith) (omega arith) j
    ∷ column_word c.args.block.now i 14 (2 * i + 112) c.requires (omega arith) (omega arith) j
    ∷ column_word c.args.block.now i 15 (2 * i + 113) c.requires (omega arith) (omega arith) j ∷ []
