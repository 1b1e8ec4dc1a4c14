-- Groups of eight blocks, as the code processes them. These definitions describe the code and not the
-- standard.
use Rattle.std.specs.Prelude.{ℕ, zero, suc, List}
use Rattle.byte_words.specs.Blocks.{block_at, first_blocks}
use Rattle.xts_mode.specs.Xts.{times_alpha, tweaked}

-- the tweak some blocks on
unfoldable pub tweak_from : ℕ → ℕ → ℕ
tweak_from tweak zero = tweak
tweak_from tweak (suc j) = times_alpha (tweak_from tweak j)

-- eight blocks, of which the first has the tweak
unfoldable pub group_of : (List ℕ → List ℕ) → ℕ → List ℕ → List ℕ
group_of cipher tweak group = first_blocks (λ b. tweaked cipher (tweak_from tweak b) (block_at 16 group b)) 8
