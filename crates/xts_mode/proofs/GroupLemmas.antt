-- Groups of eight blocks within a unit.
use Rattle.std.proofs.Common.{◌≡◌, ℕ, zero, suc, ◌+◌, ◌-◌, ◌*◌, ◌<◌, ◌≤◌, List, [], ◌∷◌, ◌++◌, length, take, drop, get_or, refl, ap, sym, ◌∙◌, arith, append_assoc, length-take-le, length-drop}
use Rattle.std.proofs.lemmas.List.{append-nil, take-take, drop-drop, drop-take}
use Rattle.std.proofs.lemmas.Simd.{put_chunk_whole}
use Rattle.std.specs.Prelude.{bit_xor}
use Rattle.std.specs.Simd.Lanes.{zip2}
use lib.Lanes.{chunk, put_chunk}
use borrow.Rule.Slice.PartMut.{put_mid}
use Rattle.byte_words.specs.Blocks.{block_at, first_blocks}
use Rattle.byte_words.specs.Numbers.{little_endian_bytes}
use Rattle.byte_words.specs.Xor.{xor_bytes}
use Rattle.byte_words.proofs.BlockLemmas.{first_blocks_same, length-first_blocks}
use Rattle.byte_words.proofs.InPlace.{write_in_place_below}
use Rattle.byte_words.proofs.XorLemmas.{length-xor_bytes}
use Rattle.xts_mode.specs.Groups.{tweak_from, group_of}
use Rattle.xts_mode.specs.Xts.{times_alpha, tweak_at, tweaked}
use Rattle.xts_mode.proofs.UnitLemmas.{tweaked_blocks}

-- ---- vectors

pub lanes_xor : (xs ys : List ℕ) → zip2 bit_xor xs ys ≡ xor_bytes xs ys
unfolding xor_bytes
lanes_xor [] ys = refl
lanes_xor (x ∷ xs) [] = refl
lanes_xor (x ∷ xs) (y ∷ ys) = (λ i. bit_xor x y ∷ lanes_xor xs ys i)

pub masked_lanes : (group : List ℕ) (b count : ℕ) (mask : List ℕ) → count ≡ 16 → 16 * b + 16 ≤ length group → length mask ≡ 16 →
    zip2 bit_xor (chunk 0 16 (take count (drop (16 * b) group))) mask ≡ xor_bytes (block_at 16 group b) mask
unfolding block_at
masked_lanes group b count mask whole within size =
    let same : take 16 (take count (drop (16 * b) group)) ≡ take 16 (drop (16 * b) group) = take-take 16 count (drop (16 * b) group) (omega arith) in
    ap (λ v. zip2 bit_xor v mask) same ∙ lanes_xor (take 16 (drop (16 * b) group)) mask

-- one more block of a group is written
pub block_written : (blocks masks : List (List ℕ)) (b count : ℕ) (now was : List ℕ) →
    ((k : ℕ) → k < 8 → length (get_or blocks k []) ≡ 16) → ((k : ℕ) → k < 8 → length (get_or masks k []) ≡ 16) → b < 8 → count ≡ 16 → 16 * b + 16 ≤ length now →
    now ≡ first_blocks (λ k. xor_bytes (get_or blocks k []) (get_or masks k [])) b ++ drop (16 * b) was →
    put_mid (16 * b) count now (put_chunk 0 (take count (drop (16 * b) now)) (zip2 bit_xor (get_or blocks b []) (get_or masks b [])))
    ≡ first_blocks (λ k. xor_bytes (get_or blocks k []) (get_or masks k [])) (b + 1) ++ drop (16 * (b + 1)) was
block_written blocks masks b count now was sizes others low whole within is =
    let f : ℕ → List ℕ = λ k. xor_bytes (get_or blocks k []) (get_or masks k []) in
    let f_size : (k : ℕ) → k < 8 → length (f k) ≡ 16 = λ k here. length-xor_bytes (get_or blocks k []) (get_or masks k []) (sizes k here ∙ sym (others k here)) ∙ sizes k here in
    let sum : zip2 bit_xor (get_or blocks b []) (get_or masks b []) ≡ f b = lanes_xor (get_or blocks b []) (get_or masks b []) in
    let part : length (take count (drop (16 * b) now)) ≡ 16 = length-take-le count (drop (16 * b) now) (omega (arith, length-drop (16 * b) now)) ∙ whole in
    ap (λ v. put_mid (16 * b) count now (put_chunk 0 (take count (drop (16 * b) now)) v)) sum
    ∙ ap (λ v. put_mid (16 * b) count now v) (put_chunk_whole (take count (drop (16 * b) now)) (f b) (part ∙ sym (f_size b low)))
    ∙ write_in_place_below 16 f b (16 * b) count now was (f b) (λ j below. f_size j (omega arith)) refl whole is refl

-- the masks are the tweaks, so each block is between two additions of its own
pub group_made : (cipher : List ℕ → List ℕ) (tweak : ℕ) (group : List ℕ) (taken made masks : List (List ℕ)) →
    ((b : ℕ) → b < 8 → get_or masks b [] ≡ little_endian_bytes 16 (tweak_from tweak b)) →
    ((b : ℕ) → b < 8 → get_or taken b [] ≡ xor_bytes (block_at 16 group b) (get_or masks b [])) →
    ((b : ℕ) → b < 8 → get_or made b [] ≡ cipher (get_or taken b [])) →
    first_blocks (λ b. xor_bytes (get_or made b []) (get_or masks b [])) 8 ≡ group_of cipher tweak group
unfolding group_of tweaked
group_made cipher tweak group taken made masks mask masked is_encrypted =
    first_blocks_same (λ b. xor_bytes (get_or made b []) (get_or masks b [])) (λ b. tweaked cipher (tweak_from tweak b) (block_at 16 group b)) 8
    (λ b low i. xor_bytes ((is_encrypted b low ∙ ap cipher (masked b low ∙ ap (λ m. xor_bytes (block_at 16 group b) m) (mask b low))) i) (mask b low i))

-- ---- a group is a part of a unit

pub part_is_group : (xs : List ℕ) (g count : ℕ) → count ≡ 128 → take count (drop (128 * g) xs) ≡ block_at 128 xs g
unfolding block_at
part_is_group xs g count whole = (λ i. take (whole i) (drop (128 * g) xs))

-- block b of group g is block 8 g + b
pub block_in_group : (xs : List ℕ) (g b : ℕ) → b < 8 → block_at 16 (block_at 128 xs g) b ≡ block_at 16 xs (8 * g + b)
unfolding block_at
block_in_group xs g b low =
    let rest : 16 * b + (128 - 16 * b) ≡ 128 = omega arith in
    let place : 128 * g + 16 * b ≡ 16 * (8 * g + b) = omega arith in
    ap (λ n. take 16 (drop (16 * b) (take n (drop (128 * g) xs)))) (sym rest)
    ∙ ap (λ ys. take 16 ys) (drop-take (16 * b) (128 - 16 * b) (drop (128 * g) xs))
    ∙ take-take 16 (128 - 16 * b) (drop (16 * b) (drop (128 * g) xs)) (omega arith)
    ∙ ap (λ ys. take 16 ys) (drop-drop (16 * b) (128 * g) xs) ∙ ap (λ n. take 16 (drop n xs)) place

-- the tweaks of a group continue from its first
pub tweak_from_at : (key : List ℕ) (index m b : ℕ) → tweak_from (tweak_at key index m) b ≡ tweak_at key index (m + b)
unfolding tweak_from tweak_at
tweak_from_at key index m zero = let same : m ≡ m + 0 = omega arith in ap (λ n. tweak_at key index n) same
tweak_from_at key index m (suc b) =
    let next : suc (m + b) ≡ m + suc b = omega arith in
    ap times_alpha (tweak_from_at key index m b) ∙ ap (λ n. tweak_at key index n) next

-- blocks by groups of eight
abbrev pub grouped : (ℕ → List ℕ) → ℕ → List ℕ
grouped f g = first_blocks (λ b. f (8 * g + b)) 8

pub length-grouped : (f : ℕ → List ℕ) (g : ℕ) → ((j : ℕ) → length (f j) ≡ 16) → length (grouped f g) ≡ 128
length-grouped f g sizes = length-first_blocks 16 (λ b. f (8 * g + b)) 8 (λ b. sizes (8 * g + b))

sum_of_blocks : (f : ℕ → List ℕ) (m n : ℕ) → first_blocks f (m + n) ≡ first_blocks f m ++ first_blocks (λ b. f (m + b)) n
unfolding first_blocks
sum_of_blocks f m zero = let same : m + 0 ≡ m = omega arith in ap (λ k. first_blocks f k) same ∙ sym (append-nil (first_blocks f m))
sum_of_blocks f m (suc n) =
    let next : m + suc n ≡ suc (m + n) = omega arith in
    ap (λ k. first_blocks f k) next ∙ ap (λ xs. xs ++ f (m + n)) (sum_of_blocks f m n) ∙ append_assoc (first_blocks f m) (first_blocks (λ b. f (m + b)) n) (f (m + n))

pub all_grouped : (f : ℕ → List ℕ) (g : ℕ) → first_blocks (grouped f) g ≡ first_blocks f (8 * g)
unfolding first_blocks
all_grouped f zero = refl
all_grouped f (suc g) =
    let next : 8 * g + 8 ≡ 8 * suc g = omega arith in
    ap (λ xs. xs ++ grouped f g) (all_grouped f g) ∙ sym (sum_of_blocks f (8 * g) 8) ∙ ap (λ k. first_blocks f k) next

-- the result for a group is eight blocks of the result for the unit
pub group_of_unit : (cipher : List ℕ → List ℕ) (key : List ℕ) (index : ℕ) (unit : List ℕ) (g tweak : ℕ) (group : List ℕ) →
    tweak ≡ tweak_at key index (8 * g) → group ≡ block_at 128 unit g → group_of cipher tweak group ≡ grouped (tweaked_blocks cipher key index unit) g
unfolding group_of
group_of_unit cipher key index unit g tweak group running part =
    (λ i. first_blocks (λ b. tweaked cipher (tweak_from (running i) b) (block_at 16 (part i) b)) 8)
    ∙ first_blocks_same (λ b. tweaked cipher (tweak_from (tweak_at key index (8 * g)) b) (block_at 16 (block_at 128 unit g) b)) (λ b. tweaked_blocks cipher key index unit (8 * g + b)) 8
    (λ b low i. tweaked cipher (tweak_from_at key index (8 * g) b i) (block_in_group unit g b low i))

pub tweak_after_group : (key : List ℕ) (index g tweak : ℕ) → tweak ≡ tweak_at key index (8 * g) → tweak_from tweak 8 ≡ tweak_at key index (8 * (g + 1))
tweak_after_group key index g tweak running =
    let next : 8 * g + 8 ≡ 8 * (g + 1) = omega arith in
    ap (λ t. tweak_from t 8) running ∙ tweak_from_at key index (8 * g) 8 ∙ ap (λ n. tweak_at key index n) next
