-- Look-ups lane by lane: the results of a shuffle, and facts of every byte that a table shows.
use Rattle.std.proofs.Common.{◌≡◌, ℕ, suc, ◌+◌, ◌*◌, ◌/◌, ◌<◌, ◌≤◌, true, List, [], ◌∷◌, map, length, get_or, refl, ap, ◌∙◌, arith, Fits, w8}
use Rattle.std.proofs.lemmas.Bool.{eqb-true}
use Rattle.std.proofs.lemmas.Simd.{swz_l, SwzOk, SwzOk-from_Each1, Each1-weaker, map-map}
use Rattle.std.specs.Prelude.{T, nat_le, nat_eq, if◌then◌else◌}
use Rattle.std.specs.Simd.Lanes.{Each1}
use Rattle.byte_words.specs.Tables.{all_from}
use Rattle.byte_words.proofs.TableLemmas.{all_from-at}
use Rattle.aes_core.specs.Shuffles.{is_place, IsPlace, found_in}

-- ---- the results of a shuffle

pub places_fit : (js : List ℕ) → length js ≡ 16 → Each1 IsPlace js → SwzOk w8 16 16 0 js
places_fit js size places = SwzOk-from_Each1 w8 16 1 16 0 js refl (omega arith) (Each1-weaker IsPlace (λ j. T (is_place j)) (λ j h. rw h tt) js places)

found_from : (table js : List ℕ) (i : ℕ) → i + length js ≤ 16 → swz_l w8 16 table i js ≡ map (found_in table) js
unfolding found_in
found_from table [] i within = refl
found_from table (j ∷ js) i within =
    let here : 16 * (i / 16) + j ≡ j = omega arith in
    (λ k. (if nat_le 128 j then 0 else get_or table (here k) 0) ∷ found_from table js (suc i) (omega arith) k)

pub found_at : (table js : List ℕ) → length js ≡ 16 → swz_l w8 16 table 0 js ≡ map (found_in table) js
found_at table js size = found_from table js 0 (omega arith)

-- ---- facts of every lane

pub lanes_place : (g : ℕ → ℕ) (v xs : List ℕ) → Each1 (Fits w8) v → all_from (λ b. is_place (g b)) 0 256 ≡ true → xs ≡ map g v → Each1 IsPlace xs
lanes_place g v xs fits all is = rw is (every g v fits all)
  where
    every : (g : ℕ → ℕ) (v : List ℕ) → Each1 (Fits w8) v → all_from (λ b. is_place (g b)) 0 256 ≡ true → Each1 IsPlace (map g v)
    every g [] fits all = tt
    every g (b ∷ v) fits all =
        let low : b < 256 = fits.0.fits in
        (all_from-at (λ k. is_place (g k)) 0 256 b all (omega arith) (omega arith), every g v fits.1 all)

pub lanes_equal : (f g : ℕ → ℕ) (v : List ℕ) → Each1 (Fits w8) v → all_from (λ b. nat_eq (f b) (g b)) 0 256 ≡ true → map f v ≡ map g v
lanes_equal f g [] fits all = refl
lanes_equal f g (b ∷ v) fits all =
    let low : b < 256 = fits.0.fits in
    (λ i. eqb-true (f b) (g b) (all_from-at (λ k. nat_eq (f k) (g k)) 0 256 b all (omega arith) (omega arith)) i ∷ lanes_equal f g v fits.1 all i)

-- a step on what was computed lane by lane
pub then_map : (f g : ℕ → ℕ) (v xs ys : List ℕ) → xs ≡ map g v → ys ≡ map f xs → ys ≡ map (λ b. f (g b)) v
then_map f g v xs ys x y = y ∙ ap (map f) x ∙ map-map f g v
