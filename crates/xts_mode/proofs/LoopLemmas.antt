-- The two loops over a unit, by groups of eight blocks and then block by block, for either direction of a
-- cipher whose blocks have 16 bytes.
use Rattle.std.proofs.Common.{◌≡◌, ℕ, ◌+◌, ◌*◌, ◌/◌, ◌%◌, List, ◌++◌, length, take, drop, refl, ap, sym, ◌∙◌, arith}
use Rattle.std.proofs.lemmas.List.{take_at}
use borrow.Rule.Slice.PartMut.{put_mid}
use Rattle.byte_words.specs.Blocks.{block_at, first_blocks}
use Rattle.byte_words.proofs.InPlace.{read_in_place, write_in_place}
use Rattle.xts_mode.specs.Groups.{tweak_from, group_of}
use Rattle.xts_mode.specs.Xts.{first_tweak, times_alpha, tweak_at, tweaked, unit_of}
use Rattle.xts_mode.proofs.GroupLemmas.{part_is_group, grouped, length-grouped, all_grouped, group_of_unit, tweak_after_group}
use Rattle.xts_mode.proofs.TweakLemmas.{length-tweaked, tweak_at_next}
use Rattle.xts_mode.proofs.UnitLemmas.{tweaked_blocks, unit_done}

-- g groups are done, and the tweak is that of the next block
pub record GroupsDone (cipher : List ℕ → List ℕ) (key : List ℕ) (index : ℕ) (unit now : List ℕ) (tweak g : ℕ) : Type 0 where
  pub running : tweak ≡ tweak_at key index (8 * g)
  pub replaced : now ≡ first_blocks (grouped (tweaked_blocks cipher key index unit)) g ++ drop (128 * g) unit

-- j blocks are done, and the tweak is that of the next
pub record BlocksDone (cipher : List ℕ → List ℕ) (key : List ℕ) (index : ℕ) (unit now : List ℕ) (tweak j : ℕ) : Type 0 where
  pub running : tweak ≡ tweak_at key index j
  pub replaced : now ≡ first_blocks (tweaked_blocks cipher key index unit) j ++ drop (16 * j) unit

module _ (cipher : List ℕ → List ℕ) (sizes : (x : List ℕ) → length (cipher x) ≡ 16) (key : List ℕ) (index : ℕ) (unit : List ℕ) where
  block_sizes : (j : ℕ) → length (tweaked_blocks cipher key index unit j) ≡ 16
  block_sizes j = length-tweaked cipher (tweak_at key index j) (block_at 16 unit j) sizes

  pub no_groups : (tweak : ℕ) → tweak ≡ first_tweak key index → GroupsDone cipher key index unit unit tweak 0
  unfolding tweak_at first_blocks
  no_groups tweak first = record { running = first; replaced = refl }

  pub one_more_group : (now group : List ℕ) (tweak next g count : ℕ) → count ≡ 128 → GroupsDone cipher key index unit now tweak g →
      group ≡ group_of cipher tweak (take count (drop (128 * g) now)) → next ≡ tweak_from tweak 8 →
      GroupsDone cipher key index unit (put_mid (128 * g) count now group) next (g + 1)
  one_more_group now group tweak next g count whole done made after =
      let all_sizes : (k : ℕ) → length (grouped (tweaked_blocks cipher key index unit) k) ≡ 128 = λ k. length-grouped (tweaked_blocks cipher key index unit) k block_sizes in
      let part : take count (drop (128 * g) now) ≡ block_at 128 unit g =
      part_is_group now g count whole ∙ read_in_place 128 (grouped (tweaked_blocks cipher key index unit)) g now unit all_sizes done.replaced in
      record {
        running = after ∙ tweak_after_group key index g tweak done.running;
        replaced = write_in_place 128 (grouped (tweaked_blocks cipher key index unit)) g (128 * g) count now unit group all_sizes refl whole done.replaced
            (made ∙ group_of_unit cipher key index unit g tweak _ done.running part);
      }

  -- eight blocks a group
  pub groups_are_blocks : (now : List ℕ) (tweak g j : ℕ) → 8 * g ≡ j → GroupsDone cipher key index unit now tweak g → BlocksDone cipher key index unit now tweak j
  groups_are_blocks now tweak g j blocks done =
      let bytes : 128 * g ≡ 16 * j = omega arith in
      record {
        running = done.running ∙ ap (λ k. tweak_at key index k) blocks;
        replaced = done.replaced ∙ (λ i. (all_grouped (tweaked_blocks cipher key index unit) g ∙ ap (λ k. first_blocks (tweaked_blocks cipher key index unit) k) blocks) i ++ drop (bytes i) unit);
      }

  pub one_more_block : (now block : List ℕ) (tweak next j count : ℕ) → count ≡ 16 → BlocksDone cipher key index unit now tweak j →
      block ≡ tweaked cipher tweak (block_at 16 now j) → next ≡ times_alpha tweak →
      BlocksDone cipher key index unit (put_mid (16 * j) count now block) next (j + 1)
  one_more_block now block tweak next j count whole done made after =
      let read : block_at 16 now j ≡ block_at 16 unit j = read_in_place 16 (tweaked_blocks cipher key index unit) j now unit block_sizes done.replaced in
      record {
        running = after ∙ ap times_alpha done.running ∙ sym (tweak_at_next key index j);
        replaced = write_in_place 16 (tweaked_blocks cipher key index unit) j (16 * j) count now unit block block_sizes refl whole done.replaced
            (made ∙ (λ i. tweaked cipher (done.running i) (read i)));
      }

-- all blocks are done, under the first half of the key
pub whole_unit : (cipher : List ℕ → List ℕ → List ℕ) (first second key : List ℕ) (index : ℕ) (unit now : List ℕ) (tweak j : ℕ) →
    length first ≡ 32 → first ++ second ≡ key → length unit % 16 ≡ 0 → j ≡ length unit / 16 →
    BlocksDone (cipher first) (first ++ second) index unit now tweak j → now ≡ unit_of (cipher (take 32 key)) key index unit
whole_unit cipher first second key index unit now tweak j half is even last done =
    let taken : first ≡ take 32 (first ++ second) = sym (take_at first second 32 half) in
    unit_done (cipher first) (first ++ second) index unit now j even last done.replaced
    ∙ (λ i. unit_of (cipher (taken i)) (first ++ second) index unit) ∙ ap (λ k. unit_of (cipher (take 32 k)) k index unit) is
