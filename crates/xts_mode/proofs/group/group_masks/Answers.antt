-- Each tweak is the one before it times α.
use Rattle.std.proofs.Common.{◌≡◌, ℕ, List, [], ◌∷◌, get_or, ap, ◌∙◌}
use Rattle.byte_words.specs.Numbers.{little_endian_bytes}
use Rattle.aes_core.proofs.SquareLemmas.{of_eight}
use Rattle.xts_mode.specs.Groups.{tweak_from}
use Rattle.xts_mode.specs.Xts.{times_alpha}
use Rattle.xts_mode.proofs.group.group_masks.Goals as goal

pub returns : goal.returns
unfolding tweak_from
returns c =
    let t : ℕ = c.args.tweak in
    let masks : List (List ℕ) = c.mask_of.result ∷ c.mask_of-2.result ∷ c.mask_of-3.result ∷ c.mask_of-4.result ∷ c.mask_of-5.result ∷ c.mask_of-6.result ∷ c.mask_of-7.result ∷ c.mask_of-8.result ∷ [] in
    let t1 : c.times_alpha-second.result ≡ tweak_from t 1 = c.times_alpha-second.ensures in
    let t2 : c.times_alpha-third.result ≡ tweak_from t 2 = c.times_alpha-third.ensures ∙ ap times_alpha t1 in
    let t3 : c.times_alpha-fourth.result ≡ tweak_from t 3 = c.times_alpha-fourth.ensures ∙ ap times_alpha t2 in
    let t4 : c.times_alpha-fifth.result ≡ tweak_from t 4 = c.times_alpha-fifth.ensures ∙ ap times_alpha t3 in
    let t5 : c.times_alpha-sixth.result ≡ tweak_from t 5 = c.times_alpha-sixth.ensures ∙ ap times_alpha t4 in
    let t6 : c.times_alpha-seventh.result ≡ tweak_from t 6 = c.times_alpha-seventh.ensures ∙ ap times_alpha t5 in
    let t7 : c.times_alpha-eighth.result ≡ tweak_from t 7 = c.times_alpha-eighth.ensures ∙ ap times_alpha t6 in
    of_eight (λ b. get_or masks b [] ≡ little_endian_bytes 16 (tweak_from t b))
    (c.mask_of.ensures)
    (c.mask_of-2.ensures ∙ ap (λ n. little_endian_bytes 16 n) t1)
    (c.mask_of-3.ensures ∙ ap (λ n. little_endian_bytes 16 n) t2)
    (c.mask_of-4.ensures ∙ ap (λ n. little_endian_bytes 16 n) t3)
    (c.mask_of-5.ensures ∙ ap (λ n. little_endian_bytes 16 n) t4)
    (c.mask_of-6.ensures ∙ ap (λ n. little_endian_bytes 16 n) t5)
    (c.mask_of-7.ensures ∙ ap (λ n. little_endian_bytes 16 n) t6)
    (c.mask_of-8.ensures ∙ ap (λ n. little_endian_bytes 16 n) t7)
