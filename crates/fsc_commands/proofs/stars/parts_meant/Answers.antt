use Rattle.std.proofs.Common.{◌≡◌, ℕ, ◌+◌, List, [], ◌∷◌, ◌++◌, take, map, ap, sym, subst, ◌∙◌, arith}
use Rattle.std.specs.List.{All}
use Rattle.mount_model.specs.Carried.{IsPart}
use Rattle.fsc_commands.specs.Steps.{names_in}
use Rattle.fsc_commands.specs.Stars as spec
use Rattle.fsc_commands.proofs.StarLemmas.{parts-more, all-more}
use Rattle.fsc_commands.proofs.stars.parts_meant.Goals as goal

pub parts-preserved : goal.parts-preserved
parts-preserved c =
    let pushed : c.push.new.self ≡ c.parts.meant ++ c.in_ok-bytes.bytes ∷ [] = c.in_ok-push.ensures.appended ∙ ap (λ part. c.parts.meant ++ part ∷ []) c.new.ensures in
    let told : c.parts.meant ++ c.in_ok-bytes.bytes ∷ [] ≡ map (spec.resolved_part (names_in c.args.told.now)) (take (c.parts.part-index + 1) c.args.parts.now) =
    ap (λ bytes. c.parts.meant ++ bytes ∷ []) c.in_ok-bytes.ensures.value
    ∙ ap (λ meant. meant ++ spec.resolved_part (names_in c.args.told.now) c.part-item.result ∷ []) c.parts.invariant.told
    ∙ sym (parts-more (spec.resolved_part (names_in c.args.told.now)) c.args.parts.now c.parts.part-index c.part-item.result (omega arith) c.part-item.is) in
    let P : List (List ℕ) → Type 0 = λ meant. All IsPart meant in
    record {
      told = pushed ∙ told;
      each = subst P (sym pushed) (all-more c.parts.meant c.in_ok-bytes.bytes c.parts.invariant.each c.in_ok-bytes.ensures.fits);
    }
