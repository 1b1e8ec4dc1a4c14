use Rattle.std.proofs.Common.{◌≡◌, ◌++◌, take, drop, replicate, arith, refl, ap, ◌∙◌, sym}
use mathlib.Core.Bool.{true≢false}
use Rattle.sha2.specs.Sha256.{sha256}
use Rattle.name_crypt.proofs.Symbols.{symbols_of, refused, long_text}
use Rattle.name_crypt.proofs.nokey.is_hashed_text.Goals as goal

pub returns-then-text-lt208 : goal.returns-then-text-lt208
returns-then-text-lt208 c =
    let parts = long_text c.args.text.now c.args.stored.now (take 208 c.args.text.now) (drop 208 c.args.text.now)
    (take 148 c.args.stored.now) (drop 148 c.args.stored.now) c.requires refl refl refl refl in
    refused (c.args.text.now ≡ symbols_of (replicate 8 0 ++ (take 149 c.args.stored.now ++ sha256 (drop 149 c.args.stored.now))))
    (λ is. let long = parts.0.reach (is ∙ ap symbols_of parts.1) in omega (arith, long, c.if-text-lt208.true))

pub returns-then-not-is_spelled_part : goal.returns-then-not-is_spelled_part
returns-then-not-is_spelled_part c =
    let parts = long_text c.args.text.now c.args.stored.now c.split_at.result.0.now c.split_at.result.1.now
    c.split_at-2.result.0.now c.split_at-2.result.1.now c.requires
    c.split_at.ensures.front c.split_at.ensures.back c.split_at-2.ensures.front c.split_at-2.ensures.back in
    refused (c.args.text.now ≡ symbols_of (replicate 8 0 ++ (take 149 c.args.stored.now ++ sha256 (drop 149 c.args.stored.now))))
    (λ is. true≢false (sym (c.is_spelled_part.ensures.1 (parts.0.first (is ∙ ap symbols_of parts.1))) ∙ c.if-not-is_spelled_part.true))

pub returns : goal.returns
returns c =
    let parts = long_text c.args.text.now c.args.stored.now c.split_at.result.0.now c.split_at.result.1.now
    c.split_at-2.result.0.now c.split_at-2.result.1.now c.requires
    c.split_at.ensures.front c.split_at.ensures.back c.split_at-2.ensures.front c.split_at-2.ensures.back in (
      λ yes. parts.0.both (c.is_spelled_part.ensures.0 c.if-not-is_spelled_part.false) (c.is_hashed_part.ensures.0 yes) ∙ ap symbols_of (sym parts.1),
      λ is. c.is_hashed_part.ensures.1 (parts.0.second (is ∙ ap symbols_of parts.1)),
    )
