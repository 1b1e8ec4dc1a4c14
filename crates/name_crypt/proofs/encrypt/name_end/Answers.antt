-- The first NUL is found, or the end.
use Rattle.std.proofs.Common.{◌≡◌, rules, tests, ap, take, length, ◌==◌, Some, None, cond, nat_lt, not, ◌∙◌}
use Rattle.std.proofs.lemmas.List.Sums.{prefix_len-le-length}
use Rattle.name_crypt.proofs.NameLemmas.{place_or_end}
use Rattle.std.specs.List.{position_or_len}
use Rattle.std.proofs.lemmas.Iterator.{YieldsList-from_slice}
use Rattle.std.proofs.lemmas.Iterator.Search.{position_from_yields_List}
use Rattle.name_crypt.proofs.encrypt.name_end.Goals as goal

pub returns-clause-value : goal.returns-clause-value
returns-clause-value c =
    let found : c.position.result ≡ cond (nat_lt (position_or_len (λ b. b == 0) c.args.bytes.now) (length c.args.bytes.now)) (Some (position_or_len (λ b. b == 0) c.args.bytes.now)) None =
    position_from_yields_List (λ b. b == 0) _ _ c.position.result c.position.ensures.ran (YieldsList-from_slice _ c.iter.ensures.rest) (λ x b q k. search (rules, tests)) in
    let end : c.unwrap_or.result ≡ position_or_len (λ b. b == 0) c.args.bytes.now =
    c.unwrap_or.ensures ∙ place_or_end (position_or_len (λ b. b == 0) c.args.bytes.now) (length c.args.bytes.now) c.position.result found
    (prefix_len-le-length (λ b. not (b == 0)) c.args.bytes.now) in
    ap (λ n. take n c.args.bytes.now) end

pub returns-clause-within : goal.returns-clause-within
returns-clause-within c =
    let found : c.position.result ≡ cond (nat_lt (position_or_len (λ b. b == 0) c.args.bytes.now) (length c.args.bytes.now)) (Some (position_or_len (λ b. b == 0) c.args.bytes.now)) None =
    position_from_yields_List (λ b. b == 0) _ _ c.position.result c.position.ensures.ran (YieldsList-from_slice _ c.iter.ensures.rest) (λ x b q k. search (rules, tests)) in
    let end : c.unwrap_or.result ≡ position_or_len (λ b. b == 0) c.args.bytes.now =
    c.unwrap_or.ensures ∙ place_or_end (position_or_len (λ b. b == 0) c.args.bytes.now) (length c.args.bytes.now) c.position.result found
    (prefix_len-le-length (λ b. not (b == 0)) c.args.bytes.now) in
    rw end (prefix_len-le-length (λ b. not (b == 0)) c.args.bytes.now)
