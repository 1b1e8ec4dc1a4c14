use Rattle.std.proofs.Common.{◌≡◌, ◌++◌, ◌∷◌, [], take}
use Rattle.std.specs.List.{AllByRecursion, flat_map}
use Rattle.protector_meta.specs.PolicyText.{wrap_line}
use Rattle.protector_meta.specs.PolicyRecords.{IsWrap}
use Rattle.protector_meta.proofs.policy_text.push_wraps.Given as goal

abbrev pub invariant-wraps : goal.invariant-wraps
invariant-wraps l = record {
  written : l.text.items ≡ l.fn.text.items ++ flat_map (λ wrap. wrap_line wrap ++ 10 ∷ []) (take l.wrap-index l.wraps);
  in_form : AllByRecursion IsWrap (take l.wrap-index l.wraps);
}
