-- Calls after calls are calls, and none are none: the laws of a pass.
use Rattle.std.proofs.Common.{◌≡◌, [], ◌++◌, refl, sym, ap}
use Rattle.std.proofs.Common.{◌∙◌, arith, append-nil, append_assoc, length-append}
use Rattle.call_history.proofs.Prefixes.{IsPrefix-refl, IsPrefix_trans}
use Rattle.mount_model.specs.History.{History}
use Rattle.mount_model.specs.Port.{PlacedCalls}
use Rattle.mount_shared.specs.SharedCalls.{MountPass, PassAfterCalls}

pub PassAfterCalls-none : (lawful : History → Type 0) (pass : MountPass) → PassAfterCalls lawful pass [] pass
PassAfterCalls-none lawful pass = record {
  made = sym (append-nil pass.mine);
  more = IsPrefix-refl pass.seen;
  answered = λ so. so;
  counted = omega arith;
  same_table = refl;
  same_caller = refl;
  same_high = refl;
  same_past = refl;
}

pub PassAfterCalls-on : (lawful : History → Type 0) (a b c : MountPass) (es fs : PlacedCalls)
    → PassAfterCalls lawful a es b → PassAfterCalls lawful b fs c → PassAfterCalls lawful a (es ++ fs) c
PassAfterCalls-on lawful a b c es fs p q =
    let first = p.counted in
    let second = q.counted in
    record {
      made = q.made ∙ ap (λ (l : PlacedCalls). l ++ fs) p.made ∙ append_assoc a.mine es fs;
      more = IsPrefix_trans a.seen b.seen c.seen p.more q.more;
      answered = λ so. q.answered (p.answered so);
      counted = omega (arith, first, second, length-append es fs);
      same_table = q.same_table ∙ p.same_table;
      same_caller = q.same_caller ∙ p.same_caller;
      same_high = q.same_high ∙ p.same_high;
      same_past = q.same_past ∙ p.same_past;
    }

pub PassAfterCalls-caller : (lawful : History → Type 0) (a b : MountPass) (es : PlacedCalls)
    → PassAfterCalls lawful a es b → b.who ≡ a.who
PassAfterCalls-caller lawful a b es p = p.same_caller
