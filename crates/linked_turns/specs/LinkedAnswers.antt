-- How two mounts answer a call, if the record of a protector may be a link.
use Rattle.std.specs.Prelude.{ℕ, List, if◌then◌else◌}
use Rattle.mount_model.specs.declared.call.Call.{Call}
use Rattle.mount_model.specs.Answer.{answer_of}
use Rattle.mount_links.specs.declared.asked.Asked.{Asked}
use Rattle.mount_links.specs.declared.asked.Asked.TheVariants.{Load, Store, Other}
use Rattle.mount_links.specs.LinkSteps.{asked_of, is_link}
use Rattle.mount_links.specs.LinkCalls.{load_call}
use Rattle.linked_turns.specs.Parts.{is_even}
use Rattle.linked_turns.specs.TwoMounts.{TwoMounts, LinkedAnswer, on_mount_0, on_mount_1, after_call_on_1}

-- loading a protector's record: on mount 0 too, if it is a link on mount 1
abbrev pub load_answer : List ℕ → TwoMounts → ℕ → Call → LinkedAnswer
load_answer label m who call =
    if is_link label (answer_of m.odd who call).reply then after_call_on_1 m who call
    (λ n. on_mount_0 n who call)
    else on_mount_1 m who call

-- storing it: it is loaded on mount 1 first, and stored on mount 0 if it is a link there
abbrev pub store_answer : List ℕ → TwoMounts → ℕ → Call → LinkedAnswer
store_answer label m who call =
    after_call_on_1 m who (load_call label call) (λ n.
    if is_link label (answer_of m.odd who (load_call label call)).reply then on_mount_0 n who call
    else on_mount_1 n who call)

-- a call of a caller with an odd number that asks for this
abbrev pub linked_by : Asked → TwoMounts → ℕ → Call → LinkedAnswer
linked_by (Load label) m who call = load_answer label m who call
linked_by (Store label) m who call = store_answer label m who call
linked_by Other m who call = on_mount_1 m who call

abbrev pub linked_answer : TwoMounts → ℕ → Call → LinkedAnswer
linked_answer m who call =
    if is_even who then on_mount_0 m who call else linked_by (asked_of call.op) m who call
