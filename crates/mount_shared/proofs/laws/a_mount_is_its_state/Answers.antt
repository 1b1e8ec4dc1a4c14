use Rattle.mount_shared.proofs.laws.a_mount_is_its_state.Goals as goal

pub returns : goal.returns
returns c = λ a b alloc state i. record { alloc = alloc i; state = state i }
