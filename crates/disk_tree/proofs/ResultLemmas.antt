-- Facts of a result that is known to be no error.
use Rattle.std.proofs.Common.{◌≡◌, false, Result, Ok, Err, OnOk, OnErr}
use Rattle.std.specs.Result.{is_err}

pub on_ok : {T E : Type 0} (r : Result T E) (P : Type 0) → is_err r ≡ false → OnOk r P → P
on_ok (Ok x) P fine holds = holds
on_ok (Err e) P fine holds = absurd (cc)

pub on_ok_so : {T E : Type 0} (r : Result T E) (P Q : Type 0) → (P → Q) → OnOk r P → OnOk r Q
on_ok_so (Ok x) P Q so holds = so holds
on_ok_so (Err e) P Q so holds = tt

pub on_err_so : {T E : Type 0} (r : Result T E) (P Q : Type 0) → (P → Q) → OnErr r P → OnErr r Q
on_err_so (Ok x) P Q so holds = tt
on_err_so (Err e) P Q so holds = so holds

-- facts that hold with or without an error
pub either_way : {T E : Type 0} (r : Result T E) (P : Type 0) → OnOk r P → OnErr r P → P
either_way (Ok x) P fine wrong = fine
either_way (Err e) P fine wrong = wrong
