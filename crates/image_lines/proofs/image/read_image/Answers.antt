use Rattle.std.proofs.Common.{inl}
use Rattle.std.proofs.lemmas.Result.{err_from_is_err_and}
use Rattle.image_lines.proofs.Answered.{found_image, every_fault, every_found}
use Rattle.image_lines.proofs.image.read_image.Goals as goal

pub returns-in_err-places-clause-every : goal.returns-in_err-places-clause-every
returns-in_err-places-clause-every c = λ image is own.
    let p = err_from_is_err_and c.from_residual.result c.from_residual.ensures.1 in
    rw (p.1, p.2) (every_fault c.args.text.now _ c.in_err-places.ensures.refused image is own)

pub returns-clause-found : goal.returns-clause-found
returns-clause-found c = found_image c.args.text.now _ c.in_ok-places.ensures.read

pub returns-clause-every : goal.returns-clause-every
returns-clause-every c = λ image is own. inl (every_found c.args.text.now _ c.in_ok-places.ensures.read image is own)
