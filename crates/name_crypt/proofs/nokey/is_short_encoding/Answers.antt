use Rattle.std.proofs.Common.{◌≡◌, take, subst, arith, replicate, length}
use Rattle.std.specs.Bool.{Decides}
use Rattle.std.proofs.lemmas.Bool.Decides.{Decides-eqb}
use Rattle.std.proofs.lemmas.Slice.Eq.{slice_eq-Decides}
use Rattle.base64.specs.Engines.{url_safe_no_pad}
use Rattle.base64.specs.GeneralPurpose.{encode_of, encoded_size_of}
use Rattle.base64.specs.declared.encode.EncodeSliceError.TheVariants.{OutputSliceTooSmall}
use Rattle.base64.proofs.EngineFacts.{encoded_prefix}
use Rattle.name_crypt.proofs.nokey.is_short_encoding.Goals as goal

pub returns : goal.returns
returns c =
    let made : take c.in-Ok.len c.encode_slice.new.output ≡ encode_of url_safe_no_pad c.args.bytes.now =
    encoded_prefix (encode_of url_safe_no_pad c.args.bytes.now) (replicate 32 0) c.encode_slice.new.output
    (encoded_size_of url_safe_no_pad (length c.args.bytes.now)) c.in-Ok.len c.encode_slice.result OutputSliceTooSmall
    (omega arith) c.encode_slice.ensures.fits c.encode_slice.ensures.too_small c.in-Ok.is c.in-Ok.ensures.written in
    subst (λ made. Decides c.eq.result (c.args.text.now ≡ made)) made
    (slice_eq-Decides Decides-eqb c.args.text.now (take c.in-Ok.len c.encode_slice.new.output) c.eq.result c.eq.ensures)
