use Rattle.std.proofs.Common.{◌≡◌, ◌↔◌, length}
use Rattle.base64.specs.Engines.{url_safe_no_pad}
use Rattle.base64.specs.GeneralPurpose.{encode_of}
use Rattle.name_crypt.proofs.nokey.is_encoding.Given as goal

-- the result for the rest is the result for the whole
abbrev pub invariant-loop-bytes : goal.invariant-loop-bytes
invariant-loop-bytes l =
    (l.fn.text ≡ encode_of url_safe_no_pad l.fn.bytes) ↔ (l.text ≡ encode_of url_safe_no_pad l.bytes)

abbrev pub decreases-loop-bytes : goal.decreases-loop-bytes
decreases-loop-bytes l = length l.bytes
