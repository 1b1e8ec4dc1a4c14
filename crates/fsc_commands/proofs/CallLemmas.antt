-- What commands carry fits a call.
use Rattle.std.proofs.Common.{◌≡◌, ℕ, zero, suc, ◌<◌, ◌≤◌, ◌==◌, List, length, replicate, refl, lit<, arith}
use Rattle.std.specs.Prelude.{IsTrue}
use Rattle.byte_words.specs.Bytes.{AreBytes}
use Rattle.mount_model.specs.Carried as carried
use Rattle.script_words.specs.Keys as script
use Rattle.script_words.specs.Word.{IsWord, may_be_target}
use Rattle.fsc_commands.proofs.StarLemmas.{absent, are_bytes}

pub target_fits : (bytes : List ℕ) → IsWord bytes → IsTrue (may_be_target bytes) → carried.IsTarget bytes
target_fits bytes word may = record {
  bytes = are_bytes bytes word.ranged;
  size = (word.nonempty, word.bounded);
  nul = absent (λ b. b == 0) bytes 0 refl may;
}

pub written_fits : (bytes : List ℕ) → script.AreFewBytes bytes 4096 → carried.AreFewBytes bytes 65536
written_fits bytes few = let low = few.0 in (few.1, omega (arith, low))

alike_bytes : (len byte : ℕ) → byte < 256 → AreBytes (replicate len byte)
alike_bytes zero byte small i = lit< tt
alike_bytes (suc len) byte small zero = small
alike_bytes (suc len) byte small (suc i) = alike_bytes len byte small i

alike_length : (len byte : ℕ) → length (replicate len byte) ≡ len
alike_length zero byte = refl
alike_length (suc len) byte = let more = alike_length len byte in omega (arith, more)

pub filled_fits : (len byte : ℕ) → len ≤ 65536 → byte ≤ 255 → carried.AreFewBytes (replicate len byte) 65536
filled_fits len byte few small = let long = alike_length len byte in (alike_bytes len byte (omega (arith, small)), omega (arith, long, few))
