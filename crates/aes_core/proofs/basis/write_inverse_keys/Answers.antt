-- Each key in its place.
use Rattle.std.proofs.Common.{◌≡◌, ℕ, ◌-◌, ◌%◌, List, ap, ◌∙◌, arith}
use Rattle.byte_words.specs.Blocks.{first_blocks}
use Rattle.byte_words.proofs.InPlace.{none_in_place, all_in_place}
use Rattle.aes_core.specs.Lanes.{round_key}
use Rattle.aes_core.specs.Basis.{inverse_key, inverse_keys}
use Rattle.aes_core.proofs.PreparedKeys.{key_written, length-inverse_key}
use Rattle.aes_core.proofs.basis.write_inverse_keys.Goals as goal

abbrev prepared : List ℕ → ℕ → List ℕ
prepared keys n = inverse_key (n % 4) (round_key keys (13 - n))

pub rounds-init : goal.rounds-init
rounds-init c = none_in_place 16 (prepared c.args.keys.now) c.args.prepared.now

pub rounds-preserved : goal.rounds-preserved
rounds-preserved c =
    key_written (prepared c.args.keys.now) c.rounds.n _ c.rounds.prepared c.args.prepared.now _ (λ k. length-inverse_key (k % 4) _) (omega arith) (omega arith)
    c.rounds.invariant (c.inverse_key-key.ensures ∙ ap (λ k. inverse_key (c.rounds.n % 4) k) c.round_key.ensures)

pub returns : goal.returns
unfolding inverse_keys
returns c =
    let done : c.rounds.n ≡ 13 = omega arith in
    all_in_place 16 (prepared c.args.keys.now) c.rounds.n c.rounds.prepared c.args.prepared.now c.rounds.invariant (omega arith)
    ∙ ap (λ n. first_blocks (prepared c.args.keys.now) n) done
