use Rattle.std.proofs.Common.{◌≡◌, ◌≤◌, ◌+◌, ◌-◌, length, drop}
use Rattle.std.specs.Option.{option_map}
use Rattle.text_words.specs.Lines.{pieces_of}
use Rattle.fsc_tool.specs.Splitting.{bytes_before}
use Rattle.fsc_tool.proofs.splitting.split_input.Given as goal

abbrev pub invariant-lines : goal.invariant-lines
invariant-lines l = record {
  told : bytes_before (pieces_of l.input) ≡ option_map (λ bytes. length l.input - length l.rest + bytes) (bytes_before (pieces_of l.rest));
  rest : l.rest ≡ drop (length l.input - length l.rest) l.input;
  shorter : length l.rest ≤ length l.input;
}

abbrev pub decreases-lines : goal.decreases-lines
decreases-lines l = length l.rest
