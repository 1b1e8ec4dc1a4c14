use Rattle.std.proofs.Common.{◌≡◌, ◌≤◌, ◌+◌, ◌-◌, ◌++◌, length, map, drop}
use Rattle.text_words.specs.Lines.{pieces_of}
use Rattle.image_lines.specs.WordForms.{nodes_at}
use Rattle.image_lines.specs.LineFaults.{line_fault, line_fault_from}
use Rattle.image_lines.specs.Places.{node_of_place, places_from, places_in}
use Rattle.image_lines.proofs.round_of_lines.node_places.Given as goal

abbrev pub invariant-lines : goal.invariant-lines
invariant-lines l = record {
  told : line_fault l.text ≡ line_fault_from l.number l.place (pieces_of l.rest);
  nodes : map (node_of_place l.text) l.places.items ++ nodes_at (pieces_of l.rest) ≡ nodes_at (pieces_of l.text);
  placed : l.places.items ++ places_from (length l.text - length l.rest) (pieces_of l.rest) ≡ places_in l.text;
  rest : l.rest ≡ drop (length l.text - length l.rest) l.text;
  shorter : length l.rest ≤ length l.text;
  counted : l.number + length l.rest ≤ length l.text + 1;
}

abbrev pub decreases-lines : goal.decreases-lines
decreases-lines l = length l.rest
