use Rattle.std.proofs.Common.{◌≡◌, ◌<◌, ◌*◌, ◌++◌, [], length, take, ◌∷◌, refl, sym, ap, ◌∙◌, arith}
use Rattle.sha2.specs.Sha256.{sha256}
use Rattle.image_lines.proofs.NodeLemmas.{end_of_record}
use Rattle.image_lines.specs.WordForms.{blocks_at}
use Rattle.text_words.specs.Lines.{pieces_of}
use Rattle.byte_words.specs.Blocks.{first_blocks}
use Rattle.data_crypt.specs.Blocks.{read_block}
use Rattle.data_crypt.specs.Ciphers.{seal_by}
use Rattle.tree_listing.proofs.EntryLemmas.{one_block, no_block}
use Rattle.tree_listing.proofs.DigestLemmas.{block_read, no_blocks, none_taken, contents_are, begins_within, one_block_more, sized_more, first_is, some_left}
use Rattle.tree_listing.proofs.digest.digest_of.Goals as goal

pub blocks-2-init : goal.blocks-2-init
blocks-2-init c =
    let none = no_blocks (block_read (seal_by c.args.cipher.now) (blocks_at (pieces_of c.args.lines.now))) in record {
      read = ([], c.new-hasher.ensures, sym (none_taken c.args.size) ∙ ap (take c.args.size) (sym none));
      sized = ap length none;
      lines = refl;
    }

pub unreachable-requires : goal.unreachable-requires
unreachable-requires c =
    some_left (blocks_at (pieces_of c.args.lines.now)) c.blocks-2.index (omega (arith, c.requires.blocks, c.div_ceil-index-end.ensures, c.blocks-2-test.true))
    (sym c.blocks-2.invariant.lines ∙ no_block c.blocks-2.rest.now c.next_line-line.result.bytes.now _ c.next_line-line.ensures.pieces (sym c.read_block_line.ensures ∙ c.in_default.is))

pub blocks-2-preserved : goal.blocks-2-preserved
blocks-2-preserved c =
    let seal = seal_by c.args.cipher.now in
    let blocks = blocks_at (pieces_of c.args.lines.now) in
    let index = c.blocks-2.index in
    let step : blocks_at (pieces_of c.blocks-2.rest.now) ≡ c.in-Some.block ∷ blocks_at (pieces_of c.next_line-line.result.rest.now) =
    one_block c.blocks-2.rest.now c.next_line-line.result.bytes.now c.next_line-line.result.rest.now c.next_line-line.result.ended c.in-Some.block c.next_line-line.ensures.pieces
    (end_of_record c.next_line-line.result.ended c.blocks-2.rest.now c.next_line-line.result.rest.now c.next_line-line.ensures.ended c.next_line-line.ensures.rest)
    (sym c.read_block_line.ensures ∙ c.in-Some.is) in
    let first = first_is blocks index c.in-Some.block (blocks_at (pieces_of c.next_line-line.result.rest.now)) (sym c.blocks-2.invariant.lines ∙ step) in
    let opened : block_read seal blocks index ≡ c.read_block.new.block = ap (read_block seal index) first.0 ∙ sym c.read_block.ensures in
    let whole : length c.read_block.new.block ≡ 4096 = omega arith in
    let within : 4096 * index < c.args.size = begins_within c.args.size index (omega (arith, c.div_ceil-index-end.ensures, c.blocks-2-test.true)) in
    let held = c.blocks-2.invariant.read in record {
      read = (
        held.0 ++ take c.min.result c.read_block.new.block,
        c.update.ensures held.0 held.1,
        (λ i. held.2 i ++ take (c.min.ensures i) c.read_block.new.block)
            ∙ sym (one_block_more (block_read seal blocks) c.args.size index c.read_block.new.block opened whole c.blocks-2.invariant.sized within),
      );
      sized = sized_more (block_read seal blocks) index c.read_block.new.block opened whole c.blocks-2.invariant.sized;
      lines = sym first.1;
    }

pub returns : goal.returns
returns c =
    let seal = seal_by c.args.cipher.now in
    let blocks = blocks_at (pieces_of c.args.lines.now) in
    let held = c.blocks-2.invariant.read in
    let count : c.blocks-2.index ≡ length blocks = omega (arith, c.requires.blocks, c.div_ceil-index-end.ensures, c.blocks-2-test.false) in
    c.finalize.ensures held.0 held.1 ∙ ap sha256 (held.2 ∙ ap (λ n. take c.args.size (first_blocks (block_read seal blocks) n)) count ∙ sym (contents_are seal c.args.size blocks))
