use Rattle.std.proofs.Common.{◌≡◌, true, sym, ◌∙◌, arith}
use Rattle.fm_verify.specs.Tests.{is_cell}
use Rattle.fm_verify.proofs.Frames.{cells_more, words_more}
use Rattle.fm_verify.proofs.cells.frame_of.Goals as goal

pub cells-preserved : goal.cells-preserved
cells-preserved c =
    let cells = c.args.cells.now in
    let cell = c.cell-item.result in
    let so : is_cell c.args.types c.cells.word cell ≡ true = sym c.is_cell.ensures ∙ c.if-not-is_cell.false in
    record {
      same = c.cells.invariant.same ∙ cells_more c.args.types c.cells.word c.end_of-word.result c.cells.cell-index cells cell (omega arith) c.cell-item.is so c.end_of-word.ensures;
      words = sym (words_more c.args.types c.cells.word c.end_of-word.result c.cells.cell-index cells cell (omega arith) c.cell-item.is so c.end_of-word.ensures) ∙ c.cells.invariant.words;
    }
