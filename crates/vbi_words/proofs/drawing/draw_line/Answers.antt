use Rattle.vbi_words.proofs.Common.{◌≡◌, ◌*◌, ◌∙◌, ap, sym, arith, take, width_of}
use Rattle.vbi_words.proofs.Sizes.{line_bytes-twice}
use Rattle.vbi_words.proofs.DrawnLines.{first_columns, one_column, all_columns}
use Rattle.vbi_words.proofs.drawing.draw_line.Goals as goal

pub loop-column-preserved : goal.loop-column-preserved
loop-column-preserved c =
    one_column c.args.system c.args.slicing c.args.word c.loop-column.line c.loop-column.column
    c.drawn_sample-sample.result
    (omega (arith, line_bytes-twice c.args.system)) c.drawn_sample-sample.ensures c.loop-column.invariant

pub returns : goal.returns
returns c =
    let end : c.loop-column.column ≡ width_of c.args.system = omega arith in
    all_columns c.args.system c.args.slicing c.args.word c.loop-column.line (omega arith)
    (ap (λ k. take (2 * k) c.loop-column.line) (sym end) ∙ c.loop-column.invariant
    ∙ ap (first_columns c.args.system c.args.slicing c.args.word) end)
