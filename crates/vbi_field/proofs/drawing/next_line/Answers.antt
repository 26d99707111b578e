use Rattle.vbi_field.proofs.Common.{ap, sym, ◌∙◌, ◌-◌, length, line_bytes, word_at, length-drawn_line_of}
use Rattle.vbi_field.proofs.drawing.next_line.Goals as goal

pub draw_line-requires : goal.draw_line-requires
draw_line-requires c =
    ap length c.requires
    ∙ length-drawn_line_of c.args.config.now.system c.args.config.now.levels (word_at c.args.words.now (c.args.row - 1))
    ∙ ap line_bytes (sym c.system.ensures)
