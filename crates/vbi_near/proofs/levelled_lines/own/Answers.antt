use Rattle.std.proofs.Common.{◌≡◌, ℕ, ◌+◌, ◌*◌, ◌<◌, length, slice_index, ap, ◌∙◌, arith}
use Rattle.vbi_near.proofs.Common.{samples_of}
use Rattle.vbi_words.proofs.Sizes.{line_bytes-twice}
use Rattle.vbi_line.proofs.Slicing.{sample_of}
use Rattle.vbi_near.specs.LevelledLines.{window_of}
use Rattle.vbi_near.proofs.levelled_lines.own.Goals as goal

pub returns : goal.returns
returns c =
    let inside : 2 * c.args.column + 1 < length c.args.row.now = omega (arith, line_bytes-twice c.args.system) in
    let is : c.from.result ≡ slice_index (samples_of c.args.row.now) c.args.column
    = omega (arith, sample_of c.args.row.now c.args.column inside) in
    ap (λ (w : ℕ). w * c.from.result) c.window.ensures ∙ ap (λ (s : ℕ). window_of c.args.system * s) is
