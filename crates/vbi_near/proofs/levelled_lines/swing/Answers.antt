use Rattle.std.proofs.Common.{◌≡◌, ℕ, ◌-◌, ◌*◌, ◌/◌, ◌≤◌, ◌<◌, ap, ◌∙◌, arith}
use Rattle.vbi_near.proofs.Levelling.{off_more, ordered, inside}
use Rattle.vbi_near.proofs.{Common.width_of, Common.samples_of, Columns.width-few}
use Rattle.vbi_near.specs.LevelledLines.{window_of, first_of, columns_of, off_mean, off_in, swing_of}
use Rattle.vbi_near.proofs.levelled_lines.swing.Goals as goal

pub slice_bounds-buffer-end : goal.slice_bounds-buffer-end
slice_bounds-buffer-end c = omega (arith, width-few c.args.line.now.system, c.width.ensures)

pub own-requires-clause-column : goal.own-requires-clause-column
own-requires-clause-column c =
    omega (arith, c.loop-column-test.true, c.end-column-end.ensures, inside c.args.line.now.system)

pub overflow_sub-columns : goal.overflow_sub-columns
overflow_sub-columns c = omega (arith, c.end.ensures, c.first.ensures, ordered c.args.line.now.system)

pub loop-column-preserved : goal.loop-column-preserved
loop-column-preserved c =
    let samples = samples_of c.args.line.now.row.now in
    let column = c.loop-column.column in
    let low : first_of c.args.line.now.system ≤ column
    = omega (arith, c.loop-column.auto.column, c.first-column.ensures) in
    let more = off_more c.args.line.now.system samples column low in
    let less : column < width_of c.args.line.now.system
    = omega (arith, c.loop-column-test.true, c.end-column-end.ensures, inside c.args.line.now.system) in
    let mean = c.sum_windows.ensures.windows column less in
    let is : c.from-off.result ≡ off_mean c.args.line.now.system samples column
    = omega (arith, c.abs_diff.ensures, c.own.ensures, mean, c.from-off.ensures) in
    record {
      off = omega (arith, more, is, c.loop-column.invariant.off);
      few = omega (arith, c.loop-column.invariant.few, low, c.abs_diff.ensures);
    }

pub returns : goal.returns
unfolding swing_of
returns c =
    let samples = samples_of c.args.line.now.row.now in
    let system = c.args.line.now.system in
    let e : c.loop-column.column - first_of system ≡ columns_of system
    = omega (
      arith,
      c.loop-column-test.false,
      c.loop-column.auto.column-end,
      c.end-column-end.ensures,
      c.first-column.ensures,
      ordered system,
    ) in
    let off : c.loop-column.off ≡ off_in system samples (columns_of system)
    = c.loop-column.invariant.off ∙ ap (off_in system samples) e in
    let columns : c.end.result - c.first.result ≡ columns_of system = omega (arith, c.end.ensures, c.first.ensures) in
    let window : c.from.result ≡ window_of system = c.from.ensures ∙ c.window.ensures in
    ap (λ (n : ℕ). 2 * n / (c.from.result * (c.end.result - c.first.result))) off
    ∙ ap (λ (n : ℕ). 2 * off_in system samples (columns_of system) / (n * (c.end.result - c.first.result))) window
    ∙ ap (λ (n : ℕ). 2 * off_in system samples (columns_of system) / (window_of system * n)) columns
