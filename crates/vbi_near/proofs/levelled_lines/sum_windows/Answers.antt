use Rattle.std.proofs.Common.{◌≡◌, ℕ, ◌+◌, ◌-◌, ◌/◌, ◌≤◌, ◌<◌, ap, ◌∙◌, sym, arith}
use Rattle.vbi_near.proofs.{Common.samples_of, Levelling.windows_more, Levelling.window_before, Levelling.window_amid}
use Rattle.vbi_near.proofs.{Levelling.window_after, Levelling.ordered_windows, Levelling.window_inside}
use Rattle.vbi_near.specs.LevelledLines.{window_of, first_of, end_of, window_start, sum_from, window_sum}
use Rattle.vbi_near.proofs.levelled_lines.sum_windows.Goals as goal

pub loop-column-preserved : goal.loop-column-preserved
loop-column-preserved c =
    let system = c.args.line.now.system in
    let samples = samples_of c.args.line.now.row.now in
    let column = c.loop-column.column in
    let wide : c.window-wide.result ≡ window_of system = c.window-wide.ensures in
    let less : column < first_of system + window_of system / 2
    = omega (arith, c.loop-column-test.true, c.first.ensures, wide) in
    let is : c.window_sum-before.result ≡ window_sum system samples column
    = c.window_sum-before.ensures
    ∙ ap (λ (start : ℕ). sum_from samples start (window_of system)) (sym (window_before system column less)) in
    record {
      windows = windows_more system samples c.loop-column.windows column c.window_sum-before.result
          (omega (arith, less, c.loop-column.auto.windows, c.requires.room, ordered_windows system)) is
          c.loop-column.invariant.windows;
    }

pub sum_from-requires : goal.sum_from-requires
sum_from-requires c =
    let system = c.args.line.now.system in
    omega (
      arith,
      window_inside system c.loop-column-2.column,
      window_amid system c.loop-column-2.column
          (omega (arith, c.loop-column-2.auto.column, c.first.ensures, c.window-wide.ensures))
          (omega (arith, c.loop-column-2-test.true, c.end.ensures, c.window-wide.ensures)),
      c.window-wide.ensures,
    )

pub loop-column-2-preserved : goal.loop-column-2-preserved
loop-column-2-preserved c =
    let system = c.args.line.now.system in
    let samples = samples_of c.args.line.now.row.now in
    let column = c.loop-column-2.column in
    let less : column < end_of system - window_of system + window_of system / 2
    = omega (arith, c.loop-column-2-test.true, c.end.ensures, c.window-wide.ensures) in
    let start : column - c.window-wide.result / 2 ≡ window_start system column
    = ap (λ (n : ℕ). column - n / 2) c.window-wide.ensures
    ∙ sym (window_amid system column
    (omega (arith, c.loop-column-2.auto.column, c.first.ensures, c.window-wide.ensures)) less) in
    record {
      windows = windows_more system samples c.loop-column-2.windows column c.sum_from.result
          (omega (arith, less, c.loop-column-2.auto.windows, c.requires.room, ordered_windows system))
          (c.sum_from.ensures ∙ ap (λ (n : ℕ). sum_from samples n (window_of system)) start)
          c.loop-column-2.invariant.windows;
    }

pub loop-column-3-preserved : goal.loop-column-3-preserved
loop-column-3-preserved c =
    let system = c.args.line.now.system in
    let samples = samples_of c.args.line.now.row.now in
    let column = c.loop-column-3.column in
    let to : c.end.result - c.window-wide.result + c.window-wide.result / 2
    ≡ end_of system - window_of system + window_of system / 2
    = omega (arith, c.end.ensures, c.window-wide.ensures) in
    let more : end_of system - window_of system + window_of system / 2 ≤ column
    = omega (arith, c.loop-column-3.auto.column, to) in
    let is : c.window_sum-after.result ≡ window_sum system samples column
    = c.window_sum-after.ensures ∙ ap (window_sum system samples) to
    ∙ ap (λ (start : ℕ). sum_from samples start (window_of system)) (sym (window_after system column more)) in
    record {
      windows = windows_more system samples c.loop-column-3.windows column c.window_sum-after.result
          (omega (
            arith,
            c.loop-column-3-test.true,
            c.loop-column-3.auto.windows,
            c.requires.room,
            c.loop-column-3.auto.column-end,
          )) is
          c.loop-column-3.invariant.windows;
    }
