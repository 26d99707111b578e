use Rattle.std.proofs.Common.{◌≡◌, ℕ, ◌*◌, ◌<◌, length, get_or, ap, subst, ◌∙◌, arith}
use Rattle.std.proofs.lemmas.{List.length-set, List.FromFn.fill_by_all}
use Rattle.vbi_near.proofs.{Common.width_of, Common.samples_of, Counting.line-samples, Levelling.AreTo}
use Rattle.vbi_near.proofs.{Levelling.are_more, Swings.short_bytes, Swings.scale_fits, Columns.width-few}
use Rattle.vbi_words.proofs.Sizes.{line_bytes-twice}
use Rattle.vbi_near.specs.LevelledLines.{window_of, swing_of, levelled_sample, levelled_at, levelled_each}
use Rattle.vbi_near.proofs.levelled_lines.level_each.Goals as goal

pub slice_bounds-buffer-end : goal.slice_bounds-buffer-end
slice_bounds-buffer-end c = omega (arith, width-few c.args.line.now.system, c.width.ensures)

pub levelled_sample-requires-clause-range : goal.levelled_sample-requires-clause-range
levelled_sample-requires-clause-range c =
    let system = c.args.line.now.system in
    let bytes = c.args.line.now.row.now in
    let wide : length bytes ≡ 2 * width_of system = c.args.line.now.whole ∙ line_bytes-twice system in
    scale_fits system (samples_of bytes) c.from.result c.from-2.result
    (short_bytes bytes (width_of system) wide c.args.line.now.bytes)
    (line-samples system bytes c.args.line.now.whole) (c.from.ensures ∙ c.window.ensures)
    (c.from-2.ensures ∙ c.requires.swing)

pub loop-column-preserved : goal.loop-column-preserved
loop-column-preserved c =
    let system = c.args.line.now.system in
    let samples = samples_of c.args.line.now.row.now in
    let column = c.loop-column.column in
    let scale = c.from.result * c.from-2.result in
    let less : column < width_of system = omega (arith, c.loop-column-test.true, c.width-column-end.ensures) in
    let mean = c.sum_windows.ensures.windows column less in
    let here : c.levelled_sample.result ≡ levelled_at system scale samples column
    = c.levelled_sample.ensures
    ∙ ap (λ (n : ℕ). levelled_sample scale n
    (get_or c.sum_windows.new.windows column 0)) c.own-own.ensures
    ∙ ap (λ (n : ℕ). levelled_sample scale (window_of system * get_or samples column 0) n) mean in
    record {
      long = length-set c.loop-column.samples column c.levelled_sample.result ∙ c.loop-column.invariant.long;
      levelled = are_more (levelled_at system scale samples) c.loop-column.samples column c.levelled_sample.result
          (omega (arith, less, c.loop-column.invariant.long)) here c.loop-column.invariant.levelled;
    }

pub returns : goal.returns
unfolding levelled_each
returns c =
    let system = c.args.line.now.system in
    let samples = samples_of c.args.line.now.row.now in
    let end : c.loop-column.column ≡ width_of system
    = omega (arith, c.loop-column-test.false, c.loop-column.auto.column-end, c.width-column-end.ensures) in
    let window : c.from.result ≡ window_of system = c.from.ensures ∙ c.window.ensures in
    let swing : c.from-2.result ≡ swing_of system samples = c.from-2.ensures ∙ c.requires.swing in
    let scale : c.from.result * c.from-2.result ≡ window_of system * swing_of system samples
    = ap (λ (n : ℕ). n * c.from-2.result) window ∙ ap (λ (n : ℕ). window_of system * n) swing in
    let f : ℕ → ℕ = levelled_at system (window_of system * swing_of system samples) samples in
    let P : ℕ → Type 0 = λ n. AreTo (levelled_at system n samples) c.loop-column.samples c.loop-column.column in
    let all = subst P scale c.loop-column.invariant.levelled in
    fill_by_all f c.loop-column.samples (width_of system) 0 c.loop-column.invariant.long
    (subst (AreTo f c.loop-column.samples) end all)
