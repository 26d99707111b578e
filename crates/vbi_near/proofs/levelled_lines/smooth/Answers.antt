use Rattle.std.proofs.Common.{◌≡◌, ℕ, ◌+◌, ◌-◌, min, length, get_or, ap, ◌∙◌, subst, arith}
use Rattle.vbi_near.proofs.Common.{sample_at}
use Rattle.vbi_near.proofs.Levelling.{WrittenTo, smoothed_at, written_more, smoothed_all}
use Rattle.vbi_near.specs.LevelledLines.{smoothed_sample}
use Rattle.vbi_near.proofs.levelled_lines.smooth.Goals as goal

pub loop-column-preserved : goal.loop-column-preserved
loop-column-preserved c =
    let samples = c.args.samples.now in
    let column = c.loop-column.column in
    let next : column + 1 ≡ min (column + 1) (length samples - 1) = omega (arith, c.loop-column-test.true) in
    let here : sample_at c.put-in-loop-column.new.line column ≡ smoothed_at samples column
    = c.put-in-loop-column.ensures.here ∙ c.smoothed_sample-sample.ensures
    ∙ ap (λ (i : ℕ). smoothed_sample (get_or samples (column - 1) 0) (get_or samples column 0) (get_or samples i 0))
    next in
    record {
      long = c.put-in-loop-column.ensures.long ∙ c.loop-column.invariant.long;
      written = written_more (smoothed_at samples) c.loop-column.out c.put-in-loop-column.new.line column here
          c.put-in-loop-column.ensures.others c.loop-column.invariant.written;
    }

pub returns-clause-smoothed : goal.returns-clause-smoothed
returns-clause-smoothed c =
    let samples = c.args.samples.now in
    let last : ℕ = length samples - 1 in
    let end : c.loop-column.column ≡ last =
    omega (arith, c.loop-column-test.false, c.loop-column.auto.column-end, c.requires.some) in
    let next : last ≡ min (last + 1) (length samples - 1) = omega arith in
    let here : sample_at c.put-2.new.line last ≡ smoothed_at samples last
    = c.put-2.ensures.here ∙ c.smoothed_sample-2.ensures
    ∙ ap (λ (i : ℕ). smoothed_sample (get_or samples (last - 1) 0) (get_or samples last 0) (get_or samples i 0)) next in
    let before = subst (WrittenTo (smoothed_at samples) c.loop-column.out) end c.loop-column.invariant.written in
    let all = written_more (smoothed_at samples) c.loop-column.out c.put-2.new.line last here c.put-2.ensures.others
    before in
    let whole : last + 1 ≡ length samples = omega (arith, c.requires.some) in
    smoothed_all samples c.put-2.new.line
    (c.put-2.ensures.long ∙ c.loop-column.invariant.long ∙ c.put.ensures.long ∙ c.requires.room)
    (subst (WrittenTo (smoothed_at samples) c.put-2.new.line) whole all)
