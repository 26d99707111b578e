use Rattle.vbi_line.proofs.Common.{◌≡◌, ◌+◌, ◌-◌, arith, sym, ap, ◌∙◌, length, subst, width_of, line_bytes-twice}
use Rattle.vbi_line.proofs.BytesToLevels.{length_with_word, sliced_with_word}
use Rattle.vbi_line.proofs.Slicing.{Sliced, sliced_all}
use Rattle.vbi_line.proofs.bytes_to_levels.slice_into.Goals as goal

pub loop-column-preserved : goal.loop-column-preserved
loop-column-preserved c =
    let old = c.loop-column in
    let count = old.invariant.count in
    let word = c.bits_at.result in
    let sliced = sliced_with_word old.packed old.column 64 word count c.args.slicing c.args.bytes.now
    c.greatest_low-low.result old.invariant.sliced c.greatest_low-low.ensures c.bits_at.ensures.levels in
    record {
      count = ap length c.push.ensures ∙ length_with_word old.packed old.column 64 word count;
      inside = omega (arith, c.loop-column-test.true, c.width-width.ensures);
      words = omega (arith, old.invariant.words);
      sliced = subst (Sliced c.args.slicing c.args.bytes.now) (sym c.push.ensures) sliced;
    }

pub returns-then-rest-gt0-clause-levels : goal.returns-then-rest-gt0-clause-levels
returns-then-rest-gt0-clause-levels c =
    let old = c.loop-column in
    let count = old.invariant.count in
    let system = c.args.system in
    let bytes = c.args.bytes.now in
    let rest = c.width-width.result - old.column in
    let bits = c.bits_at-then-rest-gt0 in
    let all = c.push-then-rest-gt0.new.self in
    let is = c.push-then-rest-gt0.ensures in
    let sliced = sliced_with_word old.packed old.column rest bits.result count c.args.slicing bytes
    c.greatest_low-low.result old.invariant.sliced c.greatest_low-low.ensures bits.ensures.levels in
    let longer : length all ≡ old.column + rest
    = ap length is ∙ length_with_word old.packed old.column rest bits.result count in
    let long : length all ≡ width_of system = omega (arith, longer, old.invariant.inside, c.width-width.ensures) in
    sliced_all c.args.slicing bytes all (width_of system) (c.requires.bytes ∙ line_bytes-twice system) long
    (subst (Sliced c.args.slicing bytes) (sym is) sliced)
