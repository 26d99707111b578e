use Rattle.std.proofs.Common.{◌≡◌, ℕ, ◌+◌, ◌<◌, length, get_or, set, subst, arith, get_or-set_same}
use Rattle.std.proofs.lemmas.List.{length-set}
use Rattle.vbi_near.proofs.Levelling.{SumsTo, sums_more}
use Rattle.vbi_near.proofs.{Common.width_of, Common.samples_of, Columns.width-few, Counting.line-samples}
use Rattle.vbi_words.proofs.Sizes.{line_bytes-twice}
use Rattle.vbi_line.proofs.Slicing.{sample_of}
use Rattle.vbi_near.proofs.levelled_lines.sum_samples.Goals as goal

pub loop-column-preserved : goal.loop-column-preserved
loop-column-preserved c =
    let column = c.loop-column.column in
    let sums = c.loop-column.sums in
    let samples = samples_of c.args.row.now in
    let long : length (set c.args.sums.now 0 0) ≡ length c.args.sums.now = length-set c.args.sums.now 0 0 in
    let less : column < width_of c.args.system = omega (arith, c.loop-column-test.true, c.width-column-end.ensures) in
    let many : length samples ≡ width_of c.args.system = line-samples c.args.system c.args.row.now c.requires.row in
    let room : column + 1 < length sums
    = omega (arith, less, width-few c.args.system, c.loop-column.auto.sums, c.requires.room, long) in
    let is : c.from-sum.result ≡ get_or samples column 0
    = omega (arith, sample_of c.args.row.now column (omega (arith, less, line_bytes-twice c.args.system))) in
    let next : ℕ = c.loop-column.sum + c.from-sum.result in
    record {
      few = omega (arith, c.loop-column.invariant.few);
      last = get_or-set_same sums (column + 1) next 0 room;
      sums = sums_more samples sums column next (omega (arith, less, many)) room
          (omega (arith, is, c.loop-column.invariant.last)) c.loop-column.invariant.sums;
    }

pub returns-clause-sums : goal.returns-clause-sums
returns-clause-sums c =
    let samples = samples_of c.args.row.now in
    let long : length (set c.args.sums.now 0 0) ≡ length c.args.sums.now = length-set c.args.sums.now 0 0 in
    let many : length samples ≡ width_of c.args.system = line-samples c.args.system c.args.row.now c.requires.row in
    let e : c.loop-column.column ≡ length samples
    = omega (arith, c.loop-column-test.false, c.loop-column.auto.column-end, c.width-column-end.ensures, many) in
    record {
      room = omega (arith, many, width-few c.args.system, c.loop-column.auto.sums, c.requires.room, long);
      each = subst (SumsTo samples c.loop-column.sums) e c.loop-column.invariant.sums;
    }
