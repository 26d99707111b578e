use Rattle.std.proofs.Common.{◌≡◌, ℕ, suc, ◌+◌, ◌-◌, List, Bool, false, get_or, ap, ◌∙◌, arith}
use Rattle.vbi_near.proofs.Common.{column_of, Shades, shade, total_in, half_cost, half_of, shades_of}
use Rattle.vbi_near.proofs.{Columns.column-first, Columns.column-next, Costs.half-costs, HalvedRows.half-long}
use Rattle.vbi_near.proofs.{HalvedRows.all-costs, Stretches.none-yet, Stretches.cost-more}
use Rattle.vbi_near.proofs.halved_signal.half_distance.Goals as goal

pub loop-half-init : goal.loop-half-init
loop-half-init c = record {
  value = omega (
    arith,
    c.around-sum.ensures.value,
    none-yet (half_cost (shades_of c.args.sums.now) c.args.sums.now.system c.args.start)
        (half_of c.args.is_late c.args.word),
  );
  few = omega (arith, c.around-sum.ensures.range, column-first c.args.sums.now.system c.args.start);
}

pub loop-half-preserved : goal.loop-half-preserved
loop-half-preserved c =
    let sums : Shades = shades_of c.args.sums.now in
    let system = c.args.sums.now.system in
    let half : ℕ = c.loop-half.half in
    let begin : ℕ = c.column-begin.result in
    let end : ℕ = c.column.result in
    let level : Bool = get_or (half_of c.args.is_late c.args.word) half false in
    let now : c.level-level.result.now ≡ shade sums level
    = c.level-level.ensures.level ∙ ap (shade sums) c.is_high.ensures in
    let next : half + 1 ≡ suc half = omega arith in
    let step = column-next system c.args.start half in
    let to : end ≡ column_of system c.args.start (suc half)
    = c.column.ensures.value ∙ ap (column_of system c.args.start) next in
    record {
      value = omega (
        arith,
        c.loop-half.invariant.value,
        c.between-sum.ensures.value,
        ap (λ (s : List ℕ). total_in s begin (end - begin)) now,
        half-costs sums system c.args.start half level begin end c.column-begin.ensures.value to,
        cost-more (half_cost sums system c.args.start) (half_of c.args.is_late c.args.word) half
            (omega (arith, half-long c.args.is_late c.args.word, c.loop-half-test.true)),
      );
      few = omega (
        arith,
        c.loop-half.invariant.few,
        c.between-sum.ensures.range,
        c.column-begin.ensures.value,
        to,
        step,
        ap (column_of system c.args.start) next,
      );
    }

pub returns : goal.returns
returns c =
    let h : c.loop-half.half ≡ 48 = omega (arith, c.loop-half-test.false, c.loop-half.auto.half-end) in
    omega (
      arith,
      c.loop-half.invariant.value,
      all-costs (half_cost (shades_of c.args.sums.now) c.args.sums.now.system c.args.start) c.args.is_late c.args.word
          c.loop-half.half h,
    )
