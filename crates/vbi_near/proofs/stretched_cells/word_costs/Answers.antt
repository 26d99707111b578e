use Rattle.std.proofs.Common.{◌≡◌, ℕ, ◌+◌, ◌-◌, List, Bool, false, get_or, ap, ◌∙◌, arith}
use Rattle.vbi_near.proofs.Common.{halves_of, Shades, shade, total_in, stretched_cost, shades_of}
use Rattle.vbi_near.proofs.Costs.{many-halves}
use Rattle.vbi_near.proofs.Stretches.{none-yet, cost-more, half-read, all-halves}
use Rattle.vbi_near.proofs.stretched_cells.word_costs.Goals as goal

pub loop-half-init : goal.loop-half-init
loop-half-init c =
    let sums : Shades = shades_of c.args.sums.now in
    record {
      value = λ k l. omega (
        arith,
        c.lead_costs.ensures.value k (omega arith),
        none-yet (stretched_cost sums c.args.sums.now.system c.args.rate k) (halves_of c.args.word),
      );
      few = λ k l. omega (arith, c.lead_costs.ensures.few k (omega arith));
    }

pub loop-half-preserved : goal.loop-half-preserved
loop-half-preserved c =
    let sums : Shades = shades_of c.args.sums.now in
    let half : ℕ = c.loop-half.half in
    let begin : ℕ = c.stretched_offset-begin.result in
    let end : ℕ = c.stretched_offset.result in
    let level : Bool = get_or (halves_of c.args.word) half false in
    let now : c.level-level.result.now ≡ shade sums level
    = c.level-level.ensures.level ∙ ap (shade sums) c.half.ensures in
    record {
      value = λ k l. omega (
        arith,
        c.add_half.ensures.value k (omega arith),
        c.loop-half.invariant.value k (omega arith),
        ap (λ (s : List ℕ). total_in s (k + begin) (end - begin)) now,
        half-read sums c.args.sums.now.system c.args.rate k half level begin end c.stretched_offset-begin.ensures.value
            c.stretched_offset.ensures.value,
        cost-more (stretched_cost sums c.args.sums.now.system c.args.rate k) (halves_of c.args.word) half
            (omega (arith, many-halves c.args.word, c.loop-half-test.true)),
      );
      few = λ k l. omega (arith, c.add_half.ensures.few k (omega arith), c.stretched_offset.ensures.value);
    }

pub returns-clause-value : goal.returns-clause-value
returns-clause-value c start l =
    let sums : Shades = shades_of c.args.sums.now in
    let h : c.loop-half.half ≡ 48 = omega (arith, c.loop-half-test.false, c.loop-half.auto.half-end) in
    omega (
      arith,
      c.loop-half.invariant.value start (omega arith),
      all-halves (stretched_cost sums c.args.sums.now.system c.args.rate start) c.args.word c.loop-half.half h,
    )
