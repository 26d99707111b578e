use Rattle.std.proofs.Common.{◌≡◌, ℕ, Bool, ◌+◌, ◌*◌, ◌/◌, ◌%◌, ◌∙◌, arith, sym, ap, length-set}
use Rattle.vbi_near.proofs.{Common.cell_cost, Common.digit_cost, Common.IsDigitCost, Common.shades_of, CellsAt.set-more}
use Rattle.vbi_near.proofs.prices.digit_costs.Goals as goal

pub loop-value-preserved : goal.loop-value-preserved
loop-value-preserved c =
    let cost : ℕ → Bool → ℕ = cell_cost (shades_of c.args.sums.now) c.args.sums.now.system c.args.start in
    let n : ℕ = 4 * c.args.place in
    let v : ℕ = c.loop-value.value in
    let i : ℕ = 16 * c.args.place + v in
    let a = c.bit_cost.ensures.value (cost n) (sym c.cell_at-first.ensures.one) (sym c.cell_at-first.ensures.zero) in
    let b = c.bit_cost-in-loop-value.ensures.value (cost (n + 1)) (sym c.cell_at-second.ensures.one)
    (sym c.cell_at-second.ensures.zero) in
    let d = c.bit_cost-in-loop-value-2.ensures.value (cost (n + 2)) (sym c.cell_at-third.ensures.one)
    (sym c.cell_at-third.ensures.zero) in
    let e = c.bit_cost-in-loop-value-3.ensures.value (cost (n + 3)) (sym c.cell_at-last.ensures.one)
    (sym c.cell_at-last.ensures.zero) in
    let p : n ≡ 4 * (i / 16) = omega (arith, c.loop-value-test.true) in
    let q : v ≡ i % 16 = omega (arith, c.loop-value-test.true) in
    let at : digit_cost cost n v ≡ digit_cost cost (4 * (i / 16)) (i % 16)
    = ap (λ (k : ℕ). digit_cost cost k v) p ∙ ap (digit_cost cost (4 * (i / 16))) q in
    record {
      room = length-set c.loop-value.digits i _ ∙ c.loop-value.invariant.room;
      below = λ k l. set-more (λ (j x : ℕ). IsDigitCost cost j x) c.loop-value.digits i _
          (omega (arith, c.loop-value.invariant.room, c.loop-value-test.true)) c.loop-value.invariant.below (
            omega (arith, a, b, d, e, at),
            omega (
              arith,
              c.bit_cost.ensures.range c.cell_at-first.ensures.range,
              c.bit_cost-in-loop-value.ensures.range c.cell_at-second.ensures.range,
              c.bit_cost-in-loop-value-2.ensures.range c.cell_at-third.ensures.range,
              c.bit_cost-in-loop-value-3.ensures.range c.cell_at-last.ensures.range,
            ),
          ) k (omega (arith, l));
    }
