use Rattle.std.proofs.Common.{◌≡◌, ℕ, ◌+◌, arith, subst, sym}
use Rattle.vbi_near.proofs.Common.{System, shades, shades_of, stretched_row_cost, IsLeastAt, IsRateBefore, IsStretched}
use Rattle.vbi_near.proofs.LeastAt.{first_rate, rate-more, stretched-same}
use Rattle.vbi_near.proofs.stretched_cells.stretched_distance.Goals as goal

pub loop-rate-init : goal.loop-rate-init
loop-rate-init c =
    let system = c.of-sums.result.system in
    first_rate system (stretched_row_cost (shades_of c.of-sums.result) system c.args.word) c.distance_by-least.result
    c.distance_by-least.ensures

pub loop-rate-preserved : goal.loop-rate-preserved
loop-rate-preserved c =
    let system = c.of-sums.result.system in
    let far : ℕ → ℕ → ℕ = stretched_row_cost (shades_of c.of-sums.result) system c.args.word in
    subst (λ (least : ℕ). IsLeastAt (IsRateBefore system (c.loop-rate.rate + 1)) far least) (sym c.min-least.ensures)
    (rate-more system far c.loop-rate.rate c.loop-rate.least c.distance_by.result (omega (arith, c.loop-rate.auto.rate))
    c.loop-rate.invariant c.distance_by.ensures)

pub returns : goal.returns
returns c slicing lines pile =
    let system = c.of-sums.result.system in
    let far : ℕ → ℕ → ℕ = stretched_row_cost (shades_of c.of-sums.result) system c.args.word in
    let row = c.of-sums.ensures.row slicing lines pile in
    let e : c.loop-rate.rate ≡ 103 = omega (arith, c.loop-rate-test.false, c.loop-rate.auto.rate-end) in
    subst (λ (s : System). IsStretched s slicing lines c.args.word c.loop-rate.least) c.of-sums.ensures.system
    (stretched-same (shades c.args.darks.now c.args.lights.now) (shades_of c.of-sums.result) system row.both slicing
    lines
    row.pile c.args.word c.loop-rate.least
    (subst (λ (end : ℕ). IsLeastAt (IsRateBefore system end) far c.loop-rate.least) e c.loop-rate.invariant))
