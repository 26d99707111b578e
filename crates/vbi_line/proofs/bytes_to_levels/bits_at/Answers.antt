use Rattle.vbi_line.proofs.Common.{◌≡◌, ℕ, ◌+◌, ◌-◌, ◌^◌, ◌<◌, ◌≤◌, arith, subst, TellsAbove}
use Rattle.vbi_line.proofs.Packs.{joined}
use Rattle.vbi_line.proofs.BytesToLevels.{joined-lt, joined_tells}
use Rattle.vbi_line.proofs.bytes_to_levels.bits_at.Goals as goal

pub lanes-preserved : goal.lanes-preserved
lanes-preserved c =
    let now = c.lanes in
    let inside : now.done + 16 ≤ c.args.count = omega (arith, c.lanes-test.true) in
    let fits : now.done + 16 ≤ 64 = omega (arith, inside, c.requires.few) in
    let more = c.block_bits_at in
    record {
      inside = inside;
      levels = joined_tells now.bits more.result now.done 16 fits now.invariant.range more.ensures.range c.args.low
          c.args.bytes.now c.args.column now.invariant.levels more.ensures.levels;
      range = joined-lt now.bits more.result now.done 16 fits now.invariant.range more.ensures.range;
    }

pub returns-then-done-count-clause-levels : goal.returns-then-done-count-clause-levels
returns-then-done-count-clause-levels c =
    let now = c.lanes in
    let all : now.done + (c.args.count - now.done) ≡ c.args.count = omega (arith, now.invariant.inside) in
    let fits : now.done + (c.args.count - now.done) ≤ 64 = omega (arith, all, c.requires.few) in
    let last = c.last_bits_at in
    subst (λ (n : ℕ). TellsAbove c.args.low c.args.bytes.now c.args.column n (joined now.bits last.result now.done)) all
    (joined_tells now.bits last.result now.done (c.args.count - now.done) fits now.invariant.range last.ensures.range
    c.args.low c.args.bytes.now c.args.column now.invariant.levels last.ensures.levels)

pub returns-then-done-count-clause-range : goal.returns-then-done-count-clause-range
returns-then-done-count-clause-range c =
    let now = c.lanes in
    let all : now.done + (c.args.count - now.done) ≡ c.args.count = omega (arith, now.invariant.inside) in
    let fits : now.done + (c.args.count - now.done) ≤ 64 = omega (arith, all, c.requires.few) in
    let last = c.last_bits_at in
    subst (λ (n : ℕ). joined now.bits last.result now.done < 2 ^ n) all
    (joined-lt now.bits last.result now.done (c.args.count - now.done) fits now.invariant.range last.ensures.range)
