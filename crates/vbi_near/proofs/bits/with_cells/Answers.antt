use Rattle.std.proofs.Common.{ℕ, ◌<◌, length, ap, arith}
use Rattle.vbi_near.proofs.Common.{Bits}
use Rattle.vbi_near.proofs.bits.with_cells.Goals as goal

pub with_cell-more-requires-clause-word : goal.with_cell-more-requires-clause-word
with_cell-more-requires-clause-word c =
    let start : ℕ = c.loop-start.start in
    let inside : start < length c.args.words.now = omega (arith, c.loop-start-test.true) in
    omega (
      arith,
      ap (λ (best : Bits). best.word) c.bits_of-best.ensures,
      ap (λ (best : Bits). best.word) (c.loop-start.invariant.after start (omega arith)),
      (c.requires.few start inside).0,
    )

pub with_cell-more-requires-clause-distance : goal.with_cell-more-requires-clause-distance
with_cell-more-requires-clause-distance c =
    let start : ℕ = c.loop-start.start in
    let inside : start < length c.args.words.now = omega (arith, c.loop-start-test.true) in
    omega (
      arith,
      ap (λ (best : Bits). best.distance) c.bits_of-best.ensures,
      ap (λ (best : Bits). best.distance) (c.loop-start.invariant.after start (omega arith)),
      (c.requires.few start inside).1,
    )

pub with_cell-more-requires-clause-one : goal.with_cell-more-requires-clause-one
with_cell-more-requires-clause-one c =
    (c.requires.small c.loop-start.start (omega (arith, c.loop-start-test.true))).0

pub with_cell-more-requires-clause-zero : goal.with_cell-more-requires-clause-zero
with_cell-more-requires-clause-zero c =
    (c.requires.small c.loop-start.start (omega (arith, c.loop-start-test.true))).1
