use Rattle.vbi_line.proofs.Common.{◌≡◌, ℕ, ◌+◌, ◌-◌, ◌^◌, ◌<◌, ◌≤◌, Bool, true, false, length, sym, subst, ◌∙◌, arith}
use Rattle.vbi_line.proofs.Common.{System, Word, half_min, half_max, level_at, IsOutcome, IsWord, IsRun, IsMiddle, List}
use Rattle.vbi_words.specs.Words.{lowest_bits}
use Rattle.vbi_line.proofs.Middles.{low_word, high_word}
use Rattle.vbi_line.proofs.straight.word_from.Goals as goal

-- a run up to a column, of a level that was read, from the middle of the last cell
module _ (system : System) (levels : List Bool) (column end bits : ℕ) (level : Bool) (few : bits < 2 ^ 24)
    (middle : IsMiddle system levels column (lowest_bits 24 bits)) (read : level ≡ level_at levels column)
    (run : IsRun levels column level (end - column)) (long : half_min system ≤ end - column) where
  from_there : IsRun levels column (level_at levels column) (end - column)
  from_there = subst (λ (x : Bool). IsRun levels column x (end - column)) read run

  place : column + (end - column) ≡ end
  place = omega (arith, run.some)

  low_is : level ≡ false → end ≡ length levels → IsWord bits × IsOutcome system levels (Word bits)
  low_is low all =
      low_word system few middle (end - column) (sym read ∙ low) from_there long (omega (arith, place, all))

  high_is : (last : ℕ) → level ≡ true → end - column ≤ half_max system → IsRun levels end false (last - end)
      → last ≡ length levels → IsWord bits × IsOutcome system levels (Word bits)
  high_is last high short lows all =
      high_word system few middle (end - column) (last - end) (sym read ∙ high) from_there (long, short)
      (subst (λ (k : ℕ). IsRun levels k false (last - end)) (sym place) lows) (omega (arith, place, lows.some, all))

pub word_of-requires : goal.word_of-requires
word_of-requires c =
    (low_is c.args.system c.args.packed.now c.args.column c.run_end-end.result c.args.bits c.level-level.result
    c.requires.bits c.requires.middle c.level-level.ensures c.run_end-end.ensures.run
    (omega (arith, c.if-half-half_min.false, c.half_min.ensures)) c.if-level.false
    (c.if-end-width.true ∙ c.width-width.ensures)).0

pub returns-else-level : goal.returns-else-level
returns-else-level c =
    subst (λ (w : ℕ). IsOutcome c.args.system c.args.packed.now (Word w)) (sym c.word_of.ensures)
    (low_is c.args.system c.args.packed.now c.args.column c.run_end-end.result c.args.bits c.level-level.result
    c.requires.bits c.requires.middle c.level-level.ensures c.run_end-end.ensures.run
    (omega (arith, c.if-half-half_min.false, c.half_min.ensures)) c.if-level.false
    (c.if-end-width.true ∙ c.width-width.ensures)).1

pub word_of-requires-then-run_end-width : goal.word_of-requires-then-run_end-width
word_of-requires-then-run_end-width c =
    (high_is c.args.system c.args.packed.now c.args.column c.run_end-end.result c.args.bits c.level-level.result
    c.requires.bits c.requires.middle c.level-level.ensures c.run_end-end.ensures.run
    (omega (arith, c.if-half-half_min.false, c.half_min.ensures)) c.run_end.result c.if-level-2.true
    (omega (arith, c.if-half-half_max.true, c.half_max.ensures)) c.run_end.ensures.run
    (c.if-run_end-width.true ∙ c.width-width.ensures)).0

pub returns-then-run_end-width : goal.returns-then-run_end-width
returns-then-run_end-width c =
    subst (λ (w : ℕ). IsOutcome c.args.system c.args.packed.now (Word w)) (sym c.word_of-then-run_end-width.ensures)
    (high_is c.args.system c.args.packed.now c.args.column c.run_end-end.result c.args.bits c.level-level.result
    c.requires.bits c.requires.middle c.level-level.ensures c.run_end-end.ensures.run
    (omega (arith, c.if-half-half_min.false, c.half_min.ensures)) c.run_end.result c.if-level-2.true
    (omega (arith, c.if-half-half_max.true, c.half_max.ensures)) c.run_end.ensures.run
    (c.if-run_end-width.true ∙ c.width-width.ensures)).1
