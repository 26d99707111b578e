use Rattle.vbi_line.proofs.Common.{arith, ap, sym, ◌∙◌, ◌≡◌, ◌<◌, ◌≤◌, ◌+◌, ◌-◌, ◌/◌, ◌%◌, ℕ, Bool, length, slice_index}
use Rattle.vbi_line.proofs.Common.{level_at, packed_level, unpacked, EqualBits, List}
use Rattle.vbi_line.proofs.Packs.{length-unpacked, level_unpacked}
use Rattle.vbi_line.proofs.PackedRuns.{RunSoFar, each_on, run_in_word, run_to_width}
use Rattle.vbi_line.proofs.packed.Packed.run_end.Goals as goal

-- the run of a level that was read at a column, up to an end in a word
run_so_far : {words : List ℕ} {width column end equal : ℕ} {levels : List Bool} {level : Bool} → length words ≡ 18
    → width ≤ 1152 → unpacked words width ≡ levels → column < length levels → level ≡ level_at levels column
    → column ≤ end → end < width → ((i : ℕ) → column + i < end → packed_level words (column + i) ≡ level)
    → EqualBits (slice_index words (end / 64)) (end % 64) level equal
    → RunSoFar words width column end level equal
run_so_far {words} {width} {column} long room view inside here from before each bits = record {
  long = long;
  room = room;
  within = within;
  here = here ∙ ap (λ (t : List Bool). level_at t column) (sym view) ∙ level_unpacked words width column within;
  from = from;
  before = before;
  each = each;
  bits = bits;
}
  where
    within : column < width
    within = omega (arith, inside, ap length view, length-unpacked words width)

pub returns-then-place-equal-lt64-clause-run : goal.returns-then-place-equal-lt64-clause-run
returns-then-place-equal-lt64-clause-run c =
    let now = c.loop-end in
    let so_far = run_so_far c.self.invariant.words c.self.invariant.width c.self.view_is c.requires.inside
    c.requires.level now.invariant.from c.loop-end-test.true now.invariant.each c.equal_bits-equal.ensures in
    rw (← c.self.view_is, c.min.ensures) (run_in_word so_far c.if-place-equal-lt64.true)

pub loop-end-preserved : goal.loop-end-preserved
loop-end-preserved c =
    let now = c.loop-end in
    let so_far = run_so_far c.self.invariant.words c.self.invariant.width c.self.view_is c.requires.inside
    c.requires.level now.invariant.from c.loop-end-test.true now.invariant.each c.equal_bits-equal.ensures in
    let whole : now.end % 64 + c.equal_bits-equal.result ≡ 64
    = omega (arith, c.if-place-equal-lt64.false, so_far.bits.inside) in
    let next : now.end + c.equal_bits-equal.result ≡ now.end - now.end % 64 + 64 = omega (arith, whole) in
    record { from = omega arith; each = λ i l. each_on so_far i (omega (arith, next)) }

pub returns-clause-run : goal.returns-clause-run
returns-clause-run c =
    let b = c.self.inside in
    let long = length-unpacked b.words b.width in
    let within = rw (← c.self.view_is) at c.requires.inside in
    let inside : c.args.column < b.width = omega arith in
    rw (← c.self.view_is) (run_to_width b.words b.width c.args.column c.loop-end.end c.args.level inside
    c.loop-end-test.false c.loop-end.invariant.each)
