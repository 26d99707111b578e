-- Few numbers are left out near each other.
use Rattle.std.proofs.Common.{◌≡◌, ℕ, ◌+◌, ◌*◌, ◌<◌, ◌≤◌, true, arith}
use Rattle.vbi_side.specs.Types.{DropFrame, OneIn}
use Rattle.vbi_side.specs.Clocks.{left_out, kept, clock_fits, out_near}
use Rattle.vbi_side.specs.Votes.{IsVoter}
use Rattle.vbi_side.proofs.Truth.{video_fits}

drop_close : (m n : ℕ) → kept DropFrame n ≤ kept DropFrame m + 120 → left_out DropFrame n ≤ left_out DropFrame m + 4
unfolding kept left_out
drop_close m n le = omega (arith, le)

thousand_close : (phase m n : ℕ) → phase < 1000 → kept (OneIn 1000 phase) n ≤ kept (OneIn 1000 phase) m + 120
    → left_out (OneIn 1000 phase) n ≤ left_out (OneIn 1000 phase) m + 4
unfolding kept left_out
thousand_close phase m n less le = omega (arith, less, le)

more_close : (phase m n : ℕ) → phase < 1001 → kept (OneIn 1001 phase) n ≤ kept (OneIn 1001 phase) m + 120
    → left_out (OneIn 1001 phase) n ≤ left_out (OneIn 1001 phase) m + 4
unfolding kept left_out
more_close phase m n less le = omega (arith, less, le)

near : (i a j b : ℕ) → IsVoter i j → j + 2 * a ≡ i + 2 * b → b ≤ a + 120
near i a j b voter e = omega (arith, voter.0, voter.1, e)

pub drop_few : (i m j n : ℕ) → IsVoter i j → clock_fits DropFrame i m j n ≡ true
    → left_out DropFrame n ≤ left_out DropFrame m + 4
drop_few i m j n voter fit = drop_close m n (near i (kept DropFrame m) j (kept DropFrame n) voter
    (video_fits i (kept DropFrame m) j (kept DropFrame n) fit))

pub thousand_few : (phase i m j n : ℕ) → phase < 1000 → IsVoter i j → clock_fits (OneIn 1000 phase) i m j n ≡ true
    → left_out (OneIn 1000 phase) n ≤ left_out (OneIn 1000 phase) m + 4
thousand_few phase i m j n less voter fit = grind (arith, near, thousand_close, video_fits)

pub more_few : (phase i m j n : ℕ) → phase < 1001 → IsVoter i j → clock_fits (OneIn 1001 phase) i m j n ≡ true
    → left_out (OneIn 1001 phase) n ≤ left_out (OneIn 1001 phase) m + 4
more_few phase i m j n less voter fit = grind (arith, more_close, near, video_fits)

pub drop_near : (n : ℕ) → out_near DropFrame n ≤ 2
unfolding left_out
drop_near n = omega arith

pub even_near : (phase n : ℕ) → (phase < 1000 → out_near (OneIn 1000 phase) n ≤ 1)
    × (phase < 1001 → out_near (OneIn 1001 phase) n ≤ 1)
unfolding left_out
even_near phase n = (λ less. omega (arith, less), λ less. omega (arith, less))

pub ruleset few_numbers = (drop_few, thousand_few, more_few, drop_near)
