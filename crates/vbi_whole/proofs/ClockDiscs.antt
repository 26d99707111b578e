-- Discs that count by a clock.
use Rattle.std.proofs.Common.{◌≡◌, ℕ, ◌*◌, ◌<◌, refl, arith}
use Rattle.std.specs.Prelude.{Some}
use Rattle.std.proofs.lemmas.Bool.Decides.{eqb_tells}
use Rattle.std.proofs.Math.Dec.{eqb}
use Rattle.vbi_whole.specs.Types.{Clock, DropFrame, OneIn, Video}
use Rattle.vbi_side.specs.Side.{DiscRuns}
use Rattle.vbi_side.specs.Clocks.{left_out, kept, numbered, drop_number, thousand_number, more_number, DiscCountsBy}
use Rattle.vbi_side.proofs.Truth.{video_fits}
use Rattle.vbi_whole.proofs.Telling.{some_is}

-- a field with a number is the first of its picture
pub numbered_is : (number : ℕ → ℕ) (d m : ℕ) → numbered number d ≡ Some m → (p : ℕ) × (d ≡ 2 * p) × (m ≡ number p)
numbered_is number d m e = grind (arith, eqb, eqb_tells, some_is)

counts_by : (clock : Clock) (number : ℕ → ℕ) → ((p : ℕ) → kept clock (number p) ≡ p)
    → DiscCountsBy clock Video (numbered number)
counts_by clock number h1 = grind (arith, numbered_is)

pub drop_kept : (p : ℕ) → kept DropFrame (drop_number p) ≡ p
unfolding kept left_out
drop_kept p = omega arith

thousand_kept : (phase p : ℕ) → phase < 1000 → kept (OneIn 1000 phase) (thousand_number phase p) ≡ p
unfolding kept left_out
thousand_kept phase p less = omega (arith, less)

more_kept : (phase p : ℕ) → phase < 1001 → kept (OneIn 1001 phase) (more_number phase p) ≡ p
unfolding kept left_out
more_kept phase p less = omega (arith, less)

pub drop_counts : DiscCountsBy DropFrame Video (numbered drop_number)
drop_counts = counts_by DropFrame drop_number drop_kept

pub thousand_counts : (phase : ℕ) → phase < 1000
    → DiscCountsBy (OneIn 1000 phase) Video (numbered (thousand_number phase))
thousand_counts phase less = counts_by (OneIn 1000 phase) (thousand_number phase) (λ p. thousand_kept phase p less)

pub more_counts : (phase : ℕ) → phase < 1001 → DiscCountsBy (OneIn 1001 phase) Video (numbered (more_number phase))
more_counts phase less = counts_by (OneIn 1001 phase) (more_number phase) (λ p. more_kept phase p less)

-- 0:00:59.29 and 0:01:00.02 are two fields apart
pub drop_skips : DiscRuns Video (numbered drop_number) → ⊥
drop_skips runs = let h = video_fits 3598 1799 3600 1802 (runs 3598 3600 1799 1802 refl refl) in absurd
    (omega (arith, h))
