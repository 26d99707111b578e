-- How many numbers are lost in a gap, of those that the clock leaves.
use Rattle.std.proofs.Common.{◌≡◌, ℕ, ◌+◌, ◌-◌, ◌<◌, ◌≤◌, true, Bool, arith, subst}
use Rattle.std.specs.Prelude.{None}
use Rattle.std.proofs.lemmas.Bool.Decides.{eqb_tells}
use Rattle.std.proofs.Math.Dec.{eqb}
use Rattle.vbi_whole.specs.Types.{Clock, Video, Gap, Numbering}
use Rattle.vbi_side.specs.Clocks.{left_out, clock_fits, out_between}
use Rattle.vbi_side.proofs.Counting.{kept_is, out_up, out_far}
use Rattle.vbi_side.proofs.Truth.{near_same, video_fits}
use Rattle.vbi_whole.specs.Gaps.{gap_of, skipped, rule_by, amid}
use Rattle.vbi_whole.specs.Tallies.{lost_of, undecided_of}
use Rattle.vbi_side.specs.Paces.{spot}

pub skipped_few : (clock : Clock) (m n : ℕ) → m < n → skipped clock m n + out_between clock m n ≤ n - m - 1
skipped_few clock m n less =
    let whole : m + 1 + (n - m - 1) ≡ n = omega (arith, less) in
    let far = subst (λ x. left_out clock x ≤ left_out clock (m + 1) + (n - m - 1)) whole
    (out_far clock (m + 1) (n - m - 1)) in
    omega (
      arith,
      less,
      far,
      kept_is clock m,
      kept_is clock n,
      out_up clock m (m + 1) (omega arith),
      out_up clock (m + 1) n (omega (arith, less)),
    )

pub few_lost : (clock : Clock) (gap : Gap) → gap.from < gap.to
    → lost_of clock gap + undecided_of clock gap + out_between clock gap.from gap.to ≤ gap.to - gap.from - 1
few_lost clock gap less = grind (arith, eqb, eqb_tells, skipped_few)

pub no_gap : (numbering : Numbering) (ended : Bool) (shown i m k n : ℕ)
    → clock_fits numbering.clock i m k n ≡ true → gap_of (rule_by Video 0 numbering) (amid ended shown) (spot i m)
    (spot k n) ≡ None
no_gap numbering ended shown i m k n fit = grind (arith, near_same, video_fits)
