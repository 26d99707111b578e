use Rattle.std.proofs.Common.{◌≡◌, [], false, refl, arith, inr, length}
use Rattle.vbi_whole.specs.Gaps.{rule_by, since_end}
use Rattle.vbi_whole.specs.Tallies.{stills_of, last_still}
use Rattle.vbi_side.specs.Clocks.{kept, left_out}
use Rattle.vbi_whole.specs.WorkedSides.{clv_by, worked_ends, worked_answers}
use Rattle.vbi_whole.specs.Detours.{detoured_from}
use Rattle.vbi_whole.proofs.ClockDiscs.{thousand_counts}
use Rattle.vbi_whole.specs.Types.{Video}
use Rattle.vbi_whole.proofs.BlankFields.{short_side}
use Rattle.vbi_whole.proofs.Telling.{none_written}
use Rattle.vbi_whole.proofs.WorkedPictures.{no_gaps, no_swap, no_drift, ends_are}
use Rattle.vbi_whole.proofs.WorkedClock.{clock, same, clear_at, none_wrong}
use Rattle.vbi_whole.proofs.clock_laws.worked_premises_by_clock.Goals as goal

pub returns-clause-runs : goal.returns-clause-runs
returns-clause-runs c = thousand_counts 500 (omega arith)

pub returns-clause-few : goal.returns-clause-few
returns-clause-few c = omega (arith, none_wrong 0)

pub returns-clause-low : goal.returns-clause-low
returns-clause-low c = omega (arith, none_wrong 48)

pub returns-clause-clear : goal.returns-clause-clear
returns-clause-clear c = (clear_at 0, clear_at 48)

pub returns-clause-finding : goal.returns-clause-finding
unfolding since_end stills_of last_still kept left_out detoured_from
returns-clause-finding c = record {
  told = record {
    gaps = [];
    unread = 0;
    all = no_gaps (clv_by clock) same worked_ends 50 (omega arith);
    told = record { comes_to = refl; written = none_written [] };
  };
  swapped = false;
  swap = (refl, λ pace slack. no_swap clock);
  drifts = false;
  drift = no_drift (clv_by clock) same;
  padded = refl;
  blank = short_side (rule_by Video 0 (clv_by clock)) worked_answers
      (let few : length worked_answers ≡ 50 = refl in omega (arith, few));
  verdict = refl;
  reasons = inr (0, 24, ends_are, refl);
}
