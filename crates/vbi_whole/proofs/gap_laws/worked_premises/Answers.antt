use Rattle.std.proofs.Common.{◌≡◌, [], false, refl, arith, inr, length}
use Rattle.vbi_whole.specs.Gaps.{rule_by, since_end}
use Rattle.vbi_whole.specs.Tallies.{stills_of, last_still}
use Rattle.vbi_whole.specs.Types.{Plain, Video}
use Rattle.vbi_side.specs.Clocks.{kept}
use Rattle.vbi_whole.specs.Detours.{detoured_from}
use Rattle.vbi_side.proofs.Counting.{plain}
use Rattle.vbi_whole.specs.WorkedSides.{cav, worked_ends, worked_answers}
use Rattle.vbi_whole.proofs.BlankFields.{short_side}
use Rattle.vbi_whole.proofs.Telling.{none_written}
use Rattle.vbi_whole.proofs.WorkedPictures.{answers_are, none_wrong, no_gaps, no_swap, no_drift, ends_are}
use Rattle.vbi_whole.proofs.gap_laws.worked_premises.Goals as goal

pub returns-clause-answers : goal.returns-clause-answers
returns-clause-answers c = answers_are

pub returns-clause-few : goal.returns-clause-few
returns-clause-few c = omega (arith, none_wrong 0)

pub returns-clause-low : goal.returns-clause-low
returns-clause-low c = omega (arith, none_wrong 48)

pub returns-clause-finding : goal.returns-clause-finding
unfolding since_end stills_of last_still kept detoured_from
returns-clause-finding c = record {
  told = record {
    gaps = [];
    unread = 0;
    all = no_gaps cav (λ n less. plain Plain n refl) worked_ends 50 (omega arith);
    told = record { comes_to = refl; written = none_written [] };
  };
  swapped = false;
  swap = (refl, λ pace slack. no_swap Plain);
  drifts = false;
  drift = no_drift cav (λ n less. plain Plain n refl);
  padded = refl;
  blank = short_side (rule_by Video 0 cav) worked_answers (let few : length worked_answers
      ≡ 50 = refl in omega (arith, few));
  verdict = refl;
  reasons = inr (0, 24, ends_are, refl);
}
