use Rattle.vbi_words.proofs.WorkedTolerance as worked
use Rattle.vbi_words.proofs.laws.worked_tolerance.Goals as goal

pub returns : goal.returns
returns c = record {
  jittered = worked.early_jittered;
  alone = (worked.spiked_blurred, worked.spiked_alone);
  late = worked.late_not_blurred;
  glitch = worked.three_glitch;
  no_glitch = worked.four_no_glitch;
  not_amply = worked.ones_not_amply;
}
