use Rattle.vbi_words.proofs.Common.{true, refl, lit<, lit≤, Ntsc, Pal}
use Rattle.vbi_words.specs.Words.{lowest_bits}
use Rattle.vbi_words.specs.WorkedLines.{ones_ending, zeros_after}
use Rattle.vbi_words.proofs.Outcomes.{word_outcome, changes, holds}
use Rattle.vbi_words.proofs.laws.worked_runs.Goals as goal

pub returns : goal.returns
unfolding lowest_bits
returns c = record {
  ntsc_single = (
    changes Ntsc (ones_ending 11 10) 527 true (lit< tt) (λ e. cc) refl refl refl,
    word_outcome Ntsc (ones_ending 11 11) 16777215 (lit≤ tt, lit< tt) refl,
    word_outcome Ntsc (ones_ending 11 18) 16777215 (lit≤ tt, lit< tt) refl,
    holds Ntsc (ones_ending 11 19) 535 true (lit< tt) (λ e. cc) refl refl refl,
  );
  ntsc_double = (
    changes Ntsc (zeros_after 11 21) 32 true (lit< tt) (λ e. cc) refl refl refl,
    word_outcome Ntsc (zeros_after 11 22) 8388608 (lit≤ tt, lit< tt) refl,
    word_outcome Ntsc (zeros_after 11 36) 8388608 (lit≤ tt, lit< tt) refl,
    holds Ntsc (zeros_after 11 37) 47 true (lit< tt) (λ e. cc) refl refl refl,
  );
  pal_single = (
    changes Pal (ones_ending 14 13) 671 true (lit< tt) (λ e. cc) refl refl refl,
    word_outcome Pal (ones_ending 14 14) 16777215 (lit≤ tt, lit< tt) refl,
    word_outcome Pal (ones_ending 14 22) 16777215 (lit≤ tt, lit< tt) refl,
    holds Pal (ones_ending 14 23) 680 true (lit< tt) (λ e. cc) refl refl refl,
  );
  pal_double = (
    changes Pal (zeros_after 14 27) 41 true (lit< tt) (λ e. cc) refl refl refl,
    word_outcome Pal (zeros_after 14 28) 8388608 (lit≤ tt, lit< tt) refl,
    word_outcome Pal (zeros_after 14 44) 8388608 (lit≤ tt, lit< tt) refl,
    holds Pal (zeros_after 14 45) 58 true (lit< tt) (λ e. cc) refl refl refl,
  );
}
