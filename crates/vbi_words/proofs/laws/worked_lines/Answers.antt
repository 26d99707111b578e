use Rattle.vbi_words.proofs.Common.{true, false, refl, lit<, lit≤, Ntsc}
use Rattle.vbi_words.specs.Words.{lowest_bits}
use Rattle.vbi_words.proofs.Outcomes.{word_outcome, unfinished_outcome, changes, holds}
use Rattle.vbi_words.proofs.laws.worked_lines.Goals as goal

pub returns : goal.returns
unfolding lowest_bits
returns c = record {
  change = changes Ntsc _ 34 true (lit< tt) (λ e. cc) refl refl refl;
  hold = holds Ntsc _ 46 false (lit< tt) (λ e. cc) refl refl refl;
  long = holds Ntsc _ 72 false (lit< tt) (λ e. cc) refl refl refl;
  unfinished = unfinished_outcome Ntsc _ (λ e. cc) refl refl;
  word = word_outcome Ntsc _ 16777215 (lit≤ tt, lit< tt) refl;
}
