use Rattle.vbi_whole.proofs.ClockDiscs.{drop_counts, thousand_counts, more_counts, drop_skips}
use Rattle.vbi_whole.proofs.clock_laws.clocked_discs_are.Goals as goal

pub returns-clause-drop : goal.returns-clause-drop
returns-clause-drop c = drop_counts

pub returns-clause-thousand : goal.returns-clause-thousand
returns-clause-thousand c = thousand_counts

pub returns-clause-more : goal.returns-clause-more
returns-clause-more c = more_counts

pub returns-clause-not_on : goal.returns-clause-not_on
returns-clause-not_on c = drop_skips
