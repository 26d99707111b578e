use Rattle.std.proofs.Common.{refl}
use Rattle.vbi_whole.specs.Types.{Plain}
use Rattle.vbi_side.proofs.Counting.{plain, plain_clear, runs_plain}
use Rattle.vbi_whole.proofs.clock_laws.plain_is.Goals as goal

pub returns-clause-kept : goal.returns-clause-kept
returns-clause-kept c = λ n. plain Plain n refl

pub returns-clause-clear : goal.returns-clause-clear
returns-clause-clear c = λ n. plain_clear Plain n refl

pub returns-clause-runs : goal.returns-clause-runs
returns-clause-runs c = runs_plain
