use Rattle.vbi_whole.proofs.Costless.{counts_nothing, verdict_stays}
use Rattle.vbi_whole.proofs.detour_laws.replaced_costs_nothing.Goals as goal

pub returns-clause-counts : goal.returns-clause-counts
returns-clause-counts c = counts_nothing

pub returns-clause-verdict : goal.returns-clause-verdict
returns-clause-verdict c = verdict_stays
