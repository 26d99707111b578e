use Rattle.vbi_whole.specs.SaidWhole.{IsReadGap}
use Rattle.vbi_whole.proofs.Cuts.{gap_not_run, gap_not_run_by}
use Rattle.vbi_whole.proofs.GapLaws.{as_video}
use Rattle.vbi_whole.proofs.gap_laws.cut_found.Goals as goal

pub returns-clause-plain : goal.returns-clause-plain
returns-clause-plain c disc place judged fields gap video read none runs =
    let read = as_video (λ judged. IsReadGap disc place judged fields gap) judged video read in
    gap_not_run disc place fields judged.rule.numbering judged.seen judged.numbers judged.ends gap none runs
    read.answers read.is read.few read.low

pub returns-clause-by_clock : goal.returns-clause-by_clock
returns-clause-by_clock c disc place judged fields gap video read runs rises =
    let read = as_video (λ judged. IsReadGap disc place judged fields gap) judged video read in
    gap_not_run_by disc place fields judged.rule.numbering judged.seen judged.numbers judged.ends gap runs rises
    read.answers read.is read.few read.low
