use Rattle.vbi_whole.specs.Gaps.{IsGap}
use Rattle.vbi_whole.proofs.GapLaws.{gap_exact, gap_least, gap_more, gap_is_cut, as_video}
use Rattle.vbi_whole.proofs.gap_laws.gap_is_so.Goals as goal

pub returns-clause-exact : goal.returns-clause-exact
returns-clause-exact c judged disc place gap video runs is =
    gap_exact disc place judged.rule.numbering judged.seen judged.numbers judged.ends gap runs
    (as_video (λ judged. IsGap judged gap) judged video is)

pub returns-clause-least : goal.returns-clause-least
returns-clause-least c = gap_least

pub returns-clause-more : goal.returns-clause-more
returns-clause-more c = gap_more

pub returns-clause-cut : goal.returns-clause-cut
returns-clause-cut c judged disc place gap video runs is =
    gap_is_cut disc place judged.rule.numbering judged.seen judged.numbers judged.ends gap runs
    (as_video (λ judged. IsGap judged gap) judged video is)
