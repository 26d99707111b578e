use Rattle.vbi_side.proofs.Counting.{plain_runs}
use Rattle.vbi_whole.specs.SaidWhole.{IsSaidWhole}
use Rattle.vbi_whole.specs.Types.{Video}
use Rattle.vbi_whole.proofs.GapLaws.{as_video}
use Rattle.vbi_whole.proofs.WholeSides.{whole_clock, clear_ends}
use Rattle.vbi_whole.proofs.gap_laws.whole_yes.Goals as goal

pub returns-clause-by_clock : goal.returns-clause-by_clock
returns-clause-by_clock c disc place judged fields finding video said =
    whole_clock disc place judged.rule.numbering judged.seen fields judged.numbers judged.ends finding
    (as_video (λ judged. IsSaidWhole disc place judged fields finding) judged video said)

pub returns-clause-plain : goal.returns-clause-plain
returns-clause-plain c disc place judged fields finding video said none runs =
    whole_clock disc place judged.rule.numbering judged.seen fields judged.numbers judged.ends finding
    (as_video (λ judged. IsSaidWhole disc place judged fields finding) judged video said)
    (plain_runs judged.rule.numbering.clock Video disc none runs) (clear_ends judged finding none)
