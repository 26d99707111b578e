use Rattle.std.proofs.Common.{◌≡◌, ℕ, List, subst}
use Rattle.std.specs.Prelude.{Option}
use Rattle.vbi_side.proofs.Counting.{plain_runs, plain_counts}
use Rattle.vbi_whole.specs.Gaps.{Judged, rule_by, to_judge}
use Rattle.vbi_whole.specs.SaidWhole.{IsSaidWhole}
use Rattle.vbi_whole.specs.Types.{Finding, Pace, Sightings, Film, Video}
use Rattle.vbi_whole.proofs.GapLaws.{as_video}
use Rattle.vbi_whole.proofs.WholeSides.{yes_of_both, yes_of_film, yes_anywhere, clear_ends}
use Rattle.vbi_whole.proofs.gap_laws.nearly_whole.Goals as goal

-- a capture of a disc at this pace is said to be whole
said_at : (pace : Pace) (disc : ℕ → Option ℕ) (place : ℕ → ℕ) (judged : Judged) (fields : List Sightings)
    (finding : Finding) → judged.rule.pace ≡ pace → IsSaidWhole disc place judged fields finding
    → IsSaidWhole disc place (to_judge (rule_by pace judged.rule.slack judged.rule.numbering) judged.seen judged.numbers
    judged.ends) fields finding
said_at pace disc place judged fields finding at said =
    subst (λ pace. IsSaidWhole disc place (to_judge (rule_by pace judged.rule.slack judged.rule.numbering) judged.seen
    judged.numbers judged.ends) fields finding) at said

pub returns-clause-both : goal.returns-clause-both
returns-clause-both c disc place judged fields finding at one said =
    yes_of_both disc place judged.rule.slack judged.rule.numbering judged.seen fields judged.numbers judged.ends finding
    (said_at Video disc place judged fields finding at said) one

pub returns-clause-film : goal.returns-clause-film
returns-clause-film c disc place judged fields finding at said =
    yes_of_film disc place judged.rule.slack judged.rule.numbering judged.seen fields judged.numbers judged.ends finding
    (said_at Film disc place judged fields finding at said)

pub returns-clause-anywhere : goal.returns-clause-anywhere
returns-clause-anywhere c disc place judged fields finding video said =
    yes_anywhere disc place judged.rule.numbering judged.seen fields judged.numbers judged.ends finding
    (as_video (λ judged. IsSaidWhole disc place judged fields finding) judged video said)

pub returns-clause-both_plain : goal.returns-clause-both_plain
returns-clause-both_plain c disc place judged fields finding at one said none counts =
    yes_of_both disc place judged.rule.slack judged.rule.numbering judged.seen fields judged.numbers judged.ends finding
    (said_at Video disc place judged fields finding at said) one
    (plain_counts judged.rule.numbering.clock judged.rule.slack disc none counts) (clear_ends judged finding none)

pub returns-clause-film_plain : goal.returns-clause-film_plain
returns-clause-film_plain c disc place judged fields finding at said none runs =
    yes_of_film disc place judged.rule.slack judged.rule.numbering judged.seen fields judged.numbers judged.ends finding
    (said_at Film disc place judged fields finding at said)
    (plain_runs judged.rule.numbering.clock Film disc none runs) (clear_ends judged finding none)
