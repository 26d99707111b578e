-- A side that leaves nothing to doubt is judged as it is.
use Rattle.std.specs.Prelude.{◌⊎◌}
use Rattle.std.proofs.Common.{◌≡◌, ◌≢◌, ◌∙◌, ℕ, ◌+◌, ◌*◌, ap, false, refl, inl, inr}
use Rattle.vbi_c.specs.Types.{Video, Film, Asked, Given, Found}
use Rattle.vbi_whole.specs.CleanRuns.{IsCleanRun}
use Rattle.vbi_side.specs.Numbers.{AreAnswers}
use Rattle.vbi_whole.specs.Verdicts.{found_whole}
use Rattle.vbi_whole.proofs.CleanRuns.{finds_video, one_field}
use Rattle.vbi_whole.proofs.CleanSides.{called_whole}
use Rattle.vbi_c.specs.CalledWhole.{Called}
use Rattle.vbi_c.specs.CleanSides.{IsJudgedClean}
use Rattle.vbi_c.specs.Judging.{IsGiven}
use Rattle.vbi_c.specs.Numbers.{both_by}
use Rattle.vbi_c.specs.WholeSides.{side_for_c}
use Rattle.vbi_c.proofs.SidesCalled.{answers_at, found_on}

module _ (number : ℕ → ℕ) (called : Called) (begin last : ℕ) (is : IsJudgedClean number called begin last)
    (asked_other : called.judging.asked ≢ Given Film)
  where
    run : IsCleanRun called.siding.numbering.clock number called.seen begin last
    run = is.clean.run

    at_video : called.siding.pace ≡ Video
    at_video = go called.judging.asked refl is.answered.judged.pace_is.0
      where
        go : (asked : Asked) → called.judging.asked ≡ asked → IsGiven asked called.siding.pace
            → called.siding.pace ≡ Video
        go (Given Video) e given = given
        go (Given Film) e given = absurd (asked_other e)
        go Found e given = finds_video number called.seen begin last run.read.each run.read.others run.three
            called.judging.system called.judging.counted called.siding.pace (is.answered.judged.pace_is.1 e)

    answers : AreAnswers Video called.seen called.numbers
    answers = answers_at called Video is.answered at_video

    none_on_both : both_by called.both called.numbers ≡ false
    none_on_both = go is.on_one
      where
        go : (called.both ≡ 0) ⊎ (called.both ≡ 3) → both_by called.both called.numbers ≡ false
        go (inl e) = rw e refl
        go (inr e) = rw e (one_field number called.seen begin last run.read.each run.read.others run.three
            called.numbers answers)

    pub clean_whole : called.side ≡ side_for_c (found_whole begin (begin + 2 * last))
    clean_whole =
        let (found, finds, e) = found_on called false is.answered at_video none_on_both in
        e ∙ ap side_for_c (called_whole called.siding.numbering number called.seen begin last run.read.each
        run.read.others
        run.three (λ p inside. (run.keeps p inside).0) called.numbers answers called.may_end called.ends
        is.clean.begun is.clean.ended is.clean.unpadded found called.old called.new finds)
