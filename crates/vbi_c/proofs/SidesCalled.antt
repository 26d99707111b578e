-- Sides that are called whole by the calls: the laws of vbi_side, of what C hands over.
use Rattle.std.proofs.Common.{◌≡◌, ◌∙◌, ℕ, Bool, ap, arith, refl, sym, subst}
use Rattle.std.specs.Prelude.{Option, if◌then◌else◌}
use Rattle.vbi_c.specs.Types.{Pace, Video, Finding, Reasons, Verdict, Yes, No, CannotTell, LdvbiSide}
use Rattle.vbi_side.specs.Numbers.{AreAnswers}
use Rattle.vbi_whole.specs.SaidWhole.{IsSaidWhole}
use Rattle.vbi_whole.specs.Verdicts.{IsFinding}
use Rattle.vbi_c.specs.CalledWhole.{Called, Finds, IsAnswered, IsCalledWhole, judged_at, slack_at}
use Rattle.vbi_c.specs.Numbers.{both_by, verdict_for_c}

-- what is answered, at the pace that is known
pub answers_at : (called : Called) (pace : Pace) → IsAnswered called → called.siding.pace ≡ pace
    → AreAnswers pace called.seen called.numbers
answers_at called pace is paced =
    subst (λ (pace : Pace). AreAnswers pace called.seen called.numbers) paced is.judged.answers

-- what is found at the pace that is known
pub found_at : (called : Called) (pace : Pace) → IsAnswered called → called.siding.pace ≡ pace
    → Finds called pace (slack_at pace called)
found_at called pace is paced = subst (λ (pace : Pace). Finds called pace (slack_at pace called)) paced is.found

-- and of video, if it is known on which fields of a picture numbers are
pub found_on : (called : Called) (on_both : Bool) → IsAnswered called → called.siding.pace ≡ Video
    → both_by called.both called.numbers ≡ on_both → Finds called Video (if on_both then 1 else 0)
found_on called on_both is paced on =
    subst (λ (on : Bool). Finds called Video (if on then 1 else 0)) on (found_at called Video is paced)

-- what was found of a side that is answered so, with this verdict and these reasons
abbrev pub as_found : LdvbiSide → Verdict → Reasons → Finding
as_found side verdict reasons = record {
  tally = side.tally;
  first = side.first;
  last = side.last;
  swap = side.swap;
  padded = side.padded;
  blank = side.blank;
  verdict = verdict;
  reasons = reasons;
}

is_yes : (verdict : Verdict) → verdict_for_c verdict ≡ 1 → verdict ≡ Yes
is_yes CannotTell e = absurd (omega (arith, e))
is_yes Yes e = refl
is_yes No e = absurd (omega (arith, e))

-- a side that is called whole is said to be so
pub said_whole : (disc : ℕ → Option ℕ) (place : ℕ → ℕ) (called : Called) (pace : Pace) (slack : ℕ)
    → IsCalledWhole disc place called → called.siding.pace ≡ pace → Finds called pace slack
    → (reasons : Reasons)
    × IsSaidWhole disc place (judged_at called pace slack) called.seen (as_found called.side Yes reasons)
said_whole disc place called pace slack is paced (found, finds, e) =
    let yes : found.verdict ≡ Yes = is_yes found.verdict (ap (λ (s : LdvbiSide). s.verdict) (sym e) ∙ is.whole) in (
      found.reasons,
      record {
        rises = is.rises;
        answers = answers_at called pace is.answered paced;
        may_end = called.may_end;
        old = called.old;
        new = called.new;
        found = subst (λ (v : Verdict). IsFinding (judged_at called pace slack) called.may_end
            (as_found called.side v found.reasons) called.old called.new) yes
            (subst (λ (s : LdvbiSide). IsFinding (judged_at called pace slack) called.may_end
            (as_found s found.verdict found.reasons) called.old called.new) (sym e) finds);
        whole = refl;
        few = is.few;
        low = is.low;
        far = is.far;
      },
    )
