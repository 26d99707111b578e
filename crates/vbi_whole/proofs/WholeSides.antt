-- What the verdict of a capture says of it.
use Rattle.std.proofs.Common.{◌≡◌, ◌≢◌, ℕ, ◌+◌, ◌*◌, ◌-◌, ◌≤◌, Bool, true, false, List, refl, arith, ap, sym}
use Rattle.std.proofs.Common.{subst, ◌∙◌, inl, inr, length}
use Rattle.std.specs.Prelude.{Option, Some, slice_get, nat_lt, ◌==◌, ◌&&◌, ◌||◌, not, sum_by}
use Rattle.std.proofs.lemmas.Bool.Decides.{leb_tells, eqb_tells}
use Rattle.vbi_whole.specs.Types.{Number, Sightings, Gap, Tally, Finding, Reasons, Yes, CannotTell, Video, Film, Clock}
use Rattle.vbi_whole.specs.Types.{Plain, Numbering}
use Rattle.vbi_side.specs.Paces.{nearly, spot}
use Rattle.vbi_side.specs.Clocks.{kept, out_near, DiscCountsBy, DiscNearlyBy}
use Rattle.vbi_side.proofs.Counting.{clear_film, near_video, plain_clear}
use Rattle.vbi_side.specs.Beliefs.{reach}
use Rattle.vbi_whole.specs.BlankFields.{IsBlank, IsBlankTold}
use Rattle.vbi_side.specs.Numbers.{believed, IsMarked}
use Rattle.vbi_side.specs.Side.{Rises, captured, NoneLost, AreEnds, IsAnchor}
use Rattle.vbi_whole.specs.Gaps.{lost, HasRightEnds, LostAtLeast, to_judge, Judged, rule_by, goes_on, of_video}
use Rattle.vbi_whole.specs.Tallies.{fields_if, capped}
use Rattle.vbi_whole.specs.SaidWhole.{IsSaidWhole, AreClearEnds, AreFewLost}
use Rattle.vbi_whole.specs.Verdicts.{verdict_of, is_off, HasNone, AreReasons, IsFinding}
use Rattle.std.proofs.lemmas.Bool.{and_parts}
use Rattle.vbi_side.proofs.Truth.{video_fits, film_fits}
use Rattle.vbi_side.proofs.Filling.{answer_believed}
use Rattle.vbi_side.proofs.Sides.{near_one, alone_of, none_lost, lost_between}
use Rattle.vbi_side.proofs.Anchors.{anchor}
use Rattle.vbi_whole.proofs.LostFields.{told_lost}
use Rattle.vbi_whole.specs.Detours.{detoured}

-- ---- the verdict

-- yes leaves none of these reasons
record AreNone (reasons : Reasons) : Type 0 where
  numbers : reasons.no_numbers ≡ false
  off : reasons.is_off ≡ false
  gaps : reasons.is_open ≡ false
  inserted : reasons.is_inserted ≡ false
  blank : reasons.is_blank ≡ false

yes_none : (reasons : Reasons) → verdict_of reasons ≡ Yes → AreNone reasons
yes_none reasons whole = record {
  numbers = grind (arith);
  off = grind (arith);
  gaps = grind (arith);
  inserted = grind (arith);
  blank = grind (arith);
}

-- nothing is counted
none_there : (count : ℕ) → nat_lt 0 count ≡ false → count ≡ 0
none_there count none = grind (arith, leb_tells)

-- neither of two
neither : (a b : Bool) → (a || b) ≡ false → b ≡ false
neither true b e = absurd (let h : true ≡ false = e in cc)
neither false b e = e

-- where no gap is open, and the ends aren't off, they are near
is_near : (gaps : ℕ) (b : Bool) → nat_lt 0 gaps ≡ false → ((gaps == 0) && not b) ≡ false → b ≡ true
is_near gaps b h1 h2 = grind (arith, eqb_tells, gaps, leb_tells)

-- ---- yes

-- the ends of a capture that is said to be whole
yes_near : (judged : Judged) (may_end : Bool) (finding : Finding) (old new : List Gap)
    → IsFinding judged may_end finding old new → finding.verdict ≡ Yes
    → (m n : ℕ) × AreEnds judged.numbers finding.first m finding.last n
    × (goes_on judged.rule (spot (finding.first + finding.tally.stood) m) (spot finding.last n) ≡ true)
yes_near judged may_end finding old new is verdict = go is.reasons
  where
    none : AreNone finding.reasons
    none = yes_none finding.reasons (sym is.verdict ∙ verdict)

    go : AreReasons judged may_end finding is.swapped is.drifts
        → (m n : ℕ) × AreEnds judged.numbers finding.first m finding.last n
        × (goes_on judged.rule (spot (finding.first + finding.tally.stood) m) (spot finding.last n) ≡ true)
    go (inl (never, e, first, last)) = absurd (let h = none.numbers in cc)
    go (inr (m, n, are, e)) =
        let first = finding.first in
        let last = finding.last in
        let tally = finding.tally in
        let from = kept judged.rule.numbering.clock m in
        let to = kept judged.rule.numbering.clock n in
        let off_here = is.drifts || is_off judged.rule tally (spot first from) (spot last to) in
        let open_none : nat_lt 0 tally.open_gaps ≡ false = ap (λ (r : Reasons). r.is_open) (sym e) ∙ none.gaps in
        let off : off_here ≡ false = ap (λ (r : Reasons). r.is_off) (sym e) ∙ none.off in
        let away : nat_lt 0 tally.inserted ≡ false = ap (λ (r : Reasons). r.is_inserted) (sym e) ∙ none.inserted in
        let here = none_there tally.inserted away in
        let near = is_near tally.open_gaps
        (nearly judged.rule.pace judged.rule.slack (spot (first + tally.stood + tally.inserted) from)
        (spot last to)) open_none
        (neither is.drifts (is_off judged.rule tally (spot first from) (spot last to)) off) in (
          m,
          n,
          are,
          subst (λ n. nearly judged.rule.pace judged.rule.slack (spot n from) (spot last to) ≡ true)
              (let less : first + tally.stood + tally.inserted ≡ first + tally.stood = omega (arith, here) in less)
              near,
        )

within : (slack i m j n : ℕ) → nearly Video slack (spot i m) (spot j n) ≡ true
    → (j + 2 * m ≤ i + 2 * n + slack) × (i + 2 * n ≤ j + 2 * m + slack)
within slack i m j n e = grind (arith, and_parts, leb_tells)

-- of video, wherever the ends are: at most two fields for each slack, and two for each number left out near an end
module _ (disc : ℕ → Option ℕ) (place : ℕ → ℕ) (slack : ℕ) (numbering : Numbering) (seen fields : List Sightings)
    (answers : List Number) (ends : List ℕ) (finding : Finding)
    (said : IsSaidWhole disc place (to_judge (rule_by Video slack numbering) seen answers ends) fields finding)
    (one : slack ≤ 1) (counts : DiscNearlyBy numbering.clock slack disc) where
  video_lost : (m n : ℕ) × IsMarked answers finding.first m × IsMarked answers finding.last n
      × AreFewLost place finding (2 * slack + 2 * (out_near numbering.clock m + out_near numbering.clock n))
  video_lost =
      let clock = numbering.clock in
      let e = yes_near (to_judge (rule_by Video slack numbering) seen answers ends) said.may_end finding said.old
      said.new said.found said.whole in
      let near = within slack (finding.first + finding.tally.stood) (kept clock e.0) finding.last (kept clock e.1)
      e.3 in
      let first = anchor (captured disc place) fields answers finding.first e.0 said.answers e.2.begins said.few in
      let last = anchor (captured disc place) fields answers finding.last e.1 said.answers e.2.ends said.low in
      let alone = alone_of disc place said.rises
      (λ d e k here there. omega (arith, one, counts e d k k there here)) in
      let p = near_one Video (captured disc place) fields alone finding.first e.0 first in
      let q = near_one Video (captured disc place) fields alone finding.last e.1 last in
      let on = counts (place p.0) (place q.0) p.1 q.1 p.3 q.3 in
      let here = near_video clock finding.first e.0 p.0 p.1 p.2 p.4 in
      let there = near_video clock finding.last e.1 q.0 q.1 q.2 q.4 in (
        e.0,
        e.1,
        e.2.begins,
        e.2.ends,
        lost_between place finding.first finding.last p.0 q.0
            (2 * slack + 2 * (out_near clock e.0 + out_near clock e.1)) said.rises p.2 q.2 said.far
            (omega (arith, on, here.0, there.1, near.0, near.1)),
      )

  pub yes_of_both : AreClearEnds (to_judge (rule_by Video slack numbering) seen answers ends) finding
      → AreFewLost place finding (2 * slack)
  yes_of_both clear = grind (arith, video_lost)

exactly : (clock : Clock) (disc : ℕ → Option ℕ) → DiscCountsBy clock Video disc → DiscNearlyBy clock 0 disc
exactly clock disc runs d e m n here there =
    omega (arith, video_fits d (kept clock m) e (kept clock n) (runs d e m n here there))

pub whole_clock : (disc : ℕ → Option ℕ) (place : ℕ → ℕ) (numbering : Numbering) (seen fields : List Sightings)
    (answers : List Number) (ends : List ℕ) (finding : Finding)
    → IsSaidWhole disc place (of_video numbering seen answers ends) fields finding
    → DiscCountsBy numbering.clock Video disc → AreClearEnds (of_video numbering seen answers ends) finding
    → NoneLost place (finding.first + reach) (finding.last - reach)
whole_clock disc place numbering seen fields answers ends finding said runs clear =
    let lost = yes_of_both disc place 0 numbering seen fields answers ends finding said (omega arith)
    (exactly numbering.clock disc runs) clear in
    none_lost place lost.0 lost.1 (finding.first + reach) (finding.last - reach) said.rises (omega (arith, lost.3.1))
    (omega (arith, lost.4.0, said.far)) (omega (arith, lost.5, lost.6))

pub yes_anywhere : (disc : ℕ → Option ℕ) (place : ℕ → ℕ) (numbering : Numbering) (seen fields : List Sightings)
    (answers : List Number) (ends : List ℕ) (finding : Finding)
    → IsSaidWhole disc place (of_video numbering seen answers ends) fields finding
    → DiscCountsBy numbering.clock Video disc
    → (m n : ℕ) × IsMarked answers finding.first m × IsMarked answers finding.last n
    × AreFewLost place finding (2 * (out_near numbering.clock m + out_near numbering.clock n))
yes_anywhere disc place numbering seen fields answers ends finding said runs =
    let (m, n, here, there, lost) = video_lost disc place 0 numbering seen fields answers ends finding said
    (omega arith) (exactly numbering.clock disc runs) in
    (m, n, here, there, (lost.0, lost.1, lost.2, lost.3, lost.4, lost.5, omega (arith, lost.6)))

module _ (disc : ℕ → Option ℕ) (place : ℕ → ℕ) (slack : ℕ) (numbering : Numbering) (seen fields : List Sightings)
    (answers : List Number) (ends : List ℕ) (finding : Finding)
    (said : IsSaidWhole disc place (to_judge (rule_by Film slack numbering) seen answers ends) fields finding) where
  pub yes_of_film : DiscCountsBy numbering.clock Film disc
      → AreClearEnds (to_judge (rule_by Film slack numbering) seen answers ends) finding → AreFewLost place finding 4
  yes_of_film runs clear =
      let clock = numbering.clock in
      let e = yes_near (to_judge (rule_by Film slack numbering) seen answers ends) said.may_end finding said.old
      said.new said.found said.whole in
      let near = film_fits (finding.first + finding.tally.stood) (kept clock e.0) finding.last (kept clock e.1) e.3 in
      let first : IsAnchor Film (captured disc place) fields finding.first e.0 = record {
        believed = answer_believed Film fields finding.first e.0 (believed e.0)
            (said.answers.each finding.first (believed e.0) e.2.begins) refl;
        few = said.few;
      } in
      let last : IsAnchor Film (captured disc place) fields finding.last e.1 = record {
        believed = answer_believed Film fields finding.last e.1 (believed e.1)
            (said.answers.each finding.last (believed e.1) e.2.ends) refl;
        few = said.low;
      } in
      let alone = alone_of disc place said.rises
      (λ d e k here there. let f = film_fits d (kept clock k) e (kept clock k) (runs d e k k here there) in
      omega (arith, f.0, f.1)) in
      let p = near_one Film (captured disc place) fields alone finding.first e.0 first in
      let q = near_one Film (captured disc place) fields alone finding.last e.1 last in
      let fit = film_fits (place p.0) (kept clock p.1) (place q.0) (kept clock q.1)
      (runs (place p.0) (place q.0) p.1 q.1 p.3 q.3) in
      let here = clear_film clock finding.first e.0 p.0 p.1 (clear.0 e.0 e.2.begins) p.2 p.4 in
      let there = clear_film clock finding.last e.1 q.0 q.1 (clear.1 e.1 e.2.ends) q.2 q.4 in
      lost_between place finding.first finding.last p.0 q.0 4 said.rises p.2 q.2 said.far
      (omega (arith, fit.0, fit.1, here.0, here.1, there.0, there.1, near.0, near.1))

-- with no clock no number is left out near an end
pub clear_ends : (judged : Judged) (finding : Finding) → judged.rule.numbering.clock ≡ Plain
    → AreClearEnds judged finding
clear_ends judged finding none =
    let clock = judged.rule.numbering.clock in
    (λ n at. plain_clear clock n none, λ n at. plain_clear clock n none)

pub blank_not_yes : (judged : Judged) (may_end : Bool) (finding : Finding) (old new : List Gap)
    → IsFinding judged may_end finding old new → (i : ℕ)
    → IsBlank judged.rule judged.numbers i → finding.verdict ≢ Yes
blank_not_yes judged may_end finding old new is i blank whole = go is.reasons
  where
    none : AreNone finding.reasons
    none = yes_none finding.reasons (sym is.verdict ∙ whole)

    go : AreReasons judged may_end finding is.swapped is.drifts → ⊥
    go (inl (never, e, first, last)) = absurd (let h = none.numbers in cc)
    go (inr (m, n, are, e)) =
        let zero = none_there finding.blank (ap (λ (r : Reasons). r.is_blank) (sym e) ∙ none.blank) in
        subst (IsBlankTold judged.rule judged.numbers) zero is.blank i blank

-- ---- no

pub whole_lost : (judged : Judged) (may_end : Bool) (disc : ℕ → Option ℕ) (place : ℕ → ℕ) (finding : Finding)
    (old new : List Gap) → DiscCountsBy judged.rule.numbering.clock judged.rule.pace disc → Rises place
    → (is : IsFinding judged may_end finding old new)
    → ((j : ℕ) (gap : Gap) → slice_get (detoured judged.rule is.told.gaps) j ≡ Some gap
    → gap.kind ≡ lost → HasRightEnds (captured disc place) gap)
    → (HasNone judged.numbers → ⊥) → LostAtLeast place finding.first finding.last finding.tally.lost
whole_lost judged may_end disc place finding old new runs rises is right some = go is.reasons
  where
    sum : finding.tally.lost ≡ capped (sum_by (fields_if lost) (detoured judged.rule is.told.gaps))
    sum = ap (λ (t : Tally). t.lost) is.told.told.comes_to

    go : AreReasons judged may_end finding is.swapped is.drifts
        → LostAtLeast place finding.first finding.last finding.tally.lost
    go (inl (never, e, first, last)) = absurd (some never)
    go (inr (m, n, are, e)) = omega (
      arith,
      sum,
      told_lost judged disc place runs rises (length judged.numbers) is.told.gaps is.told.unread is.told.all right
          finding.first m finding.last n are,
    )

-- ---- nothing is known

pub none_known : (judged : Judged) (may_end : Bool) (finding : Finding)
    (old new : List Gap) → IsFinding judged may_end finding old new → HasNone judged.numbers
    → finding.verdict ≡ CannotTell
none_known judged may_end finding old new is never = grind arith
