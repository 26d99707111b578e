-- What gaps of replaced numbers cost: nothing is lost by them, and no verdict is no by them; and that inserted fields
-- and padding cost a no.
use Rattle.std.proofs.Common.{◌≡◌, ◌≢◌, ℕ, suc, ◌-◌, ◌<◌, Bool, true, false, List, [], ◌∷◌, refl, arith}
use Rattle.std.proofs.Common.{ap, sym, ◌∙◌, subst, inl, inr}
use Rattle.std.specs.Prelude.{Some, ◌⊎◌, ◌==◌, nat_lt, slice_get, sum_by, if◌then◌else◌}
use Rattle.std.proofs.lemmas.Bool.{lt-ltb}
use Rattle.std.proofs.lemmas.List.Sums.{sum_by-cons}
use Rattle.vbi_whole.specs.Types.{Clock, Gap, Finding, Reasons, No}
use Rattle.vbi_side.specs.Clocks.{kept}
use Rattle.vbi_whole.specs.Detours.{detoured}
use Rattle.vbi_whole.specs.Gaps.{lost, replaced, skipped, since_end, Judged}
use Rattle.vbi_side.specs.Numbers.{IsMarked}
use Rattle.vbi_whole.specs.Tallies.{fields_if, one_if, lost_of, undecided_of, shown_most, tally_of}
use Rattle.vbi_whole.specs.Verdicts.{are_seen, verdict_of, too_few, AreReasons}
use Rattle.vbi_whole.specs.Verdicts.{padded_in, reasons_of, HasNone, IsFinding, found_by}

-- ---- the counts

-- each gap is told to be of replaced numbers
abbrev pub AreReplaced : List Gap → Type 0
AreReplaced gaps = (j : ℕ) (gap : Gap) → slice_get gaps j ≡ Some gap → gap.kind ≡ replaced

zeros : (f : Gap → ℕ) (gaps : List Gap) → ((gap : Gap) → gap.kind ≡ replaced → f gap ≡ 0) → AreReplaced gaps
    → sum_by f gaps ≡ 0
zeros f [] none all = refl
zeros f (one ∷ gaps) none all =
    omega (arith, sum_by-cons f one gaps, none one (all 0 one refl), zeros f gaps none (λ j gap at. all (suc j) gap at))

no_fields : (kind : ℕ) → (replaced == kind) ≡ false → (gap : Gap) → gap.kind ≡ replaced → fields_if kind gap ≡ 0
no_fields kind other gap is = subst (λ k. (if k == kind then gap.fields else 0) ≡ 0) (sym is) (rw other refl)

not_one : (kind : ℕ) → (replaced == kind) ≡ false → (gap : Gap) → gap.kind ≡ replaced → one_if kind gap ≡ 0
not_one kind other gap is = subst (λ k. (let n : ℕ = if k == kind then 1 else 0 in n) ≡ 0) (sym is)
    (rw other refl)

no_numbers : (clock : Clock) (gap : Gap) → gap.kind ≡ replaced → lost_of clock gap ≡ 0
no_numbers clock gap is =
    subst (λ k. (if k == lost then skipped clock gap.from gap.to - shown_most gap else 0) ≡ 0) (sym is) refl

none_undecided : (clock : Clock) (gap : Gap) → gap.kind ≡ replaced → undecided_of clock gap ≡ 0
none_undecided clock gap is = grind arith

pub counts_nothing : (clock : Clock) (gaps : List Gap) (unread : ℕ) → AreReplaced gaps
    → ((tally_of clock gaps unread).lost ≡ 0) × ((tally_of clock gaps unread).held ≡ 0)
    × ((tally_of clock gaps unread).lost_numbers ≡ 0) × ((tally_of clock gaps unread).undecided ≡ 0)
    × ((tally_of clock gaps unread).back ≡ 0) × ((tally_of clock gaps unread).joined ≡ 0)
    × ((tally_of clock gaps unread).inserted ≡ 0)
counts_nothing clock gaps unread all = grind (arith, no_fields, no_numbers, none_undecided, not_one, zeros)

-- ---- the verdict

-- reasons of which none is seen on the capture leave it open
not_no : (reasons : Reasons) → are_seen reasons ≡ false → verdict_of reasons ≢ No
not_no reasons none wrong = grind (arith)

pub verdict_stays : (judged : Judged) (may_end : Bool) (finding : Finding) (old new : List Gap)
    → (is : IsFinding judged may_end finding old new)
    → AreReplaced (detoured judged.rule is.told.gaps) → is.swapped ≡ false → padded_in judged.ends ≡ 0
    → ((m : ℕ) → IsMarked judged.numbers finding.first m
    → too_few judged.rule.pace (since_end judged.ends finding.first) (kept judged.rule.numbering.clock m) ≡ false)
    → finding.verdict ≢ No
verdict_stays judged may_end finding old new is all whole unpadded early no_it_is = go
    is.reasons
  where
    go : AreReasons judged may_end finding is.swapped is.drifts → ⊥
    go (inl (never, e, first, last)) = not_no finding.reasons (ap are_seen e) (sym is.verdict ∙ no_it_is)
    go (inr (m, n, are, e)) =
        let none = counts_nothing judged.rule.numbering.clock (detoured judged.rule is.told.gaps) is.told.unread
        all in
        let tally = is.told.told.comes_to in
        let late = early m are.begins in
        not_no finding.reasons (ap are_seen e ∙ grind (arith, tally, none, late, whole, unpadded))
        (sym is.verdict ∙ no_it_is)

-- ---- what inserted fields and padding cost

-- the verdict on a capture in which fields are inserted, or padding
seen_no : (reasons : Reasons) → (reasons.is_inserted ≡ true) ⊎ (reasons.is_padded ≡ true) → verdict_of reasons ≡ No
seen_no reasons seen = grind (arith)

pub inserted_is_no : (judged : Judged) (may_end : Bool) (finding : Finding) (old new : List Gap)
    → IsFinding judged may_end finding old new → (HasNone judged.numbers → ⊥)
    → (0 < finding.tally.inserted) ⊎ (0 < padded_in judged.ends) → finding.verdict ≡ No
inserted_is_no judged may_end finding old new is some here = go is.reasons
  where
    seen : (0 < finding.tally.inserted) ⊎ (0 < padded_in judged.ends)
        → (nat_lt 0 finding.tally.inserted ≡ true) ⊎ (nat_lt 0 (padded_in judged.ends) ≡ true)
    seen (inl away) = inl (lt-ltb 0 finding.tally.inserted away)
    seen (inr padded) = inr (lt-ltb 0 (padded_in judged.ends) padded)

    go : AreReasons judged may_end finding is.swapped is.drifts → finding.verdict ≡ No
    go (inl (never, e, first, last)) = absurd (some never)
    go (inr (m, n, are, e)) = is.verdict ∙ ap verdict_of e
        ∙ seen_no (reasons_of judged may_end (found_by finding is.swapped is.drifts m n)) (seen here)
