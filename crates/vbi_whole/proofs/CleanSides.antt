-- A run of a disc, each number of which was read, from the disc's first number to lead-out: nothing is said of it.
use Rattle.std.proofs.Common.{◌≡◌, ◌≢◌, ℕ, zero, suc, ◌+◌, ◌*◌, ◌-◌, ◌<◌, ◌≤◌, Bool, true, false, List, [], length}
use Rattle.std.proofs.Common.{drop, refl, arith, ap, sym, ◌∙◌, subst, inl, inr}
use Rattle.std.specs.Prelude.{Some, slice_get, ◌⊎◌, nat_le, nat_lt, ◌==◌, not, count_by}
use Rattle.std.proofs.lemmas.Bool.{lt-ltb}
use Rattle.std.proofs.lemmas.Bool.Decides.{leb_tells, eqb_tells}
use Rattle.vbi_whole.specs.Types.{Gap, Numbering, Tally, Number, Video, Sightings, Finding, Reasons, Yes}
use Rattle.vbi_whole.specs.Types.{Plain, Place}
use Rattle.vbi_side.specs.Sightings.{Shows}
use Rattle.vbi_side.specs.Clocks.{kept, nearly_by}
use Rattle.vbi_whole.specs.BlankFields.{IsBlank, IsBlankTold}
use Rattle.vbi_whole.specs.CleanRuns.{IsReadTwice, IsOneOfThree}
use Rattle.vbi_whole.specs.Drifts.{IsDrift, IsDriftTold}
use Rattle.vbi_side.specs.Ends.{lead_out}
use Rattle.vbi_whole.specs.Gaps.{AreNeighbours, AreGaps, since_end, rule_by, of_video}
use Rattle.vbi_whole.specs.Detours.{detoured, detoured_from}
use Rattle.vbi_whole.specs.Tallies.{tally_of}
use Rattle.vbi_side.specs.Numbers.{believed, nothing, doubtful_of, AreAnswers, IsAnswer, IsMarked}
use Rattle.vbi_side.specs.Side.{AreEnds}
use Rattle.vbi_whole.specs.Swaps.{IsSwap, IsSwapTold}
use Rattle.vbi_whole.specs.Verdicts.{IsFinding, found_whole, reasons_of, too_few, is_off, is_begin_unseen, AreReasons}
use Rattle.vbi_whole.specs.Verdicts.{lead_out_follows, is_end_unseen, count_of, are_doubtful, padded_in, verdict_of}
use Rattle.vbi_whole.specs.Verdicts.{no_reason}
use Rattle.vbi_whole.proofs.CleanRuns.{place_of, shown_marked, marked_at, all_believed}
use Rattle.vbi_side.proofs.Counting.{kept_is}
use Rattle.vbi_whole.proofs.NoReason.{false_true, both_false, not_less, more_not_le, none_counted, one_counted, follows}
use Rattle.vbi_whole.proofs.NoReason.{stray_shows}
use Rattle.vbi_side.proofs.Truth.{near_same}
use Rattle.vbi_side.specs.Paces.{spot}
use Rattle.vbi_whole.proofs.GapLaws.{not_on}

-- ---- records

same_finding : (finding : Finding) (first last : ℕ) → finding.tally ≡ tally_of Plain [] 0
    → finding.first ≡ first → finding.last ≡ last → finding.swap ≡ 0 → finding.padded ≡ 0 → finding.blank ≡ 0
    → finding.verdict ≡ Yes → finding.reasons ≡ no_reason → finding ≡ found_whole first last
same_finding finding first last a b c d e f g h = grind arith

-- ---- the ends of a side, written out

-- number m, which stands at this place by the clock, may be the first one after so many fields
abbrev pub Begins : ℕ → ℕ → ℕ → Type 0
Begins m place fields = (m ≤ 1) ⊎ ((2 * (place - 1) ≤ fields) × (fields ≤ 100))

-- field k may be the last one with a number
abbrev pub Ends : Bool → List ℕ → ℕ → Type 0
Ends may_end ends k = (may_end ≡ true) ⊎ ((e : ℕ) × (k < e) × (slice_get ends e ≡ Some lead_out))

module _ (numbering : Numbering) (number : ℕ → ℕ) (fields : List Sightings) (begin last : ℕ)
    (each : (p : ℕ) → p ≤ last → IsReadTwice fields (begin + 2 * p) (number p))
    (others : (i n : ℕ) → Shows (slice_get fields i) n → (p : ℕ) × (p ≤ last) × (i ≡ begin + 2 * p))
    (three : (p : ℕ) → p ≤ last → IsOneOfThree number last p)
    (steps : (p : ℕ) → p ≤ last → kept numbering.clock (number p) ≡ kept numbering.clock (number 0) + p)
    (answers : List Number) (are : AreAnswers Video fields answers) where
  at : (i n : ℕ) → IsMarked answers i n → (p : ℕ) × (p ≤ last) × (i ≡ begin + 2 * p) × (number p ≡ n)
  at = place_of number fields begin last each others three answers are

  has : (p : ℕ) → p ≤ last → IsMarked answers (begin + 2 * p) (number p)
  has = marked_at number fields begin last each others three answers are

  -- ---- any two numbers count to each other

  near : (i m j n : ℕ) → IsMarked answers i m → IsMarked answers j n
      → nearly_by numbering.clock Video 0 (spot i m) (spot j n) ≡ true
  near i m j n here there = grind (arith, at, near_same)

  no_drift : (j : ℕ) → IsDrift (rule_by Video 0 numbering) answers j → ⊥
  no_drift j drift = let h : true ≡ false = sym (near drift.i drift.m j drift.n drift.here drift.there) ∙ drift.apart in
      absurd (false_true (sym h))

  -- neighbours are two pictures, one after the other
  next : (i m k n : ℕ) → AreNeighbours answers (spot i m) (spot k n)
      → (p : ℕ) × (p + 1 ≤ last) × (i ≡ begin + 2 * p) × (number p ≡ m) × (k ≡ begin + 2 * (p + 1))
      × (number (p + 1) ≡ n)
  next i m k n pair =
      let (p, le, first, from) = at i m pair.here in
      let (r, less, second, to) = at k n pair.there in
      let order : i < k = pair.order in
      elim (eqb_tells r (p + 1)) [
        | inl (t, same) ↦ (
          p,
          omega (arith, less, same),
          first,
          from,
          omega (arith, second, same),
          sym (ap number same) ∙ to,
        )
        | inr (f, other) ↦ absurd (pair.between (begin + 2 * (p + 1)) (number (p + 1)) (omega (arith, first))
            (omega (arith, first, second, order, other))
            (has (p + 1) (omega (arith, first, second, order, less))))
      ]

  -- ---- no gap

  no_gaps : (ends : List ℕ) (k : ℕ) (gaps : List Gap) (unread : ℕ)
      → AreGaps (of_video numbering fields answers ends) k gaps unread → (gaps ≡ []) × (unread ≡ 0)
  unfolding AreGaps
  no_gaps ends zero gaps unread all = all
  no_gaps ends (suc k) gaps unread (inl (free, all)) = no_gaps ends k gaps unread all
  no_gaps ends (suc k) gaps unread (inr (inl (i, m, n, fewer, on, all, is))) =
      let (none, few) = no_gaps ends k gaps fewer all in
      let (p, le, first, from, second, to) = next i m k n on.neighbours in (
        none,
        omega (
          arith,
          is,
          few,
          ap (kept numbering.clock) from,
          ap (kept numbering.clock) to,
          steps p (omega (arith, le)),
          steps (p + 1) le,
        ),
      )
  no_gaps ends (suc k) gaps unread (inr (inr (one, others, is, before, all, e))) =
      absurd (not_on (of_video numbering fields answers ends) one is
      (near one.after one.from one.before one.to is.neighbours.here is.neighbours.there))

  -- ---- no swap

  no_swap : (k : ℕ) → IsSwap numbering.clock fields answers k → ⊥
  no_swap k swap =
      let (n, shown) = stray_shows numbering.clock answers (spot swap.i swap.m) k (slice_get fields k) swap.stray in
      swap.neighbours.between k n swap.after swap.before
      (shown_marked number fields begin last each others three answers are k n shown)

  -- ---- none far from the next one

  no_blank : (i : ℕ) → IsBlank (rule_by Video 0 numbering) answers i → ⊥
  no_blank i (k, blank) =
      let (p, le, from, one) = at i blank.m blank.on.neighbours.here in
      let (q, less, to, two) = at k blank.n blank.on.neighbours.there in
      blank.on.neighbours.between (begin + 2 * (p + 1)) (number (p + 1)) (omega (arith, from))
      (omega (arith, from, blank.many)) (has (p + 1) (omega (arith, from, to, less, blank.many)))

  no_dark : (blank : ℕ) → IsBlankTold (rule_by Video 0 numbering) answers blank → blank ≡ 0
  no_dark zero told = refl
  no_dark (suc i) told = absurd (no_blank i told.0)

  -- ---- none in doubt

  blank_not_doubtful : (field : Sightings) → ((n : ℕ) → Shows (Some field) n → ⊥) → doubtful_of field ≡ nothing
  blank_not_doubtful field none = go (leb_tells 1 field.line_17.weight) (leb_tells 1 field.line_18.weight)
    where
      go : ((nat_le 1 field.line_17.weight ≡ true) × (1 ≤ field.line_17.weight))
          ⊎ ((nat_le 1 field.line_17.weight ≡ false) × (field.line_17.weight < 1))
          → ((nat_le 1 field.line_18.weight ≡ true) × (1 ≤ field.line_18.weight))
          ⊎ ((nat_le 1 field.line_18.weight ≡ false) × (field.line_18.weight < 1)) → doubtful_of field ≡ nothing
      go (inl (t, le)) other = absurd (none field.line_17.number (inl (le, refl)))
      go (inr (f, lt)) (inl (t, le)) = absurd (none field.line_18.number (inr (le, refl)))
      go (inr (f, lt)) (inr (g, less)) = rw (f, g) refl

  not_two : (i : ℕ) (answer : Number) → slice_get answers i ≡ Some answer → answer.state ≢ 2
  not_two i answer there two = go (are.each i answer there)
    where
      go : IsAnswer Video fields i answer → ⊥
      go (inl (n, b, e)) = absurd (omega (arith, two, ap (λ (a : Number). a.state) e))
      go (inr (inl (n, d, e))) = absurd (omega (arith, two, ap (λ (a : Number). a.state) e))
      go (inr (inr (none, undue, (field, is, e)))) =
          let dark = blank_not_doubtful field (λ n shown. none n (all_believed number fields begin last
          each others three i n (subst (λ o. Shows o n) (sym is) shown))) in
          absurd (omega (arith, two, ap (λ (a : Number). a.state) (e ∙ dark)))

  first_marked : IsMarked answers begin (number 0)
  first_marked = let e : begin + 2 * 0 ≡ begin = omega arith in
      subst (λ k. IsMarked answers k (number 0)) e (has 0 (omega arith))

  few_doubtful : are_doubtful answers ≡ false
  few_doubtful =
      let some = one_counted (λ (a : Number). a.state == 1) answers begin (believed (number 0)) first_marked refl in
      let none = none_counted (λ (a : Number). a.state == 2) answers
      (λ i answer there. elim (eqb_tells answer.state 2) [
        | inl (t, two) ↦ absurd (not_two i answer there two)
        | inr (f, other) ↦ f
      ]) in
      more_not_le (count_of 1 answers + count_of 2 answers) (10 * count_of 2 answers) (omega (arith, some, none))

  -- ---- its ends

  ends_are : (first m end n : ℕ) → AreEnds answers first m end n
      → (first ≡ begin) × (number 0 ≡ m) × (end ≡ begin + 2 * last) × (number last ≡ n)
  ends_are first m end n is =
      let (p, le, from, one) = at first m is.begins in
      let (r, less, to, two) = at end n is.ends in
      let low : p ≡ 0 = elim (eqb_tells p 0) [
        | inl (t, e) ↦ e
        | inr (f, other) ↦ absurd (is.none_before (begin + 2 * 0) (number 0) (omega (arith, from, other)) (has 0
            (omega arith)))
      ] in
      let high : r ≡ last = elim (eqb_tells r last) [
        | inl (t, e) ↦ e
        | inr (f, other) ↦ absurd (is.none_after (begin + 2 * last) (number last) (omega (arith, to, less, other))
            (has last (omega arith)))
      ] in
      (omega (arith, from, low), sym (ap number low) ∙ one, omega (arith, to, high), sym (ap number high) ∙ two)

  -- ---- no reason

  module _ (may_end : Bool) (ends : List ℕ)
      (begun : Begins (number 0) (kept numbering.clock (number 0)) (since_end ends begin))
      (ended : Ends may_end ends (begin + 2 * last)) (unpadded : padded_in ends ≡ 0) where
    early : too_few Video (since_end ends begin) (kept numbering.clock (number 0)) ≡ false
    early = go begun
      where
        go : Begins (number 0) (kept numbering.clock (number 0)) (since_end ends begin)
            → too_few Video (since_end ends begin) (kept numbering.clock (number 0)) ≡ false
        go (inl few) = not_less (since_end ends begin) (2 * (kept numbering.clock (number 0) - 1))
            (omega (arith, few, kept_is numbering.clock (number 0)))
        go (inr (room, near_by)) = not_less (since_end ends begin) (2 * (kept numbering.clock (number 0) - 1)) room

    begin_seen : is_begin_unseen ends (spot begin (number 0)) ≡ false
    begin_seen = go begun
      where
        go : Begins (number 0) (kept numbering.clock (number 0)) (since_end ends begin)
            → is_begin_unseen ends (spot begin (number 0)) ≡ false
        go (inl few) = let e = not_less 1 (number 0) few in rw e refl
        go (inr (room, near_by)) =
            both_false (nat_lt 1 (number 0)) (nat_lt 100 (since_end ends begin))
            (not_less 100 (since_end ends begin) near_by)

    end_seen : is_end_unseen may_end ends (begin + 2 * last) ≡ false
    end_seen = go ended
      where
        go : Ends may_end ends (begin + 2 * last) → is_end_unseen may_end ends (begin + 2 * last) ≡ false
        go (inl may) = rw may refl
        go (inr (e, after, out)) =
            let more = follows ends (begin + 2 * last + 1) e (omega (arith, after)) out in
            let sees : lead_out_follows ends (begin + 2 * last) ≡ true
            = lt-ltb 0 (count_by (λ x. x == lead_out) (drop (begin + 2 * last + 1) ends)) (omega (arith, more)) in
            both_false (not may_end) (not (lead_out_follows ends (begin + 2 * last))) (ap not sees)

    on : is_off (rule_by Video 0 numbering) (tally_of numbering.clock [] 0)
        (spot begin (kept numbering.clock (number 0))) (spot (begin + 2 * last) (kept numbering.clock (number last)))
        ≡ false
    on = ap not (near_same (begin + 2 * last + 2 * kept numbering.clock (number 0))
        (begin + 0 + 0 + 2 * kept numbering.clock (number last))
        (omega (arith, steps last (omega arith))))

    -- what is said against the capture
    abbrev against : Tally → Bool → Bool → ℕ → Place → Place → Reasons
    against tally swapped drifts blank first end =
        reasons_of (of_video numbering fields answers ends) may_end (record {
          tally = tally;
          padded = 0;
          swap = record { field = 0; is_seen = swapped };
          drifts = drifts;
          blank = blank;
          first = first;
          last = end;
        })

    none_said : against (tally_of numbering.clock [] 0) false false 0 (spot begin (number 0))
        (spot (begin + 2 * last) (number last)) ≡ no_reason
    none_said = rw (early, on, end_seen, begin_seen, few_doubtful, unpadded) refl

    all_said : (tally other : Tally) (swapped drifts : Bool) (dark : ℕ) (a b c d : Place) → tally ≡ other
        → swapped ≡ false → drifts ≡ false → dark ≡ 0 → a ≡ b → c ≡ d
        → against tally swapped drifts dark a c ≡ against other false false 0 b d
    all_said tally other swapped drifts dark a b c d one two three none four five =
        ap (λ (t : Tally). against t swapped drifts dark a c) one ∙ ap (λ x. against other x drifts dark a c) two
        ∙ ap (λ x. against other false x dark a c) three ∙ ap (λ x. against other false false x a c) none
        ∙ ap (λ (x : Place). against other false false 0 x c) four
        ∙ ap (λ (x : Place). against other false false 0 b x) five

    -- ---- the verdict

    module _ (finding : Finding) (old new : List Gap)
        (is : IsFinding (of_video numbering fields answers ends) may_end finding old new) where
      told_none : finding.tally ≡ tally_of numbering.clock [] 0
      unfolding detoured_from
      told_none =
          let (none, few) = no_gaps ends (length answers) is.told.gaps is.told.unread is.told.all in
          is.told.told.comes_to
          ∙ ap (λ (gaps : List Gap). tally_of numbering.clock
          (detoured (rule_by Video 0 numbering) gaps) is.told.unread)
          none
          ∙ ap (λ (unread : ℕ). tally_of numbering.clock [] unread) few

      unswapped : (b : Bool) → IsSwapTold (rule_by Video 0 numbering) fields answers finding.swap b
          → (b ≡ false) × (finding.swap ≡ 0)
      unswapped true swap = absurd (no_swap finding.swap swap.2)
      unswapped false swap = (refl, swap.0)

      undrifting : (b : Bool) → IsDriftTold (rule_by Video 0 numbering) answers b → b ≡ false
      undrifting true drift = absurd (no_drift drift.0 drift.1)
      undrifting false drift = refl

      said : (finding.first ≡ begin) × (finding.last ≡ begin + 2 * last) × (finding.reasons ≡ no_reason)
      said = go is.reasons
        where
          go : AreReasons (of_video numbering fields answers ends) may_end finding is.swapped is.drifts
              → (finding.first ≡ begin) × (finding.last ≡ begin + 2 * last) × (finding.reasons ≡ no_reason)
          go (inl (never, e, first, end)) = absurd (never (begin + 2 * 0) (number 0) (has 0 (omega arith)))
          go (inr (m, n, ends_at, e)) =
              let (first, from, end, to) = ends_are finding.first m finding.last n ends_at in (
                first,
                end,
                e ∙ all_said finding.tally (tally_of numbering.clock [] 0) is.swapped is.drifts finding.blank
                    (spot finding.first m) (spot begin (number 0)) (spot finding.last n)
                    (spot (begin + 2 * last) (number last)) told_none (unswapped is.swapped is.swap).0
                    (undrifting is.drifts is.drift) (no_dark finding.blank is.blank)
                    (ap (λ x. spot x m) first ∙ ap (spot begin) (sym from))
                    (ap (λ x. spot x n) end ∙ ap (spot (begin + 2 * last)) (sym to)) ∙ none_said,
              )

      pub called_whole : finding ≡ found_whole begin (begin + 2 * last)
      called_whole =
          let (first, end, none) = said in
          same_finding finding begin (begin + 2 * last) told_none first end
          (unswapped is.swapped is.swap).1 (is.padded ∙ unpadded) (no_dark finding.blank is.blank)
          (is.verdict ∙ ap verdict_of none) none
