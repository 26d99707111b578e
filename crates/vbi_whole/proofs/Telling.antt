-- How the gaps of a capture are told, field by field.
use Rattle.std.proofs.Common.{◌≡◌, ◌≢◌, ℕ, zero, suc, ◌+◌, ◌<◌, ◌≤◌, Bool, true, false, List, [], ◌∷◌, ◌++◌, refl}
use Rattle.std.proofs.Common.{arith, ap, sym, ◌∙◌, subst, inl, inr, get_or, length}
use Rattle.std.specs.Prelude.{Some, None, slice_get, slice_set, ◌⊎◌, nat_le, sum_by, if◌then◌else◌, unwrap_or}
use Rattle.std.proofs.lemmas.Bool.Decides.{leb_tells}
use Rattle.std.proofs.lemmas.List.{length-set, length_push, get_or_append_left, get_or-set_other, get_or-set_same}
use Rattle.std.proofs.lemmas.List.Sums.{sum_by_push}
use Rattle.std.proofs.Math.Seq.{get_or-append_seam}
use Rattle.std.proofs.lemmas.Option.{slice_get-get_or, slice_get_within, slice_get_past, slice_get_read}
use Rattle.std.proofs.lemmas.Option.{get_or_from_slice_get}
use Rattle.vbi_whole.specs.Types.{Number, Gap, Tally, Place, Clock, Rule, Amid}
use Rattle.vbi_side.specs.Numbers.{IsMarked}
use Rattle.vbi_whole.specs.Tallies.{capped, one_if, one_if_open, fields_if, lost_of, undecided_of, still_end_of}
use Rattle.vbi_whole.specs.Tallies.{begins_still, last_still, stills_of, tally_of, with_gap, AreWritten, AreTold}
use Rattle.vbi_whole.specs.Tallies.{AreTelling, IsTelling, listed, Stage}
use Rattle.vbi_whole.proofs.Detouring.{settled_few}
use Rattle.vbi_whole.specs.Gaps.{lost, held, back, still, joined, inserted, gap_of, gap_as, kind_of, since_end, is_end}
use Rattle.vbi_whole.specs.Gaps.{AreNeighbours, IsFree, IsGap, AreGaps, IsLast, skipped, Judged, amid_of, from_of}
use Rattle.vbi_whole.specs.Gaps.{to_of, goes_on}
use Rattle.vbi_side.specs.Paces.{spot}

-- ---- lists

pub some_is : {A : Type 0} (a b : A) → Some a ≡ Some b → a ≡ b
some_is a b e = ap (λ o. unwrap_or o a) e

-- what stands in a list with one more after it
pub pushed : {A : Type 0} (xs : List A) (y x : A) (j : ℕ) → slice_get (xs ++ y ∷ []) j ≡ Some x
    → ((j < length xs) × (slice_get xs j ≡ Some x)) ⊎ ((j ≡ length xs) × (y ≡ x))
pushed xs y x j at = go (leb_tells (length xs) j)
  where
    within : j < length xs + 1
    within = omega (arith, slice_get_within (xs ++ y ∷ []) j x at, length_push xs y)

    reads : get_or (xs ++ y ∷ []) j x ≡ x
    reads = get_or_from_slice_get (xs ++ y ∷ []) j x x at

    go : ((nat_le (length xs) j ≡ true) × (length xs ≤ j)) ⊎ ((nat_le (length xs) j ≡ false) × (j < length xs))
        → ((j < length xs) × (slice_get xs j ≡ Some x)) ⊎ ((j ≡ length xs) × (y ≡ x))
    go (inl (t, le)) =
        let same : j ≡ length xs = omega (arith, le, within) in
        inr (same, sym (get_or-append_seam xs y [] x) ∙ subst (λ k. get_or (xs ++ y ∷ []) k x ≡ x) same reads)
    go (inr (f, lt)) = inl (
      lt,
      slice_get_read xs (length xs) j x refl lt
          (sym (sym (get_or_append_left xs (y ∷ []) x j lt) ∙ reads)),
    )

-- a write leaves the other places
kept : {A : Type 0} (xs : List A) (i j : ℕ) (y : A) → j ≢ i → slice_get (slice_set xs i y) j ≡ slice_get xs j
kept xs i j y other = go (leb_tells (length xs) j)
  where
    go : ((nat_le (length xs) j ≡ true) × (length xs ≤ j)) ⊎ ((nat_le (length xs) j ≡ false) × (j < length xs))
        → slice_get (slice_set xs i y) j ≡ slice_get xs j
    go (inl (t, le)) = slice_get_past (slice_set xs i y) j (omega (arith, le, length-set xs i y))
        ∙ sym (slice_get_past xs j le)
    go (inr (f, lt)) = slice_get-get_or (slice_set xs i y) j y (omega (arith, lt, length-set xs i y))
        ∙ ap Some (get_or-set_other xs i j y y other) ∙ sym (slice_get-get_or xs j y lt)

-- ---- what is written

pub none_written : (old : List Gap) → AreWritten [] old old
none_written old = grind (arith, slice_get_within)

written_there : (gaps old new : List Gap) (gap : Gap) (place : ℕ) → place ≡ length gaps → AreWritten gaps old new
    → place < length new → AreWritten (gaps ++ gap ∷ []) old (slice_set new place gap)
written_there gaps old new gap place is before less = record {
  room = length-set new place gap ∙ before.room;
  first = λ j one inside at. elim (pushed gaps gap one j at) [
    | inl (lt, there) ↦ kept new place j gap (omega (arith, is, lt)) ∙ before.first j one inside there
    | inr (same, e) ↦
        let at_place : slice_get (slice_set new place gap) place ≡ Some gap
        = slice_get-get_or (slice_set new place gap) place gap (omega (arith, less, length-set new place gap))
        ∙ ap Some (get_or-set_same new place gap gap less) in
        subst (λ k. slice_get (slice_set new place gap) k ≡ Some one) (is ∙ sym same) (at_place ∙ ap Some e)
  ];
  others = λ j le.
      let more : length gaps + 1 ≤ j = omega (arith, le, length_push gaps gap) in
      kept new place j gap (omega (arith, is, more)) ∙ before.others j (omega (arith, more));
}

written_full : (gaps old new : List Gap) (gap : Gap) → AreWritten gaps old new → length new ≤ length gaps
    → AreWritten (gaps ++ gap ∷ []) old new
written_full gaps old new gap before full = grind (arith, length_push, pushed)

-- ---- the tally

capped_more : (a b : ℕ) → capped (capped a + b) ≡ capped (a + b)
capped_more a b = omega arith

-- a capped sum with one more after it
pub summed : (f : Gap → ℕ) (gaps : List Gap) (gap : Gap)
    → capped (capped (sum_by f gaps) + f gap) ≡ capped (sum_by f (gaps ++ gap ∷ []))
summed f gaps gap = capped_more (sum_by f gaps) (f gap) ∙ ap capped (sym (sum_by_push f gaps gap))

-- the last still with one gap more
last_still_push : (end : ℕ) (gaps : List Gap) (gap : Gap)
    → last_still end (gaps ++ gap ∷ []) ≡ still_end_of (last_still end gaps) gap
unfolding last_still
last_still_push end [] gap = refl
last_still_push end (one ∷ gaps) gap = last_still_push (still_end_of end one) gaps gap

-- the stills with one gap more
stills_push : (end : ℕ) (gaps : List Gap) (gap : Gap)
    → stills_of end (gaps ++ gap ∷ []) ≡ stills_of end gaps + begins_still (last_still end gaps) gap
unfolding last_still stills_of
stills_push end [] gap = omega arith
stills_push end (one ∷ gaps) gap = omega (arith, stills_push (still_end_of end one) gaps gap)

stills_more : (gaps : List Gap) (gap : Gap)
    → capped (capped (stills_of 0 gaps) + begins_still (last_still 0 gaps) gap) ≡ capped
    (stills_of 0 (gaps ++ gap ∷ []))
stills_more gaps gap = capped_more (stills_of 0 gaps) (begins_still (last_still 0 gaps) gap)
    ∙ ap capped (sym (stills_push 0 gaps gap))

pub tally_gap : (clock : Clock) (gaps : List Gap) (unread : ℕ) (gap : Gap)
    → with_gap clock (tally_of clock gaps unread) gap ≡ tally_of clock (gaps ++ gap ∷ []) unread
tally_gap clock gaps unread gap =
    cc (
      sym (length_push gaps gap),
      summed (fields_if lost) gaps gap,
      summed (fields_if held) gaps gap,
      summed (fields_if still) gaps gap,
      stills_more gaps gap,
      sym (last_still_push 0 gaps gap),
      summed (one_if back) gaps gap,
      summed (one_if joined) gaps gap,
      summed one_if_open gaps gap,
      summed (lost_of clock) gaps gap,
      summed (undecided_of clock) gaps gap,
      summed (fields_if inserted) gaps gap,
    )

-- one gap more, which is counted and written if there is room
pub told_one : (clock : Clock) (gaps : List Gap) (unread : ℕ) (tally : Tally) (old new then_new : List Gap) (gap : Gap)
    → AreTold clock (listed gaps unread) tally old new
    → (tally.gaps < length new → then_new ≡ slice_set new tally.gaps gap) → (length new ≤ tally.gaps → then_new ≡ new)
    → AreTold clock (listed (gaps ++ gap ∷ []) unread) (with_gap clock tally gap) old then_new
told_one clock gaps unread tally old new then_new gap told there full = record {
  comes_to = ap (λ (t : Tally). with_gap clock t gap) told.comes_to ∙ tally_gap clock gaps unread gap;
  written = go (leb_tells (length new) tally.gaps);
}
  where
    place : tally.gaps ≡ length gaps
    place = ap (λ (t : Tally). t.gaps) told.comes_to

    go : ((nat_le (length new) tally.gaps ≡ true) × (length new ≤ tally.gaps))
        ⊎ ((nat_le (length new) tally.gaps ≡ false) × (tally.gaps < length new))
        → AreWritten (gaps ++ gap ∷ []) old then_new
    go (inl (t, le)) = subst (AreWritten (gaps ++ gap ∷ []) old) (sym (full le))
        (written_full gaps old new gap told.written (omega (arith, le, place)))
    go (inr (f, lt)) = subst (AreWritten (gaps ++ gap ∷ []) old) (sym (there lt))
        (written_there gaps old new gap tally.gaps place told.written lt)

-- ---- a gap

pub gap_is : (rule : Rule) (between : Amid) (a b : Place) (gap : Gap) → gap_of rule between a b ≡ Some gap
    → gap ≡ gap_as rule (kind_of rule between.ended a b) between.shown a b
gap_is rule between a b gap h1 = grind (arith, some_is)

-- numbers with no gap between go on
pub go_on : (rule : Rule) (between : Amid) (a b : Place) → gap_of rule between a b ≡ None → goes_on rule a b ≡ true
go_on rule between a b h1 = grind arith

pub moved : (P : ℕ → ℕ → ℕ → ℕ → Type 0) (a f b t i m k n : ℕ) → a ≡ i → f ≡ m → b ≡ k → t ≡ n → P i m k n → P a f b t
moved P a f b t i m k n h1 h2 h3 h4 h5 = grind arith

-- what lies between two neighbours is the gap of its ends
pub gap_between : (judged : Judged) (a b : Place) (gap : Gap)
    → AreNeighbours judged.numbers a b
    → gap_of judged.rule (amid_of judged a b) a b ≡ Some gap → IsGap judged gap × (gap.before ≡ b.field)
gap_between judged a b gap neighbours found =
    let e = gap_is judged.rule (amid_of judged a b) a b gap found in
    let first : from_of gap ≡ a = ap from_of e in
    let last : to_of gap ≡ b = ap to_of e in (
      record {
        neighbours = subst (λ (x : Place). AreNeighbours judged.numbers x (to_of gap)) (sym first)
            (subst (λ (x : Place). AreNeighbours judged.numbers a x) (sym last)
            neighbours);
        found = subst (λ (x : Place). gap_of judged.rule (amid_of judged x (to_of gap)) x (to_of gap) ≡ Some gap)
            (sym first)
            (subst (λ (x : Place). gap_of judged.rule (amid_of judged a x) a x ≡ Some gap) (sym last) found);
      },
      ap (λ (x : Place). x.field) last,
    )

-- ---- field by field

pub told_free : (judged : Judged) (k : ℕ) (at : Stage) (old new : List Gap) → IsFree judged.numbers k
    → IsTelling judged k at old new → IsTelling judged (suc k) at old new
unfolding AreGaps
told_free judged k at old new free told = grind arith

pub told_on : (judged : Judged) (a b : Place) (at next : Stage) (old new : List Gap)
    → AreNeighbours judged.numbers a b → goes_on judged.rule a b ≡ true
    → (told : IsTelling judged b.field at old new)
    → AreTelling judged.rule
    (listed told.gaps (told.unread + skipped judged.rule.numbering.clock a.number b.number)) next old new
    → IsTelling judged (suc b.field) next old new
unfolding AreGaps
told_on judged a b at next old new neighbours near told telling = grind arith

pub told_gap : (judged : Judged) (a b : Place) (gap : Gap) (at next : Stage) (old new then_new : List Gap)
    → AreNeighbours judged.numbers a b
    → gap_of judged.rule (amid_of judged a b) a b ≡ Some gap → (told : IsTelling judged b.field at old new)
    → AreTelling judged.rule (listed (told.gaps ++ gap ∷ []) told.unread) next old then_new
    → IsTelling judged (suc b.field) next old then_new
unfolding AreGaps
told_gap judged a b gap at next old new then_new neighbours found told telling =
    let is = gap_between judged a b gap neighbours found in
    record {
      gaps = told.gaps ++ gap ∷ [];
      unread = told.unread;
      all = inr (inr (gap, told.gaps, is.0, is.1, told.all, refl));
      telling = telling;
    }

-- ---- the last number

pub last_new : (answers : List Number) (place : Place) → IsMarked answers place.field place.number
    → IsLast answers (suc place.field) (Some place)
last_new answers place at = (omega arith, at, λ j l after less. absurd (omega (arith, after, less)))

pub neighbours_of : (answers : List Number) (k n : ℕ) (place : Place) → IsLast answers k (Some place)
    → IsMarked answers k n
    → AreNeighbours answers place (spot k n)
neighbours_of answers k n place is at = record { order = is.0; here = is.1; there = at; between = is.2 }

-- ---- the count

gaps_few : (judged : Judged) (k : ℕ) (gaps : List Gap) (unread : ℕ)
    → AreGaps judged k gaps unread → length gaps ≤ k
unfolding AreGaps
gaps_few judged zero gaps unread (none, e) = omega
    (arith, ap (λ (xs : List Gap). length xs) none)
gaps_few judged (suc k) gaps unread (inl (free, all)) =
    omega (arith, gaps_few judged k gaps unread all)
gaps_few judged (suc k) gaps unread (inr (inl (i, m, n, fewer, on, all, e))) =
    omega (arith, gaps_few judged k gaps fewer all)
gaps_few judged (suc k) gaps unread (inr (inr (one, others, is, last, all, e))) =
    omega (
      arith,
      gaps_few judged k others unread all,
      ap (λ (xs : List Gap). length xs) e,
      length_push others one,
    )

pub told_few : (judged : Judged) (k : ℕ) (at : Stage) (old new : List Gap) → IsTelling judged k at old new
    → at.tally.gaps ≤ k
told_few judged k at old new told =
    omega (
      arith,
      settled_few judged.rule told.gaps told.unread at.last at.tally old new told.telling,
      gaps_few judged k told.gaps told.unread told.all,
    )

-- ---- the ends of sides

-- so many fields stand since the last end, if field k is of one or not
since_is : (ends : List ℕ) (k d : ℕ) (b : Bool) → k < length ends → is_end (Some (get_or ends k d)) ≡ b
    → (if b then 0 else suc (since_end ends k)) ≡ since_end ends (k + 1)
unfolding since_end
since_is ends k d b inside shown = grind (arith, slice_get-get_or)

pub since_none : (ends : List ℕ) (k d : ℕ) → k < length ends → is_end (Some (get_or ends k d)) ≡ true
    → 0 ≡ since_end ends (k + 1)
since_none ends k d inside shown = since_is ends k d true inside shown

pub since_more : (ends : List ℕ) (k since d : ℕ) → k < length ends → is_end (Some (get_or ends k d)) ≡ false
    → since ≡ since_end ends k → since + 1 ≡ since_end ends (k + 1)
since_more ends k since d inside shown is =
    let more : since + 1 ≡ suc (since_end ends k) = omega (arith, is) in
    more ∙ since_is ends k d false inside shown
