-- Each gap is told, once, and in order.
use Rattle.std.proofs.Common.{◌≡◌, ◌≢◌, ℕ, zero, suc, ◌<◌, ◌≤◌, true, false, List, [], ◌∷◌, ◌++◌, arith, ap, sym, ◌∙◌}
use Rattle.std.proofs.Common.{subst, inl, inr, length}
use Rattle.std.specs.Prelude.{Some, slice_get, ◌⊎◌}
use Rattle.std.proofs.lemmas.Bool.Decides.{leb_tells, eqb_tells}
use Rattle.std.proofs.lemmas.List.{length_push, get_or_append_left}
use Rattle.std.proofs.Math.Seq.{get_or-append_seam}
use Rattle.std.proofs.Math.Dec.{eqb}
use Rattle.std.proofs.lemmas.Option.{slice_get-get_or, slice_get_within, get_or_from_slice_get}
use Rattle.vbi_whole.specs.Types.{Gap}
use Rattle.vbi_side.specs.Clocks.{nearly_by}
use Rattle.vbi_side.specs.Numbers.{IsMarked}
use Rattle.vbi_whole.specs.Gaps.{gap_of, gap_as, kind_of, ended_between, shown_between, AreNeighbours, IsFree, IsGap}
use Rattle.vbi_whole.specs.Gaps.{AreGaps, Judged, amid_of, from_of}
use Rattle.vbi_whole.proofs.Telling.{some_is, pushed, moved}
use Rattle.vbi_whole.proofs.GapLaws.{same_before, same_number, none_found}
use Rattle.vbi_side.specs.Paces.{spot}

-- what is in the list is a gap that ends before field k
pub each_gap : (judged : Judged) (k : ℕ) (gaps : List Gap) (unread : ℕ)
    → AreGaps judged k gaps unread → (j : ℕ) (gap : Gap) → slice_get gaps j ≡ Some gap
    → IsGap judged gap × (gap.before < k)
unfolding AreGaps
each_gap judged zero gaps unread (none, e) j gap at =
    absurd (omega (arith, slice_get_within gaps j gap at, ap (λ (xs : List Gap). length xs) none))
each_gap judged (suc k) gaps unread (inl (free, all)) j gap at =
    let p = each_gap judged k gaps unread all j gap at in (p.0, omega (arith, p.1))
each_gap judged (suc k) gaps unread (inr (inl (i, m, n, fewer, on, all, e))) j gap at =
    let p = each_gap judged k gaps fewer all j gap at in (p.0, omega (arith, p.1))
each_gap judged (suc k) gaps unread
    (inr (inr (one, others, is, last, all, e))) j gap at =
    elim (pushed others one gap j (subst (λ (xs : List Gap). slice_get xs j ≡ Some gap) e at)) [
      | inl (lt, there) ↦ let p = each_gap judged k others unread all j gap there in
          (p.0, omega (arith, p.1))
      | inr (same, eq) ↦ (
        subst (IsGap judged) eq is,
        omega (arith, last, ap (λ (g : Gap). g.before) eq),
      )
    ]

push_last : (xs : List Gap) (y : Gap) → slice_get (xs ++ y ∷ []) (length xs) ≡ Some y
push_last xs y = slice_get-get_or (xs ++ y ∷ []) (length xs) y (omega (arith, length_push xs y))
    ∙ ap Some (get_or-append_seam xs y [] y)

push_keeps : (xs : List Gap) (y x : Gap) (j : ℕ) → slice_get xs j ≡ Some x → slice_get (xs ++ y ∷ []) j ≡ Some x
push_keeps xs y x j at =
    let lt = slice_get_within xs j x at in
    slice_get-get_or (xs ++ y ∷ []) j x (omega (arith, lt, length_push xs y))
    ∙ ap Some (get_or_append_left xs (y ∷ []) x j lt ∙ get_or_from_slice_get xs j x x at)

-- two gaps that end in one field are one
same_gap : (judged : Judged) (one other : Gap)
    → IsGap judged one → IsGap judged other
    → one.before ≡ other.before → one ≡ other
same_gap judged one other is was last =
    let here = subst (λ k. AreNeighbours judged.numbers (from_of one) (spot k one.to)) last is.neighbours in
    let first = same_before judged.numbers one.after one.from other.before one.to other.after other.from other.to here
    was.neighbours in
    let from = same_number judged.numbers other.after one.from other.from
    (subst (λ i. IsMarked judged.numbers i one.from) first is.neighbours.here) was.neighbours.here in
    let to = same_number judged.numbers other.before one.to other.to
    (subst (λ i. IsMarked judged.numbers i one.to) last is.neighbours.there) was.neighbours.there in
    let found = moved (λ a f b t. gap_of judged.rule (amid_of judged (spot a f) (spot b t)) (spot a f) (spot b t)
    ≡ Some one)
    other.after other.from other.before other.to one.after one.from one.before one.to
    (sym first) (sym from) (sym last) (sym to) is.found in
    some_is one other (sym found ∙ was.found)

-- each gap that ends before field k is in the list
pub every_gap : (judged : Judged) (k : ℕ) (gaps : List Gap) (unread : ℕ)
    → AreGaps judged k gaps unread → (gap : Gap)
    → IsGap judged gap → gap.before < k
    → (j : ℕ) × (slice_get gaps j ≡ Some gap)
unfolding AreGaps
every_gap judged zero gaps unread all gap is less = absurd (omega (arith, less))
every_gap judged (suc k) gaps unread (inl (free, all)) gap is less =
    go (every_gap judged k gaps unread all gap is) free (eqb_tells gap.before k)
  where
    go : (gap.before < k → (j : ℕ) × (slice_get gaps j ≡ Some gap)) → IsFree judged.numbers k
        → ((eqb gap.before k ≡ true) × (gap.before ≡ k)) ⊎ ((eqb gap.before k ≡ false) × (gap.before ≢ k))
        → (j : ℕ) × (slice_get gaps j ≡ Some gap)
    go ih f (inr (u, differ)) = ih (omega (arith, less, differ))
    go ih (inl never) (inl (t, same)) =
        absurd (never gap.to (subst (λ x. IsMarked judged.numbers x gap.to) same is.neighbours.there))
    go ih (inr never) (inl (t, same)) =
        let order : gap.after < gap.before = is.neighbours.order in
        absurd (never gap.after gap.from (omega (arith, order, same)) is.neighbours.here)
every_gap judged (suc k) gaps unread
    (inr (inl (i, m, n, fewer, on, all, e))) gap is less =
    go (every_gap judged k gaps fewer all gap is) (eqb_tells gap.before k)
  where
    go : (gap.before < k → (j : ℕ) × (slice_get gaps j ≡ Some gap))
        → ((eqb gap.before k ≡ true) × (gap.before ≡ k)) ⊎ ((eqb gap.before k ≡ false) × (gap.before ≢ k))
        → (j : ℕ) × (slice_get gaps j ≡ Some gap)
    go ih (inr (u, differ)) = ih (omega (arith, less, differ))
    go ih (inl (t, same)) =
        let here = subst (λ x. AreNeighbours judged.numbers (from_of gap) (spot x gap.to)) same is.neighbours in
        let first = same_before judged.numbers gap.after gap.from k gap.to i m n here on.neighbours in
        let from = same_number judged.numbers i gap.from m (subst
        (λ x. IsMarked judged.numbers x gap.from) first here.here) on.neighbours.here in
        let to = same_number judged.numbers k gap.to n here.there on.neighbours.there in
        let found = moved (λ a f b t. gap_of judged.rule (amid_of judged (spot a f) (spot b t)) (spot a f) (spot b t)
        ≡ Some gap)
        i m k n gap.after gap.from gap.before gap.to (sym first) (sym from) (sym same) (sym to) is.found in
        absurd (none_found (nearly_by judged.rule.numbering.clock judged.rule.pace judged.rule.slack (spot i m)
        (spot k n))
        (gap_as judged.rule (kind_of judged.rule (ended_between judged.ends i k) (spot i m) (spot k n))
        (shown_between judged.seen (spot i m) (spot k n)) (spot i m) (spot k n))
        gap on.near found)
every_gap judged (suc k) gaps unread
    (inr (inr (one, others, was, last, all, e))) gap is less =
    go (every_gap judged k others unread all gap is) (eqb_tells gap.before k)
  where
    go : (gap.before < k → (j : ℕ) × (slice_get others j ≡ Some gap))
        → ((eqb gap.before k ≡ true) × (gap.before ≡ k)) ⊎ ((eqb gap.before k ≡ false) × (gap.before ≢ k))
        → (j : ℕ) × (slice_get gaps j ≡ Some gap)
    go ih (inr (u, differ)) =
        let p = ih (omega (arith, less, differ)) in
        (p.0, subst (λ (xs : List Gap). slice_get xs p.0 ≡ Some gap) (sym e) (push_keeps others one gap p.0 p.1))
    go ih (inl (t, same)) =
        let eq = same_gap judged one gap was is (last ∙ sym same) in (
          length others,
          subst (λ (xs : List Gap). slice_get xs (length others) ≡ Some gap) (sym e)
              (push_last others one ∙ ap Some eq),
        )

-- an earlier one ends where a later one begins, or before
pub gaps_ordered : (judged : Judged) (k : ℕ) (gaps : List Gap) (unread : ℕ)
    → AreGaps judged k gaps unread → (i j : ℕ) (one other : Gap) → i < j
    → slice_get gaps i ≡ Some one
    → slice_get gaps j ≡ Some other → one.before ≤ other.after
unfolding AreGaps
gaps_ordered judged zero gaps unread (none, e) i j one other lt here there =
    absurd (omega (arith, slice_get_within gaps j other there, ap (λ (xs : List Gap). length xs) none))
gaps_ordered judged (suc k) gaps unread (inl (free, all)) i j one other lt here there =
    gaps_ordered judged k gaps unread all i j one other lt here there
gaps_ordered judged (suc k) gaps unread
    (inr (inl (h, m, n, fewer, on, all, e))) i j one other lt here there =
    gaps_ordered judged k gaps fewer all i j one other lt here there
gaps_ordered judged (suc k) gaps unread
    (inr (inr (new, others, is, last, all, e))) i j one other lt here there =
    go (gaps_ordered judged k others unread all i j one other lt)
    (pushed others new one i (subst (λ (xs : List Gap). slice_get xs i ≡ Some one) e here))
    (pushed others new other j (subst (λ (xs : List Gap). slice_get xs j ≡ Some other) e there))
  where
    go : (slice_get others i ≡ Some one → slice_get others j ≡ Some other → one.before ≤ other.after)
        → ((i < length others) × (slice_get others i ≡ Some one)) ⊎ ((i ≡ length others) × (new ≡ one))
        → ((j < length others) × (slice_get others j ≡ Some other)) ⊎ ((j ≡ length others) × (new ≡ other))
        → one.before ≤ other.after
    go ih (inl (less, at)) (inl (more, on)) = ih at on
    go ih (inr (same, eq)) (inl (more, on)) = absurd (omega (arith, same, more, lt))
    go ih (inr (same, eq)) (inr (too, on)) = absurd (omega (arith, same, too, lt))
    go ih (inl (less, at)) (inr (too, eq)) =
        let p = each_gap judged k others unread all i one at in
        elim (leb_tells one.before new.after) [
          | inl (t, le) ↦ omega (arith, le, ap (λ (g : Gap). g.after) eq)
          | inr (f, more) ↦ absurd (is.neighbours.between one.before one.to more
              (omega (arith, p.1, last)) p.0.neighbours.there)
        ]
