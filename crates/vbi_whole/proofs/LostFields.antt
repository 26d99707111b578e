-- What is told to be lost is lost, if the numbers at the ends of what is told so are right.
use Rattle.std.proofs.Common.{◌≡◌, ◌≢◌, ℕ, suc, ◌+◌, ◌-◌, ◌<◌, ◌≤◌, true, false, List, [], ◌∷◌, refl, arith, ap, sym}
use Rattle.std.proofs.Common.{subst, inl, inr}
use Rattle.std.specs.Prelude.{Option, Some, ◌⊎◌, ◌==◌, slice_get, sum_by, if◌then◌else◌}
use Rattle.std.proofs.lemmas.Bool.Decides.{leb_tells, eqb_tells}
use Rattle.std.proofs.lemmas.List.Sums.{sum_by-cons}
use Rattle.std.proofs.Math.Dec.{eqb}
use Rattle.vbi_whole.specs.Types.{Gap}
use Rattle.vbi_side.specs.Clocks.{DiscCountsBy}
use Rattle.vbi_whole.specs.Detours.{detoured, turned, IsToldAs}
use Rattle.vbi_whole.specs.Gaps.{lost, inserted, replaced, IsGap, AreGaps, HasRightEnds, LostAtLeast, Judged}
use Rattle.vbi_side.specs.Numbers.{IsMarked}
use Rattle.vbi_side.specs.Side.{Rises, captured, AreEnds}
use Rattle.vbi_whole.specs.Tallies.{fields_if}
use Rattle.vbi_whole.proofs.Detouring.{detour_kind}
use Rattle.vbi_whole.proofs.DetourLaws.{each_told}
use Rattle.vbi_whole.proofs.GapLaws.{gap_least}
use Rattle.vbi_whole.proofs.GapOrder.{each_gap, gaps_ordered}
use Rattle.vbi_side.proofs.Sides.{apart}

-- ---- gaps one after the other

module _ (place : ℕ → ℕ) (rises : Rises place) where
  -- each gap lies between two fields
  abbrev AreWithin : List Gap → ℕ → ℕ → Type 0
  AreWithin gaps from end = (j : ℕ) (gap : Gap) → slice_get gaps j ≡ Some gap
      → (from ≤ gap.after) × (gap.after < gap.before) × (gap.before ≤ end)

  -- an earlier one ends where a later one begins, or before
  abbrev AreInOrder : List Gap → Type 0
  AreInOrder gaps = (i j : ℕ) (one other : Gap) → i < j → slice_get gaps i ≡ Some one
      → slice_get gaps j ≡ Some other → one.before ≤ other.after

  -- what each loses is lost between the two fields
  pub lost_between : (gaps : List Gap) (from end : ℕ) → from ≤ end → AreWithin gaps from end → AreInOrder gaps
      → ((j : ℕ) (gap : Gap) → slice_get gaps j ≡ Some gap
      → LostAtLeast place gap.after gap.before (fields_if lost gap))
      → LostAtLeast place from end (sum_by (fields_if lost) gaps)
  lost_between [] from end order within ordered loses = omega (arith, apart place from end rises order)
  lost_between (one ∷ gaps) from end order within ordered loses =
      let here = within 0 one refl in
      omega (
        arith,
        here.0,
        here.1,
        here.2,
        sum_by-cons (fields_if lost) one gaps,
        apart place from one.after rises here.0,
        loses 0 one refl,
        lost_between gaps one.before end here.2
            (λ j gap at. let there = within (suc j) gap at in
            (ordered 0 (suc j) one gap (omega arith) refl at, there.1, there.2))
            (λ i j first second less at on.
            ordered (suc i) (suc j) first second (omega (arith, less)) at on)
            (λ j gap at. loses (suc j) gap at),
      )

-- ---- those that are told

module _ (judged : Judged) (disc : ℕ → Option ℕ) (place : ℕ → ℕ)
    (runs : DiscCountsBy judged.rule.numbering.clock judged.rule.pace disc) (rises : Rises place)
    (k : ℕ) (gaps : List Gap) (unread : ℕ) (all : AreGaps judged k gaps unread)
    (right : (j : ℕ) (gap : Gap) → slice_get (detoured judged.rule gaps) j ≡ Some gap → gap.kind ≡ lost
    → HasRightEnds (captured disc place) gap) where
  -- one that is told has the judged.ends of the gap in its place, and is it, or loses nothing
  record Stands (j : ℕ) (told : Gap) : Type 0 where
    one : Gap
    at : slice_get gaps j ≡ Some one
    after : told.after ≡ one.after
    before : told.before ≡ one.before
    loses : (told ≡ one) ⊎ (fields_if lost told ≡ 0)

  no_loss : (kind fields : ℕ) (gap told : Gap) → (kind ≡ replaced) ⊎ (kind ≡ inserted) → told ≡ turned kind fields gap
      → fields_if lost told ≡ 0
  no_loss kind fields gap told h1 h2 = grind arith

  stands : (j : ℕ) (told : Gap) → slice_get (detoured judged.rule gaps) j ≡ Some told → Stands j told
  stands j told at = go (each_told judged.rule gaps j told at)
    where
      go : IsToldAs judged.rule gaps j told → Stands j told
      go (inl it) = record { one = told; at = it; after = refl; before = refl; loses = inl refl }
      go (inr (inl (kind, are, e))) = record {
        one = are.a;
        at = are.first;
        after = ap (λ (g : Gap). g.after) e;
        before = ap (λ (g : Gap). g.before) e;
        loses = inr (no_loss kind _ are.a told (detour_kind judged.rule are.a are.b kind are.is) e);
      }
      go (inr (inr (i, kind, same, are, e))) = record {
        one = are.b;
        at = subst (λ n. slice_get gaps n ≡ Some are.b) (sym same) are.second;
        after = ap (λ (g : Gap). g.after) e;
        before = ap (λ (g : Gap). g.before) e;
        loses = inr (no_loss kind _ are.b told (detour_kind judged.rule are.a are.b kind are.is) e);
      }

  is_gap : (j : ℕ) (told : Gap) (s : Stands j told) → IsGap judged s.one
  is_gap j told s = (each_gap judged k gaps unread all j s.one s.at).0

  loses_at : (j : ℕ) (told : Gap) → slice_get (detoured judged.rule gaps) j ≡ Some told
      → LostAtLeast place told.after told.before (fields_if lost told)
  loses_at j told at = go (eqb_tells told.kind lost)
    where
      s : Stands j told
      s = stands j told at

      order : s.one.after < s.one.before
      order = (is_gap j told s).neighbours.order

      far : place told.after + (told.before - told.after) ≤ place told.before
      far = apart place told.after told.before rises (omega (arith, order, s.after, s.before))

      whole : told.kind ≡ lost → (told ≡ s.one) ⊎ (fields_if lost told ≡ 0)
          → LostAtLeast place told.after told.before (fields_if lost told)
      whole kind (inl same) =
          let is = subst (IsGap judged) (sym same) (is_gap j told s) in
          let least = gap_least judged disc place told runs is kind
          (right j told at kind) in
          let counted : fields_if lost told ≡ told.fields
          = subst (λ k. (if k == lost then told.fields else 0) ≡ told.fields) (sym kind) refl in
          omega (arith, least, counted)
      whole kind (inr none) = omega (arith, far, none)

      go : ((eqb told.kind lost ≡ true) × (told.kind ≡ lost)) ⊎ ((eqb told.kind lost ≡ false) × (told.kind ≢ lost))
          → LostAtLeast place told.after told.before (fields_if lost told)
      go (inl (t, kind)) = whole kind s.loses
      go (inr (f, other)) = rw f (omega (arith, far))

  pub told_lost : (first m last n : ℕ) → AreEnds judged.numbers first m last n
      → LostAtLeast place first last (sum_by (fields_if lost) (detoured judged.rule gaps))
  told_lost first m last n are =
      lost_between place rises (detoured judged.rule gaps) first last first_last within ordered loses_at
    where
      from : (i l : ℕ) → IsMarked judged.numbers i l → first ≤ i
      from i l at = elim (leb_tells first i) [
        | inl (t, le) ↦ le
        | inr (f, less) ↦ absurd (are.none_before i l less at)
      ]

      to : (i l : ℕ) → IsMarked judged.numbers i l → i ≤ last
      to i l at = elim (leb_tells i last) [
        | inl (t, le) ↦ le
        | inr (f, less) ↦ absurd (are.none_after i l less at)
      ]

      first_last : first ≤ last
      first_last = from last n are.ends

      within : (j : ℕ) (told : Gap) → slice_get (detoured judged.rule gaps) j ≡ Some told
          → (first ≤ told.after) × (told.after < told.before) × (told.before ≤ last)
      within j told at =
          let s = stands j told at in
          let pair = (is_gap j told s).neighbours in
          let order : s.one.after < s.one.before = pair.order in (
            omega (arith, from s.one.after s.one.from pair.here, s.after),
            omega (arith, order, s.after, s.before),
            omega (arith, to s.one.before s.one.to pair.there, s.before),
          )

      ordered : (i j : ℕ) (one other : Gap) → i < j
          → slice_get (detoured judged.rule gaps) i ≡ Some one
          → slice_get (detoured judged.rule gaps) j ≡ Some other → one.before ≤ other.after
      ordered i j one other less at on =
          let a = stands i one at in
          let b = stands j other on in
          omega (
            arith,
            a.before,
            b.after,
            gaps_ordered judged k gaps unread all i j a.one b.one less a.at b.at,
          )
