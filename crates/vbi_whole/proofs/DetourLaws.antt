-- What detours say of a capture and its disc.
use Rattle.std.proofs.Common.{◌≡◌, ◌≢◌, ℕ, zero, suc, ◌+◌, ◌*◌, ◌-◌, ◌<◌, ◌≤◌, true, List, [], ◌∷◌, refl}
use Rattle.std.proofs.Common.{arith, ap, sym, subst, inl, inr}
use Rattle.std.specs.Prelude.{Option, Some, None, ◌&&◌, ◌||◌, ◌==◌, nat_lt, slice_get}
use Rattle.std.proofs.lemmas.Bool.{and_parts, ltb-true}
use Rattle.std.proofs.lemmas.Option.{slice_get_within}
use Rattle.vbi_whole.specs.Types.{Gap, Numbering, Number, Video, Sightings, Rule}
use Rattle.vbi_side.specs.Clocks.{kept, nearly_by, DiscCountsBy}
use Rattle.vbi_whole.specs.Detours.{is_inserted, detour_of, fields_by, turned, detoured_from, detoured}
use Rattle.vbi_whole.specs.Detours.{IsToldAs, IsLeft, skips, repeats}
use Rattle.vbi_whole.specs.Gaps.{back, inserted, replaced, IsGap, rule_by, of_video, from_of, to_of}
use Rattle.vbi_side.specs.Side.{Rises, captured, IsOneRun}
use Rattle.vbi_whole.proofs.Detouring.{no_detour, a_detour, detour_kind}
use Rattle.vbi_whole.proofs.GapLaws.{on_video, gap_is_cut}
use Rattle.vbi_side.proofs.Sides.{apart}
use Rattle.vbi_whole.proofs.Telling.{some_is}
use Rattle.vbi_side.proofs.Truth.{video_fits}

-- ---- what is told

module _ (rule : Rule) where
  -- the gaps from the one that may begin a detour on
  abbrev all_of : Option Gap → List Gap → List Gap
  all_of None gaps = gaps
  all_of (Some a) gaps = a ∷ gaps

  -- the same with one gap before them
  later : (x : Gap) (gaps : List Gap) (j : ℕ) (told : Gap) → IsToldAs rule gaps j told
      → IsToldAs rule (x ∷ gaps) (suc j) told
  later x gaps j told (inl at) = inl at
  later x gaps j told (inr (inl (kind, are, e))) =
      inr (inl (kind, record { a = are.a; b = are.b; first = are.first; second = are.second; is = are.is }, e))
  later x gaps j told (inr (inr (i, kind, same, are, e))) = inr (inr (
    suc i,
    kind,
    ap (λ n. suc n) same,
    record { a = are.a; b = are.b; first = are.first; second = are.second; is = are.is },
    e,
  ))

  told_at : (last : Option Gap) (gaps : List Gap) (j : ℕ) (told : Gap)
      → slice_get (detoured_from rule last gaps) j ≡ Some told
      → IsToldAs rule (all_of last gaps) j told
  unfolding detoured_from
  told_at None [] j told at = absurd (omega (arith, slice_get_within {A = Gap} [] j told at))
  told_at (Some a) [] j told at = inl at
  told_at None (b ∷ gaps) j told at = told_at (Some b) gaps j told at
  told_at (Some a) (b ∷ gaps) j told at =
      go (detour_of rule a b) refl j at (told_at (Some b) gaps) (told_at None gaps)
    where
      go : (o : Option ℕ) → detour_of rule a b ≡ o → (i : ℕ)
          → slice_get (detoured_from rule (Some a) (b ∷ gaps)) i ≡ Some told
          → ((k : ℕ) (one : Gap) → slice_get (detoured_from rule (Some b) gaps) k ≡ Some one
          → IsToldAs rule (b ∷ gaps) k one)
          → ((k : ℕ) (one : Gap) → slice_get (detoured_from rule None gaps) k ≡ Some one
          → IsToldAs rule gaps k one)
          → IsToldAs rule (a ∷ b ∷ gaps) i told
      go None e i here one none =
          as_is i (subst (λ (xs : List Gap). slice_get xs i ≡ Some told) (no_detour rule a b gaps e) here)
        where
          as_is : (k : ℕ) → slice_get (a ∷ detoured_from rule (Some b) gaps) k ≡ Some told
              → IsToldAs rule (a ∷ b ∷ gaps) k told
          as_is zero it = inl it
          as_is (suc k) it = later a (b ∷ gaps) k told (one k told it)
      go (Some kind) e i here one none =
          pair i (subst (λ (xs : List Gap). slice_get xs i ≡ Some told)
          (a_detour rule a b gaps kind e) here)
        where
          pair : (k : ℕ) → slice_get (turned kind (fields_by rule kind a b) a ∷ turned kind 0 b
              ∷ detoured_from rule None gaps) k ≡ Some told
              → IsToldAs rule (a ∷ b ∷ gaps) k told
          pair zero it = inr (inl (
            kind,
            record { a = a; b = b; first = refl; second = refl; is = e },
            sym (some_is (turned kind (fields_by rule kind a b) a) told it),
          ))
          pair (suc zero) it = inr (inr (
            0,
            kind,
            refl,
            record { a = a; b = b; first = refl; second = refl; is = e },
            sym (some_is (turned kind 0 b) told it),
          ))
          pair (suc (suc k)) it = later a (b ∷ gaps) (suc k) told (later b gaps k told (none k told it))

  pub each_told : (gaps : List Gap) (j : ℕ) (told : Gap) → slice_get (detoured rule gaps) j ≡ Some told
      → IsToldAs rule gaps j told
  each_told gaps j told at = told_at None gaps j told at

  pub other_told : (gaps : List Gap) (j : ℕ) (told : Gap) → slice_get (detoured rule gaps) j ≡ Some told
      → told.kind ≢ replaced → told.kind ≢ inserted → slice_get gaps j ≡ Some told
  other_told gaps j told at one other = grind (arith, detour_kind, each_told)

-- ---- what the disc has between

-- the numbers around replaced ones go on
goes_over : (numbering : Numbering) (a b : Gap) → detour_of (rule_by Video 0 numbering) a b ≡ Some replaced
    → nearly_by numbering.clock Video 0 (from_of a) (to_of b) ≡ true
goes_over numbering a b is = grind (arith, and_parts, some_is)

-- those around inserted fields, as if these weren't there
goes_without : (numbering : Numbering) (a b : Gap) → detour_of (rule_by Video 0 numbering) a b ≡ Some inserted
    → is_inserted (rule_by Video 0 numbering) a b ≡ true
goes_without numbering a b is = grind (arith, and_parts, some_is)

-- a step goes on, skips fields or repeats some
steps : (place : ℕ → ℕ) (i k : ℕ) → place (i + k) + repeats place i k ≡ place i + k + skips place i k
unfolding skips repeats
steps place i zero = let none : i + zero ≡ i = omega arith in omega (arith, ap place none)
steps place i (suc k) =
    let next : i + suc k ≡ suc (i + k) = omega arith in
    omega (arith, steps place i k, ap place next)

module _ (disc : ℕ → Option ℕ) (place : ℕ → ℕ) (numbering : Numbering) (a b : Gap)
    (runs : DiscCountsBy numbering.clock Video disc)
    (is : detour_of (rule_by Video 0 numbering) a b ≡ Some replaced) (order : a.after ≤ b.before)
    (first : captured disc place a.after ≡ Some a.from) (last : captured disc place b.before ≡ Some b.to) where
  -- the disc has as many fields between as the capture
  as_many : place b.before ≡ place a.after + (b.before - a.after)
  as_many = omega (
    arith,
    order,
    on_video a.after (kept numbering.clock a.from) b.before (kept numbering.clock b.to) (goes_over numbering a b is),
    video_fits (place a.after) (kept numbering.clock a.from) (place b.before) (kept numbering.clock b.to)
        (runs (place a.after) (place b.before) a.from b.to first last),
  )

  pub cancels : skips place a.after (b.before - a.after) ≡ repeats place a.after (b.before - a.after)
  cancels = grind (arith, as_many, steps)

  pub one_run : Rises place → IsOneRun place a.after b.before
  one_run rises k from to = omega (
    arith,
    as_many,
    from,
    to,
    rises k,
    apart place a.after k rises from,
    apart place (suc k) b.before rises (omega (arith, to)),
  )

  -- a field between stands where it belongs
  stands : (k : ℕ) → Rises place → a.after ≤ k → k ≤ b.before
      → (place k ≡ place a.after + (k - a.after)) × (place b.before ≡ place k + (b.before - k))
  stands k rises from to =
      let below = apart place a.after k rises from in
      let above = apart place k b.before rises to in (
        omega (arith, as_many, from, to, below, above),
        omega (arith, as_many, from, to, below, above),
      )

pub misread : (disc : ℕ → Option ℕ) (place : ℕ → ℕ) (numbering : Numbering) (seen : List Sightings)
    (answers : List Number) (ends : List ℕ) (a b : Gap) → DiscCountsBy numbering.clock Video disc
    → IsGap (of_video numbering seen answers ends) a
    → IsGap (of_video numbering seen answers ends) b → a.before ≤ b.after
    → detour_of (rule_by Video 0 numbering) a b ≡ Some replaced
    → captured disc place a.after ≡ Some a.from → captured disc place b.before ≡ Some b.to → Rises place
    → (captured disc place a.before ≢ Some a.to) × (captured disc place b.after ≢ Some b.from)
misread disc place numbering seen answers ends a b runs one other between is first last rises =
    let begin : a.after < a.before = one.neighbours.order in
    let end : b.after < b.before = other.neighbours.order in
    let order : a.after ≤ b.before = omega (arith, begin, end, between) in
    let here = stands disc place numbering a b runs is order first last a.before rises
    (omega (arith, begin)) (omega (arith, between, end)) in
    let there = stands disc place numbering a b runs is order first last b.after rises
    (omega (arith, begin, between)) (omega (arith, end)) in (
      λ right. gap_is_cut disc place numbering seen answers ends a runs one (first, right) here.0,
      λ right. gap_is_cut disc place numbering seen answers ends b runs other (right, last) there.1,
    )

module _ (disc : ℕ → Option ℕ) (place : ℕ → ℕ) (numbering : Numbering) (a b : Gap)
    (runs : DiscCountsBy numbering.clock Video disc)
    (is : detour_of (rule_by Video 0 numbering) a b ≡ Some inserted) (begin : a.after < a.before)
    (between : a.before ≤ b.after)
    (end : b.after < b.before)
    (first : captured disc place a.after ≡ Some a.from) (last : captured disc place b.before ≡ Some b.to) where
  count : ℕ
  count = 2 * (kept numbering.clock b.to - kept numbering.clock a.from)

  parts : ((((a.kind == back) || (b.kind == back)) && nat_lt 0 count) ≡ true)
      × (nat_lt (count + a.after + b.after) (a.before + b.before + 0) ≡ true)
  unfolding count
  parts = and_parts (((a.kind == back) || (b.kind == back)) && nat_lt 0 count)
      (nat_lt (count + a.after + b.after) (a.before + b.before + 0)) (goes_without numbering a b is)

  some : 0 < count
  some = ltb-true 0 count (and_parts ((a.kind == back) || (b.kind == back)) (nat_lt 0 count) parts.0).1

  few : count + a.after + b.after < a.before + b.before + 0
  few = ltb-true (count + a.after + b.after) (a.before + b.before + 0) parts.1

  as_counted : place b.before ≡ place a.after + count
  unfolding count
  as_counted = omega (
    arith,
    some,
    video_fits (place a.after) (kept numbering.clock a.from) (place b.before) (kept numbering.clock b.to)
        (runs (place a.after) (place b.before) a.from b.to first last),
  )

  pub is_left : IsLeft (rule_by Video 0 numbering) place a b
  unfolding count
  is_left = grind (arith, apart, as_counted, few, some)

  pub out_of_order : Rises place → ⊥
  out_of_order rises = absurd (omega (
    arith,
    few,
    begin,
    between,
    end,
    as_counted,
    apart place a.after b.before rises (omega (arith, begin, between, end)),
  ))
