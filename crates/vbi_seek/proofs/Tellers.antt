-- What fields tell together: it takes two of them, and the first that tell a number are found.
use Rattle.std.proofs.Common.{◌≡◌, ◌≢◌, ℕ, zero, suc, ◌+◌, ◌*◌, ◌-◌, ◌<◌, ◌≤◌, Bool, true, false, List, length}
use Rattle.std.proofs.Common.{refl, arith, sym, subst, inl, inr}
use Rattle.std.specs.Prelude.{Option, Some, None, ◌⊎◌, ◌==◌, nat_le, slice_get}
use Rattle.std.proofs.lemmas.Bool.Decides.{leb_tells, eqb_tells}
use Rattle.std.proofs.Math.Dec.{eqb}
use Rattle.vbi_side.specs.declared.pace.Pace.{Pace}
use Rattle.vbi_side.specs.declared.pace.Pace.TheVariants.{Video, Film}
use Rattle.vbi_side.specs.declared.sighting.Sighting.{Sighting}
use Rattle.vbi_side.specs.declared.sighting.Sightings.{Sightings}
use Rattle.vbi_side.specs.Beliefs.{reach, field_weight, window_weight, support_of}
use Rattle.vbi_side.specs.Paces.{fits, stays}
use Rattle.vbi_side.specs.Sightings.{Shows, Has}
use Rattle.vbi_side.proofs.Filling.{shown_within}
use Rattle.vbi_side.proofs.Weights.{field_passes, field_weight-most, spread, weight_at-passes}
use Rattle.vbi_seek.specs.ChapterSearch.{said_below, TellChapter}
use Rattle.vbi_seek.specs.NumberSpots.{together, sum_below, run_weight, IsTold, TellsIn}

-- ---- one field tells nothing

-- another field than this one shows a number
abbrev OtherShows : List Sightings → ℕ → Type 0
OtherShows seen i = (j m : ℕ) × (j ≢ i) × Shows (slice_get seen j) m

-- what weighs more than one field can is seen on another one, too
window_other : (test : ℕ → ℕ → Bool) (seen : List Sightings) (i : ℕ) → 5 ≤ window_weight test seen i
    → OtherShows seen i
window_other test seen i more = elim (spread test seen i reach (2 * reach + 1)) [
  | inl (most, none) ↦ absurd (omega (arith, most, more))
  | inr (k, less, apart, weighs) ↦
      let p = weight_at-passes test seen i k weighs in
      (i + k - reach, p.1.0, λ e. apart (omega (arith, e, p.0)), p.1.1)
]

-- the sum is at most what field c weighs, or another field weighs something
abbrev SumSpread : (ℕ → ℕ → Bool) → List Sightings → ℕ → ℕ → Type 0
SumSpread test seen c k =
    ((sum_below test seen k ≤ 4) × (k ≤ c → sum_below test seen k ≡ 0))
    ⊎ ((j : ℕ) × (j ≢ c) × (0 < field_weight (test j) (slice_get seen j)))

sum_spread : (test : ℕ → ℕ → Bool) (seen : List Sightings) (c k : ℕ) → SumSpread test seen c k
unfolding sum_below
sum_spread test seen c zero = inl (omega arith, λ h. refl)
sum_spread test seen c (suc k) = go (sum_spread test seen c k)
    (leb_tells 1 (field_weight (test k) (slice_get seen k))) (eqb_tells k c)
  where
    go : SumSpread test seen c k
        → ((nat_le 1 (field_weight (test k) (slice_get seen k)) ≡ true)
        × (1 ≤ field_weight (test k) (slice_get seen k)))
        ⊎ ((nat_le 1 (field_weight (test k) (slice_get seen k)) ≡ false)
        × (field_weight (test k) (slice_get seen k) < 1))
        → ((eqb k c ≡ true) × (k ≡ c)) ⊎ ((eqb k c ≡ false) × (k ≢ c)) → SumSpread test seen c (suc k)
    go (inr found) weighs at = inr found
    go (inl (most, none)) (inr (f, lt)) at =
        inl (omega (arith, most, lt), λ h. omega (arith, none (omega (arith, h)), lt))
    go (inl (most, none)) (inl (t, le)) (inr (f, apart)) = inr (k, apart, omega (arith, le))
    go (inl (most, none)) (inl (t, le)) (inl (s, e)) = inl (
      omega (arith, none (omega (arith, e)), field_weight-most (test k) (slice_get seen k)),
      λ h. absurd (omega (arith, h, e)),
    )

sum_other : (test : ℕ → ℕ → Bool) (seen : List Sightings) (i : ℕ) → together ≤ sum_below test seen (length seen)
    → OtherShows seen i
sum_other test seen i more = elim (sum_spread test seen i (length seen)) [
  | inl (most, none) ↦ absurd (omega (arith, most, more))
  | inr (j, apart, weighs) ↦
      let p = field_passes (test j) (slice_get seen j) weighs in (j, p.0, apart, p.1)
]

support_other : (pace : Pace) (seen : List Sightings) (i n : ℕ) → together ≤ support_of pace seen i n
    → OtherShows seen i
support_other pace seen i n more = elim (leb_tells 5 (window_weight (fits pace i n) seen i)) [
  | inl (t, le) ↦ window_other (fits pace i n) seen i le
  | inr (f, lt) ↦ window_other (stays i n) seen i (omega (arith, more, lt))
]

pub told_other : (seen : List Sightings) (i n : ℕ) → IsTold seen i n → OtherShows seen i
told_other seen i n (inl video) = support_other Video seen i n video
told_other seen i n (inr (inl film)) = support_other Film seen i n film
told_other seen i n (inr (inr run)) = sum_other (fits Video i n) seen i run

-- ---- whether fields tell a number

told_or_not : (seen : List Sightings) (i n : ℕ) → IsTold seen i n ⊎ (IsTold seen i n → ⊥)
told_or_not seen i n = go (leb_tells together (support_of Video seen i n))
    (leb_tells together (support_of Film seen i n)) (leb_tells together (run_weight seen i n))
  where
    go : ((nat_le together (support_of Video seen i n) ≡ true) × (together ≤ support_of Video seen i n))
        ⊎ ((nat_le together (support_of Video seen i n) ≡ false) × (support_of Video seen i n < together))
        → ((nat_le together (support_of Film seen i n) ≡ true) × (together ≤ support_of Film seen i n))
        ⊎ ((nat_le together (support_of Film seen i n) ≡ false) × (support_of Film seen i n < together))
        → ((nat_le together (run_weight seen i n) ≡ true) × (together ≤ run_weight seen i n))
        ⊎ ((nat_le together (run_weight seen i n) ≡ false) × (run_weight seen i n < together))
        → IsTold seen i n ⊎ (IsTold seen i n → ⊥)
    go (inl (t, le)) _ _ = inl (inl le)
    go _ (inl (t, le)) _ = inl (inr (inl le))
    go _ _ (inl (t, le)) = inl (inr (inr le))
    go (inr (f, lt)) (inr (g, less)) (inr (h, few)) = inr (λ told. elim told [
      | inl a ↦ absurd (omega (arith, a, lt))
      | inr (inl a) ↦ absurd (omega (arith, a, less))
      | inr (inr a) ↦ absurd (omega (arith, a, few))
    ])

-- ---- the first that tell something, whatever it takes

module _ (Told : List Sightings → ℕ → ℕ → Type 0)
    (or_not : (seen : List Sightings) (i n : ℕ) → Told seen i n ⊎ (Told seen i n → ⊥)) where
  -- one of these fields shows n, which is told in it
  abbrev TellsBy : List Sightings → ℕ → Type 0
  TellsBy seen n = (i : ℕ) × Shows (slice_get seen i) n × Told seen i n

  -- field i of these tells the number of one of its lines, or it tells none
  abbrev TellsHere : List Sightings → ℕ → Option Sightings → Type 0
  TellsHere seen i field =
      ((n : ℕ) × Shows field n × Told seen i n) ⊎ ((n : ℕ) → Shows field n → Told seen i n → ⊥)

  line_or_not : (seen : List Sightings) (i : ℕ) (line : Sighting)
      → ((n : ℕ) × Has line n × Told seen i n) ⊎ ((n : ℕ) → Has line n → Told seen i n → ⊥)
  line_or_not seen i line = elim (leb_tells 1 line.weight) [
    | inr (f, lt) ↦ inr (λ n has told. absurd (omega (arith, has.0, lt)))
    | inl (t, le) ↦ elim (or_not seen i line.number) [
      | inl told ↦ inl (line.number, (le, refl), told)
      | inr never ↦ inr (λ n has told. never (subst (Told seen i) (sym has.1) told))
    ]
  ]

  here_or_not : (seen : List Sightings) (i : ℕ) (field : Option Sightings) → TellsHere seen i field
  here_or_not seen i None = inr (λ n shown told. shown)
  here_or_not seen i (Some field) = elim (line_or_not seen i field.line_17) [
    | inl (n, has, told) ↦ inl (n, inl has, told)
    | inr never ↦ elim (line_or_not seen i field.line_18) [
      | inl (n, has, told) ↦ inl (n, inr has, told)
      | inr none ↦ inr (λ n shown told. elim shown [ inl has ↦ never n has told | inr has ↦ none n has told ])
    ]
  ]

  below_or_not : (seen : List Sightings) (k : ℕ) → ((n : ℕ) × TellsBy seen n)
      ⊎ ((i n : ℕ) → i < k → Shows (slice_get seen i) n → Told seen i n → ⊥)
  below_or_not seen zero = inr (λ i n less shown told. absurd (omega (arith, less)))
  below_or_not seen (suc k) = elim (below_or_not seen k) [
    | inl found ↦ inl found
    | inr none ↦ elim (here_or_not seen k (slice_get seen k)) [
      | inl (n, shown, told) ↦ inl (n, (k, shown, told))
      | inr never ↦ inr (λ i n less shown told. elim (eqb_tells i k) [
        | inl (t, same) ↦ never n (subst (λ j. Shows (slice_get seen j) n) same shown)
            (subst (λ j. Told seen j n) same told)
        | inr (f, other) ↦ none i n (omega (arith, less, other)) shown told
      ])
    ]
  ]

  tells_or_not : (seen : List Sightings) → ((n : ℕ) × TellsBy seen n) ⊎ ((n : ℕ) → TellsBy seen n → ⊥)
  tells_or_not seen = elim (below_or_not seen (length seen)) [
    | inl found ↦ inl found
    | inr none ↦ inr (λ n tells. none tells.0 n (shown_within seen tells.0 n tells.1) tells.1 tells.2)
  ]

  -- of lists that go on one by one, those below the kth of which the first tells something, or none does
  first_below : (part : ℕ → List Sightings) (k : ℕ)
      → ((j n : ℕ) × (j < k) × TellsBy (part j) n × ((h m : ℕ) → h < j → TellsBy (part h) m → ⊥))
      ⊎ ((h m : ℕ) → h < k → TellsBy (part h) m → ⊥)
  first_below part zero = inr (λ h m less tells. absurd (omega (arith, less)))
  first_below part (suc k) = elim (first_below part k) [
    | inl (j, n, less, tells, none) ↦ inl (j, n, omega (arith, less), tells, none)
    | inr none ↦ elim (tells_or_not (part k)) [
      | inl (n, tells) ↦ inl (k, n, omega arith, tells, none)
      | inr never ↦ inr (λ h m less tells. elim (eqb_tells h k) [
        | inl (t, same) ↦ never m (subst (λ j. TellsBy (part j) m) same tells)
        | inr (f, other) ↦ none h m (omega (arith, less, other)) tells
      ])
    ]
  ]

  pub first_by : (part : ℕ → List Sightings) (k n : ℕ) → TellsBy (part k) n
      → (j m : ℕ) × (j ≤ k) × TellsBy (part j) m × ((h l : ℕ) → h < j → TellsBy (part h) l → ⊥)
  first_by part k n tells = elim (first_below part (suc k)) [
    | inl (j, m, less, told, none) ↦ (j, m, omega (arith, less), told, none)
    | inr none ↦ absurd (none k n (omega arith) tells)
  ]

-- the first that tell a number
pub first_told : (part : ℕ → List Sightings) (k n : ℕ) → TellsIn (part k) n
    → (j m : ℕ) × (j ≤ k) × TellsIn (part j) m × ((h l : ℕ) → h < j → TellsIn (part h) l → ⊥)
first_told = first_by IsTold told_or_not

-- ---- chapters

chapter_or_not : (seen : List Sightings) (i n : ℕ)
    → (together ≤ said_below seen n (length seen)) ⊎ (together ≤ said_below seen n (length seen) → ⊥)
chapter_or_not seen i n = elim (leb_tells together (said_below seen n (length seen))) [
  | inl (t, le) ↦ inl le
  | inr (f, lt) ↦ inr (λ told. absurd (omega (arith, told, lt)))
]

-- the first that tell a chapter
pub first_chapter : (part : ℕ → List Sightings) (k n : ℕ) → TellChapter (part k) n
    → (j m : ℕ) × (j ≤ k) × TellChapter (part j) m × ((h l : ℕ) → h < j → TellChapter (part h) l → ⊥)
first_chapter = first_by (λ seen i n. together ≤ said_below seen n (length seen)) chapter_or_not

-- it takes two fields to tell a chapter
pub chapter_other : (seen : List Sightings) (i n : ℕ) → together ≤ said_below seen n (length seen) → OtherShows seen i
chapter_other seen i n more = sum_other (λ j m. m == n) seen i more
