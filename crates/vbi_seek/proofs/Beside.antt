-- Which numbers the fields tell beside the one that is sought, and when they are those of the whole side.
use Rattle.std.proofs.Common.{◌≡◌, ℕ, ◌+◌, ◌-◌, ◌<◌, ◌≤◌, List, length, ap, sym, subst, ◌∙◌, arith, inl, inr, refl}
use Rattle.std.specs.Prelude.{◌⊎◌, Option, Some, None, IfSome, get_or, slice_get}
use Rattle.std.proofs.Math.Nat.{eq-or-lt_of_le}
use Rattle.std.proofs.lemmas.Bool.Decides.{leb_tells}
use Rattle.std.proofs.lemmas.List.FromFn.{length-map-range_with_len}
use Rattle.std.proofs.lemmas.Option.{slice_get_within}
use Rattle.vbi_side.specs.declared.number.Number.{Number}
use Rattle.vbi_side.specs.declared.pace.Pace as paces
use Rattle.vbi_side.specs.declared.sighting.Sightings.{Sightings}
use Rattle.vbi_side.specs.Numbers.{nothing, believed, IsAnswer, IsFirst, IsMarked}
use Rattle.vbi_side.proofs.Filling.{one_answer, shown_within, answer_believed}
use Rattle.vbi_seek.specs.declared.neighbours.Neighbour.{Neighbour}
use Rattle.vbi_seek.specs.declared.number_search.NumberSearch.{NumberSearch}
use Rattle.vbi_seek.specs.declared.number_search.Around.{Around}
use Rattle.vbi_seek.specs.declared.number_search.Sought.{Sought}
use Rattle.vbi_seek.specs.Neighbours.{Way, down, up, IsNearest, IsNearestAt, IsBelieved, IsToldThere, TellNone, IsNone}
use Rattle.vbi_seek.specs.Neighbours.{IsBeside, AreRising, IsGap, Span, span_of, all_of, AreNeighbours, AreAround}
use Rattle.vbi_seek.specs.Neighbours.{IsLookedFor, AreLedTo}
use Rattle.vbi_seek.specs.NumbersAround.{among, numbers_of, IsJudgedAround}
use Rattle.vbi_seek.specs.NumberSearch.{Numbers, shown_at, shown_of}
use Rattle.vbi_seek.proofs.Answered.{all_shown, judged_among, judged_in, one_among}

-- ---- the fields in which the number is looked for

-- one of them that is believed to have a number is answered so
marked_at : (search : NumberSearch) (a : Around) (pace : paces.Pace) (numbers : List Number) (i n : ℕ)
    → IsJudgedAround search a pace numbers → a.from ≤ i → i < a.to → IsBelieved pace (all_shown search) i n
    → (i - a.from < length (among a numbers)) × IsMarked (among a numbers) (i - a.from) n
marked_at search a pace numbers i n judged from to told =
    (slice_get_within (among a numbers) (i - a.from) (believed n) here, here)
  where
    x : Number
    x = get_or (among a numbers) (i - a.from) nothing

    there : slice_get (among a numbers) (i - a.from) ≡ Some x
    there = one_among search a pace numbers (i - a.from) nothing judged (omega (arith, from, to))

    here : IsMarked (among a numbers) (i - a.from) n
    here = there ∙ ap Some (one_answer pace (all_shown search) i x (believed n)
        (subst (λ f. IsAnswer pace (all_shown search) f x) (omega (arith, from))
        (judged_among search a pace numbers (i - a.from) x judged there).2)
        told)

-- a neighbour that stands at a field of these, as it is answered
abbrev pub StandsAt : Around → List Number → Neighbour → ℕ → Type 0
StandsAt a numbers neighbour i =
    (neighbour.field ≡ a.from + i) × (slice_get (among a numbers) i ≡ Some neighbour.number)

some_same : (x y : Number) → Some x ≡ Some y → x ≡ y
some_same x y e = cc

-- of two fields of them that comes later this way which does of their places among them
abbrev pub Moves : Way → Type 0
Moves way = (i at from : ℕ) → from ≤ i → way.passed (i - from) at → way.passed i (from + at)

pub moves_down : Moves down
moves_down i at from on passed = omega (arith, on, passed)

pub moves_up : Moves up
moves_up i at from on passed = omega (arith, on, passed)

module _ (way : Way) (moves : Moves way) (search : NumberSearch) (a : Around) (pace : paces.Pace)
    (numbers : List Number) (judged : IsJudgedAround search a pace numbers) where
  nearest_among : (at m : ℕ) → IsNearestAt way (among a numbers) (length (among a numbers)) search.number at m
      → IsToldThere way (all_shown search) (span_of pace a) search.number (a.from + at) m
  nearest_among at m is = record {
    inside = (omega arith, here.0);
    told = here.2;
    lies = is.lies;
    nearest = λ i n from to told lies.
        let marked = marked_at search a pace numbers i n judged from to told in
        elim (is.nearest (i - a.from) n marked.0 marked.1 lies) [
          | inl nearer ↦ inl nearer
          | inr (same, passed) ↦ inr (same, moves i at a.from from passed)
        ];
  }
    where
      here : (a.from + at < a.to) × (slice_get numbers (a.from - a.first + at) ≡ Some (believed m))
          × IsAnswer pace (all_shown search) (a.from + at) (believed m)
      here = judged_among search a pace numbers at (believed m) judged is.told

  -- the last field this way with the nearest number among them is so in the side
  pub beside_among : (at : Option ℕ) (neighbour : Neighbour)
      → IsNearest way (among a numbers) (length (among a numbers)) search.number at
      → (at ≡ None → IsNone search.side.count neighbour) → IfSome at (StandsAt a numbers neighbour)
      → IsBeside way (all_shown search) search.side.count (span_of pace a) search.number neighbour
  beside_among None neighbour is none some = inr (
    none refl,
    λ i n from to told lies.
        let marked = marked_at search a pace numbers i n judged from to told in
        is (i - a.from) n marked.0 marked.1 lies,
  )
  beside_among (Some at) neighbour (m, is) none (field, there) = inl (
    m,
    some_same neighbour.number (believed m) (sym there ∙ is.told),
    subst (λ f. IsToldThere way (all_shown search) (span_of pace a) search.number f m) (sym field)
        (nearest_among at m is),
  )

-- ---- the whole side

-- each number that is told outside of these fields this way is further off than one that is told among them, or is told
-- before it
abbrev IsFurther : Way → List Sightings → Span → ℕ → Type 0
IsFurther way shown span number = (field m i n : ℕ) → (span.from ≤ field) × (field < span.to)
    → IsBelieved span.pace shown field m → (span.from ≤ i → i < span.to → ⊥) → IsBelieved span.pace shown i n
    → way.lies n number → way.lies n m ⊎ ((n ≡ m) × way.passed i field)

-- the nearest number of some fields is that of the whole side, if those of others are further off, and these fields
-- tell one if the side does
whole_side : (way : Way) (shown : List Sightings) (count : ℕ) (span : Span) (number : ℕ) (neighbour : Neighbour)
    → span.to ≤ count → IsFurther way shown span number
    → ((i n : ℕ) → IsBelieved span.pace shown i n → way.lies n number → TellNone way shown span number → ⊥)
    → IsBeside way shown count span number neighbour
    → IsBeside way shown count (all_of span.pace count) number neighbour
whole_side way shown count span number neighbour inside further there (inr (none, lacks)) =
    inr (none, λ i n begin end told lies. there i n told lies lacks)
whole_side way shown count span number neighbour inside further there (inl (m, is, nearest)) = inl (
  m,
  is,
  record {
    inside = (omega arith, omega (arith, nearest.inside, inside));
    told = nearest.told;
    lies = nearest.lies;
    nearest = λ i n begin end told lies. elim (leb_tells span.from i) [
      | inr (t, out) ↦ further neighbour.field m i n nearest.inside nearest.told
          (λ on up_to. omega (arith, on, out)) told lies
      | inl (t, on) ↦ elim (leb_tells span.to i) [
        | inl (s, out) ↦ further neighbour.field m i n nearest.inside nearest.told
            (λ from up_to. omega (arith, up_to, out)) told lies
        | inr (s, up_to) ↦ nearest.nearest i n on up_to told lies
      ]
    ];
  },
)

-- so it is of lower numbers on a side along which numbers rise, if none is told after these fields
lower_further : (shown : List Sightings) (span : Span) (number : ℕ) → AreRising span.pace shown
    → ((i n : ℕ) → span.to ≤ i → IsBelieved span.pace shown i n → n < number → ⊥)
    → IsFurther down shown span number
lower_further shown span number rising later field m i n inside its outside told less =
    elim (leb_tells span.to i) [
      | inl (t, out) ↦ absurd (later i n out told less)
      | inr (t, up_to) ↦
          let earlier : i < field = elim (leb_tells span.from i) [
            | inl (s, on) ↦ absurd (outside on up_to)
            | inr (s, out) ↦ omega (arith, out, inside)
          ] in
          elim (eq-or-lt_of_le {n = n} {m = m} (rising i field n m earlier told its)) [
            | inl same ↦ inr (same, omega (arith, earlier))
            | inr fewer ↦ inl fewer
          ]
    ]

-- so it is of higher ones, if none is told before these fields
higher_further : (shown : List Sightings) (span : Span) (number : ℕ) → AreRising span.pace shown
    → ((i n : ℕ) → i < span.from → IsBelieved span.pace shown i n → number < n → ⊥)
    → IsFurther up shown span number
higher_further shown span number rising earlier field m i n inside its outside told more =
    elim (leb_tells span.from i) [
      | inr (t, out) ↦ absurd (earlier i n out told more)
      | inl (t, on) ↦
          let later : field < i = elim (leb_tells span.to i) [
            | inr (s, up_to) ↦ absurd (outside on up_to)
            | inl (s, out) ↦ omega (arith, out, inside)
          ] in
          elim (eq-or-lt_of_le {n = m} {m = n} (rising field i m n later its told)) [
            | inl same ↦ inr (sym same, omega (arith, later))
            | inr fewer ↦ inl fewer
          ]
    ]

-- if numbers rise along the side and both neighbours are told, they are those of the whole side
both_whole : (shown : List Sightings) (count : ℕ) (span : Span) (number : ℕ) (before after : Neighbour)
    → span.to ≤ count → AreRising span.pace shown → (before.field < count) × (after.field < count)
    → IsBeside down shown count span number before × IsBeside up shown count span number after
    → IsBeside down shown count (all_of span.pace count) number before
    × IsBeside up shown count (all_of span.pace count) number after
both_whole shown count span number before after inside rising has (inr ((field, none), lacks), told) =
    absurd (omega (arith, field, has))
both_whole shown count span number before after inside rising has (inl told, inr ((field, none), lacks)) =
    absurd (omega (arith, field, has))
both_whole shown count span number before after inside rising has (inl (m, is, lower), inl (h, its, higher)) = (
  whole_side down shown count span number before inside
      (lower_further shown span number rising (λ i n out told less. omega (
        arith,
        less,
        higher.lies,
        rising after.field i h n (omega (arith, higher.inside, out)) higher.told told,
      )))
      (λ i n told less lacks. lacks before.field m lower.inside.0 lower.inside.1 lower.told lower.lies)
      (inl (m, is, lower)),
  whole_side up shown count span number after inside
      (higher_further shown span number rising (λ i n out told more. omega (
        arith,
        more,
        lower.lies,
        rising i before.field n m (omega (arith, lower.inside, out)) told lower.told,
      )))
      (λ i n told more lacks. lacks after.field h higher.inside.0 higher.inside.1 higher.told higher.lies)
      (inl (h, its, higher)),
)

-- so they are, if there is a gap for the number at a field, and the number was looked for in all around it
gap_whole : (shown : List Sightings) (count : ℕ) (span : Span) (number t : ℕ) (sought : Sought)
    → span.to ≤ count → length shown ≡ count → AreAround count t span.from span.to → IsGap span.pace shown number t
    → AreNeighbours shown count span number sought → AreNeighbours shown count (all_of span.pace count) number sought
gap_whole shown count span number t sought inside long around gap (before, after) = (
  whole_side down shown count span number sought.before inside
      (lower_further shown span number gap.rising
      (λ i n out told less. omega (arith, out, (gap.lower i n told less).0, here)))
      (λ i n told less lacks. let (j, m, near, its, lower) = (gap.lower i n told less).1 in
      let up_to = (gap.lower j m its lower).0 in
      let there = around j near (omega (arith, up_to)) (omega (arith, up_to, gap.inside, long)) in
      lacks j m there.0 there.1 its lower)
      before,
  whole_side up shown count span number sought.after inside
      (higher_further shown span number gap.rising
      (λ i n out told more. omega (arith, out, (gap.higher i n told more).0, here)))
      (λ i n told more lacks. let (j, m, near, its, higher) = (gap.higher i n told more).1 in
      let on = (gap.higher j m its higher).0 in
      let there = around j (omega (arith, on)) near (omega (arith, within j m its, long)) in
      lacks j m there.0 there.1 its higher)
      after,
)
  where
    here : (span.from ≤ t) × (t < span.to)
    here = around t (omega arith) (omega arith) (omega (arith, gap.inside, long))

    within : (j m : ℕ) → IsBelieved span.pace shown j m → j < length shown
    within j m its = shown_within shown j m (answer_believed span.pace shown j m (believed m) its refl).shown

-- ---- where the number was looked for

-- the first of them with the number is one of them
pub first_inside : (search : NumberSearch) (a : Around) (pace : paces.Pace) (numbers : List Number) (at : ℕ)
    → IsJudgedAround search a pace numbers → IsFirst (among a numbers) search.number (Some at)
    → (a.from ≤ a.from + at) × (a.from + at < a.to)
first_inside search a pace numbers at judged ((answer, shown, known), others) =
    (omega arith, (judged_among search a pace numbers at answer judged shown).0)

-- it was looked for in the fields in which it was, whatever was found
pub looked_for : (search : NumberSearch) (a : Around) (pace : paces.Pace) (numbers : List Number) (sought : Sought)
    → IsJudgedAround search a pace numbers → (a.from + 24 ≤ a.to) ⊎ ((a.from ≡ 0) × (a.to ≡ search.side.count))
    → a.end - a.first ≤ sought.looked
    → (sought.field < search.side.count
    → (a.from ≤ sought.field) × (sought.field < a.to) × (sought.pace ≡ Some pace))
    → AreNeighbours (all_shown search) search.side.count (span_of pace a) search.number sought
    → IsLookedFor (numbers_of search) search.number sought (span_of pace a)
looked_for search a pace numbers sought judged wide few found told = record {
  inside = (omega (arith, judged.window.order), omega (arith, judged.window.order));
  wide = wide;
  judged = λ i from to.
      (a.first, a.end - a.first, few, judged_in search a pace numbers i judged from to);
  found = found;
  told = told;
  rising = λ rising has. both_whole (all_shown search) search.side.count (span_of pace a) search.number sought.before
      sought.after (omega (arith, judged.window.order)) rising has told;
}

-- if it was looked for in all fields around one to which the fields lead, the neighbours are those of the whole side if
-- there is a gap for the number
pub led_to : (numbers : Numbers) (number : ℕ) (sought : Sought) (span : Span) (t : ℕ)
    → IsLookedFor numbers number sought span → AreAround numbers.side.count t span.from span.to
    → AreLedTo numbers number sought span t
led_to numbers number sought span t looked around = record {
  around = around;
  gap = λ gap. gap_whole (shown_of numbers) numbers.side.count span number t sought looked.inside.1
      (length-map-range_with_len (shown_at numbers) 0 numbers.side.count) around gap looked.told;
}
