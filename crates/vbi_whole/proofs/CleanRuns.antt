-- A run of a disc, each number of which was read on both lines: all its numbers are believed.
use Rattle.std.proofs.Common.{◌≡◌, ℕ, zero, suc, ◌+◌, ◌*◌, ◌-◌, ◌<◌, ◌≤◌, Bool, true, false, List, length}
use Rattle.std.proofs.Common.{refl, arith, ap, sym, ◌∙◌, subst, inl, inr, eq-eqb}
use Rattle.std.specs.Prelude.{Option, Some, None, slice_get, ◌==◌, ◌&&◌, ◌%◌}
use Rattle.std.proofs.lemmas.Bool.{le-leb}
use Rattle.std.proofs.lemmas.Bool.Decides.{eqb_tells}
use Rattle.vbi_whole.specs.Types.{System, Ntsc, Pal, Place, Counted, Pictures, Times, Number, Pace, Video, Film}
use Rattle.vbi_whole.specs.Types.{Sighting, Sightings}
use Rattle.vbi_side.specs.Sightings.{Shows}
use Rattle.vbi_side.specs.Paces.{fits}
use Rattle.vbi_side.specs.Beliefs.{reach, sighting_weight, field_weight, weight_at, weight_below, window_weight}
use Rattle.vbi_side.specs.Beliefs.{Believed}
use Rattle.vbi_whole.specs.NumbersOnBoth.{place_or, last_known, is_turn, is_odd, odd_turns, is_on_both}
use Rattle.vbi_whole.specs.CleanRuns.{IsReadTwice, IsOneOfThree}
use Rattle.vbi_side.specs.PaceSearch.{IsFound}
use Rattle.vbi_side.specs.Numbers.{AreAnswers, IsMarked}
use Rattle.vbi_side.specs.Truth.{IsNear}
use Rattle.vbi_side.proofs.Anchors.{marked_is}
use Rattle.vbi_side.proofs.Filling.{answers_tell}
use Rattle.vbi_whole.proofs.NoReason.{both_false}
use Rattle.vbi_side.proofs.Weights.{weight_below_more, weight_below-grows}
use Rattle.vbi_side.proofs.Whole.{some_most, video_most}

-- ---- one number on both lines

-- line 17 has the number
on_17 : (field : Sightings) (n : ℕ) → field.line_17.number ≡ field.line_18.number → Shows (Some field) n
    → field.line_17.number ≡ n
on_17 field n same (inl h) = h.1
on_17 field n same (inr h) = same ∙ h.1

-- a field whose lines both show one shows no other
one_read : (fields : List Sightings) (i m n : ℕ) → IsReadTwice fields i m → Shows (slice_get fields i) n → m ≡ n
one_read fields i m n ((field, at, first, second, same), shown) other =
    sym (on_17 field m same (subst (λ o. Shows o m) at shown)) ∙ on_17 field n same (subst (λ o. Shows o n) at other)

sighting_full : (test : ℕ → Bool) (sighting : Sighting) (n : ℕ) → sighting.number ≡ n → 2 ≤ sighting.weight
    → test n ≡ true → 2 ≤ sighting_weight test sighting
sighting_full test sighting n is sure passes =
    let e : test sighting.number ≡ true = ap test is ∙ passes in rw e (omega (arith, sure))

-- both lines weigh
pub twice_weighs : (test : ℕ → Bool) (fields : List Sightings) (i n : ℕ) → IsReadTwice fields i n → test n ≡ true
    → 4 ≤ field_weight test (slice_get fields i)
twice_weighs test fields i n h1 h2 = grind (arith, on_17, sighting_full)

-- ---- two and three fields of the window

below_has : (test : ℕ → ℕ → Bool) (fields : List Sightings) (i k n : ℕ) → k < n
    → weight_below test fields i k + weight_at test fields i k ≤ weight_below test fields i n
below_has test fields i k n less = omega (
  arith,
  weight_below_more test fields i k,
  weight_below-grows test fields i (k + 1) n (omega (arith, less)),
)

at_near : (test : ℕ → ℕ → Bool) (fields : List Sightings) (i j : ℕ) → IsNear i j
    → weight_at test fields i (j + reach - i) ≡ field_weight (test j) (slice_get fields j)
at_near test fields i j near = grind (arith, le-leb)

pub two_weigh : (test : ℕ → ℕ → Bool) (fields : List Sightings) (i a b : ℕ) → IsNear i a → IsNear i b → a < b
    → 4 ≤ field_weight (test a) (slice_get fields a) → 4 ≤ field_weight (test b) (slice_get fields b)
    → 8 ≤ window_weight test fields i
two_weigh test fields i a b near last less one two = omega (
  arith,
  below_has test fields i (a + reach - i) (b + reach - i) (omega (arith, less, near.0)),
  below_has test fields i (b + reach - i) (2 * reach + 1) (omega (arith, last.1)),
  at_near test fields i a near,
  at_near test fields i b last,
  one,
  two,
)

pub three_weigh : (test : ℕ → ℕ → Bool) (fields : List Sightings) (i a b c : ℕ) → IsNear i a → IsNear i b → IsNear i c
    → a < b → b < c → 4 ≤ field_weight (test a) (slice_get fields a) → 4 ≤ field_weight (test b) (slice_get fields b)
    → 4 ≤ field_weight (test c) (slice_get fields c) → 12 ≤ window_weight test fields i
three_weigh test fields i a b c near next last less more one two three = omega (
  arith,
  below_has test fields i (a + reach - i) (b + reach - i) (omega (arith, less, near.0)),
  below_has test fields i (b + reach - i) (c + reach - i) (omega (arith, more, next.0)),
  below_has test fields i (c + reach - i) (2 * reach + 1) (omega (arith, last.1)),
  at_near test fields i a near,
  at_near test fields i b next,
  at_near test fields i c last,
  one,
  two,
  three,
)

-- ---- the numbers of a run

-- three in a row
in_row : (number : ℕ → ℕ) (q d : ℕ) → number (q + 1) ≡ number q + 1 → number (q + 2) ≡ number q + 2 → d ≤ 2
    → number (q + d) ≡ number q + d
in_row number q d h1 h2 h3 = grind arith

module _ (number : ℕ → ℕ) (fields : List Sightings) (begin last : ℕ)
    (each : (p : ℕ) → p ≤ last → IsReadTwice fields (begin + 2 * p) (number p))
    (others : (i n : ℕ) → Shows (slice_get fields i) n → (p : ℕ) × (p ≤ last) × (i ≡ begin + 2 * p))
    (three : (p : ℕ) → p ≤ last → IsOneOfThree number last p) where
  -- the weight of one that goes on with picture p
  goes_with : (p r : ℕ) → r ≤ last → r + number p ≡ p + number r
      → 4 ≤ field_weight (fits Video (begin + 2 * p) (number p) (begin + 2 * r)) (slice_get fields (begin + 2 * r))
  goes_with p r inside on =
      twice_weighs (fits Video (begin + 2 * p) (number p) (begin + 2 * r)) fields (begin + 2 * r) (number r)
      (each r inside)
      (eq-eqb (begin + 2 * r + 2 * number p) (begin + 2 * p + 2 * number r) (omega (arith, on)))

  supported : (p : ℕ) → p ≤ last
      → 12 ≤ window_weight (fits Video (begin + 2 * p) (number p)) fields (begin + 2 * p)
  supported p le =
      let (q, from, to, inside, one, two) = three p le in
      let place : q + (p - q) ≡ p = omega (arith, from) in
      let is : number p ≡ number q + (p - q)
      = sym (ap number place) ∙ in_row number q (p - q) one two (omega (arith, from, to)) in
      three_weigh (fits Video (begin + 2 * p) (number p)) fields (begin + 2 * p) (begin + 2 * q) (begin + 2 * (q + 1))
      (begin + 2 * (q + 2)) (omega (arith, from, to), omega (arith, from, to)) (
        omega (arith, from, to),
        omega (arith, from, to),
      ) (omega (arith, from, to), omega (arith, from, to)) (omega arith) (omega arith)
      (goes_with p q (omega (arith, inside)) (omega (arith, is, from)))
      (goes_with p (q + 1) (omega (arith, inside)) (omega (arith, is, from, one)))
      (goes_with p (q + 2) inside (omega (arith, is, from, two)))

  -- a number that a field shows is its picture's
  pub shown_is : (i n : ℕ) → Shows (slice_get fields i) n
      → (p : ℕ) × (p ≤ last) × (i ≡ begin + 2 * p) × (number p ≡ n)
  shown_is i n shown =
      let (p, le, at) = others i n shown in (
        p,
        le,
        at,
        one_read fields i (number p) n (subst (λ k. IsReadTwice fields k (number p)) (sym at) (each p le))
            shown,
      )

  pub all_believed : (i n : ℕ) → Shows (slice_get fields i) n → Believed Video fields i n
  all_believed i n shown =
      let (p, le, at, is) = shown_is i n shown in
      let much : 12 ≤ window_weight (fits Video i n) fields i
      = subst (λ m. 12 ≤ window_weight (fits Video i m) fields i) is
      (subst (λ k. 12 ≤ window_weight (fits Video k (number p)) fields k) (sym at) (supported p le)) in
      record {
        shown = shown;
        enough = omega (arith, much);
        ahead = λ m other apart. let (r, less, there, same) = shown_is i m other in
            let e : r ≡ p = omega (arith, at, there) in
            absurd (apart (sym same ∙ ap number e ∙ is));
      }

  -- it is found to be video
  pub finds_video : (system : System) (counted : Counted) (pace : Pace) → IsFound system counted fields pace
      → pace ≡ Video
  finds_video Ntsc Pictures pace (video, film, videos, films, is) =
      is ∙ video_most video film (some_most Film Video fields (length fields) film video
      (λ i m b. all_believed i m b.shown) films videos)
  finds_video Ntsc Times pace found = found
  finds_video Pal counted pace found = found

  module _ (answers : List Number) (are : AreAnswers Video fields answers) where
    -- a number that is answered as believed is its picture's
    pub place_of : (i n : ℕ) → IsMarked answers i n → (p : ℕ) × (p ≤ last) × (i ≡ begin + 2 * p) × (number p ≡ n)
    place_of i n at = shown_is i n (marked_is fields answers i n are at).shown

    pub shown_marked : (i n : ℕ) → Shows (slice_get fields i) n → IsMarked answers i n
    shown_marked i n shown = answers_tell Video fields answers are i n (all_believed i n shown)

    -- each picture's is
    pub marked_at : (p : ℕ) → p ≤ last → IsMarked answers (begin + 2 * p) (number p)
    marked_at p le = shown_marked (begin + 2 * p) (number p) (each p le).1

    -- ---- they stand on one field of a picture

    marked_here : (k : ℕ) (answer : Number) → slice_get answers k ≡ Some answer → answer.state ≡ 1
        → IsMarked answers k answer.number
    marked_here k answer at state =
        at ∙ ap (λ (s : ℕ). Some (record { number = answer.number; state = s })) state

    last_marked : (k : ℕ) (place : Place) → last_known answers k ≡ Some place
        → IsMarked answers place.field place.number
    unfolding last_known
    last_marked zero place is = absurd (let none : None ≡ Some place = is in cc)
    last_marked (suc k) place is = go (last_marked k place) (slice_get answers k) refl is
      where
        go : (last_known answers k ≡ Some place → IsMarked answers place.field place.number) → (here : Option Number)
            → slice_get answers k ≡ here → place_or (last_known answers k) k here ≡ Some place
            → IsMarked answers place.field place.number
        go before None at e = before e
        go before (Some answer) at e = elim (eqb_tells answer.state 1) [
          | inl (t, state) ↦
              let one : Some (record { field = k; number = answer.number }) ≡ Some place = rw t at e in
              subst (λ (o : Place). IsMarked answers o.field o.number) (let h = one in cc)
              (marked_here k answer at state)
          | inr (f, other) ↦ before (rw f at e)
        ]

    not_odd : (k : ℕ) (before : Option Place) (here : Option Number) → last_known answers k ≡ before
        → slice_get answers k ≡ here → (is_turn before here && is_odd before k) ≡ false
    not_odd k None here was at = refl
    not_odd k (Some place) None was at = refl
    not_odd k (Some place) (Some answer) was at = elim (eqb_tells answer.state 1) [
      | inr (f, other) ↦ rw f refl
      | inl (t, state) ↦
          let (p, le, first, same) = place_of place.field place.number (last_marked k place was) in
          let (r, less, second, alike) = place_of k answer.number (marked_here k answer at state) in
          both_false (is_turn (Some place) (Some answer)) (((place.field + k) % 2) == 1)
          (elim (eqb_tells ((place.field + k) % 2) 1) [
            | inl (u, odd) ↦ absurd (omega (arith, odd, first, second))
            | inr (u, even) ↦ u
          ])
    ]

    none_odd : (k : ℕ) → odd_turns answers k ≡ 0
    unfolding odd_turns
    none_odd zero = refl
    none_odd (suc k) =
        let e = not_odd k (last_known answers k) (slice_get answers k) refl refl in rw e (none_odd k)

    pub one_field : is_on_both answers ≡ false
    one_field = let e = none_odd (length answers) in rw e refl
