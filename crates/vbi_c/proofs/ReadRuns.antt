-- What a part of the fields shows, if one number after the other is read of every other field of all.
use Rattle.std.proofs.Common.{◌≡◌, ◌≢◌, ℕ, ◌+◌, ◌*◌, ◌-◌, ◌/◌, ◌<◌, ◌≤◌, List, map}
use Rattle.std.proofs.Common.{refl, arith, ap, sym, ◌∙◌, subst, inl, inr}
use Rattle.std.specs.Prelude.{◌⊎◌, Some, slice_get}
use Rattle.std.specs.List.{range_with_len}
use Rattle.std.proofs.lemmas.Bool.Decides.{leb_tells}
use Rattle.std.proofs.lemmas.List.FromFn.{length-map-range_with_len}
use Rattle.vbi_c.specs.Types.{Sightings}
use Rattle.vbi_whole.specs.CleanRuns.{IsReadTwice, IsReadRun}
use Rattle.vbi_side.specs.Sightings.{Shows}
use Rattle.vbi_side.proofs.Filling.{shown_within}
use Rattle.vbi_seek.proofs.Shown.{at}

-- ---- one number on both lines

on_17 : (field : Sightings) (n : ℕ) → field.line_17.number ≡ field.line_18.number → Shows (Some field) n
    → field.line_17.number ≡ n
on_17 field n same (inl h) = h.1
on_17 field n same (inr h) = same ∙ h.1

pub one_read : (fields : List Sightings) (i m n : ℕ) → IsReadTwice fields i m → Shows (slice_get fields i) n → m ≡ n
one_read fields i m n ((field, at, first, second, same), shown) other =
    sym (on_17 field m same (subst (λ o. Shows o m) at shown)) ∙ on_17 field n same (subst (λ o. Shows o n) at other)

-- this many fields from this one on, by what each shows
abbrev pub part : (ℕ → Sightings) → ℕ → ℕ → List Sightings
part shows field k = map shows (range_with_len field k)

module _ (shows : ℕ → Sightings) (count : ℕ) (number : ℕ → ℕ) (begin last : ℕ)
    (read : IsReadRun number (part shows 0 count) begin last) where
  -- the number that a field shows is its picture's
  pub shown_is : (i n : ℕ) → Shows (slice_get (part shows 0 count) i) n
      → (p : ℕ) × (p ≤ last) × (i ≡ begin + 2 * p) × (number p ≡ n)
  shown_is i n shown =
      let (p, low, at) = read.others i n shown in (
        p,
        low,
        at,
        one_read (part shows 0 count) (begin + 2 * p) (number p) n (read.each p low)
            (subst (λ j. Shows (slice_get (part shows 0 count) j) n) at shown),
      )

  -- the last field of the run is one of all
  pub inside : begin + 2 * last < count
  inside = omega (
    arith,
    shown_within (part shows 0 count) (begin + 2 * last) (number last) (read.each last (omega arith)).1,
    length-map-range_with_len shows 0 count,
  )

  -- a field of a part is one of all
  same_field : (field k i : ℕ) → i < k → field + k ≤ count
      → slice_get (part shows field k) i ≡ slice_get (part shows 0 count) (field + i)
  same_field field k i less within =
      at shows field k i (field + i) less refl
      ∙ sym (at shows 0 count (field + i) (field + i) (omega (arith, less, within)) (omega arith))

  -- a number that a field of a part shows is its picture's
  pub in_part : (field k i n : ℕ) → field + k ≤ count → Shows (slice_get (part shows field k) i) n
      → (p : ℕ) × (p ≤ last) × (field + i ≡ begin + 2 * p) × (number p ≡ n) × (i < k)
  in_part field k i n within shown =
      let less : i < k = omega (
        arith,
        shown_within (part shows field k) i n shown,
        length-map-range_with_len shows field k,
      ) in
      let (p, low, place, is) = shown_is (field + i) n
      (subst (λ o. Shows o n) (same_field field k i less within) shown) in
      (p, low, place, is, less)

  -- if another field of a part shows a number, too, the part has two pictures of the run
  pub two_in_part : (field k i n : ℕ) → field + k ≤ count → Shows (slice_get (part shows field k) i) n
      → (j m : ℕ) × (j ≢ i) × Shows (slice_get (part shows field k) j) m
      → (p : ℕ) × (p ≤ last) × (number p ≡ n) × (field ≤ begin + 2 * p) × (begin + 2 * p < field + k)
      × (begin + 3 ≤ field + k) × (field + 2 ≤ begin + 2 * last)
  two_in_part field k i n within shown (j, m, apart, also) =
      let (p, low, place, is, less) = in_part field k i n within shown in
      let (r, high, there, same, more) = in_part field k j m within also in
      let differ : p ≢ r = λ e. apart (omega (arith, place, there, e)) in (
        p,
        low,
        is,
        omega (arith, place),
        omega (arith, place, less),
        omega (arith, place, there, less, more, differ),
        omega (arith, place, there, low, high, differ),
      )

  -- a picture that lies in a part is read there
  pub part_twice : (field k p : ℕ) → field ≤ begin + 2 * p → begin + 2 * p < field + k → field + k ≤ count → p ≤ last
      → IsReadTwice (part shows field k) (begin + 2 * p - field) (number p)
  part_twice field k p from to within low =
      let ((seen, there, first, second, same), shown) = read.each p low in
      let place : field + (begin + 2 * p - field) ≡ begin + 2 * p = omega (arith, from) in
      let here = same_field field k (begin + 2 * p - field) (omega (arith, from, to)) within
      ∙ ap (λ (j : ℕ). slice_get (part shows 0 count) j) place in
      ((seen, here ∙ there, first, second, same), subst (λ o. Shows o (number p)) (sym here) shown)

  -- if two pictures from each one on, that go on so, tell a number, fields from each field on tell one, few of them
  -- once the run has begun
  pub told_by : (Tell : ℕ → ℕ → ℕ → Type 0) (GoesOn : ℕ → Type 0) → 2 ≤ last
      → ((p : ℕ) → p + 1 ≤ last
      → (r : ℕ) × (p ≤ r) × (r ≤ p + 1) × (r + 1 ≤ last) × GoesOn r × (p ≡ 0 → r ≡ 0))
      → ((field k p : ℕ) → field ≤ begin + 2 * p → begin + 2 * (p + 1) < field + k → field + k ≤ count
      → p + 1 ≤ last → GoesOn p → Tell field k (number p))
      → (field : ℕ) → field + 2 ≤ begin + 2 * last
      → (k n : ℕ) × Tell field k n × (field + k ≤ count) × ((field + k ≤ begin + 3) ⊎ ((begin < field) × (k ≤ 6)))
  told_by Tell GoesOn two_more pair_from pair_tells field early =
      let p = (field - begin + 1) / 2 in
      let (r, from, to, low, on, zero_first) = pair_from p (omega (arith, early, two_more)) in
      let k = begin + 2 * (r + 1) + 1 - field in (
        k,
        number r,
        pair_tells field k r (omega (arith, from)) (omega (arith, from)) (omega (arith, inside, low, from)) low on,
        omega (arith, inside, low, from),
        elim (leb_tells field begin) [
          | inl (t, before) ↦
              let none : p ≡ 0 = omega (arith, before) in inl (omega (arith, zero_first none, before))
          | inr (f, after) ↦ inr (after, omega (arith, to, from, after))
        ],
      )
