-- The nearest word of a range of codes at one start.
-- in_range stands on it.
use Rattle.std.proofs.Common.{◌≡◌, ◌≢◌, ℕ, ◌≤◌, ◌<◌, ◌+◌, ◌-◌, ◌^◌, min, ◌⊎◌, inl, inr, refl, arith, ap, sym, subst}
use Rattle.std.proofs.Common.{◌∙◌}
use Rattle.std.proofs.lemmas.Bool.{cases_lt}
use Rattle.vbi_near.proofs.Common.{IsWord, digit_of, IsBetween, Bits, range, IsIn, digit_at, IsRange, digits_cost}
use Rattle.vbi_near.proofs.Common.{AreDigits, AreBest, at_start, IsLead}
use Rattle.vbi_near.proofs.Places.{at-place}

module _ (least greatest : ℕ) (is_range : IsRange least greatest) where
  abbrev pub Are : ℕ → Type 0
  Are w = AreDigits (digit_at least) (digit_at greatest) 6 w

  abbrev Fits : ℕ → ℕ → Type 0
  Fits w k = (digit_at least k ≤ digit_at w k) × (digit_at w k ≤ digit_at greatest k)

  pub in-digits : (w : ℕ) → Are w → IsIn (range least greatest) w
  unfolding AreDigits
  in-digits w ((((((((none, l0, h0), l1, h1), l2, h2), l3, h3), l4, h4), l5, h5))) =
      ((omega (arith, l0, is_range.0), omega (arith, none)), between)
    where
      all : (k : ℕ) → k < 6 → Fits w k
      all k l = at-place (Fits w) (
        (omega (arith, l0), omega (arith, h0)),
        (omega (arith, l1), omega (arith, h1)),
        (omega (arith, l2), omega (arith, h2)),
        (omega (arith, l3), omega (arith, h3)),
        (omega (arith, l4), omega (arith, h4)),
        (omega (arith, l5), omega (arith, h5)),
      ) k l

      between : IsBetween least greatest w
      between place low high =
          let e : place - 1 + 1 ≡ place = omega arith in
          subst (λ (p : ℕ). (digit_of least p ≤ digit_of w p) × (digit_of w p ≤ digit_of greatest p)) e
          (all (place - 1) (omega arith))

  pub digits-in : (w : ℕ) → IsIn (range least greatest) w → Are w
  unfolding AreDigits
  digits-in w (word, between) =
      let a = between 1 (omega arith) (omega arith) in
      let b = between 2 (omega arith) (omega arith) in
      let c = between 3 (omega arith) (omega arith) in
      let d = between 4 (omega arith) (omega arith) in
      let e = between 5 (omega arith) (omega arith) in
      let f = between 6 (omega arith) (omega arith) in (
        (
          (
            (
              ((omega (arith, word.1), omega (arith, a.0), omega (arith, a.1)), omega (arith, b.0), omega (arith, b.1)),
              omega (arith, c.0),
              omega (arith, c.1),
            ),
            omega (arith, d.0),
            omega (arith, d.1),
          ),
          omega (arith, e.0),
          omega (arith, e.1),
        ),
        omega (arith, f.0),
        omega (arith, f.1),
      )

  module _ (cost : ℕ → ℕ → ℕ) (table : ℕ → ℕ → ℕ) (base start : ℕ) (best : Bits)
      (is : AreBest table base (digit_at least) (digit_at greatest) 6 best)
      (priced : (w : ℕ) → IsWord w → cost start w ≡ digits_cost table base 6 w) where
    pub word-in : IsIn (range least greatest) best.word
    word-in = in-digits best.word is.word

    there : (s w : ℕ) → at_start start (range least greatest) s w → cost s w ≡ digits_cost table base 6 w
    there s w (e, inside) = ap (λ (k : ℕ). cost k w) e ∙ priced w inside.0

    cheapest : (w : ℕ) → Are w → best.distance ≤ digits_cost table base 6 w
    cheapest w are = grind arith

    pub in_range_is : (rival : ℕ) → rival ≡ min (best.distance + best.margin) 4294967295 → best.distance < 2 ^ 31
        → IsLead cost (at_start start (range least greatest)) (record {
          word = best.word;
          start = start;
          distance = best.distance;
          rival = rival;
        })
    in_range_is rival e few = record {
      there = (refl, word-in);
      exact = priced best.word word-in.0 ∙ is.exact;
      order = omega (arith, e, few);
      least = λ s w seen. omega (arith, there s w seen, cheapest w (digits-in w seen.1));
      rival = λ s w seen differs. omega (arith, there s w seen, is.ahead w (digits-in w seen.1) differs, e);
      first = λ s w seen same. inr (sym seen.0, is.first w (digits-in w seen.1) (sym (there s w seen) ∙ same));
      other = go is.other;
    }
      where
        go : (2 ^ 31 ≤ best.margin) ⊎ ((v : ℕ) × Are v × (v ≢ best.word)
            × (digits_cost table base 6 v ≡ best.distance + best.margin))
            → (2 ^ 31 ≤ rival) ⊎ ((s : ℕ) × (w : ℕ) × at_start start (range least greatest) s w × (w ≢ best.word)
            × (cost s w ≡ rival))
        go (inl wide) = inl (omega (arith, e, wide))
        go (inr (v, are, differs, costs)) = by (cases_lt rival (2 ^ 31))
          where
            by : (rival < 2 ^ 31) ⊎ (2 ^ 31 ≤ rival)
                → (2 ^ 31 ≤ rival) ⊎ ((s : ℕ) × (w : ℕ) × at_start start (range least greatest) s w
                × (w ≢ best.word) × (cost s w ≡ rival))
            by (inr le) = inl le
            by (inl less) =
                let inside = in-digits v are in
                inr (start, v, (refl, inside), differs, omega (arith, priced v inside.0, costs, e, less))
