-- The best digits of one digit more.
-- best_digits and with_digit stand on it.
use Rattle.std.proofs.Common.{◌≡◌, ◌≢◌, ℕ, suc, ◌≤◌, ◌<◌, ◌+◌, ◌-◌, ◌*◌, ◌^◌, min, ◌⊎◌, inl, inr, arith}
use Rattle.vbi_near.proofs.Common.{Bits, digits_cost, AreDigits, IsChoice, AreBest}
use Rattle.vbi_near.proofs.BestBits.{min_is}
use Rattle.vbi_near.specs.declared.codes.Choice.{Choice}

-- the choice stays if the values of the digit cost the same
pub choice-same : (f g : ℕ → ℕ) (low high : ℕ) (choice : Choice) → ((v : ℕ) → v < high → f v ≡ g v)
    → IsChoice f low high choice → IsChoice g low high choice
choice-same f g low high choice same is = grind arith

pub first-digits : (cost : ℕ → ℕ → ℕ) (base : ℕ) (least greatest : ℕ → ℕ)
    → AreBest cost base least greatest 0 (record { word = 0; distance = base; margin = 4294967295 })
unfolding digits_cost AreDigits
first-digits cost base least greatest = grind arith

module _ (cost : ℕ → ℕ → ℕ) (base : ℕ) (least greatest : ℕ → ℕ) (n : ℕ) (best : Bits)
    (is : AreBest cost base least greatest n best) (choice : Choice)
    (chosen : IsChoice (cost n) (least n) (greatest n + 1) choice) (top : greatest n < 16)
    (few : choice.least < 2 ^ 28) where
  abbrev pub longer : Bits
  longer = record {
    word = 16 * best.word + choice.value;
    distance = best.distance + choice.least;
    margin = min best.margin (choice.second - choice.least);
  }

  cost-joined : (a d : ℕ) → d < 16
      → digits_cost cost base (suc n) (16 * a + d) ≡ digits_cost cost base n a + cost n d
  unfolding digits_cost
  cost-joined a d l = grind arith

  are-joined : (a d : ℕ) → d < 16 → AreDigits least greatest n a → least n ≤ d → d ≤ greatest n
      → AreDigits least greatest (suc n) (16 * a + d)
  unfolding AreDigits
  are-joined a d l are from to = grind arith

  -- no digits before this one cost less, and no value of this one
  floor : (a : ℕ) → AreDigits least greatest n a → best.distance ≤ digits_cost cost base n a
  floor a are = grind arith

  cheapest : (d : ℕ) → least n ≤ d → d ≤ greatest n → choice.least ≤ cost n d
  cheapest d from to = grind arith

  ahead : (v : ℕ) → AreDigits least greatest (suc n) v → v ≢ longer.word
      → longer.distance + longer.margin ≤ digits_cost cost base (suc n) v
  unfolding digits_cost AreDigits
  ahead v are differs = grind (arith, cheapest, floor)

  -- digits that cost as little are no less
  first : (v : ℕ) → AreDigits least greatest (suc n) v → digits_cost cost base (suc n) v ≡ longer.distance
      → longer.word ≤ v
  unfolding digits_cost AreDigits
  first v are same = grind (arith, cheapest, floor)

  small : choice.value < 16
  small = omega (arith, chosen.before)

  AreOther : Type 0
  AreOther = (2 ^ 31 ≤ longer.margin) ⊎ ((v : ℕ) × AreDigits least greatest (suc n) v × (v ≢ longer.word)
      × (digits_cost cost base (suc n) v ≡ longer.distance + longer.margin))

  followed : min best.margin (choice.second - choice.least) ≡ best.margin
      → (2 ^ 31 ≤ best.margin) ⊎ ((v : ℕ) × AreDigits least greatest n v × (v ≢ best.word)
      × (digits_cost cost base n v ≡ best.distance + best.margin)) → AreOther
  unfolding AreOther
  followed e (inl wide) = inl (omega (arith, e, wide))
  followed e (inr (v, are, differs, costs)) = inr (
    16 * v + choice.value,
    are-joined v choice.value small are chosen.from (omega (arith, chosen.before)),
    λ same. differs (omega arith),
    omega (arith, cost-joined v choice.value small, costs, chosen.exact, e),
  )

  turned : min best.margin (choice.second - choice.least) ≡ choice.second - choice.least
      → (choice.second ≡ 4294967295)
      ⊎ ((v : ℕ) × (least n ≤ v) × (v < greatest n + 1) × (v ≢ choice.value) × (cost n v ≡ choice.second)) → AreOther
  unfolding AreOther
  turned e (inl none) = inl (omega (arith, e, none, few))
  turned e (inr (v, from, to, differs, costs)) = inr (
    16 * best.word + v,
    are-joined best.word v (omega (arith, to)) is.word from (omega (arith, to)),
    λ same. differs (omega arith),
    omega (arith, cost-joined best.word v (omega (arith, to)), costs, is.exact, chosen.order, e),
  )

  another : AreOther
  another = grind (arith, min_is, AreOther, followed, turned)

  pub with_digit_is : AreBest cost base least greatest (suc n) longer
  unfolding AreOther
  with_digit_is = grind (arith, ahead, another, are-joined, cost-joined, first, small)
