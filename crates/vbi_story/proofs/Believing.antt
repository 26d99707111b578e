-- What is believed of a story: its places, and the rivals of its readings.
use Rattle.std.proofs.Common.{◌≡◌, ℕ, zero, suc, ◌+◌, ◌<◌, ◌≤◌, List, [], ◌∷◌, ◌++◌, length, arith, inl, inr, ap, sym}
use Rattle.std.proofs.Common.{◌∙◌}
use Rattle.std.proofs.Common.{slice_index}
use Rattle.std.proofs.lemmas.Bool.{cases_lt, cases_eq}
use Rattle.vbi_story.specs.declared.reading.NumberReading.{NumberReading}
use Rattle.vbi_story.specs.Story.{reading_at, IsAmong, Each, Ascends, IsStory, IsBest, weight, price}
use Rattle.vbi_story.specs.Rivals.{AreBounds, AreReached}
use Rattle.vbi_story.proofs.Splices.{each_rest}
use Rattle.vbi_story.specs.Beliefs.{IsBelieved, IsRival, IsRivalled, IsAlone, IsFarBehind, story_margin}

-- ---- a story by its places

pub each_at : (P : NumberReading → Type 0) (xs : List NumberReading) → Each P xs → (i : ℕ) → i < length xs
    → P (reading_at xs i)
each_at P [] each i inside = absurd (omega arith)
each_at P (x ∷ xs) each zero inside = each.0
each_at P (x ∷ xs) each (suc i) inside = each_at P xs each.1 i (omega arith)

first_at : (x : NumberReading) (xs : List NumberReading) → Ascends (x ∷ xs) → (k : ℕ) → k < length xs
    → x.field < (reading_at xs k).field
first_at x [] ascends k inside = absurd (omega arith)
first_at x (y ∷ xs) ascends zero inside = ascends.0
first_at x (y ∷ xs) ascends (suc k) inside = omega (arith, ascends.0, first_at y xs ascends.1 k (omega arith))

pub order_at : (xs : List NumberReading) → Ascends xs → (i k : ℕ) → i ≤ k → k < length xs
    → (reading_at xs i).field ≤ (reading_at xs k).field
order_at [] ascends i k le inside = absurd (omega arith)
order_at (x ∷ xs) ascends zero zero le inside = omega arith
order_at (x ∷ xs) ascends zero (suc k) le inside = omega (arith, first_at x xs ascends k (omega arith))
order_at (x ∷ xs) ascends (suc i) zero le inside = absurd (omega arith)
order_at (x ∷ xs) ascends (suc i) (suc k) le inside = order_at xs ascends.1 i k (omega arith) (omega arith)

-- what is told is light, as all readings are
pub told_light : (readings told : List NumberReading) → IsStory readings told
    → ((i : ℕ) → i < length readings → (reading_at readings i).weight ≤ 4)
    → (i : ℕ) → i < length told → (reading_at told i).weight ≤ 4
told_light readings told story light i inside =
    let among : IsAmong readings (reading_at told i) = each_at (IsAmong readings) told story.among i inside in
    omega (arith, light among.0 among.1, ap (λ (r : NumberReading). r.weight) among.2)

-- ---- rivals

module _ (readings told : List NumberReading) (bounds : List ℕ) (worth : ℕ)
    (is : worth + price told ≡ weight told) where
  pub alone_if : AreBounds readings bounds → (r : NumberReading) → (IsRivalled readings bounds worth r → ⊥)
      → IsAlone readings told r
  alone_if most r none = λ k before after rival story. elim (cases_lt (slice_index bounds k + story_margin) worth) [
    | inl less ↦ omega (arith, is, less, most k before after rival.0 story)
    | inr more ↦ absurd (none (k, rival, more))
  ]

  pub not_rivalled : AreReached readings bounds → (r : NumberReading) → IsAlone readings told r
      → IsRivalled readings bounds worth r → ⊥
  not_rivalled reached r alone rivalled =
      let through = reached rivalled.0 rivalled.1.0 in
      let behind : IsFarBehind (through.0 ++ reading_at readings rivalled.0 ∷ through.1) told
      = alone rivalled.0 through.0 through.1 rivalled.1 through.2 in
      absurd (omega (arith, is, behind, through.3, rivalled.2))

-- what is believed in one story has no rival in one that is the best
pub no_rival : (readings told before after : List NumberReading) (q : NumberReading) (j : ℕ) → IsStory readings told
    → IsBest readings (before ++ q ∷ after) → IsBelieved readings told j → q.field ≡ (reading_at told j).field
    → q.number ≡ (reading_at told j).number
no_rival readings told before after q j story best believed same = elim (cases_eq q.number (reading_at told j).number) [
  | inl one ↦ one
  | inr other ↦
      let among = each_rest (IsAmong readings) before (q ∷ after) best.story_is.among in
      let k = among.0.0 in
      let is : reading_at readings k ≡ q = among.0.2 in
      let rival : IsRival readings (reading_at told j) k = (
        among.0.1,
        ap (λ (r : NumberReading). r.field) is ∙ same,
        λ e. other (sym (ap (λ (r : NumberReading). r.number) is) ∙ e),
      ) in
      let through : IsStory readings (before ++ reading_at readings k ∷ after) = rw is best.story_is in
      let behind = rw is at (believed.alone k before after rival through) in
      absurd (omega (arith, behind, best.best told story))
]
