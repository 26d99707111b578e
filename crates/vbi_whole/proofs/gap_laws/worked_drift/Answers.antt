use Rattle.std.proofs.Common.{◌≡◌, ℕ, ◌<◌, ◌≤◌, true, List, [], ◌∷◌, refl, sym, subst, arith, inl, inr}
use Rattle.std.proofs.lemmas.Bool.Decides.{eqb_tells}
use Rattle.vbi_whole.specs.Types.{Number, Video}
use Rattle.vbi_side.specs.Paces.{spot, nearly}
use Rattle.vbi_side.specs.Clocks.{kept}
use Rattle.vbi_side.specs.Numbers.{believed, IsMarked}
use Rattle.vbi_whole.specs.Gaps.{AreNeighbours}
use Rattle.vbi_whole.proofs.GapLaws.{same_number}
use Rattle.vbi_whole.proofs.gap_laws.worked_drift.Goals as goal

abbrev answers : List Number
answers = believed 1 ∷ believed 1 ∷ believed 2 ∷ believed 3 ∷ []

-- the numbers of fields a and b, which are fields i and j with numbers k and l, go on
near_at : (i k j l a m b n : ℕ) → IsMarked answers i k → IsMarked answers j l → nearly Video 1 (spot i k) (spot j l)
    ≡ true
    → a ≡ i → b ≡ j → IsMarked answers a m → IsMarked answers b n → nearly Video 1 (spot a m) (spot b n) ≡ true
near_at i k j l a m b n one other near first last here there =
    let from = same_number answers i k m one (subst (λ x. IsMarked answers x m) first here) in
    let to = same_number answers j l n other (subst (λ x. IsMarked answers x n) last there) in
    subst (λ x. nearly Video 1 (spot x m) (spot b n) ≡ true) (sym first)
    (subst (λ x. nearly Video 1 (spot i m) (spot x n) ≡ true) (sym last)
    (subst (λ x. nearly Video 1 (spot i x) (spot j n) ≡ true) from
    (subst (λ x. nearly Video 1 (spot i k) (spot j x) ≡ true) to near)))

-- from field 1 on each number goes on from the one before it
on : (a m b n : ℕ) → 1 ≤ a → b ≤ 3 → AreNeighbours answers (spot a m) (spot b n) → nearly Video 1 (spot a m) (spot b n)
    ≡ true
on a m b n from to pair = elim (eqb_tells a 1) [
  | inl (t, first) ↦ elim (eqb_tells b 2) [
    | inl (u, last) ↦ near_at 1 1 2 2 a m b n refl refl refl first last pair.here pair.there
    | inr (u, other) ↦ let order : a < b = pair.order in
        absurd (pair.between 2 2 (omega (arith, first)) (omega (arith, order, first, other)) refl)
  ]
  | inr (f, more) ↦ let order : a < b = pair.order in
      near_at 2 2 3 3 a m b n refl refl refl (omega (arith, from, to, order, more))
      (omega (arith, from, to, order, more))
      pair.here pair.there
]

pub returns : goal.returns
unfolding kept
returns c = (
  3,
  record {
    i = 1;
    m = 1;
    n = 3;
    order = omega arith;
    here = refl;
    there = refl;
    runs = on;
    apart = refl;
  },
)
