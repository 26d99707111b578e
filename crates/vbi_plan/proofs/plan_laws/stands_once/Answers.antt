use Rattle.std.proofs.Common.{◌≡◌, ℕ, zero, suc, ◌+◌, ◌<◌, ◌≤◌, ap, arith, inl, inr, length, ◌-◌}
use Rattle.std.specs.Prelude.{◌⊎◌}
use Rattle.vbi_plan.specs.Plans.{IsDone, Plan, StandsFor, rank_at}
use Rattle.vbi_plan.proofs.plan_laws.stands_once.Goals as goal

less_or : (a b : ℕ) → (a < b) ⊎ (b ≤ a)
less_or a b = grind arith

found : (plan : Plan) (r n : ℕ) → rank_at plan 0 ≤ r → r < rank_at plan n → (i : ℕ) × (i < n) × StandsFor plan i r
found plan r zero from to = absurd (omega (arith, from, to))
found plan r (suc n) from to = elim (less_or r (rank_at plan n)) [
  | inl less ↦ let one = found plan r n from less in (one.0, omega (arith, one.1), one.2)
  | inr more ↦ (n, omega arith, (more, to))
]

rising : (plan : Plan) (i n : ℕ) → IsDone plan → i + n ≤ length plan.stretches
    → rank_at plan i ≤ rank_at plan (i + n)
rising plan i zero done short = let e : i ≡ i + 0 = omega arith in omega (arith, ap (rank_at plan) e)
rising plan i (suc n) done short =
    let e : suc (i + n) ≡ i + suc n = omega arith in
    let good = done (i + n) (omega (arith, short)) in
    omega (arith, rising plan i n done (omega (arith, short)), good.ordered.1, ap (rank_at plan) e)

in_order : (plan : Plan) (i k r s : ℕ) → IsDone plan → i < length plan.stretches → k < length plan.stretches
    → StandsFor plan i r → StandsFor plan k s → r ≤ s → i ≤ k
in_order plan i k r s done here there one other less = elim (less_or k i) [
  | inr more ↦ more
  | inl before ↦
      let more = rising plan (suc k) (i - suc k) done (omega (arith, before, here)) in
      let e : suc k + (i - suc k) ≡ i = omega (arith, before) in
      absurd (omega (arith, more, ap (rank_at plan) e, one.0, other.1, less))
]

pub returns : goal.returns
returns c = record {
  stands = λ plan r done from to. found plan r (length plan.stretches) from to;
  in_order = in_order;
}
