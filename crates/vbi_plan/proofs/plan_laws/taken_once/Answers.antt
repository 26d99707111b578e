use Rattle.std.proofs.Common.{◌≡◌, ◌∙◌, ℕ, ◌<◌, ◌≤◌, sym, ap, arith, subst, inl, inr, List}
use Rattle.std.specs.Prelude.{◌⊎◌}
use Rattle.std.proofs.lemmas.Option.{slice_get_within}
use Rattle.vbi_plan.specs.declared.plan.Stretch.{Stretch}
use Rattle.vbi_plan.specs.Plans.{IsDone, Plan, Takes}
use Rattle.vbi_plan.proofs.Checking.{some_is}
use Rattle.vbi_plan.proofs.plan_laws.taken_once.Goals as goal

less_or : (a b : ℕ) → (a < b) ⊎ (b ≤ a)
less_or a b = grind arith

same_stretch : (stretches : List Stretch) (i j h f g : ℕ) (one : Takes stretches i j f) (other : Takes stretches i h g)
    → one.stretch ≡ other.stretch
same_stretch stretches i j h f g one other = some_is one.stretch other.stretch (sym one.there ∙ other.there)

apart : (plan : Plan) (i j k h f : ℕ) → IsDone plan → Takes plan.stretches i j f → Takes plan.stretches k h f → i < k
    → ⊥
apart plan i j k h f done one other less =
    let good = done k (slice_get_within plan.stretches k other.stretch other.there) in
    elim (good.once other.stretch other.there other.taken i one.stretch less one.there one.taken) [
      | inl e ↦ omega (arith, e, one.is, other.is, one.inside, other.inside)
      | inr e ↦ omega (arith, e, one.is, other.is, one.inside, other.inside)
    ]

once : (plan : Plan) (i j k h f : ℕ) → IsDone plan → Takes plan.stretches i j f → Takes plan.stretches k h f
    → (i ≡ k) × (j ≡ h)
once plan i j k h f done one other = elim (less_or i k) [
  | inl less ↦ absurd (apart plan i j k h f done one other less)
  | inr more ↦ elim (less_or k i) [
    | inl less ↦ absurd (apart plan k h i j f done other one less)
    | inr fewer ↦
        let e : i ≡ k = omega (arith, more, fewer) in
        let here = subst (λ x. Takes plan.stretches x j f) e one in
        (e, omega (arith, one.is, other.is, ap (λ s. s.field) (same_stretch plan.stretches k j h f f here other)))
  ]
]

pub returns : goal.returns
returns c = once
