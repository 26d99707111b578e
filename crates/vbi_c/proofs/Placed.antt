-- Readings that are put into their place, one after the other.
use Rattle.std.proofs.Common.{◌≡◌, ◌∙◌, ℕ, ◌+◌, ◌≤◌, ◌<◌, List, length, get_or, slice_set, Some}
use Rattle.std.proofs.Common.{ap, subst, sym, inl, inr, arith}
use Rattle.std.proofs.Math.Nat.{eq-or-lt_of_le}
use Rattle.std.proofs.lemmas.List.{get_or-set_other, get_or-set_same, length-set}
use Rattle.std.proofs.lemmas.Option.{get_or_from_slice_get, slice_get-get_or, slice_get_within}
use Rattle.std.specs.List.{slice_get}
use Rattle.vbi_c.specs.Types.{LdvbiFieldReadings}

-- what holds of each of the first items and of the next, when that is set, holds of all up to it
pub each_set : (P : ℕ → LdvbiFieldReadings → Type 0) (all : List LdvbiFieldReadings) (i : ℕ) (new : LdvbiFieldReadings)
    → ((k : ℕ) (x : LdvbiFieldReadings) → k < i → slice_get all k ≡ Some x → P k x) → P i new
    → (k : ℕ) (x : LdvbiFieldReadings) → k < i + 1 → slice_get (slice_set all i new) k ≡ Some x → P k x
each_set P all i new before here k x below is =
    let up_to : k ≤ i = omega (arith, below) in
    let set = get_or_from_slice_get (slice_set all i new) k x x is in
    let within : k < length all = omega (
      arith,
      slice_get_within (slice_set all i new) k x is,
      length-set all i new,
    ) in
    elim (eq-or-lt_of_le {n = k} {m = i} up_to) [
      | inl e ↦
          let inside : i < length all = omega (arith, within, e) in
          let same : new ≡ x = sym (get_or-set_same all i new x inside)
          ∙ ap (λ (n : ℕ). get_or (slice_set all i new) n x) (sym e) ∙ set in
          subst (λ (n : ℕ). P n x) (sym e) (subst (P i) same here)
      | inr less ↦
          let was : get_or all k x ≡ x = sym (get_or-set_other all i k new x (omega (arith, less))) ∙ set in
          before k x less (slice_get-get_or all k x within ∙ ap Some was)
    ]
