use Rattle.std.proofs.Common.{◌≡◌, ◌<◌, ◌≤◌, ℕ, zero, suc, ◌+◌, ◌*◌, true, false, List, [], ◌∷◌, refl, arith, ap, subst}
use Rattle.std.proofs.Common.{inl, inr}
use Rattle.std.specs.Prelude.{Some, slice_get}
use Rattle.vbi_whole.specs.Types.{Sightings}
use Rattle.vbi_whole.specs.CleanRuns.{IsReadTwice}
use Rattle.vbi_side.specs.Sightings.{Shows}
use Rattle.vbi_side.specs.Worked.{field_of, blank}
use Rattle.vbi_whole.proofs.Telling.{some_is}
use Rattle.vbi_side.proofs.Worked.{none_shown}
use Rattle.vbi_whole.proofs.clean_laws.worked_clean_sides.Goals as goal

true_false : false ≡ true → ⊥
true_false e = cc

out_at : (ends : List ℕ) (a b : ℕ) → ends ≡ a ∷ b ∷ [] → (e : ℕ) → 0 < e → slice_get ends e ≡ Some 1 → b ≡ 1
out_at ends a b is e after at = go e after (subst (λ (xs : List ℕ). slice_get xs e ≡ Some 1) is at)
  where
    go : (e : ℕ) → 0 < e → slice_get (a ∷ b ∷ []) e ≡ Some 1 → b ≡ 1
    go zero after at = absurd (omega (arith, after))
    go (suc zero) after at = some_is b 1 at
    go (suc (suc e)) after at = absurd (let h = at in cc)

pub returns-clause-ended : goal.returns-clause-ended
returns-clause-ended c = (
  inr (1, omega arith, refl),
  λ ended. elim ended [
    | inl may ↦ true_false may
    | inr (e, after, at) ↦ absurd (omega (arith, out_at (1 ∷ 0 ∷ []) 1 0 refl e after at))
  ],
  λ ended. elim ended [
    | inl may ↦ true_false may
    | inr (e, after, at) ↦ absurd (omega (arith, out_at (0 ∷ 3 ∷ []) 0 3 refl e after at))
  ],
  inl refl,
)

read : (n : ℕ) → IsReadTwice (field_of n 2 n 2 ∷ []) 0 n
read n = ((field_of n 2 n 2, refl, omega arith, omega arith, refl), inl (omega arith, refl))

pub returns-clause-twice : goal.returns-clause-twice
returns-clause-twice c = (
  read 5,
  λ twice. let ((field, at, first, second, same), shown) = twice in
      absurd (omega (arith, first, ap (λ (f : Sightings). f.line_17.weight) (some_is (field_of 5 1 5 2) field at))),
  λ twice. let ((field, at, first, second, same), shown) = twice in
      let is = some_is (field_of 5 2 6 2) field at in
      absurd (omega (
        arith,
        same,
        ap (λ (f : Sightings). f.line_17.number) is,
        ap (λ (f : Sightings). f.line_18.number) is,
      )),
)

abbrev run : List Sightings
run = field_of 7 2 7 2 ∷ blank ∷ field_of 8 2 8 2 ∷ []

each : (p : ℕ) → p ≤ 1 → IsReadTwice run (0 + 2 * p) (7 + p)
each zero low = ((field_of 7 2 7 2, refl, omega arith, omega arith, refl), inl (omega arith, refl))
each (suc zero) low = ((field_of 8 2 8 2, refl, omega arith, omega arith, refl), inl (omega arith, refl))
each (suc (suc p)) low = absurd (omega (arith, low))

others : (i n : ℕ) → Shows (slice_get run i) n → (p : ℕ) × (p ≤ 1) × (i ≡ 0 + 2 * p)
others zero n shown = (0, omega arith, refl)
others (suc zero) n shown = absurd (none_shown n shown)
others (suc (suc zero)) n shown = (1, omega arith, refl)
others (suc (suc (suc i))) n shown = absurd shown

pub returns-clause-run : goal.returns-clause-run
returns-clause-run c = (
  record { each = each; others = others },
  λ is. none_shown 8 (is.each 1 (omega arith)).1,
  λ is. let (p, low, at) = is.others 2 8 (inl (omega arith, refl)) in absurd (omega (arith, low, at)),
)
