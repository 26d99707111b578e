-- What fields show that is wrong, and what is right: the number that the disc has there.
use Rattle.std.proofs.Common.{◌≡◌, ℕ, ◌+◌, ◌*◌, ◌-◌, ◌<◌, ◌≤◌, Bool, true, false, List, refl, arith, ap, sym, inl, inr}
use Rattle.std.proofs.Common.{eq-eqb, subst}
use Rattle.std.specs.Prelude.{Option, Some, None, slice_get, ◌⊎◌, not, ◌&&◌}
use Rattle.std.proofs.lemmas.Bool.{eqb-true, and_parts, and_from}
use Rattle.vbi_side.specs.Types.{Sightings}
use Rattle.vbi_side.specs.Sightings.{Shows}
use Rattle.vbi_side.specs.Beliefs.{reach, field_most, window_weight}
use Rattle.vbi_side.specs.Truth.{IsNear, is_recorded, wrong_weight}
use Rattle.vbi_side.proofs.Weights.{weight_below-split, once, spread, weight_at-passes}

pub recorded_is : (o : Option ℕ) (n : ℕ) → is_recorded o n ≡ true → o ≡ Some n
recorded_is None n e = absurd (let clash : false ≡ true → ⊥ = λ h. cc in clash e)
recorded_is (Some m) n e = ap Some (sym (eqb-true n m e))

-- the number that the disc has there isn't wrong
pub not_wrong : (o : Option ℕ) (n : ℕ) → o ≡ Some n → not (is_recorded o n) ≡ false
not_wrong o n e = subst (λ p. not (is_recorded p n) ≡ false) (sym e) (ap not (eq-eqb n n refl))

pub wrong_or_right : (recorded : ℕ → Option ℕ) (j m : ℕ)
    → (not (is_recorded (recorded j) m) ≡ true) ⊎ (is_recorded (recorded j) m ≡ true)
wrong_or_right recorded j m = grind arith

-- a number that the disc hasn't there is wrong
pub wrong_if : (recorded : ℕ → Option ℕ) (j m : ℕ) → (recorded j ≡ Some m → ⊥)
    → not (is_recorded (recorded j) m) ≡ true
wrong_if recorded j m never = grind (arith, recorded_is, wrong_or_right)

-- ---- of what passes a test

-- it passes, and is right
abbrev pub right_of : (ℕ → Option ℕ) → (ℕ → ℕ → Bool) → ℕ → ℕ → Bool
right_of recorded test j m = test j m && is_recorded (recorded j) m

pub right_is : (recorded : ℕ → Option ℕ) (test : ℕ → ℕ → Bool) (j m : ℕ) → right_of recorded test j m ≡ true
    → (test j m ≡ true) × (recorded j ≡ Some m)
right_is recorded test j m e =
    let p = and_parts (test j m) (is_recorded (recorded j) m) e in (p.0, recorded_is (recorded j) m p.1)

-- it is wrong or right
pub wrong_and_right : (recorded : ℕ → Option ℕ) (test : ℕ → ℕ → Bool) (fields : List Sightings) (i : ℕ)
    → window_weight test fields i ≤ wrong_weight recorded fields i + window_weight (right_of recorded test) fields i
wrong_and_right recorded test fields i = grind (arith, and_from, weight_below-split, wrong_or_right)

-- where one field at most is right, what passes was misread, but for that field
pub right_once : (recorded : ℕ → Option ℕ) (test : ℕ → ℕ → Bool) (fields : List Sightings) (i : ℕ)
    → ((j k l m : ℕ) → IsNear i j → IsNear i k → (test j l ≡ true) × (recorded j ≡ Some l)
    → (test k m ≡ true) × (recorded k ≡ Some m) → j ≡ k)
    → window_weight test fields i ≤ wrong_weight recorded fields i + field_most
right_once recorded test fields i alone = omega (
  arith,
  wrong_and_right recorded test fields i,
  once (right_of recorded test) fields i (2 * reach + 1) (omega arith)
      (λ j k l m near others e f. alone j k l m near others (right_is recorded test j l e)
      (right_is recorded test k m f)),
)

-- where more passes than was misread, some of it is right
pub right_somewhere : (recorded : ℕ → Option ℕ) (test : ℕ → ℕ → Bool) (fields : List Sightings) (i : ℕ)
    → wrong_weight recorded fields i < window_weight test fields i
    → (j m : ℕ) × IsNear i j × (recorded j ≡ Some m) × Shows (slice_get fields j) m × (test j m ≡ true)
right_somewhere recorded test fields i more =
    elim (spread (right_of recorded test) fields i (2 * reach + 1) (2 * reach + 1)) [
      | inl (most, none) ↦ absurd (omega (arith, more, none (omega arith), wrong_and_right recorded test fields i))
      | inr (k, less, apart, weighs) ↦ let p = weight_at-passes (right_of recorded test) fields i k weighs in
          let q = right_is recorded test (i + k - reach) p.1.0 p.1.2 in
          (i + k - reach, p.1.0, (omega (arith, p.0), omega (arith, less)), q.1, p.1.1, q.0)
    ]
