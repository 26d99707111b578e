-- When a reason doesn't hold: tests that fail, and answers that are counted.
use Rattle.std.proofs.Common.{◌≡◌, ℕ, zero, suc, ◌<◌, ◌≤◌, Bool, true, false}
use Rattle.std.proofs.Common.{List, [], ◌∷◌, drop, get_or, refl, arith, ap, ◌∙◌, inl, inr}
use Rattle.std.specs.Prelude.{Option, Some, None, slice_get, ◌⊎◌, nat_le, nat_lt, ◌==◌, ◌&&◌, ◌||◌, count_by}
use Rattle.std.specs.Prelude.{if◌then◌else◌}
use Rattle.std.proofs.lemmas.Bool.{ltb-true}
use Rattle.std.proofs.lemmas.Bool.Decides.{leb_tells}
use Rattle.std.proofs.lemmas.List.Sums.{get_or-le-sum_by}
use Rattle.std.proofs.lemmas.Option.{slice_get_within, get_or_from_slice_get}
use Rattle.vbi_whole.specs.Types.{Clock, Number, Sighting, Sightings, Place}
use Rattle.vbi_side.specs.Ends.{lead_out}
use Rattle.vbi_side.specs.Sightings.{Shows}
use Rattle.vbi_whole.specs.Swaps.{is_stray, shows_off}

-- ---- tests and lists

pub false_true : false ≡ true → ⊥
false_true e = cc

pub both_false : (a b : Bool) → b ≡ false → (a && b) ≡ false
both_false true b e = e
both_false false b e = refl

pub not_less : (a b : ℕ) → b ≤ a → nat_lt a b ≡ false
not_less a b le = grind (arith, ltb-true)

pub more_not_le : (a b : ℕ) → b < a → nat_le a b ≡ false
more_not_le a b lt = grind (arith, leb_tells)

pub none_counted : {A : Type 0} (test : A → Bool) (xs : List A)
    → ((i : ℕ) (x : A) → slice_get xs i ≡ Some x → test x ≡ false) → count_by test xs ≡ 0
none_counted test [] never = refl
none_counted test (x ∷ xs) never =
    let e = never 0 x refl in rw e (omega (arith, none_counted test xs (λ i y at. never (suc i) y at)))

pub one_counted : {A : Type 0} (test : A → Bool) (xs : List A) (i : ℕ) (x : A) → slice_get xs i ≡ Some x → test x ≡ true
    → 1 ≤ count_by test xs
one_counted {A} test xs i x at passes =
    let is : test (get_or xs i x) ≡ true = ap test (get_or_from_slice_get xs i x x at) ∙ passes in
    let more : (if test (get_or xs i x) then 1 else 0) ≤ count_by test xs
    = get_or-le-sum_by (λ (y : A). if test y then 1 else 0) xs i x (slice_get_within xs i x at) in
    rw is at more

-- a field of lead-out counts among those from an earlier one on
pub follows : (ends : List ℕ) (n e : ℕ) → n ≤ e → slice_get ends e ≡ Some lead_out
    → 1 ≤ count_by (λ x. x == lead_out) (drop n ends)
follows [] n e le at = absurd (let h = at in cc)
follows (x ∷ xs) zero e le at = one_counted (λ x. x == lead_out) (x ∷ xs) e lead_out at refl
follows (x ∷ xs) (suc n) zero le at = absurd (omega (arith, le))
follows (x ∷ xs) (suc n) (suc e) le at = follows xs n e (omega (arith, le)) at

-- ---- a field that stands off shows a number

off_shows : (clock : Clock) (answers : List Number) (a : Place) (k : ℕ) (sighting : Sighting)
    → shows_off clock answers a k sighting ≡ true → 1 ≤ sighting.weight
off_shows clock answers a k sighting h1 = grind (arith, false_true, leb_tells)

or_parts : (a b : Bool) → (a || b) ≡ true → (a ≡ true) ⊎ (b ≡ true)
or_parts true b e = inl refl
or_parts false b e = inr e

pub stray_shows : (clock : Clock) (answers : List Number) (a : Place) (k : ℕ) (field : Option Sightings)
    → is_stray clock answers a k field ≡ true
    → (n : ℕ) × Shows field n
stray_shows clock answers a k None e = absurd (false_true e)
stray_shows clock answers a k (Some field) e =
    elim (or_parts (shows_off clock answers a k field.line_17)
    (shows_off clock answers a k field.line_18) e) [
      | inl f ↦ (field.line_17.number, inl (off_shows clock answers a k field.line_17 f, refl))
      | inr f ↦ (field.line_18.number, inr (off_shows clock answers a k field.line_18 f, refl))
    ]
