-- The first refusal of two lists.
use Rattle.std.proofs.Common.{◌≡◌, true, false, List, [], ◌∷◌, ◌++◌, refl}
use Rattle.std.specs.Option.{option_or}
use Rattle.vbi_meta.specs.Settings.{FaultTest, first_refusal}

-- of two lists together the first refusal is that of the first list, where it has one
pub first_refusal_append : (xs ys : List FaultTest)
    → first_refusal (xs ++ ys) ≡ option_or (first_refusal xs) (first_refusal ys)
unfolding first_refusal
first_refusal_append [] ys = refl
first_refusal_append ((fault, true) ∷ xs) ys = refl
first_refusal_append ((fault, false) ∷ xs) ys = first_refusal_append xs ys
