-- Of some lines one word, or one code, is the first of the nearest: from one start on, with one rival, and one least
-- distance of its longer and its shorter rows. one_near and OneSeen stand on it.
use Rattle.std.proofs.Common.{◌≡◌, ℕ, Bool, List, refl, sym, ◌∙◌, arith}
use Rattle.std.specs.Prelude.{Option, Some, None}
use Rattle.vbi_near.proofs.Common.{System, Slicing, Near, IsPlace, Samples, IsNearest, IsNearestCode, IsFirst}
use Rattle.vbi_near.proofs.Common.{IsFirstCode, Precedes, HasLeastRow, IsLonger, IsShorter, IsNearOf}
use Rattle.vbi_near.proofs.Chosen.{code-place}

-- each comes before the other: they are one
one_place : (system : System) (a : Option ℕ) (s : ℕ) (b : Option ℕ) (t : ℕ) → IsPlace system a s → IsPlace system b t
    → Precedes a s b t → Precedes b t a s → (a ≡ b) × (s ≡ t)
one_place system None s None t here there before behind = (refl, here ∙ sym there)
one_place system None s (Some w) t here there before behind = absurd behind
one_place system (Some v) s None t here there before behind = absurd before
one_place system (Some v) s (Some w) t here there before behind = grind arith

-- of one word at one start there is one least distance of its rows
one_row : (IsRow : ℕ → ℕ → List Bool → Type 0) (far : List Bool → ℕ) (word : Option ℕ) (near other : Near) (a b : ℕ)
    → near.start ≡ other.start → near.distance ≡ other.distance → HasLeastRow IsRow far word near a
    → HasLeastRow IsRow far word other b → a ≡ b
one_row IsRow far word near other a b start distance is are = grind arith

module _ (IsThere : Option ℕ → ℕ → Type 0) (system : System)
    (fits : (word : Option ℕ) (start : ℕ) → IsThere word start → IsPlace system word start) (slicing : Slicing)
    (lines : List Samples) (near other : Near) (is : IsNearOf IsThere system slicing lines near)
    (are : IsNearOf IsThere system slicing lines other) where
  distance : near.distance ≡ other.distance
  distance = grind arith

  place : (near.word ≡ other.word) × (near.start ≡ other.start)
  place = grind (arith, one_place, distance)

  rival : near.rival ≡ other.rival
  rival = grind (arith, place)

  row : (IsRow : ℕ → ℕ → List Bool → Type 0) (far : List Bool → ℕ) (a b : ℕ)
      → HasLeastRow IsRow far near.word near a → HasLeastRow IsRow far other.word other b → a ≡ b
  row IsRow far a b has = grind (arith, one_row, place, distance)

  pub one_near_by : near ≡ other
  one_near_by = grind (arith, row, place, distance, rival)

-- of all words
pub one_near : (system : System) (slicing : Slicing) (lines : List Samples) (near other : Near)
    → IsNearest system slicing lines near → IsFirst system slicing lines near → IsLonger system slicing lines near
    → IsShorter system slicing lines near → IsNearest system slicing lines other → IsFirst system slicing lines other
    → IsLonger system slicing lines other → IsShorter system slicing lines other → near ≡ other
one_near system slicing lines near other is first longer shorter are first_too longer_too shorter_too =
    grind (arith, one_near_by, place)

-- of the codes that may stand on a line
pub one_near_code : (system : System) (line : ℕ) (slicing : Slicing) (lines : List Samples) (near other : Near)
    → IsNearestCode system line slicing lines near → IsFirstCode system line slicing lines near
    → IsLonger system slicing lines near → IsShorter system slicing lines near
    → IsNearestCode system line slicing lines other → IsFirstCode system line slicing lines other
    → IsLonger system slicing lines other → IsShorter system slicing lines other → near ≡ other
one_near_code system line slicing lines near other is first longer shorter are first_too longer_too shorter_too =
    grind (arith, one_near_by, code-place)
