-- The outcome of a line's levels: the word that they show, or why they show none.
use Rattle.std.specs.Prelude.{◌≡◌, ℕ, ◌<◌, ◌≤◌, ◌+◌, ◌-◌, ◌*◌, ◌⊎◌, ◌↔◌, Bool, false, not, Option, Some, None}
use Rattle.std.specs.Prelude.{List, [], ◌∷◌, ◌++◌, replicate, All, take, length}
use Rattle.vbi_words.specs.declared.system.System.{System}
use Rattle.vbi_words.specs.declared.outcome.Outcome.{Outcome}
use Rattle.vbi_words.specs.declared.outcome.Outcome.TheVariants.{Word, Blank, Unfinished, Change, Hold}
use Rattle.vbi_words.specs.Geometry.{half_max}
use Rattle.vbi_words.specs.Levels.{level_at}
use Rattle.vbi_words.specs.Shows.{Shows, ShowsNone, Viable}

-- no level is high
abbrev pub AllLow : List Bool → Type 0
AllLow levels = All (λ level. level ≡ false) levels

-- column c is the first hopeless one: no list that begins with the levels up to it shows a word
pub record FirstHopeless (system : System) (levels : List Bool) (c : ℕ) : Type 0 where
  pub inside : c < length levels
  pub before : (d : ℕ) → d < c → Viable system (take (d + 1) levels)
  pub hopeless : Viable system (take (c + 1) levels) → ⊥

-- the level at column c is that of the column before it
abbrev pub Holds : List Bool → ℕ → Type 0
Holds levels c = (0 < c) × (level_at levels c ≡ level_at levels (c - 1))

-- the outcome of the levels; exactly one holds of each list, as `laws::one_outcome` of the crate `vbi_line` says
abbrev pub IsOutcome : System → List Bool → Outcome → Type 0
IsOutcome system levels (Word w) = Shows system levels w
IsOutcome system levels Blank = ShowsNone system levels × AllLow levels
IsOutcome system levels Unfinished = ShowsNone system levels × (AllLow levels → ⊥) × Viable system levels
IsOutcome system levels (Change c) =
    ShowsNone system levels × (AllLow levels → ⊥) × FirstHopeless system levels c × (Holds levels c → ⊥)
IsOutcome system levels (Hold c) =
    ShowsNone system levels × (AllLow levels → ⊥) × FirstHopeless system levels c × Holds levels c

-- the word of an outcome, if it is one
abbrev pub word_of : Outcome → Option ℕ
word_of (Word w) = Some w
word_of _ = None

-- ---- how long a run of equal levels may become before no list that begins so shows a word

-- there are no levels, or the last isn't v
abbrev pub EndsOtherwise : List Bool → Bool → Type 0
EndsOtherwise levels v = (levels ≡ []) ⊎ ((front : List Bool) × (levels ≡ front ++ not v ∷ []))

-- after these levels every run of v is viable, or every one up to the greatest length of a half cell, or of two
abbrev pub HasRunLimit : System → List Bool → Bool → Type 0
HasRunLimit system levels v =
    ((k : ℕ) → 0 < k → Viable system (levels ++ replicate k v))
    ⊎ ((m : ℕ) × ((m ≡ half_max system) ⊎ (m ≡ 2 * half_max system))
    × ((k : ℕ) → 0 < k → (Viable system (levels ++ replicate k v) ↔ k ≤ m)))
