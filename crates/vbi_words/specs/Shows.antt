-- What a line shows: a code word in biphase code (IEC 60857 and IEC 60856), whose half cells have any length that the
-- system allows.
use Rattle.std.specs.Prelude.{◌≡◌, ℕ, ◌≤◌, Bool, false, List, [], ◌∷◌, ◌++◌, replicate}
use Rattle.vbi_words.specs.declared.system.System.{System}
use Rattle.vbi_words.specs.Geometry.{half_min, half_max}
use Rattle.vbi_words.specs.Words.{IsWord, halves_of}

-- levels is each of the halves in order, each of them repeated a number of times from least to greatest
abbrev pub Spells : ℕ → ℕ → List Bool → List Bool → Type 0
Spells least greatest [] levels = levels ≡ []
Spells least greatest (h ∷ halves) levels =
    (n : ℕ) × (rest : List Bool) × (least ≤ n) × (n ≤ greatest) × (levels ≡ replicate n h ++ rest)
    × Spells least greatest halves rest

-- the levels show the word: some lows, its half cells in order, each of a length that the system allows, and some lows
pub record Shows (system : System) (levels : List Bool) (word : ℕ) : Type 0 where
  pub is_word : IsWord word
  pub before : ℕ
  pub drawn : List Bool
  pub after : ℕ
  pub spelled : Spells (half_min system) (half_max system) (halves_of word) drawn
  pub whole : levels ≡ replicate before false ++ (drawn ++ replicate after false)

-- the levels show no word
abbrev pub ShowsNone : System → List Bool → Type 0
ShowsNone system levels = (w : ℕ) → Shows system levels w → ⊥

-- some list of levels that begins with these shows a word; that list may have any length
abbrev pub Viable : System → List Bool → Type 0
Viable system levels = (more : List Bool) × (word : ℕ) × Shows system (levels ++ more) word
