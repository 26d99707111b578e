-- The best of some choices, and how much more the next one costs.
use Rattle.std.specs.Prelude.{◌≡◌, ◌≢◌, ◌≤◌, ◌<◌, ◌⊎◌, ℕ, suc, ◌+◌, ◌^◌, Bool, true, false, min, Some, None, List}
use Rattle.std.specs.Prelude.{slice_index_or}
use Rattle.vbi_near.specs.{Common.IsWord, declared.bits.Bits.Bits, declared.word_search.Found.Found}
use Rattle.vbi_near.specs.{declared.near.Near.Near, Costs.bits_cost, Nearest.IsBefore}

-- a number of n bits after a one
abbrev pub IsBits : ℕ → ℕ → Type 0
IsBits n v = (2 ^ n ≤ v) × (v < 2 ^ (n + 1))

-- some other bits cost no more than this
abbrev pub HasOther : (ℕ → Bool → ℕ) → ℕ → Bits → Type 0
HasOther cost n best = (best.margin < 2 ^ 26) × ((v : ℕ) × IsBits n v × (v ≢ best.word)
    × (bits_cost cost (suc n) v ≡ best.distance + best.margin))

-- of all numbers of n bits after a one this has the least cost, and any other costs the margin more at least; of those
-- that cost as little it is the least
pub record IsBest (cost : ℕ → Bool → ℕ) (n : ℕ) (best : Bits) : Type 0 where
  pub word : IsBits n best.word
  pub exact : bits_cost cost (suc n) best.word ≡ best.distance
  pub ahead : (v : ℕ) → IsBits n v → v ≢ best.word → best.distance + best.margin ≤ bits_cost cost (suc n) v
  pub first : (v : ℕ) → IsBits n v → bits_cost cost (suc n) v ≡ best.distance → best.word ≤ v
  pub other : ((n ≡ 0) × (2 ^ 26 ≤ best.margin)) ⊎ HasOther cost n best

-- words, distances and margins of words that begin at each column
pub record Every : Type 0 where
  pub words : List ℕ
  pub distances : List ℕ
  pub margins : List ℕ

abbrev pub every : List ℕ → List ℕ → List ℕ → Every
every words distances margins = record { words = words; distances = distances; margins = margins }

-- the word, the distance and the margin of the words that begin at one column
abbrev pub bits_at : Every → ℕ → Bits
bits_at bits start = record {
  word = slice_index_or bits.words start 0;
  distance = slice_index_or bits.distances start 0;
  margin = slice_index_or bits.margins start 0;
}

-- bits of one cell more: they are best if those before are and a one and a zero cost so much in the cell
abbrev pub Grows : Bits → ℕ → ℕ → Bits → Type 0
Grows best as_one as_zero more =
    ((cost : ℕ → Bool → ℕ) (n : ℕ) → IsBest cost n best → cost (suc n) true ≡ as_one → cost (suc n) false ≡ as_zero
    → IsBest cost (suc n) more)
    × (more.distance < best.distance + 2 ^ 26)

-- the words that begin before this column have one cell more, and the others are as they were
pub record AreGrown (ones zeros : List ℕ) (old new : Every) (column : ℕ) : Type 0 where
  pub below : (start : ℕ) → start < column
      → Grows (bits_at old start) (slice_index_or ones start 0) (slice_index_or zeros start 0) (bits_at new start)
  pub after : (start : ℕ) → column ≤ start → bits_at new start ≡ bits_at old start

-- of all words that begin from `low` on and before `high` this has the least distance; `rival` is that of the nearest
-- other word; of words that are as near it begins first, and of those that begin where it does it is the least
pub record IsFound (distance : ℕ → ℕ → ℕ) (low high : ℕ) (found : Found) : Type 0 where
  pub word : IsWord found.word
  pub from : low ≤ found.start
  pub before : found.start < high
  pub exact : distance found.start found.word ≡ found.distance
  pub least : (start word : ℕ) → low ≤ start → start < high → IsWord word → found.distance ≤ distance start word
  pub rival : (start word : ℕ) → low ≤ start → start < high → IsWord word → word ≢ found.word
      → found.rival ≤ distance start word
  pub first : (start word : ℕ) → low ≤ start → start < high → IsWord word → distance start word ≡ found.distance
      → IsBefore found.start found.word start word
  pub other : (start : ℕ) × (word : ℕ) × (low ≤ start) × (start < high) × IsWord word × (word ≢ found.word)
      × (distance start word ≡ found.rival)

-- no word that begins at a column before this is nearer than the column's bound
abbrev pub AreBounds : (ℕ → ℕ → ℕ) → ℕ → List ℕ → Type 0
AreBounds distance high bounds = (start word : ℕ) → start < high → IsWord word
    → slice_index_or bounds start 0 ≤ distance start word

-- no word, with the distance of the row of none, and of the nearest other one
abbrev pub no_word : ℕ → ℕ → Near
no_word distance rival = record {
  word = None;
  start = 0;
  distance = distance;
  rival = rival;
  longer = distance;
  shorter = distance;
}

-- the word found, with the distances of the nearest other row, of longer rows and of shorter ones
abbrev pub word_found : Found → ℕ → ℕ → ℕ → Near
word_found found rival longer shorter = record {
  word = Some found.word;
  start = found.start;
  distance = found.distance;
  rival = rival;
  longer = longer;
  shorter = shorter;
}

-- the nearer of the nearest word and of none
abbrev pub IsChosen : Found → ℕ → ℕ → ℕ → Near → Type 0
IsChosen found longer shorter blank near =
    ((blank ≤ found.distance) × (near ≡ no_word blank found.distance))
    ⊎ ((found.distance < blank) × (near ≡ word_found found (min found.rival blank) longer shorter))
