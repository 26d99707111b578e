-- Any lines have a first nearest word, and a first nearest code.
-- some_near and SomeSeen stand on it.
use Rattle.std.proofs.Common.{◌≡◌, ◌≢◌, ℕ, zero, suc, ◌+◌, ◌-◌, ◌*◌, ◌/◌, ◌%◌, ◌≤◌, ◌<◌, ◌⊎◌, inl, inr, Bool, true}
use Rattle.std.proofs.Common.{false, List, [], ◌∷◌, refl, sym, ap, ◌∙◌, subst, arith}
use Rattle.std.specs.Prelude.{Option, Some, None}
use Rattle.std.proofs.lemmas.Bool.{cases_eq, cases_lt}
use Rattle.vbi_near.proofs.Common.{System, width_of, Slicing, IsWord, digit_of, IsBetween, Near, Range, IsIn, IsOneOf}
use Rattle.vbi_near.proofs.Common.{codes_of, IsCodePlace, IsPlace, drawn_as, starts, word_length, Samples, most_of}
use Rattle.vbi_near.proofs.Common.{distance_of, IsNearestBy, IsFirstBy, IsNearest, IsFirst, Precedes, far_from}
use Rattle.vbi_near.proofs.Common.{IsNearestCode, IsFirstCode, GoesOn, IsLeastRow, HasLeastRow, IsLonger, cell_length}
use Rattle.vbi_near.proofs.Common.{begun_earlier, ended_later, begun_later, ended_earlier, row_of_halves, IsCutShort}
use Rattle.vbi_near.proofs.Common.{IsShorter}
use Rattle.vbi_near.proofs.Certain.{same_or_not, some_none, none_some}
use Rattle.vbi_near.proofs.Least.{Least, found, IsDecided, both_decided, either_decided, at_most_decided, all_decided}
use Rattle.vbi_near.proofs.{Chosen.code-place, Columns.word-fits}

-- ---- places by number, in their order

-- the word of the place with this number, its start, and the number of a place
word_at : ℕ → Option ℕ
word_at zero = None
word_at (suc m) = Some (8388608 + m % 8388608)

start_at : ℕ → ℕ
start_at zero = 0
start_at (suc m) = m / 8388608

number_of : Option ℕ → ℕ → ℕ
number_of None start = 0
number_of (Some word) start = suc (start * 8388608 + (word - 8388608))

module _ (system : System) where
  last : ℕ
  last = starts system * 8388608

  record Numbered (word : Option ℕ) (start : ℕ) : Type 0 where
    pub within : number_of word start ≤ last
    pub word_is : word_at (number_of word start) ≡ word
    pub start_is : start_at (number_of word start) ≡ start

  numbered : (word : Option ℕ) (start : ℕ) → IsPlace system word start → Numbered word start
  unfolding word_at start_at number_of last
  numbered None start place = record { within = omega arith; word_is = refl; start_is = sym place }
  numbered (Some w) start ((low, high), room) = grind arith

  precedes : (word other : Option ℕ) (start at : ℕ) → IsPlace system word start → IsPlace system other at
      → number_of word start ≤ number_of other at → Precedes word start other at
  unfolding number_of
  precedes None other start at here there le = tt
  precedes (Some w) None start at here there le = absurd (omega arith)
  precedes (Some w) (Some v) start at ((low, high), room) ((low', high'), room') le = grind arith

-- a place's number, again
renumbered : (k : ℕ) → number_of (word_at k) (start_at k) ≡ k
unfolding word_at start_at number_of
renumbered zero = refl
renumbered (suc m) = ap suc (omega arith)

other_word : (a b : Option ℕ) → IsDecided (a ≢ b)
other_word a b = grind (arith, same_or_not, IsDecided)

-- the first of the nearest of some places: that of none is one, and so is a word at the first column
module _ (system : System) (IsThere : Option ℕ → ℕ → Type 0)
    (fits : (word : Option ℕ) (start : ℕ) → IsThere word start → IsPlace system word start)
    (decided : (word : Option ℕ) (start : ℕ) → IsDecided (IsThere word start)) (none : IsThere None 0) (word : ℕ)
    (one : IsThere (Some word) 0) (far : Option ℕ → ℕ → ℕ) where
  cost : ℕ → ℕ
  cost k = far (word_at k) (start_at k)

  -- the place of this number is there
  abbrev Has : ℕ → Type 0
  Has k = IsThere (word_at k) (start_at k)

  -- the place of this number is there, and is one of another word
  abbrev HasOther : Option ℕ → ℕ → Type 0
  HasOther other k = Has k × (word_at k ≢ other)

  cost-of : (word : Option ℕ) (start : ℕ) → IsThere word start → cost (number_of word start) ≡ far word start
  unfolding cost
  cost-of word start place = grind (arith, numbered)

  has : (word : Option ℕ) (start : ℕ) → IsThere word start → Has (number_of word start)
  has word start place = grind (arith, numbered, word_at, number_of)

  best : Least cost Has (last system)
  unfolding word_at start_at
  best = found cost Has (λ k. decided (word_at k) (start_at k)) (last system) 0 (omega arith) none

  others : (other : Option ℕ) (k : ℕ) → IsDecided (HasOther other k)
  others other k =
      both_decided (Has k) (word_at k ≢ other) (decided (word_at k) (start_at k)) (other_word (word_at k) other)

  another : (other : Option ℕ) → Least cost (HasOther other) (last system)
  another None =
      let n = numbered system (Some word) 0 (fits (Some word) 0 one) in
      found cost (HasOther None) (others None) (last system) (number_of (Some word) 0) n.within
      (has (Some word) 0 one, λ e. some_none word (sym n.word_is ∙ e))
  another (Some w) =
      let n = numbered system None 0 (fits None 0 none) in
      found cost (HasOther (Some w)) (others (Some w)) (last system) (number_of None 0) n.within
      (has None 0 none, λ e. none_some w (sym n.word_is ∙ e))

  -- the first nearest word, with any numbers as `longer` and `shorter`
  near_with : ℕ → ℕ → Near
  near_with longer shorter = record {
    word = word_at best.at;
    start = start_at best.at;
    distance = cost best.at;
    rival = cost (another (word_at best.at)).at;
    longer = longer;
    shorter = shorter;
  }

  near_is : (longer shorter : ℕ) → IsNearestBy IsThere far (near_with longer shorter)
  unfolding near_with cost
  near_is longer shorter = record {
    place = best.holds;
    exact = refl;
    least = λ word start place.
        let n = numbered system word start (fits word start place) in
        omega (
          arith,
          best.least (number_of word start) n.within (has word start place),
          cost-of word start place,
        );
    rival = λ word start place differs.
        let n = numbered system word start (fits word start place) in
        let r = another (word_at best.at) in
        omega (
          arith,
          r.least (number_of word start) n.within (has word start place, λ e. differs (sym n.word_is ∙ e)),
          cost-of word start place,
        );
    other = let r = another (word_at best.at) in (word_at r.at, start_at r.at, r.holds.0, r.holds.1, refl);
  }

  first_near : (longer shorter : ℕ) → IsFirstBy IsThere far (near_with longer shorter)
  unfolding near_with
  first_near longer shorter =
      grind (arith, numbered, best, number_of, has, cost-of, precedes, word_at, start_at, renumbered)

-- ---- rows on which a word goes on or is cut short

-- of four rows that there may be, if there is one, one has the least distance
some_row : (IsRow : List Bool → Type 0) (far : List Bool → ℕ) (levels : ℕ → List Bool) (Has : ℕ → Type 0)
    → ((k : ℕ) → IsDecided (Has k)) → (k : ℕ) → k ≤ 3 → Has k → ((k : ℕ) → Has k → IsRow (levels k))
    → ((x : List Bool) → IsRow x → (k : ℕ) × (k ≤ 3) × Has k × (x ≡ levels k))
    → (distance : ℕ) × IsLeastRow IsRow far distance
some_row IsRow far levels Has decided k le one are all =
    let l = found (λ (k : ℕ). far (levels k)) Has decided 3 k le one in (
      far (levels l.at),
      record {
        least = λ x row. let n = all x row in omega (arith, l.least n.0 n.1 n.2, ap far n.3);
        one = (levels l.at, are l.at l.holds, refl);
      },
    )

-- there is a least distance of the rows of the word at a place, or of none
row_of : (IsRow : ℕ → ℕ → List Bool → Type 0) (far : List Bool → ℕ) (word : Option ℕ) (start distance : ℕ)
    → ((w : ℕ) → word ≡ Some w → (least : ℕ) × IsLeastRow (IsRow w start) far least)
    → (least : ℕ) × ((near : Near) → near.start ≡ start → near.distance ≡ distance
    → HasLeastRow IsRow far word near least)
row_of IsRow far None start distance some = (distance, λ near s d. sym d)
row_of IsRow far (Some w) start distance some =
    let l = some w refl in (l.0, λ near s d. subst (λ (k : ℕ). IsLeastRow (IsRow w k) far l.0) (sym s) l.1)

cells_fit : (system : System) → word_length system + 2 * cell_length system ≤ width_of system
cells_fit system = grind arith

module _ (system : System) (far : List Bool → ℕ) (word start : ℕ) where
  levels_at : ℕ → List Bool
  levels_at zero = begun_earlier system word start true
  levels_at (suc zero) = begun_earlier system word start false
  levels_at (suc (suc zero)) = ended_later system word start true
  levels_at (suc (suc (suc k))) = ended_later system word start false

  abbrev HasRoom : ℕ → Type 0
  HasRoom zero = cell_length system ≤ start
  HasRoom (suc zero) = cell_length system ≤ start
  HasRoom (suc (suc k)) = start + word_length system + cell_length system ≤ width_of system

  has_room : (k : ℕ) → IsDecided (HasRoom k)
  has_room zero = at_most_decided (cell_length system) start
  has_room (suc zero) = at_most_decided (cell_length system) start
  has_room (suc (suc k)) = at_most_decided (start + word_length system + cell_length system) (width_of system)

  goes_on : (k : ℕ) → HasRoom k → GoesOn system word start (levels_at k)
  unfolding levels_at
  goes_on zero fits = (true, inl (fits, refl))
  goes_on (suc zero) fits = (false, inl (fits, refl))
  goes_on (suc (suc zero)) fits = (true, inr (fits, refl))
  goes_on (suc (suc (suc k))) fits = (false, inr (fits, refl))

  is_longer : (levels : List Bool) → GoesOn system word start levels
      → (k : ℕ) × (k ≤ 3) × HasRoom k × (levels ≡ levels_at k)
  unfolding levels_at
  is_longer levels (true, inl (fits, e)) = (0, omega arith, fits, e)
  is_longer levels (false, inl (fits, e)) = (1, omega arith, fits, e)
  is_longer levels (true, inr (fits, e)) = (2, omega arith, fits, e)
  is_longer levels (false, inr (fits, e)) = (3, omega arith, fits, e)

  some_longer : start + word_length system ≤ width_of system
      → (longer : ℕ) × IsLeastRow (GoesOn system word start) far longer
  some_longer room = go (cases_lt start (cell_length system))
    where
      go : (start < cell_length system) ⊎ (cell_length system ≤ start)
          → (longer : ℕ) × IsLeastRow (GoesOn system word start) far longer
      go (inl less) =
          some_row (GoesOn system word start) far levels_at HasRoom has_room 2 (omega arith)
          (omega (arith, less, cells_fit system)) goes_on is_longer
      go (inr le) =
          some_row (GoesOn system word start) far levels_at HasRoom has_room 0 (omega arith) le goes_on is_longer

  cut_at : ℕ → List Bool
  cut_at zero = row_of_halves system start (begun_later word 2)
  cut_at (suc zero) = row_of_halves system start (begun_later word 4)
  cut_at (suc (suc zero)) = row_of_halves system start (ended_earlier word 2)
  cut_at (suc (suc (suc k))) = row_of_halves system start (ended_earlier word 4)

  cut_short : (k : ℕ) → Unit {0} → IsCutShort system word start (cut_at k)
  unfolding cut_at
  cut_short zero any = inl refl
  cut_short (suc zero) any = inr (inl refl)
  cut_short (suc (suc zero)) any = inr (inr (inl refl))
  cut_short (suc (suc (suc k))) any = inr (inr (inr refl))

  is_cut : (levels : List Bool) → IsCutShort system word start levels
      → (k : ℕ) × (k ≤ 3) × Unit {0} × (levels ≡ cut_at k)
  unfolding cut_at
  is_cut levels (inl e) = (0, omega arith, tt, e)
  is_cut levels (inr (inl e)) = (1, omega arith, tt, e)
  is_cut levels (inr (inr (inl e))) = (2, omega arith, tt, e)
  is_cut levels (inr (inr (inr e))) = (3, omega arith, tt, e)

  some_shorter : (shorter : ℕ) × IsLeastRow (IsCutShort system word start) far shorter
  some_shorter =
      some_row (IsCutShort system word start) far cut_at (λ k. Unit {0}) (λ k. inl tt) 0 (omega arith) tt cut_short
      is_cut

-- the first of the nearest at these places, with the least longer and the least shorter distance
pub some_near_by : (system : System) (IsThere : Option ℕ → ℕ → Type 0)
    → ((word : Option ℕ) (start : ℕ) → IsThere word start → IsPlace system word start)
    → ((word : Option ℕ) (start : ℕ) → IsDecided (IsThere word start)) → IsThere None 0 → (word : ℕ)
    → IsThere (Some word) 0 → (far : Option ℕ → ℕ → ℕ) (longer_far : List Bool → ℕ)
    → (near : Near) × IsNearestBy IsThere far near × IsFirstBy IsThere far near
    × HasLeastRow (GoesOn system) longer_far near.word near near.longer
    × HasLeastRow (IsCutShort system) longer_far near.word near near.shorter
unfolding near_with
some_near_by system IsThere fits decided none word one far longer_far =
    let b = best system IsThere fits decided none word one far in
    let w : Option ℕ = word_at b.at in
    let s : ℕ = start_at b.at in
    let c : ℕ = cost system IsThere fits decided none word one far b.at in
    let place : IsPlace system w s = fits w s b.holds in
    let l = row_of (GoesOn system) longer_far w s c (λ v e. some_longer system longer_far v s
    (subst (λ (o : Option ℕ). IsPlace system o s) e place).1) in
    let m = row_of (IsCutShort system) longer_far w s c (λ v e. some_shorter system longer_far v s) in
    let near : Near = near_with system IsThere fits decided none word one far l.0 m.0 in (
      near,
      near_is system IsThere fits decided none word one far l.0 m.0,
      first_near system IsThere fits decided none word one far l.0 m.0,
      l.1 near refl refl,
      m.1 near refl refl,
    )

-- ---- places

-- which words there are, and at which places they and codes stand, can be decided
word_decided : (w : ℕ) → IsDecided (IsWord w)
word_decided w = both_decided _ _ (at_most_decided 8388608 w) (at_most_decided (suc w) 16777216)

place_decided : (system : System) (word : Option ℕ) (start : ℕ) → IsDecided (IsPlace system word start)
place_decided system None start = cases_eq start 0
place_decided system (Some w) start = grind (arith, both_decided, word_decided, at_most_decided)

-- a digit is in the range of those at its place from 0
abbrev Fits : ℕ → ℕ → ℕ → ℕ → Type 0
Fits least greatest w k =
    (digit_of least (suc k) ≤ digit_of w (suc k)) × (digit_of w (suc k) ≤ digit_of greatest (suc k))

between_decided : (least greatest w : ℕ) → IsDecided (IsBetween least greatest w)
between_decided least greatest w =
    go (all_decided (Fits least greatest w) (λ k. both_decided (digit_of least (suc k) ≤ digit_of w (suc k))
    (digit_of w (suc k) ≤ digit_of greatest (suc k)) (at_most_decided (digit_of least (suc k)) (digit_of w (suc k)))
    (at_most_decided (digit_of w (suc k)) (digit_of greatest (suc k)))) 6)
  where
    at : ((k : ℕ) → k < 6 → Fits least greatest w k) → IsBetween least greatest w
    at all zero low high = absurd (omega arith)
    at all (suc k) low high = all k (omega arith)

    go : IsDecided ((k : ℕ) → k < 6 → Fits least greatest w k) → IsDecided (IsBetween least greatest w)
    go (inl all) = inl (at all)
    go (inr not) = inr (λ is. not (λ k l. is (suc k) (omega arith) (omega arith)))

one_decided : (ranges : List Range) (w : ℕ) → IsDecided (IsOneOf ranges w)
one_decided [] w = inr (λ none. none)
one_decided (words ∷ ranges) w =
    either_decided (IsIn words w) (IsOneOf ranges w)
    (both_decided (IsWord w) (IsBetween words.least words.greatest w) (word_decided w)
    (between_decided words.least words.greatest w)) (one_decided ranges w)

code_decided : (ranges : List Range) (system : System) (word : Option ℕ) (start : ℕ)
    → IsDecided (IsCodePlace ranges system word start)
code_decided ranges system None start = cases_eq start 0
code_decided ranges system (Some w) start = grind (arith, both_decided, one_decided, at_most_decided)

-- picture stop, which may stand on each line
stop_between : IsBetween 0x82CFFF 0x82CFFF 0x82CFFF
stop_between place low high = (omega arith, omega arith)

-- picture stop is in each table
stop_stands : (system : System) (line : ℕ) → IsOneOf (codes_of system line) 0x82CFFF
stop_stands system line = grind (arith, stop_between)

-- ---- of all words, and of the codes that may stand on a line

pub some_near : (system : System) (slicing : Slicing) (lines : List Samples)
    → (near : Near) × IsNearest system slicing lines near × IsFirst system slicing lines near
    × IsLonger system slicing lines near × IsShorter system slicing lines near
some_near system slicing lines =
    some_near_by system (IsPlace system) (λ word start place. place) (place_decided system) refl 8388608
    ((omega arith, omega arith), omega (arith, word-fits system)) (far_from system slicing lines)
    (λ levels. distance_of (most_of slicing) lines (drawn_as slicing levels))

pub some_near_code : (system : System) (line : ℕ) (slicing : Slicing) (lines : List Samples)
    → (near : Near) × IsNearestCode system line slicing lines near × IsFirstCode system line slicing lines near
    × IsLonger system slicing lines near × IsShorter system slicing lines near
some_near_code system line slicing lines =
    some_near_by system (IsCodePlace (codes_of system line) system) (code-place (codes_of system line) system)
    (code_decided (codes_of system line) system) refl 0x82CFFF
    (stop_stands system line, omega (arith, word-fits system)) (far_from system slicing lines)
    (λ levels. distance_of (most_of slicing) lines (drawn_as slicing levels))
