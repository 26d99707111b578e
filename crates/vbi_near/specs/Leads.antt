-- The nearest code by sums: digit by digit, range by range and start by start. The word 0 stands for none.
use Rattle.std.specs.Prelude.{◌≡◌, ◌≢◌, ◌≤◌, ◌<◌, ◌⊎◌, ℕ, zero, suc, ◌+◌, ◌*◌, ◌/◌, ◌%◌, ◌^◌, Bool, false}
use Rattle.std.specs.Prelude.{List, [], ◌∷◌, nat_eq, slice_index_or}
use Rattle.vbi_near.specs.Common.{System, width_of, Shades, IsWord, starts}
use Rattle.vbi_near.specs.LineCodes.{Range, IsIn, IsOneOf}
use Rattle.vbi_near.specs.{declared.bits.Bits.Bits, declared.codes.Choice.Choice, declared.word_search.Found.Found}
use Rattle.vbi_near.specs.{declared.near.Near.Near, Sums.span, Costs.place_cost, Nearest.IsBefore, Best.no_word}
use Rattle.vbi_near.specs.{Best.word_found}

-- ---- digits

-- the bit of a digit that counts so much
abbrev pub bit_in : ℕ → ℕ → Bool
bit_in digit weight = nat_eq (digit / weight % 2) 1

-- what a digit costs whose bits begin in this cell
abbrev pub digit_cost : (ℕ → Bool → ℕ) → ℕ → ℕ → ℕ
digit_cost cost cell digit =
    cost cell (bit_in digit 8) + cost (cell + 1) (bit_in digit 4) + cost (cell + 2) (bit_in digit 2)
    + cost (cell + 3) (bit_in digit 1)

-- this is what a digit costs, in a table of 16 for each of a word's digits
abbrev pub IsDigitCost : (ℕ → Bool → ℕ) → ℕ → ℕ → Type 0
IsDigitCost cost i price = (price ≡ digit_cost cost (4 * (i / 16)) (i % 16)) × (price < 2 ^ 28)

-- what the n digits of a number cost, with what there is to pay anyway
unfoldable pub digits_cost : (ℕ → ℕ → ℕ) → ℕ → ℕ → ℕ → ℕ
digits_cost cost base zero word = base
digits_cost cost base (suc n) word = digits_cost cost base n (word / 16) + cost n (word % 16)

-- a number of n digits, each of them from one to another
unfoldable pub AreDigits : (ℕ → ℕ) → (ℕ → ℕ) → ℕ → ℕ → Type 0
AreDigits least greatest zero word = word ≡ 0
AreDigits least greatest (suc n) word =
    AreDigits least greatest n (word / 16) × (least n ≤ word % 16) × (word % 16 ≤ greatest n)

-- of the values of a digit from one on and before another this costs least, and any other `second` at least; of those
-- that cost as little it is the least
pub record IsChoice (cost : ℕ → ℕ) (low high : ℕ) (choice : Choice) : Type 0 where
  pub from : low ≤ choice.value
  pub before : choice.value < high
  pub exact : cost choice.value ≡ choice.least
  pub order : choice.least ≤ choice.second
  pub ahead : (v : ℕ) → low ≤ v → v < high → v ≢ choice.value → choice.second ≤ cost v
  pub first : (v : ℕ) → low ≤ v → v < high → cost v ≡ choice.least → choice.value ≤ v
  pub other : (choice.second ≡ 4294967295)
      ⊎ ((v : ℕ) × (low ≤ v) × (v < high) × (v ≢ choice.value) × (cost v ≡ choice.second))

-- of all numbers of n such digits this has the least cost, and any other costs the margin more at least; of those that
-- cost as little it is the least
pub record AreBest (cost : ℕ → ℕ → ℕ) (base : ℕ) (least greatest : ℕ → ℕ) (n : ℕ) (best : Bits) : Type 0 where
  pub word : AreDigits least greatest n best.word
  pub exact : digits_cost cost base n best.word ≡ best.distance
  pub ahead : (v : ℕ) → AreDigits least greatest n v → v ≢ best.word
      → best.distance + best.margin ≤ digits_cost cost base n v
  pub first : (v : ℕ) → AreDigits least greatest n v → digits_cost cost base n v ≡ best.distance → best.word ≤ v
  pub other : (2 ^ 31 ≤ best.margin) ⊎ ((v : ℕ) × AreDigits least greatest n v × (v ≢ best.word)
      × (digits_cost cost base n v ≡ best.distance + best.margin))

-- ---- what was looked at

-- a word, or 0 for none, that begins at a column
abbrev pub Places : Type 1
Places = ℕ → ℕ → Type 0

-- the words of a range at one start
abbrev pub at_start : ℕ → Range → Places
at_start at words start word = (start ≡ at) × IsIn words word

-- words that begin at `start` cost as much as their digits by this table, and what there is to pay anyway
abbrev pub ArePriced : (ℕ → ℕ → ℕ) → ℕ → ℕ → List ℕ → Type 0
ArePriced cost base start digits = (word : ℕ) → IsWord word
    → cost start word ≡ digits_cost (λ place digit. slice_index_or digits (16 * place + digit) 0) base 6 word

-- a range whose words were looked at, at one start
pub record Look : Type 0 where
  pub start : ℕ
  pub words : Range

abbrev pub look : ℕ → Range → Look
look start words = record { start = start; words = words }

-- none, or one of the words that were looked at
abbrev pub IsSeen : List Look → Places
IsSeen [] start word = (start ≡ 0) × (word ≡ 0)
IsSeen (first ∷ looks) start word = at_start first.start first.words start word ⊎ IsSeen looks start word

-- the words of some ranges at one start more
abbrev pub with_ranges : List Look → ℕ → List Range → List Look
with_ranges looks at [] = looks
with_ranges looks at (words ∷ ranges) = with_ranges (look at words ∷ looks) at ranges

-- the words of the ranges at one start first, and then at each before another
abbrev pub looks_before : List Range → ℕ → ℕ → List Look
looks_before ranges first zero = with_ranges [] first ranges
looks_before ranges first (suc n) = with_ranges (looks_before ranges first n) n ranges

-- none, and words of some ranges at each start
abbrev pub all_codes : List Range → System → Places
all_codes ranges system start word =
    ((start ≡ 0) × (word ≡ 0)) ⊎ ((start < starts system) × IsOneOf ranges word)

-- what a word costs that begins at a column, or none
abbrev pub code_cost : Shades → System → ℕ → ℕ → ℕ
code_cost sums system start zero = span sums false 0 (width_of system)
code_cost sums system start (suc word) = place_cost sums system start (suc word)

-- of what was looked at this has the least distance, and any other word `rival` at least; of what is as near it comes
-- first
pub record IsLead (cost : ℕ → ℕ → ℕ) (seen : Places) (lead : Found) : Type 0 where
  pub there : seen lead.start lead.word
  pub exact : cost lead.start lead.word ≡ lead.distance
  pub order : lead.distance ≤ lead.rival
  pub least : (start word : ℕ) → seen start word → lead.distance ≤ cost start word
  pub rival : (start word : ℕ) → seen start word → word ≢ lead.word → lead.rival ≤ cost start word
  pub first : (start word : ℕ) → seen start word → cost start word ≡ lead.distance
      → IsBefore lead.start lead.word start word
  pub other : (2 ^ 31 ≤ lead.rival)
      ⊎ ((start : ℕ) × (word : ℕ) × seen start word × (word ≢ lead.word) × (cost start word ≡ lead.rival))

-- this lead is nearer than another, or as near and comes before it
abbrev pub IsAhead : Found → Found → Type 0
IsAhead one other = (one.distance < other.distance)
    ⊎ ((one.distance ≡ other.distance) × IsBefore one.start one.word other.start other.word)

-- numbers that fit: until a second word was looked at, there is none but the first
abbrev pub IsFew : Found → Type 0
IsFew lead = (lead.distance ≤ lead.rival) × (lead.distance < 2 ^ 31) × ((lead.rival < 2 ^ 31) ⊎ (lead.word ≡ 0))

abbrev pub IsClose : Found → Type 0
IsClose lead = (lead.distance ≤ lead.rival) × (lead.distance < 2 ^ 31) × (lead.rival < 2 ^ 31)

-- the code found, or none
abbrev pub IsCodeChosen : Found → ℕ → ℕ → Near → Type 0
IsCodeChosen found longer shorter near =
    ((found.word ≡ 0) × (near ≡ no_word found.distance found.rival))
    ⊎ ((0 < found.word) × (near ≡ word_found found found.rival longer shorter))
