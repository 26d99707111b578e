-- What words cost by their digits, and ranges of words as the program has them.
use Rattle.std.specs.Prelude.{ℕ, List, map, slice_index_or}
use Rattle.vbi_near.specs.LineCodes.{Range, range, IsRange}
use Rattle.vbi_near.specs.{declared.prices.Prices.Prices, Leads.ArePriced}

-- words that begin where these prices hold cost as much as they say
abbrev pub IsPricedBy : (ℕ → ℕ → ℕ) → Prices → Type 0
IsPricedBy cost prices = ArePriced cost prices.base prices.start prices.digits.now

abbrev pub ranges_of : List (ℕ × ℕ) → List Range
ranges_of codes = map (λ words. range words.0 words.1) codes

-- in the range at this index each digit has a value at least
abbrev pub IsRangeAt : List (ℕ × ℕ) → ℕ → Type 0
IsRangeAt codes i = let words = slice_index_or codes i (0, 0) in IsRange words.0 words.1
