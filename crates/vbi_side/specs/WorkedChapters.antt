-- Worked captures of chapters, at each edge of the rule. A chapter's field shows it on line 17, in pass 1 if nothing
-- else is said.
use Rattle.std.specs.Prelude.{ℕ, zero, suc, List, [], ◌∷◌, ◌++◌, Some}
use Rattle.vbi_side.specs.Types.{Shown, Sighting, Sightings}
use Rattle.vbi_side.specs.Worked.{field_of, blank}
use Rattle.vbi_side.specs.Chapters.{BelievedChapter}

-- a field that shows this chapter on line 17
abbrev pub one : ℕ → Sightings
one chapter = field_of chapter 2 0 0

-- this many fields that show it
abbrev pub fields_of : ℕ → ℕ → List Sightings
fields_of zero chapter = []
fields_of (suc n) chapter = one chapter ∷ fields_of n chapter

-- this many fields that show nothing
abbrev pub blanks : ℕ → List Sightings
blanks zero = []
blanks (suc n) = blank ∷ blanks n

-- field 0 shows chapter 7, and so do four after it: together they weigh 10, or 9 if the last is of pass 2
abbrev pub said_by_10 : List Sightings
said_by_10 = fields_of 5 7

abbrev pub said_by_9 : List Sightings
said_by_9 = fields_of 4 7 ++ field_of 7 1 0 0 ∷ []

-- a weight of 10, with the last field 24 fields after field 0, or 25
abbrev pub said_to_24 : List Sightings
said_to_24 = fields_of 4 7 ++ blanks 20 ++ one 7 ∷ []

abbrev pub said_to_25 : List Sightings
said_to_25 = fields_of 4 7 ++ blanks 21 ++ one 7 ∷ []

-- a weight of 10, with the last field to be judged, and the first one 24 fields before it, or 25
abbrev pub said_from_24 : List Sightings
said_from_24 = one 7 ∷ blanks 20 ++ fields_of 4 7

abbrev pub said_from_25 : List Sightings
said_from_25 = one 7 ∷ blanks 21 ++ fields_of 4 7

-- five fields show chapter 7, and what stands after them says an earlier chapter, with weight 9
abbrev pub opposed_by_9 : List Sightings
opposed_by_9 = fields_of 5 7 ++ fields_of 4 3 ++ field_of 3 1 0 0 ∷ []

-- what stands before five fields of chapter 3 says a later one, with weight 9
abbrev pub opposed_before_by_9 : List Sightings
opposed_before_by_9 = fields_of 4 7 ++ field_of 7 1 0 0 ∷ fields_of 5 3

-- five fields of chapter 7, and after them five of an earlier one: each opposes the other with weight 10
abbrev pub falling : List Sightings
falling = fields_of 5 7 ++ fields_of 5 3

-- six fields show chapter 7; weight 10 says an earlier one, 2 of it in field 0 itself, on line 18
abbrev pub opposed_in_its_field : List Sightings
opposed_in_its_field = field_of 7 2 3 2 ∷ fields_of 5 7 ++ fields_of 4 3

-- chapters that rise: five fields of chapter 7, and five of chapter 8
abbrev pub rising : List Sightings
rising = fields_of 5 7 ++ fields_of 5 8

-- five fields of chapter 7 and five of chapter 8, with a field between them that shows both
abbrev pub rising_at_both : List Sightings
rising_at_both = fields_of 5 7 ++ field_of 7 2 8 2 ∷ fields_of 5 8

-- a field between them shows both, and one field more shows chapter 8 than chapter 7
abbrev pub rising_to_8 : List Sightings
rising_to_8 = fields_of 5 7 ++ field_of 7 2 8 2 ∷ fields_of 6 8

-- ---- what they are asked

-- no chapter is believed of the field
abbrev pub IsDoubted : List Sightings → ℕ → Type 0
IsDoubted fields i = (n : ℕ) → BelievedChapter fields i n → ⊥

-- a line with a word, in a pass
abbrev pub line_of : ℕ → ℕ → Shown
line_of word pass = record { word = Some word; pass = pass }

-- a chapter with what it weighs
abbrev pub said : ℕ → ℕ → Sighting
said chapter weight = record { number = chapter; weight = weight }
