-- The text of words that is drawn from: a row of three items a field, in ASCII.
use Rattle.std.specs.Prelude.{◌≡◌, ℕ, ◌^◌, ◌==◌, ◌&&◌, if◌then◌else◌, Bool, List, [], ◌∷◌, ◌++◌}
use Rattle.std.specs.Prelude.{length, map, slice_index, nat_lt, nat_le, codes, Option, Some, None}
use Rattle.std.specs.List.{slice_split, onto_first, list_all, before_first}
use Rattle.std.specs.Char.{is_digit}
use Rattle.std.specs.Str.Parse.{AllDigits, digits_value}
use Rattle.vbi_words.specs.Words.{IsWord}
pub use Rattle.vbi_field.specs.declared.word_row.WordRow.{WordRow}

-- the code of the newline after a row
abbrev pub newline : ℕ
newline = 10

-- the code of the space between two items
abbrev pub space : ℕ
space = 32

-- the code of the dash that stands for no word
abbrev pub dash : ℕ
dash = 45

-- ---- what an item and a row are

-- the text of an item: six hexadecimal digits, upper or lower case, whose value is a word, or a single - for none
abbrev pub IsItem : List ℕ → Option ℕ → Type 0
IsItem text None = text ≡ codes "-"
IsItem text (Some word) = (length text ≡ 6) × AllDigits 16 text × (digits_value 16 text ≡ word) × IsWord word

-- a row, without its newline, that stands for these words: three items with one space between two of them
pub record IsWordRow (row : List ℕ) (words : WordRow) : Type 0 where
  pub first : List ℕ
  pub second : List ℕ
  pub third : List ℕ
  pub joined : row ≡ first ++ codes " " ++ second ++ codes " " ++ third
  pub first_is : IsItem first words.first
  pub second_is : IsItem second words.second
  pub third_is : IsItem third words.third

-- ---- the same as functions, to which the law `one_word_row` ties them

-- the text is a single -
abbrev pub is_none_item : List ℕ → Bool
is_none_item text = length text == 1 && slice_index text 0 == dash

-- the text is six hexadecimal digits
abbrev pub is_hex_item : List ℕ → Bool
is_hex_item text = length text == 6 && list_all (λ c. is_digit c 16) text

-- the number is a word
abbrev pub is_word : ℕ → Bool
is_word value = nat_le (2 ^ 23) value && nat_lt value (2 ^ 24)

-- what the text of an item stands for, a word or none; `None` if it is no item
unfoldable pub item_of : List ℕ → Option (Option ℕ)
item_of text =
    if is_none_item text then Some None
    else (if is_hex_item text && is_word (digits_value 16 text) then Some (Some (digits_value 16 text)) else None)

-- three items as a row
abbrev pub row_of_items : Option (Option ℕ) → Option (Option ℕ) → Option (Option ℕ) → Option WordRow
row_of_items (Some first) (Some second) (Some third) = Some (record { first = first; second = second; third = third })
row_of_items _ _ _ = None

-- the parts between spaces as a row, if they are three
abbrev pub row_of_parts : List (List ℕ) → Option WordRow
row_of_parts (first ∷ second ∷ third ∷ []) = row_of_items (item_of first) (item_of second) (item_of third)
row_of_parts _ = None

-- the parts of a row between its spaces
abbrev pub parts_of : List ℕ → List (List ℕ)
parts_of row = slice_split (λ c. c == space) row

-- the words that a row without its newline stands for; `None` if it is malformed
unfoldable pub word_row_of : List ℕ → Option WordRow
word_row_of row = row_of_parts (parts_of row)

-- ---- the rows of a text

-- a text cut after each newline; a last piece that isn't empty is a row without newline
abbrev pub rows_of : List ℕ → List (List ℕ)
rows_of [] = []
rows_of (c ∷ cs) = if c == newline then (c ∷ []) ∷ rows_of cs else onto_first c (rows_of cs)

-- the words that a row stands for, with its newline or, at the end, without
abbrev pub row_words : List ℕ → Option WordRow
row_words row = word_row_of (before_first (λ c. c == newline) row)

-- each row of the text is well formed, and they stand for these words in order
abbrev pub AreRows : List ℕ → List WordRow → Type 0
AreRows text rows = map row_words (rows_of text) ≡ map Some rows
