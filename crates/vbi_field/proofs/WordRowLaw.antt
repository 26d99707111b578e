-- The rows that the function and the relation speak of are the same.
use Rattle.vbi_field.proofs.Common.{◌≡◌, ℕ, zero, suc, ◌<◌, cond, [], ◌∷◌, ◌++◌, length, map, get_or, refl, sym, ap}
use Rattle.vbi_field.proofs.Common.{subst, ◌∙◌, arith, append_assoc, ◌==◌, codes, slice_get, list_all, join_with_byte}
use Rattle.vbi_field.proofs.Common.{is_digit, digits_value, ltb-true, nat_tests, slice_split_none}
use Rattle.vbi_field.proofs.Common.{join_with_byte-slice_split, WordRow, row_of_items, row_of_parts, parts_of}
use Rattle.vbi_field.proofs.Common.{row_words, rows_of, AreRows, AreDrawable, IsWordOrNone, Bool, true, false, List}
use Rattle.std.specs.Prelude.{Option, Some, None, ◌&&◌, All}
use Rattle.std.specs.Char.{digit_value}
use Rattle.std.specs.Str.Parse.{AllDigits}
use Rattle.std.proofs.lemmas.Bool.{and_parts, eqb-true, leb-true, lt-ltb, le-leb}
use Rattle.std.proofs.lemmas.List.Splits.{slice_split_at}
use Rattle.vbi_field.specs.WordRows.{IsItem, IsWordRow, is_none_item, is_hex_item, is_word, item_of, word_row_of}

-- ---- items

digits_all : (text : List ℕ) → list_all (λ c. is_digit c 16) text ≡ true → AllDigits 16 text
digits_all [] e = tt
digits_all (c ∷ cs) e =
    let both = and_parts (is_digit c 16) (list_all (λ d. is_digit d 16) cs) e in
    (ltb-true (digit_value c) 16 both.0, digits_all cs both.1)

all_digits : (text : List ℕ) → AllDigits 16 text → list_all (λ c. is_digit c 16) text ≡ true
all_digits [] d = refl
all_digits (c ∷ cs) d = let first : is_digit c 16 ≡ true =
    lt-ltb (digit_value c) 16 d.0 in rw (first, all_digits cs d.1) refl

one_byte : (text : List ℕ) → length text ≡ 1 → get_or text 0 0 ≡ 45 → text ≡ 45 ∷ []
one_byte [] l e = absurd (omega arith)
one_byte (c ∷ []) l e = ap (λ (b : ℕ). b ∷ []) e
one_byte (c ∷ d ∷ cs) l e = absurd (omega arith)

item_from : (text : List ℕ) (item : Option ℕ) (a b : Bool) → is_none_item text ≡ a
    → (is_hex_item text && is_word (digits_value 16 text)) ≡ b
    → cond a (Some None) (cond b (Some (Some (digits_value 16 text))) None) ≡ Some item → IsItem text item
item_from text item true b f g e = grind (arith, and_parts, one_byte, eqb-true)
item_from text item false true f g e = grind (arith, and_parts, eqb-true, digits_all, leb-true, ltb-true)
item_from text item false false f g e = cc

-- what the function finds is an item
item_is : (text : List ℕ) (item : Option ℕ) → item_of text ≡ Some item → IsItem text item
unfolding item_of
item_is text item e = item_from text item _ _ refl refl e

-- each item is found
is_item : (text : List ℕ) (item : Option ℕ) → IsItem text item → item_of text ≡ Some item
unfolding item_of
is_item text None e = rw e refl
is_item text (Some word) (long, digits, value, range) = grind (arith, nat_tests, le-leb, lt-ltb, all_digits)

-- an item has no space
no_space : (c : ℕ) → digit_value c < 16 → (c == 32) ≡ false
no_space c d = grind arith

plain_at : (text : List ℕ) → AllDigits 16 text → (k d : ℕ) → k < length text → (get_or text k d == 32) ≡ false
plain_at [] digits k d l = absurd (omega arith)
plain_at (c ∷ cs) digits zero d l = no_space c digits.0
plain_at (c ∷ cs) digits (suc k) d l = plain_at cs digits.1 k d (omega arith)

digits_plain : (text : List ℕ) → AllDigits 16 text → All (λ c. (c == 32) ≡ false) text
digits_plain text digits = plain_at text digits

dash_plain : All (λ c. (c == 32) ≡ false) (45 ∷ [])
dash_plain zero d l = refl
dash_plain (suc k) d l = absurd (omega arith)

item_plain : (text : List ℕ) (item : Option ℕ) → IsItem text item → All (λ c. (c == 32) ≡ false) text
item_plain text None e = subst (All (λ c. (c == 32) ≡ false)) (sym e) dash_plain
item_plain text (Some word) (long, digits, value, range) = digits_plain text digits

-- ---- rows

spaced : (a b c : List ℕ) → a ++ codes " " ++ b ++ codes " " ++ c ≡ a ++ 32 ∷ (b ++ 32 ∷ c)
spaced a b c = simp append_assoc

record AreItems (a b c : Option (Option ℕ)) (words : WordRow) : Type 0 where
  first : a ≡ Some words.first
  second : b ≡ Some words.second
  third : c ≡ Some words.third

items_of : (a b c : Option (Option ℕ)) (words : WordRow) → row_of_items a b c ≡ Some words → AreItems a b c words
items_of a b c words e = grind arith

row_from : (row : List ℕ) (words : WordRow) (parts : List (List ℕ)) → join_with_byte 32 parts ≡ row
    → row_of_parts parts ≡ Some words
    → IsWordRow row words
row_from row words [] j e = cc
row_from row words (a ∷ []) j e = cc
row_from row words (a ∷ b ∷ []) j e = cc
row_from row words (a ∷ b ∷ c ∷ []) j e =
    let items = items_of (item_of a) (item_of b) (item_of c) words e in
    record {
      first = a;
      second = b;
      third = c;
      joined = sym j ∙ sym (spaced a b c);
      first_is = item_is a words.first items.first;
      second_is = item_is b words.second items.second;
      third_is = item_is c words.third items.third;
    }
row_from row words (a ∷ b ∷ c ∷ d ∷ more) j e = cc

pub is_word_row : (row : List ℕ) (words : WordRow) → word_row_of row ≡ Some words → IsWordRow row words
unfolding word_row_of
is_word_row row words e = row_from row words (parts_of row) (join_with_byte-slice_split 32 row) e

pub word_row_is : (row : List ℕ) (words : WordRow) → IsWordRow row words → word_row_of row ≡ Some words
unfolding word_row_of
word_row_is row words w = grind (arith, spaced, slice_split_at, item_plain, slice_split_none, is_item)

-- ---- the rows of a text

drawable : (text : List ℕ) (item : Option ℕ) → IsItem text item → IsWordOrNone item
drawable text None e = tt
drawable text (Some word) (long, digits, value, range) = range

row_at : (rows : List (List ℕ)) (all : List WordRow) (i : ℕ) (words : WordRow) → map row_words rows ≡ map Some all
    → slice_get all i ≡ Some words → (row : List ℕ) × (row_words row ≡ Some words)
row_at rows [] i words e f = cc
row_at [] (first ∷ all) i words e f = cc
row_at (row ∷ rows) (first ∷ all) zero words e f = grind arith
row_at (row ∷ rows) (first ∷ all) (suc i) words e f =
    row_at rows all i words (let rest : map row_words rows ≡ map Some all = cc in rest) f

pub rows_drawable : (text : List ℕ) (rows : List WordRow) (i : ℕ) (words : WordRow) → AreRows text rows
    → slice_get rows i ≡ Some words
    → AreDrawable words
rows_drawable text rows i words are e =
    let row = row_at (rows_of text) rows i words are e in
    let is = is_word_row _ words row.1 in
    record {
      first = drawable is.first words.first is.first_is;
      second = drawable is.second words.second is.second_is;
      third = drawable is.third words.third is.third_is;
    }
