-- Parts and rows of the text of words.
use Rattle.vbi_field.proofs.Common.{◌≡◌, ℕ, suc, ◌+◌, ◌-◌, ◌<◌, [], ◌∷◌, ◌++◌, length, take, drop, cond, refl, sym, ap}
use Rattle.vbi_field.proofs.Common.{◌∙◌, arith, inl, inr, map, append_assoc, get_or, ◌==◌, join_with_byte, ltb-true}
use Rattle.vbi_field.proofs.Common.{take_at, take_all, length-append, slice_split_none, join_with_byte-slice_split}
use Rattle.vbi_field.proofs.Common.{nat_tests, WordRow, parts_of, row_of_items, row_of_parts, rows_of, row_words}
use Rattle.vbi_field.proofs.Common.{newline, AreRows, HasNoNewline, EndsRow}
use Rattle.std.proofs.Common.{◌≢◌, Bool, true, false, List}
use Rattle.std.specs.Prelude.{Option, Some, None, nat_lt, ◌⊎◌}
use Rattle.std.specs.List.{position, position_or_len, count_by, onto_first}
use Rattle.std.proofs.lemmas.Bool.{ltb-false}
use Rattle.std.proofs.lemmas.List.{take_rest, map-append, get_or_append_left, get_or_push}
use Rattle.std.proofs.lemmas.List.Sums.{position_or_len_is, fails_before_first}
use Rattle.std.proofs.lemmas.List.Splits.{slice_split_first, length-slice_split}
use Rattle.vbi_field.specs.WordRows.{item_of, word_row_of, space}

-- ---- the parts of a row

cut_from : (text : List ℕ) (at n : ℕ) (b : Bool)
    → position_or_len (λ c. c == space) text ≡ n → nat_lt n (length text) ≡ b
    → cond b (Some n) None ≡ Some at
    → parts_of text ≡ take at text ∷ parts_of (take (length text - (at + 1)) (drop (at + 1) text))
cut_from text at n true p t e = grind (arith, slice_split_first, ltb-true, take_rest)
cut_from text at n false p t e = cc

-- the part before the first space
pub cut_at : (text : List ℕ) (at : ℕ) → position (λ c. c == space) text ≡ Some at
    → parts_of text ≡ take at text ∷ parts_of (take (length text - (at + 1)) (drop (at + 1) text))
cut_at text at e = cut_from text at _ _ refl refl e

uncut_from : (text : List ℕ) (n : ℕ) (b : Bool)
    → position_or_len (λ c. c == space) text ≡ n → nat_lt n (length text) ≡ b
    → cond b (Some n) None ≡ None → parts_of text ≡ text ∷ []
uncut_from text n true p t e = cc
uncut_from text n false p t e = grind (arith, slice_split_none, fails_before_first, ltb-false)

-- without a space there is one part
pub uncut : (text : List ℕ) → position (λ c. c == space) text ≡ None → parts_of text ≡ text ∷ []
uncut text e = uncut_from text _ _ refl refl e

-- ---- the words of a row

pub one_part : (row : List ℕ) → parts_of row ≡ row ∷ [] → None ≡ word_row_of row
unfolding word_row_of
one_part row e = ap row_of_parts (sym e)

pub two_parts : (row first rest : List ℕ) → parts_of row ≡ first ∷ parts_of rest → parts_of rest ≡ rest ∷ []
    → None ≡ word_row_of row
unfolding word_row_of
two_parts row first rest e f = ap row_of_parts (sym (e ∙ ap (λ (l : List (List ℕ)). first ∷ l) f))

pub three_parts : (row first rest second third : List ℕ) → parts_of row ≡ first ∷ parts_of rest
    → parts_of rest ≡ second ∷ parts_of third
    → parts_of third ≡ third ∷ [] → row_of_items (item_of first) (item_of second) (item_of third) ≡ word_row_of row
unfolding word_row_of
three_parts row first rest second third e f g = grind arith

too_many_parts : (first second third : List ℕ) (parts : List (List ℕ)) (n : ℕ) → length parts ≡ n + 1
    → None ≡ row_of_parts (first ∷ second ∷ third ∷ parts)
too_many_parts first second third [] n e = absurd (omega arith)
too_many_parts first second third (part ∷ parts) n e = refl

pub four_parts : (row first rest second last third more : List ℕ) → parts_of row ≡ first ∷ parts_of rest
    → parts_of rest ≡ second ∷ parts_of last
    → parts_of last ≡ third ∷ parts_of more → None ≡ word_row_of row
unfolding word_row_of
four_parts row first rest second last third more e f g =
    too_many_parts first second third (parts_of more) (count_by (λ c. c == space) more)
    (length-slice_split (λ c. c == space) more)
    ∙ ap row_of_parts (sym (e ∙ ap (λ (l : List (List ℕ)). first ∷ l) (f ∙ ap (λ (l : List (List ℕ)). second ∷ l) g)))

-- an item has at most six bytes
item_long : (text : List ℕ) → 6 < length text → item_of text ≡ None
unfolding item_of
item_long text long = grind (arith, nat_tests)

-- of three items that are none, or two, there is no row
no_first : (b c : Option (Option ℕ)) → row_of_items None b c ≡ None
no_first b c = refl

no_second : (a c : Option (Option ℕ)) → row_of_items a None c ≡ None
no_second None c = refl
no_second (Some a) c = refl

no_third : (a b : Option (Option ℕ)) → row_of_items a b None ≡ None
no_third a b = grind arith

long_items : (a b c : List ℕ) → (6 < length a) ⊎ ((6 < length b) ⊎ (6 < length c))
    → row_of_items (item_of a) (item_of b) (item_of c) ≡ None
long_items a b c (inl h) = rw (item_long a h) (no_first (item_of b) (item_of c))
long_items a b c (inr (inl h)) = rw (item_long b h) (no_second (item_of a) (item_of c))
long_items a b c (inr (inr h)) = rw (item_long c h) (no_third (item_of a) (item_of b))

one_long : (a b c : ℕ) → 20 < a + (1 + (b + (1 + c))) → (6 < a) ⊎ (6 < b) ⊎ (6 < c)
one_long a b c l = grind arith

long_parts : (parts : List (List ℕ)) → 20 < length (join_with_byte 32 parts) → row_of_parts parts ≡ None
long_parts [] l = refl
long_parts (a ∷ []) l = refl
long_parts (a ∷ b ∷ []) l = refl
long_parts (a ∷ b ∷ c ∷ []) l = grind (arith, long_items, one_long, length-append)
long_parts (a ∷ b ∷ c ∷ d ∷ more) l = refl

-- a row of more than 20 bytes
pub long_row : (row : List ℕ) → 20 < length row → word_row_of row ≡ None
unfolding word_row_of
long_row row long = long_parts (parts_of row) (omega (arith, ap length (join_with_byte-slice_split 32 row)))

-- ---- the rows of a text

-- there is a first row
record IsSome_rows (rows : List (List ℕ)) : Type 0 where
  first : List ℕ
  others : List (List ℕ)
  whole : rows ≡ first ∷ others

some_onto : (c : ℕ) (rows : List (List ℕ)) → IsSome_rows (onto_first c rows)
some_onto c [] = record { first = c ∷ []; others = []; whole = refl }
some_onto c (first ∷ others) = record { first = c ∷ first; others = others; whole = refl }

some_cond : (b : Bool) (c : ℕ) (rows : List (List ℕ)) → IsSome_rows (cond b ((c ∷ []) ∷ rows) (onto_first c rows))
some_cond true c rows = record { first = c ∷ []; others = rows; whole = refl }
some_cond false c rows = some_onto c rows

some_after : (front : List ℕ) → IsSome_rows (rows_of (front ++ newline ∷ []))
some_after [] = record { first = newline ∷ []; others = []; whole = refl }
some_after (c ∷ cs) = some_cond (c == newline) c (rows_of (cs ++ newline ∷ []))

onto_append : (c : ℕ) (rows more : List (List ℕ)) → IsSome_rows rows
    → onto_first c (rows ++ more) ≡ onto_first c rows ++ more
onto_append c rows more some = grind arith

cut_cond : (b : Bool) (c : ℕ) (both rows more : List (List ℕ)) → both ≡ rows ++ more → IsSome_rows rows
    → cond b ((c ∷ []) ∷ both) (onto_first c both) ≡ cond b ((c ∷ []) ∷ rows) (onto_first c rows) ++ more
cut_cond true c both rows more e some = ap (λ (l : List (List ℕ)). (c ∷ []) ∷ l) e
cut_cond false c both rows more e some = ap (onto_first c) e ∙ onto_append c rows more some

cut_after : (front more : List ℕ) → rows_of (front ++ newline ∷ more) ≡ rows_of (front ++ newline ∷ []) ++ rows_of more
cut_after [] more = refl
cut_after (c ∷ cs) more =
    cut_cond (c == newline) c (rows_of (cs ++ newline ∷ more)) (rows_of (cs ++ newline ∷ [])) (rows_of more)
    (cut_after cs more)
    (some_after cs)

-- more text adds rows to whole rows
pub rows_of-append : (text more : List ℕ) → EndsRow text → rows_of (text ++ more) ≡ rows_of text ++ rows_of more
rows_of-append text more (inl e) = rw e refl
rows_of-append text more (inr (front, e)) = rw (e, append_assoc) (cut_after front more)

not_newline : (c : ℕ) → c ≢ newline → (c == newline) ≡ false
not_newline c other = grind (arith, nat_tests)

plain_first : (c : ℕ) (cs : List ℕ) → HasNoNewline (c ∷ cs) → (c == newline) ≡ false
plain_first c cs plain = not_newline c (plain 0 0 (omega arith))

plain_rest : (c : ℕ) (cs : List ℕ) → HasNoNewline (c ∷ cs) → HasNoNewline cs
plain_rest c cs plain = λ k d inside. plain (suc k) d (omega arith)

onto_cond : (b : Bool) (c : ℕ) (first : List ℕ) (rows : List (List ℕ)) → b ≡ false → rows ≡ first ∷ []
    → cond b ((c ∷ []) ∷ rows) (onto_first c rows) ≡ (c ∷ first) ∷ []
onto_cond true c first rows e f = cc
onto_cond false c first rows e f = ap (onto_first c) f

-- a row with its newline
pub rows_of-line : (row : List ℕ) → HasNoNewline row → rows_of (row ++ newline ∷ []) ≡ (row ++ newline ∷ []) ∷ []
rows_of-line [] plain = refl
rows_of-line (c ∷ cs) plain =
    onto_cond (c == newline) c (cs ++ newline ∷ []) (rows_of (cs ++ newline ∷ [])) (plain_first c cs plain)
    (rows_of-line cs (plain_rest c cs plain))

one_cond : (b : Bool) (c : ℕ) → cond b ((c ∷ []) ∷ []) (onto_first c []) ≡ (c ∷ []) ∷ []
one_cond true c = refl
one_cond false c = refl

-- a last row without newline
pub rows_of-part : (row : List ℕ) → HasNoNewline row → 0 < length row → rows_of row ≡ row ∷ []
rows_of-part [] plain some = absurd (omega arith)
rows_of-part (c ∷ []) plain some = one_cond (c == newline) c
rows_of-part (c ∷ d ∷ cs) plain some =
    onto_cond (c == newline) c (d ∷ cs) (rows_of (d ∷ cs)) (plain_first c (d ∷ cs) plain)
    (rows_of-part (d ∷ cs) (plain_rest c (d ∷ cs) plain) (omega arith))

-- the words of a row with its newline, and without
pub row_words-line : (row : List ℕ) → HasNoNewline row → row_words (row ++ newline ∷ []) ≡ word_row_of row
row_words-line row plain =
    let at : position_or_len (λ c. c == newline) (row ++ newline ∷ []) ≡ length row
    = position_or_len_is (λ c. c == newline) (row ++ newline ∷ []) (length row) 0
    (omega (arith, length-append row (newline ∷ [])))
    (λ k l. ap (λ (c : ℕ). c == newline) (get_or_append_left row (newline ∷ []) 0 k l)
    ∙ not_newline (get_or row k 0) (plain k 0 l))
    (λ l. ap (λ (c : ℕ). c == newline) (get_or_push row newline 0 (length row) refl)) in
    ap (λ (n : ℕ). word_row_of (take n (row ++ newline ∷ []))) at
    ∙ ap word_row_of (take_at row (newline ∷ []) (length row) refl)

pub row_words-part : (row : List ℕ) → HasNoNewline row → row_words row ≡ word_row_of row
row_words-part row plain =
    let at : position_or_len (λ c. c == newline) row ≡ length row
    = position_or_len_is (λ c. c == newline) row (length row) 0 (omega arith)
    (λ k l. not_newline (get_or row k 0) (plain k 0 l)) (λ l. absurd (omega arith)) in
    ap (λ (n : ℕ). word_row_of (take n row)) at ∙ ap word_row_of (take_all (length row) row (omega arith))

-- one row more
pub AreRows-more : (text line : List ℕ) (rows : List WordRow) (words : WordRow) → AreRows text rows → EndsRow text
    → rows_of line ≡ line ∷ [] → row_words line ≡ Some words → AreRows (text ++ line) (rows ++ words ∷ [])
AreRows-more text line rows words are ends one is = grind (arith, map, rows_of-append, map-append)
