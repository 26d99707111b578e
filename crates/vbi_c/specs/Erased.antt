-- Lists of erased columns, as C hands them over: which lists are taken, and which columns of a field they erase.
use Rattle.std.specs.Prelude.{ℕ, Bool, true, ◌==◌, ◌&&◌, ◌||◌, nat_le, nat_lt, if◌then◌else◌, List, [], ◌∷◌}
use Rattle.std.specs.Prelude.{◌++◌, ◌<◌, ◌≤◌, take, drop, map, Result, Ok, Err, All}
use Rattle.std.specs.List.{list_any, list_all, range_with_len}
use Rattle.vbi_words.specs.Geometry.{width_of}
pub use Rattle.vbi_near.specs.Recovery.{none_erased}
use Rattle.vbi_c.specs.Types.{LdvbiErased, Setup, Refusal, System}
use Rattle.vbi_c.specs.declared.status.Refusal.TheVariants.{Erased}
use Rattle.vbi_c.specs.Statuses.{in_turn}

-- ---- which lists are taken

-- the line is one with code words
abbrev pub is_code_line : ℕ → Bool
is_code_line line = nat_le 16 line && nat_le line 18

-- an entry of this many fields: columns from a first one to a last one of a line with code words
abbrev pub is_entry : ℕ → LdvbiErased → Bool
is_entry count entry = nat_lt entry.field count && is_code_line entry.line && nat_le entry.first entry.last

-- an entry may stand after another: by field, line and first column it is not less
abbrev pub may_follow : LdvbiErased → LdvbiErased → Bool
may_follow before entry = nat_lt before.field entry.field || before.field == entry.field
    && (nat_lt before.line entry.line || before.line == entry.line && nat_le before.first entry.first)

-- each entry may stand after the one before it
abbrev pub are_sorted : List LdvbiErased → Bool
are_sorted [] = true
are_sorted (first ∷ []) = true
are_sorted (first ∷ second ∷ rest) = may_follow first second && are_sorted (second ∷ rest)

-- a list of this many fields is taken
abbrev pub is_taken : ℕ → List LdvbiErased → Bool
is_taken count list = list_all (is_entry count) list && are_sorted list

-- the setup of a call that was found right, with a list of this many fields
abbrev pub with_erased : ℕ → List LdvbiErased → Result Setup Refusal → Result Setup Refusal
with_erased count list asked = in_turn asked (λ setup. if is_taken count list then Ok setup else Err Erased)

-- ---- what they erase

-- an entry erases this column of this line of a field
abbrev pub erases : ℕ → ℕ → ℕ → LdvbiErased → Bool
erases field line column entry =
    entry.field == field && entry.line == line && nat_le entry.first column && nat_le column entry.last

-- the marks of a line's columns: whether an entry erases them
abbrev pub line_marks : List LdvbiErased → System → ℕ → ℕ → List Bool
line_marks list system field line =
    map (λ column. list_any (erases field line column) list) (range_with_len 0 (width_of system))

-- the marks of the columns of lines 16, 17 and 18 of a field, one line after the other
unfoldable pub erased_of : List LdvbiErased → System → ℕ → List Bool
erased_of list system field =
    line_marks list system field 16 ++ line_marks list system field 17 ++ line_marks list system field 18

-- ---- from field to field

-- the entries before a place of the list are of fields before this one, those from it on are not
abbrev pub IsPlace : List LdvbiErased → ℕ → ℕ → Type 0
IsPlace list field place = All (λ entry. entry.field < field) (take place list)
    × All (λ entry. field ≤ entry.field) (drop place list)
