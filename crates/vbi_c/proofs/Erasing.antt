-- Lists of erased columns: their order from one place on.
use Rattle.std.proofs.Common.{◌≡◌, ℕ, suc, zero, ◌+◌, ◌-◌, ◌<◌, ◌≤◌, Bool, true, List, [], ◌∷◌, length}
use Rattle.std.proofs.Common.{get_or, drop, refl, ap, ◌∙◌, sym, arith, inl, inr}
use Rattle.std.specs.Prelude.{◌&&◌, All, IsTrue}
use Rattle.std.specs.List.{list_all}
use Rattle.std.proofs.lemmas.Bool.{and_parts}
use Rattle.std.proofs.lemmas.Bool.Decides.{nat_tests}
use Rattle.std.proofs.lemmas.List.Elements.{All-cons, All-nil, All-same}
use Rattle.std.proofs.Math.Nat.{eq-or-lt_of_le}
use Rattle.std.proofs.lemmas.List.{drop_more, drop_all}
use Rattle.vbi_c.specs.Types.{LdvbiErased}
use Rattle.vbi_c.specs.Erased.{is_code_line, is_entry, may_follow, are_sorted, is_taken}

-- stands where there is no entry
abbrev pub no_entry : LdvbiErased
no_entry = record { field = 0; line = 0; first = 0; last = 0 }

-- what is left from an entry on is sorted where the next one may follow it, and what is left from that on is sorted
pub are_sorted-more : (list : List LdvbiErased) (i : ℕ) (d : LdvbiErased) → 1 ≤ i → i < length list
    → are_sorted (drop (i - 1) list)
    ≡ (may_follow (get_or list (i - 1) d) (get_or list i d) && are_sorted (drop i list))
are_sorted-more list i d low inside =
    let same : i - 1 + 1 ≡ i = omega arith in
    ap are_sorted (drop_more list (i - 1) d (omega arith))
    ∙ ap (λ (next : ℕ). are_sorted (get_or list (i - 1) d ∷ drop next list)) same
    ∙ ap (λ (rest : List LdvbiErased). are_sorted (get_or list (i - 1) d ∷ rest)) (drop_more list i d inside)
    ∙ ap (λ (rest : List LdvbiErased). may_follow (get_or list (i - 1) d) (get_or list i d) && are_sorted rest)
    (sym (drop_more list i d inside))

-- the last entry alone is sorted
pub are_sorted-last : (list : List LdvbiErased) (i : ℕ) → length list ≤ i → are_sorted (drop (i - 1) list) ≡ true
are_sorted-last [] i long = ap are_sorted (drop_all (i - 1) [] (omega arith))
are_sorted-last (x ∷ list) i long =
    elim (eq-or-lt_of_le long) [
      | inl e ↦ ap are_sorted (drop_more (x ∷ list) (i - 1) x (omega (arith, e)))
          ∙ ap (λ (rest : List LdvbiErased). are_sorted (get_or (x ∷ list) (i - 1) x ∷ rest))
          (drop_all (i - 1 + 1) (x ∷ list) (omega (arith, e)))
      | inr less ↦ ap are_sorted (drop_all (i - 1) (x ∷ list) (omega (arith, less)))
    ]

-- what is left after the first entry is sorted
are_sorted-tail : (x : LdvbiErased) (list : List LdvbiErased) → are_sorted (x ∷ list) ≡ true → are_sorted list ≡ true
are_sorted-tail x [] sorted = refl
are_sorted-tail x (y ∷ list) sorted = (and_parts (may_follow x y) (are_sorted (y ∷ list)) sorted).1

-- what is left from a place on is sorted
pub are_sorted-drop : (i : ℕ) (list : List LdvbiErased) → are_sorted list ≡ true → are_sorted (drop i list) ≡ true
are_sorted-drop zero list sorted = sorted
are_sorted-drop (suc i) [] sorted = sorted
are_sorted-drop (suc i) (x ∷ list) sorted = are_sorted-drop i list (are_sorted-tail x list sorted)

-- an entry that may stand after another is of no earlier field
field_order : (before entry : LdvbiErased) → may_follow before entry ≡ true → before.field ≤ entry.field
field_order before entry follows = grind (arith, nat_tests)

-- after an entry of a later field all are of later fields
pub are_later : (field : ℕ) (x : LdvbiErased) (list : List LdvbiErased) → are_sorted (x ∷ list) ≡ true
    → field < x.field → All (λ entry. field < entry.field) (x ∷ list)
are_later field x [] sorted later =
    All-cons (λ (entry : LdvbiErased). field < entry.field) x [] later
    (All-nil (λ (entry : LdvbiErased). field < entry.field))
are_later field x (y ∷ list) sorted later =
    let both = and_parts (may_follow x y) (are_sorted (y ∷ list)) sorted in
    let order = field_order x y both.0 in
    All-cons (λ (entry : LdvbiErased). field < entry.field) x (y ∷ list) later
    (are_later field y list both.1 (omega (arith, order)))

-- ---- a list that is taken

-- it is sorted
pub taken-sorted : (count : ℕ) (list : List LdvbiErased) → IsTrue (is_taken count list) → are_sorted list ≡ true
taken-sorted count list taken = (and_parts (list_all (is_entry count) list) (are_sorted list) taken).1

-- a test that all pass holds of each
each_of_all : (test : LdvbiErased → Bool) (list : List LdvbiErased) (i : ℕ) (d : LdvbiErased)
    → list_all test list ≡ true → i < length list → test (get_or list i d) ≡ true
each_of_all test [] i d all inside = absurd (omega arith)
each_of_all test (x ∷ list) zero d all inside = (and_parts (test x) (list_all test list) all).0
each_of_all test (x ∷ list) (suc i) d all inside =
    each_of_all test list i d (and_parts (test x) (list_all test list) all).1 (omega arith)

-- an entry is of a line with code words
line_of_entry : (count : ℕ) (entry : LdvbiErased) → is_entry count entry ≡ true → IsTrue (is_code_line entry.line)
line_of_entry count entry is = grind (arith, nat_tests)

-- each of its entries is
pub taken-line : (count : ℕ) (list : List LdvbiErased) (i : ℕ) (d : LdvbiErased) → IsTrue (is_taken count list)
    → i < length list → IsTrue (is_code_line (get_or list i d).line)
taken-line count list i d taken inside =
    line_of_entry count (get_or list i d) (each_of_all (is_entry count) list i d
    (and_parts (list_all (is_entry count) list) (are_sorted list) taken).0 inside)

-- where the entry at a place is of a later field, so are those after it
pub taken-later : (count : ℕ) (list : List LdvbiErased) (i field : ℕ) (d : LdvbiErased)
    → IsTrue (is_taken count list) → i < length list → field < (get_or list i d).field
    → All (λ entry. field < entry.field) (drop i list)
taken-later count list i field d taken inside later =
    let rest = drop_more list i d inside in
    All-same (λ (entry : LdvbiErased). field < entry.field) (drop i list) (get_or list i d ∷ drop (i + 1) list) rest
    (are_later field (get_or list i d) (drop (i + 1) list)
    (ap are_sorted (sym rest) ∙ are_sorted-drop i list (taken-sorted count list taken)) later)
