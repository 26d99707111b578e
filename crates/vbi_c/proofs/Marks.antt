-- The marks of erased columns, one by one.
use Rattle.std.proofs.Common.{◌≡◌, ◌≢◌, ℕ, ◌+◌, ◌-◌, ◌*◌, ◌<◌, ◌≤◌, Bool, true, false, List, [], ◌∷◌, ◌++◌}
use Rattle.std.proofs.Common.{length, get_or, take, drop, refl, ap, ◌∙◌, sym, subst, arith, inl, inr}
use Rattle.std.proofs.Common.{length-append, ◌⊎◌, ◌/◌, ◌%◌}
use Rattle.std.proofs.Math.Nat.{div-lt_iff_lt-mul, mul-le-mul_left}
use Rattle.vbi_c.specs.Types.{Ntsc, Pal, System, LdvbiErased}
use Rattle.std.proofs.lemmas.Bool.{cases_lt, cases_order, cases_Bool}
use Rattle.std.proofs.lemmas.Bool.Decides.{nat_tests}
use Rattle.std.specs.Prelude.{◌||◌, All, IsTrue}
use Rattle.std.specs.List.{list_any}
use Rattle.std.proofs.lemmas.List.{get_or_append_left, get_or-append-add, ext_get_or}
use Rattle.std.proofs.lemmas.List.{get_or-replicate, length-replicate}
use Rattle.std.proofs.lemmas.List.{get_or-take, get_or-drop, length-take-le, length-drop}
use Rattle.std.proofs.lemmas.List.FromFn.{length-map-range_with_len, get_or-map-range_with_len}
use Rattle.std.proofs.lemmas.List.Elements.{All-weaker, All-nil}
use Rattle.std.proofs.lemmas.List.Folds.{list_any-append, list_any_none}
use Rattle.vbi_words.specs.Geometry.{width_of}
use Rattle.vbi_c.specs.Erased.{is_code_line, erases, line_marks, erased_of, none_erased}

-- a line has columns
pub wide : (system : System) → 0 < width_of system
wide Ntsc = omega arith
wide Pal = omega arith

-- ---- three lists of one length

-- the items of three lists, one after the other
three-get : (a b c : List Bool) (w k : ℕ) (d : Bool) → length a ≡ w → length b ≡ w → length c ≡ w → k < w
    → (get_or (a ++ b ++ c) k d ≡ get_or a k d) × (get_or (a ++ b ++ c) (w + k) d ≡ get_or b k d)
    × (get_or (a ++ b ++ c) (2 * w + k) d ≡ get_or c k d)
three-get a b c w k d la lb lc inside =
    let both : length (a ++ b) ≡ 2 * w = omega (arith, length-append a b) in
    let in_a : k < length a = omega arith in
    let in_both : k < length (a ++ b) = omega arith in
    let in_both_too : w + k < length (a ++ b) = omega arith in (
      get_or_append_left (a ++ b) c d k in_both ∙ get_or_append_left a b d k in_a,
      get_or_append_left (a ++ b) c d (w + k) in_both_too
          ∙ ap (λ (n : ℕ). get_or (a ++ b) (n + k) d) (sym la) ∙ get_or-append-add a b k d,
      ap (λ (n : ℕ). get_or (a ++ b ++ c) (n + k) d) (sym both) ∙ get_or-append-add (a ++ b) c k d,
    )

-- ---- the marks of a field

-- the marks of a line are as many as its columns
line_marks-long : (list : List LdvbiErased) (system : System) (field line : ℕ)
    → length (line_marks list system field line) ≡ width_of system
line_marks-long list system field line =
    length-map-range_with_len (λ (k : ℕ). list_any (erases field line k) list) 0 (width_of system)

-- the marks of a line, one by one
line_marks-get : (list : List LdvbiErased) (system : System) (field line column : ℕ) (d : Bool)
    → column < width_of system
    → get_or (line_marks list system field line) column d ≡ list_any (erases field line column) list
line_marks-get list system field line column d inside =
    get_or-map-range_with_len (λ (k : ℕ). list_any (erases field line k) list) 0 (width_of system) column column d
    inside (omega arith)

-- the marks of three lines are as many as their columns
pub erased_of-long : (list : List LdvbiErased) (system : System) (field : ℕ)
    → length (erased_of list system field) ≡ 3 * width_of system
unfolding erased_of
erased_of-long list system field =
    let one = line_marks list system field 16 in
    let two = line_marks list system field 17 in
    let three = line_marks list system field 18 in
    omega (
      arith,
      length-append (one ++ two) three,
      length-append one two,
      line_marks-long list system field 16,
      line_marks-long list system field 17,
      line_marks-long list system field 18,
    )

-- a row of three
three : (row : ℕ) → row < 3 → (row ≡ 0) ⊎ ((row ≡ 1) ⊎ (row ≡ 2))
three row few = grind arith

-- the marks of three lines, one by one
pub erased_of-get : (list : List LdvbiErased) (system : System) (field row column : ℕ) (d : Bool) → row < 3
    → column < width_of system → get_or (erased_of list system field) (width_of system * row + column) d
    ≡ list_any (erases field (16 + row) column) list
unfolding erased_of
erased_of-get list system field row column d few inside =
    let w = width_of system in
    let at_16 = line_marks list system field 16 in
    let at_17 = line_marks list system field 17 in
    let at_18 = line_marks list system field 18 in
    let long_16 : length at_16 ≡ w = line_marks-long list system field 16 in
    let long_17 : length at_17 ≡ w = line_marks-long list system field 17 in
    let long_18 : length at_18 ≡ w = line_marks-long list system field 18 in
    let parts = three-get at_16 at_17 at_18 w column d long_16 long_17 long_18 inside in
    let P = λ (n : ℕ). get_or (at_16 ++ at_17 ++ at_18) (w * n + column) d
    ≡ list_any (erases field (16 + n) column) list in
    let get = λ (n : ℕ). get_or (at_16 ++ at_17 ++ at_18) n d in
    let zeroth : w * 0 + column ≡ column = omega arith in
    let first : w * 1 + column ≡ w + column = omega arith in
    let second : w * 2 + column ≡ 2 * w + column = omega arith in
    elim (three row few) [
      | inl e ↦ subst P (sym e) (ap get zeroth ∙ parts.0 ∙ line_marks-get list system field 16 column d inside)
      | inr (inl e) ↦ subst P (sym e) (ap get first ∙ parts.1 ∙ line_marks-get list system field 17 column d inside)
      | inr (inr e) ↦ subst P (sym e) (ap get second ∙ parts.2 ∙ line_marks-get list system field 18 column d inside)
    ]

-- a line with code words is one of three
pub code_line : (line : ℕ) → IsTrue (is_code_line line) → (16 ≤ line) × (line ≤ 18)
code_line line is = grind (arith, nat_tests)

-- the marks of one line stand among those of three
pub erased_of-line : (list : List LdvbiErased) (system : System) (field line : ℕ) → IsTrue (is_code_line line)
    → take (width_of system) (drop (width_of system * (line - 16)) (erased_of list system field))
    ≡ line_marks list system field line
erased_of-line list system field line is =
    let w = width_of system in
    let row = line - 16 in
    let all = erased_of list system field in
    let lines = code_line line is in
    let few : row < 3 = omega (arith, lines.0, lines.1) in
    let number : 16 + row ≡ line = omega (arith, lines.0) in
    let rows : w * row ≤ w * 2 = mul-le-mul_left w (omega (arith, lines.1)) in
    let long : length (take w (drop (w * row) all)) ≡ w = length-take-le w (drop (w * row) all)
    (omega (arith, length-drop (w * row) all, erased_of-long list system field, rows)) in
    ext_get_or false (take w (drop (w * row) all)) (line_marks list system field line)
    (long ∙ sym (line_marks-long list system field line)) (λ column below.
    let inside : column < w = omega (arith, below, long) in
    get_or-take w (drop (w * row) all) column false inside
    ∙ get_or-drop (w * row) all column false
    ∙ erased_of-get list system field row column false few inside
    ∙ ap (λ (n : ℕ). list_any (erases field n column) list) number
    ∙ sym (line_marks-get list system field line column false inside))

-- a list that has the marks, one by one, is the list of the marks
pub marks_are : (list : List LdvbiErased) (system : System) (field : ℕ) (marks : List Bool)
    → length marks ≡ 3 * width_of system
    → ((row column : ℕ) → row < 3 → column < width_of system
    → get_or marks (width_of system * row + column) false ≡ list_any (erases field (16 + row) column) list)
    → marks ≡ erased_of list system field
marks_are list system field marks long each =
    let w = width_of system in
    ext_get_or false marks (erased_of list system field) (long ∙ sym (erased_of-long list system field))
    (λ i below.
    let some : 0 < w = wide system in
    let row_few : i / w < 3 = (div-lt_iff_lt-mul {x = i} {y = 3} some).1 (omega arith) in
    let inside : i % w < w = omega arith in
    let whole : w * (i / w) + i % w ≡ i = omega arith in
    subst (λ (n : ℕ). get_or marks n false ≡ get_or (erased_of list system field) n false) whole
    (each (i / w) (i % w) row_few inside
    ∙ sym (erased_of-get list system field (i / w) (i % w) false row_few inside)))

-- ---- an entry more

-- an entry erases its columns of its line of its field
erases-here : (field line column : ℕ) (entry : LdvbiErased) → erases field line column entry ≡ true
    → (entry.field ≡ field) × (entry.line ≡ line) × (entry.first ≤ column) × (column ≤ entry.last)
erases-here field line column entry here = grind (arith, nat_tests)

-- it erases no other
erases-else : (field line column : ℕ) (entry : LdvbiErased) → erases field line column entry ≡ false
    → entry.field ≡ field → entry.line ≡ line → entry.first ≤ column → entry.last < column
erases-else field line column entry else field_is line_is from = grind (arith, nat_tests)

-- a test that is not asked for or holds
or_true : (t : Bool) → (t || (true || false)) ≡ true
or_true true = refl
or_true false = refl

-- a test or one that doesn't hold
or_false : (t : Bool) → (t || (false || false)) ≡ t
or_false true = refl
or_false false = refl

-- a column that an entry has in its row lies before the place where the walk came
marked_before : (w q row column end come last : ℕ) → w * q ≡ w * row → column < w → column ≤ last
    → (w ≤ end) ⊎ (end ≡ last + 1) → end ≤ come → w * row + column < w * q + come
marked_before w q row column end come last at inside in_last whole done =
    elim whole [ inl wide ↦ omega (arith, wide) | inr is ↦ omega (arith, is) ]

-- a column from the entry's first one on that it hasn't lies after that place
outside : (w q row column end come first last : ℕ) → column < w → end ≤ w → end ≤ last + 1
    → (first ≤ end → come ≤ end) → (end ≤ first → come ≤ first) → w * q + first ≤ w * row + column
    → (q ≡ row → first ≤ column → last < column) → w * q + come ≤ w * row + column
outside w q row column end come first last inside narrow few near far from else =
    elim (cases_lt first end) [
      | inr beyond ↦ omega (arith, far beyond)
      | inl some ↦
          let come_few : come ≤ end = near (omega (arith, some)) in
          elim (cases_order q row) [
            | inl same ↦
                let at : w * q ≡ w * row = ap (λ (n : ℕ). w * n) same in
                let past : last < column = else same (omega (arith, at)) in
                omega (arith, at)
            | inr (inl lower) ↦
                let rows : w * (q + 1) ≤ w * row = mul-le-mul_left w (omega (arith, lower)) in
                omega arith
            | inr (inr higher) ↦
                let rows : w * (row + 1) ≤ w * q = mul-le-mul_left w (omega (arith, higher)) in
                absurd (omega arith)
          ]
    ]

-- the marks with those of an entry added, in a row of three: its columns have them, up to where the walk came
pub mark_are : (before : List LdvbiErased) (entry : LdvbiErased) (system : System) (new : List Bool) (q end come : ℕ)
    → length new ≡ 3 * width_of system → entry.line ≡ 16 + q → end ≤ width_of system → end ≤ entry.last + 1
    → (width_of system ≤ end) ⊎ (end ≡ entry.last + 1) → end ≤ come
    → (entry.first ≤ end → come ≤ end) → (end ≤ entry.first → come ≤ entry.first)
    → ((k : ℕ) → width_of system * q + entry.first ≤ k → k < width_of system * q + come → get_or new k false ≡ true)
    → ((k : ℕ) → k < width_of system * q + entry.first
    → get_or new k false ≡ get_or (erased_of before system entry.field) k false)
    → ((k : ℕ) → width_of system * q + come ≤ k
    → get_or new k false ≡ get_or (erased_of before system entry.field) k false)
    → new ≡ erased_of (before ++ entry ∷ []) system entry.field
mark_are before entry system new q end come long line_is narrow last whole done near far within below after =
    marks_are (before ++ entry ∷ []) system entry.field new long
    (λ row column few inside.
    let w = width_of system in
    let field = entry.field in
    let k = w * row + column in
    let line = 16 + row in
    let e = erases field line column entry in
    let old = list_any (erases field line column) before in
    let had : get_or (erased_of before system field) k false ≡ old
    = erased_of-get before system field row column false few inside in
    let all : list_any (erases field line column) (before ++ entry ∷ []) ≡ (old || (e || false))
    = list_any-append (erases field line column) before (entry ∷ []) in
    elim (cases_Bool e) [
      | inl here ↦
          let is = erases-here field line column entry here in
          let same : q ≡ row = omega (arith, is.1) in
          let at : w * q ≡ w * row = ap (λ (n : ℕ). w * n) same in
          within k (omega (arith, is.2, at))
          (marked_before w q row column end come entry.last at inside is.3 whole done)
          ∙ sym (all ∙ ap (λ (t : Bool). old || (t || false)) here ∙ or_true old)
      | inr else ↦
          let none : list_any (erases field line column) (before ++ entry ∷ []) ≡ old
          = all ∙ ap (λ (t : Bool). old || (t || false)) else ∙ or_false old in
          elim (cases_lt k (w * q + entry.first)) [
            | inl under ↦ below k under ∙ had ∙ sym none
            | inr from ↦ after k (outside w q row column end come entry.first entry.last inside narrow last near far
                from (λ same first_in. erases-else field line column entry else refl (omega (arith, same)) first_in))
                ∙ had ∙ sym none
          ]
    ])

-- ---- entries of other fields

-- an entry of another field erases nothing
not_of : (entry : LdvbiErased) (field line column : ℕ) → entry.field ≢ field
    → erases field line column entry ≡ false
not_of entry field line column other = grind (arith, nat_tests)

-- a test or none
or_none : (t : Bool) → (t || false) ≡ t
or_none true = refl
or_none false = refl

-- entries of other fields erase nothing of a field
none_of_others : (list : List LdvbiErased) (field line column : ℕ) → All (λ entry. entry.field ≢ field) list
    → list_any (erases field line column) list ≡ false
none_of_others list field line column others =
    list_any_none (erases field line column) list
    (All-weaker (λ (entry : LdvbiErased). entry.field ≢ field)
    (λ (entry : LdvbiErased). erases field line column entry ≡ false)
    (λ entry other. not_of entry field line column other) list others)

-- without entries of a field no column of it is erased
pub erased_of-none : (list : List LdvbiErased) (system : System) (field : ℕ)
    → All (λ entry. entry.field ≢ field) list → none_erased system ≡ erased_of list system field
erased_of-none list system field others =
    let w = width_of system in
    marks_are list system field (none_erased system) (length-replicate (3 * w) false)
    (λ row column few inside.
    let rows : w * (row + 1) ≤ w * 3 = mul-le-mul_left w (omega arith) in
    get_or-replicate (3 * w) (w * row + column) false false (omega arith)
    ∙ sym (none_of_others list field (16 + row) column others))

-- entries of other fields after a list change nothing
pub erased_of-others : (list rest : List LdvbiErased) (system : System) (field : ℕ)
    → All (λ entry. entry.field ≢ field) rest
    → erased_of list system field ≡ erased_of (list ++ rest) system field
erased_of-others list rest system field others =
    marks_are (list ++ rest) system field (erased_of list system field) (erased_of-long list system field)
    (λ row column few inside.
    erased_of-get list system field row column false few inside
    ∙ sym (list_any-append (erases field (16 + row) column) list rest
    ∙ ap (λ (t : Bool). list_any (erases field (16 + row) column) list || t)
    (none_of_others rest field (16 + row) column others)
    ∙ or_none (list_any (erases field (16 + row) column) list)))

-- an empty list erases nothing
pub erased_of-empty : (system : System) (field : ℕ) → none_erased system ≡ erased_of [] system field
erased_of-empty system field = erased_of-none [] system field (All-nil (λ (entry : LdvbiErased). entry.field ≢ field))
