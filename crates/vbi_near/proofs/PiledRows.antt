-- Lines one by one: the next of them, and the swing of each if all may be levelled together.
-- near_of_all, levelled_near_of_all and recover_pile stand on it.
use Rattle.std.proofs.Common.{◌≡◌, ℕ, suc, zero, ◌+◌, ◌<◌, List, [], ◌∷◌, ◌++◌, length, map, get_or, Bool, true, ap}
use Rattle.std.proofs.Common.{◌∙◌, refl, subst, arith, zero-add, ◌≤◌}
use Rattle.std.specs.{Prelude.◌&&◌, Prelude.Option, Prelude.Some, List.list_all, List.range_with_len}
use Rattle.std.proofs.lemmas.List.FromFn.{map-range_with_len_more, length-map-range_with_len, get_or-map-range_with_len}
use Rattle.std.specs.Option.{option_or}
use Rattle.vbi_near.proofs.Common.{line_bytes, System, Slicing, unit_of}
use Rattle.vbi_near.specs.Candidates.{Row, Candidates, swing_in, has_swing, are_alike_by}
use Rattle.vbi_near.specs.LevelledLines.{is_swing, levelled_unit}
use Rattle.vbi_near.specs.PileRule.{row_in, rows_in, are_all_alike, pile_margins, said_together}
use Rattle.vbi_near.specs.{declared.margins.Margins.Margins, WordRule.recovered_by}

-- ---- the next line

-- what a function makes of one more row stands after what it makes of the others
map-next : {X : Type 0} (f : Row → X) (rows : List Row) (row : Row)
    → map f (rows ++ row ∷ []) ≡ map f rows ++ f row ∷ []
map-next f [] row = refl
map-next f (first ∷ rows) row = ap (λ rest. f first ∷ rest) (map-next f rows row)

-- what a function makes of one more of the lines by their bytes stands after what it makes of the others
pub rows-next : {X : Type 0} (f : Row → X) (system : System) (lines : List ℕ) (erased : List Bool) (n : ℕ)
    → map f (rows_in system lines erased (n + 1))
    ≡ map f (rows_in system lines erased n) ++ f (row_in system lines erased n) ∷ []
rows-next f system lines erased n =
    ap (map f) (map-range_with_len_more (row_in system lines erased) 0 n n (zero-add n))
    ∙ map-next f (rows_in system lines erased n) (row_in system lines erased n)

-- ---- each line's swing

-- both of two tests hold
both : (a b : Bool) → (a && b) ≡ true → (a ≡ true) × (b ≡ true)
both a b e = grind arith

-- what holds of all items holds of each
each_of_all : (test : ℕ → Bool) (list : List ℕ) (i d : ℕ) → list_all test list ≡ true → i < length list
    → test (get_or list i d) ≡ true
each_of_all test [] i d all inside = absurd (omega arith)
each_of_all test (x ∷ list) zero d all inside = (both (test x) (list_all test list) all).0
each_of_all test (x ∷ list) (suc i) d all inside =
    each_of_all test list i d (both (test x) (list_all test list) all).1 (omega arith)

-- a function of what another makes of numbers is one function of the numbers
map-map : {X : Type 0} (f : Row → X) (g : ℕ → Row) (list : List ℕ) → map f (map g list) ≡ map (λ i. f (g i)) list
map-map f g [] = refl
map-map f g (x ∷ list) = ap (λ rest. f (g x) ∷ rest) (map-map f g list)

-- a swing that is like itself is one of a line with a word
swings-itself : (unit swing : ℕ) → are_alike_by unit swing swing ≡ true → is_swing unit swing ≡ true
swings-itself unit swing alike = grind (arith, both)

-- if all may be levelled together, each may
pub each-swings : (system : System) (slicing : Slicing) (lines : List ℕ) (erased : List Bool) (n : ℕ)
    → are_all_alike system slicing (rows_in system lines erased n) ≡ true
    → (i : ℕ) → i < n → has_swing system slicing (row_in system lines erased i) ≡ true
each-swings system slicing lines erased n alike i inside = subst (λ (s : ℕ). is_swing (unit_of slicing) s ≡ true) here
    (swings-itself (unit_of slicing) (get_or swings i 0)
    (each_of_all (are_alike_by (unit_of slicing) (get_or swings i 0)) swings i 0
    (each_of_all (λ (swing : ℕ). list_all (are_alike_by (unit_of slicing) swing) swings) swings i 0 alike room) room))
  where
    swing-of : ℕ → ℕ
    swing-of k = swing_in system slicing (row_in system lines erased k)

    swings : List ℕ
    swings = map (swing_in system slicing) (rows_in system lines erased n)

    same : swings ≡ map swing-of (range_with_len 0 n)
    same = map-map (swing_in system slicing) (row_in system lines erased) (range_with_len 0 n)

    here : get_or swings i 0 ≡ swing-of i
    here = ap (λ (list : List ℕ). get_or list i 0) same
        ∙ get_or-map-range_with_len swing-of 0 n i i 0 inside (zero-add i)

    room : i < length swings
    room = omega (arith, inside, ap (λ (list : List ℕ). length list) same, length-map-range_with_len swing-of 0 n)

-- ---- their bytes

-- no line has more bytes than one of PAL
bytes-few : (system : System) → line_bytes system ≤ 2270
bytes-few system = grind arith

-- ---- what they say

-- what the first and the second of two tries say, by the steps in which it is found
pub said-by : (unit u lines n : ℕ) (known : Bool) (margins : Margins) (near : Candidates)
    (first second said : Option ℕ) → u ≡ unit → margins ≡ pile_margins known → n ≡ lines
    → first ≡ recovered_by levelled_unit margins n near.levelled → second ≡ recovered_by u margins n (Some near.given)
    → said ≡ option_or first second → said ≡ said_together unit known lines near
said-by unit u lines n known margins near first second said of_unit of_margins of_lines is_first is_second is =
    grind arith

-- lines are as many as are counted
pub rows-many : (system : System) (lines : List ℕ) (erased : List Bool) (n : ℕ)
    → length (rows_in system lines erased n) ≡ n
rows-many system lines erased n = length-map-range_with_len (row_in system lines erased) 0 n
