-- One cell more beside a word: by sums, and on the rows on which the word goes on.
-- longer_distance and with_cell_at stand on it, CellsAt on its columns, Chosen on its rows.
use Rattle.std.proofs.Common.{◌≡◌, ℕ, ◌≤◌, ◌<◌, ◌+◌, ◌-◌, List, ◌++◌, Bool, false, length, inl, inr, refl, arith, ap}
use Rattle.std.proofs.Common.{sym, ◌∙◌, get_or, true, min, ◌⊎◌}
use Rattle.std.proofs.Math.{ListN.replicate, Nat.min-le_left, Nat.min-le_right}
use Rattle.std.proofs.lemmas.List.{length-append, length-replicate}
use Rattle.vbi_near.proofs.Common.{System, width_of, start_of, cell_of, halves_of, boundary, Found, column_of}
use Rattle.vbi_near.proofs.Common.{word_length, drawn_halves, starts, Shades, distance_from, AreRowSums, total_in, span}
use Rattle.vbi_near.proofs.Common.{AreBoth, IsRising, cell_cost, place_cost, cell_length, begun_earlier, ended_later}
use Rattle.vbi_near.proofs.Common.{GoesOn, IsLeastRow, IsBeside, IsWithCell, IsLongerFound}
use Rattle.vbi_near.proofs.Columns.{column-first, column-drawn, word-drawn, word-fits}
use Rattle.vbi_near.proofs.Costs.{distance-append, distance-run, cell-at, word-at, cell-read}
use Rattle.vbi_near.proofs.{BestBits.min_is, Rising.risen_to}

-- ---- columns

pub cell-long : (system : System) (start : ℕ) → column_of system start 2 ≡ start + cell_length system
cell-long system start = grind arith

pub cell-offset : (system : System) (offset : ℕ) → start_of system + offset ≡ boundary system 2
    → offset ≡ cell_length system
cell-offset system offset e = grind arith

pub offset-column : (system : System) (begin offset half : ℕ) → start_of system + offset ≡ boundary system half
    → begin + offset ≡ column_of system begin half
offset-column system begin offset half e = omega arith

-- if there is no room before a word, there is after it
pub room-after : (system : System) (start : ℕ) → start < cell_length system
    → start + word_length system + cell_length system ≤ width_of system
room-after system start l = grind arith

-- ---- sums

-- what some columns and the next ones cost is what all of them cost
pub split : (sums : List ℕ) → IsRising sums → (i m n : ℕ) → i + m + n < length sums
    → total_in sums i m + total_in sums (i + m) n ≡ total_in sums i (m + n)
split sums rises i m n inside =
    let e : i + m + n ≡ i + (m + n) = omega arith in
    let same : get_or sums (i + m + n) 0 ≡ get_or sums (i + (m + n)) 0 = ap (λ (k : ℕ). get_or sums k 0) e in
    let one = risen_to sums rises i (i + m) (omega arith) (omega arith) in
    let two = risen_to sums rises (i + m) (i + m + n) (omega arith) inside in
    omega (arith, same, one.0, two.0)

module _ (sums : Shades) (system : System) (rises : AreRowSums system sums) where
  pub before-split : (start begin : ℕ) → begin + cell_length system ≡ start → start ≤ width_of system
      → span sums false 0 begin + total_in sums.dark begin (cell_length system) ≡ span sums false 0 start
  before-split start begin e l = grind (arith, split)

  pub after-split : (end : ℕ) → end + cell_length system ≤ width_of system
      → total_in sums.dark end (cell_length system)
      + span sums false (end + cell_length system) (width_of system - (end + cell_length system))
      ≡ span sums false end (width_of system - end)
  after-split end l = grind (arith, split)

  -- a cell's columns are black in the row of a word beside it, so its distance has what they cost
  pub black-beside : (found : Found) → found.start < starts system
      → place_cost sums system found.start found.word ≡ found.distance → (begin : ℕ) → IsBeside system found.start begin
      → total_in sums.dark begin (cell_length system) ≤ found.distance
  unfolding place_cost
  black-beside found before exact begin (inl e) =
      let fits = word-fits system in
      omega (arith, exact, before-split found.start begin e (omega (arith, fits, before)))
  black-beside found before exact begin (inr (e, room)) = grind (arith, after-split)

-- ---- the least of the choices

-- what a distance becomes with the nearer of a one and a zero in the cell that begins at this column
abbrev pub IsNearerCell : Shades → System → ℕ → ℕ → ℕ → Type 0
IsNearerCell sums system distance begin value =
    value + total_in sums.dark begin (cell_length system)
    ≡ distance + min (cell_cost sums system begin 0 true) (cell_cost sums system begin 0 false)

module _ (sums : Shades) (system : System) (distance begin value : ℕ)
    (is : IsNearerCell sums system distance begin value) where
  cell-least : (far : ℕ) (bit : Bool) → IsWithCell sums system distance begin bit far → value ≤ far
  cell-least far true with_cell = grind arith
  cell-least far false with_cell = grind arith

  cell-one : (bit : Bool) × IsWithCell sums system distance begin bit value
  cell-one = grind (arith, min_is)

-- what a distance becomes with a cell in a column, in an equal column
moved : (sums : Shades) (system : System) (distance begin other far : ℕ) (bit : Bool) → other ≡ begin
    → IsWithCell sums system distance other bit far → IsWithCell sums system distance begin bit far
moved sums system distance begin other far bit e is = grind arith

module _ (sums : Shades) (system : System) (found : Found) where
  pub after-alone : (end value : ℕ) → end ≡ found.start + word_length system
      → found.start < cell_length system → IsNearerCell sums system found.distance end value
      → IsLongerFound sums system found value
  after-alone end value e short is = record { least = least; one = one }
    where
      least : (begin far : ℕ) (bit : Bool) → IsBeside system found.start begin
          → IsWithCell sums system found.distance begin bit far → value ≤ far
      least begin far bit (inl at) with_cell = absurd (omega arith)
      least begin far bit (inr (at, room)) with_cell =
          cell-least sums system found.distance end value is far bit
          (moved sums system found.distance end begin far bit (at ∙ sym e) with_cell)

      one : (begin : ℕ) × (bit : Bool) × IsBeside system found.start begin
          × IsWithCell sums system found.distance begin bit value
      one =
          let some = cell-one sums system found.distance end value is in
          (end, some.0, inr (e, omega (arith, e, room-after system found.start short)), some.1)

  pub before-alone : (begin value : ℕ) → begin + cell_length system ≡ found.start
      → width_of system < found.start + word_length system + cell_length system
      → IsNearerCell sums system found.distance begin value → IsLongerFound sums system found value
  before-alone first value e short is = record { least = least; one = one }
    where
      least : (begin far : ℕ) (bit : Bool) → IsBeside system found.start begin
          → IsWithCell sums system found.distance begin bit far → value ≤ far
      least begin far bit (inr (at, room)) with_cell = absurd (omega (arith, at, room, short))
      least begin far bit (inl at) with_cell =
          cell-least sums system found.distance first value is far bit
          (moved sums system found.distance first begin far bit (omega (arith, at, e)) with_cell)

      one : (begin : ℕ) × (bit : Bool) × IsBeside system found.start begin
          × IsWithCell sums system found.distance begin bit value
      one = let some = cell-one sums system found.distance first value is in (first, some.0, inl e, some.1)

  pub both-sides : (first end value other : ℕ) → first + cell_length system ≡ found.start
      → end ≡ found.start + word_length system → end + cell_length system ≤ width_of system
      → IsNearerCell sums system found.distance first value → IsNearerCell sums system found.distance end other
      → IsLongerFound sums system found (min value other)
  both-sides first end value other b e room is are = record { least = least; one = one (min_is value other) }
    where
      least : (begin far : ℕ) (bit : Bool) → IsBeside system found.start begin
          → IsWithCell sums system found.distance begin bit far → min value other ≤ far
      least begin far bit (inl at) with_cell =
          let l = cell-least sums system found.distance first value is far bit
          (moved sums system found.distance first begin far bit (omega (arith, at, b)) with_cell) in
          omega (arith, l, min-le_left value other)
      least begin far bit (inr (at, fits)) with_cell =
          let l = cell-least sums system found.distance end other are far bit
          (moved sums system found.distance end begin far bit (at ∙ sym e) with_cell) in
          omega (arith, l, min-le_right value other)

      one : ((min value other ≡ value) × (value ≤ other)) ⊎ ((min value other ≡ other) × (other < value))
          → (begin : ℕ) × (bit : Bool) × IsBeside system found.start begin
          × IsWithCell sums system found.distance begin bit (min value other)
      one (inl (m, le)) =
          let some = cell-one sums system found.distance first value is in (
            first,
            some.0,
            inl b,
            ap (λ (v : ℕ). v + total_in sums.dark first (cell_length system)) m ∙ some.1,
          )
      one (inr (m, less)) =
          let some = cell-one sums system found.distance end other are in (
            end,
            some.0,
            inr (e, room),
            ap (λ (v : ℕ). v + total_in sums.dark end (cell_length system)) m ∙ some.1,
          )

-- ---- as the program reads it

pub nearer-cell : (sums : Shades) (system : System) (distance begin middle end one null black : ℕ)
    → middle ≡ column_of system begin 1 → end ≡ column_of system begin 2
    → one ≡ span sums false begin (middle - begin) + span sums true middle (end - middle)
    → null ≡ span sums true begin (middle - begin) + span sums false middle (end - middle)
    → black ≡ total_in sums.dark begin (end - begin)
    → total_in sums.dark begin (cell_length system) ≤ distance
    → IsNearerCell sums system distance begin (distance - black + min one null)
nearer-cell sums system distance begin middle end one null black m e o z b le = grind (arith, cell-read, cell-long)

-- ---- how wide

cell-drawn : (system : System) (i : ℕ) (bit : Bool)
    → i + length (drawn_halves system 0 (cell_of bit)) ≡ i + cell_length system
cell-drawn system i bit =
    ap (λ (k : ℕ). k + length (drawn_halves system 0 (cell_of bit))) (sym (column-first system i))
    ∙ column-drawn system i 0 (cell_of bit) ∙ cell-long system i

pub length-longer : (system : System) (w start : ℕ) (levels : List Bool) → start + word_length system ≤ width_of system
    → GoesOn system w start levels → length levels ≡ width_of system
unfolding begun_earlier ended_later
length-longer system w start levels fits (bit, inl (room, e)) =
    let cell = cell-drawn system (start - cell_length system) bit in
    omega (arith, ap length e, length-append {A = Bool}, length-replicate {A = Bool}, cell, word-drawn system start w)
length-longer system w start levels fits (bit, inr (room, e)) =
    let cell = cell-drawn system start bit in
    omega (arith, ap length e, length-append {A = Bool}, length-replicate {A = Bool}, cell, word-drawn system start w)

-- ---- how far

module _ (costs sums : Shades) (system : System) (both : AreBoth costs sums (width_of system)) where
  blank-at : (n : ℕ) (rest : List Bool) → n ≤ width_of system
      → distance_from costs 0 (replicate n false ++ rest) ≡ span sums false 0 n + distance_from costs n rest
  blank-at n rest room = grind (arith, replicate, length-replicate, distance-append, distance-run)

  module _ (rises : AreRowSums system sums) where
    earlier : (w start begin : ℕ) (bit : Bool) → begin + cell_length system ≡ start
        → start + word_length system ≤ width_of system
        → IsWithCell sums system (place_cost sums system start w) begin bit
        (distance_from costs 0 (begun_earlier system w start bit))
    unfolding begun_earlier place_cost
    earlier w start begin bit e room =
        let D : List Bool = drawn_halves system 0 (halves_of w) in
        let C : List Bool = drawn_halves system 0 (cell_of bit) in
        let n : ℕ = width_of system - (start + word_length system) in
        let tail : List Bool = replicate n false in
        let m : start - cell_length system ≡ begin = omega arith in
        let lead : distance_from costs 0 (replicate (start - cell_length system) false ++ (C ++ (D ++ tail)))
        ≡ distance_from costs 0 (replicate begin false ++ (C ++ (D ++ tail)))
        = ap (λ (k : ℕ). distance_from costs 0 (replicate k false ++ (C ++ (D ++ tail)))) m in
        let there : distance_from costs (column_of system begin 2) (D ++ tail) ≡ distance_from costs start (D ++ tail)
        = ap (λ (k : ℕ). distance_from costs k (D ++ tail)) (cell-long system begin ∙ e) in
        omega (
          arith,
          lead,
          blank-at begin (C ++ (D ++ tail)) (omega arith),
          cell-at costs sums system both begin bit (D ++ tail) (omega (arith, cell-long system begin)),
          there,
          word-at costs sums system both start room w tail,
          distance-run costs sums (width_of system) both false (start + word_length system) n (omega arith),
          before-split sums system rises start begin e (omega arith),
        )

    later : (w start : ℕ) (bit : Bool) → start + word_length system + cell_length system ≤ width_of system
        → IsWithCell sums system (place_cost sums system start w) (start + word_length system) bit
        (distance_from costs 0 (ended_later system w start bit))
    unfolding ended_later place_cost
    later w start bit room =
        let D : List Bool = drawn_halves system 0 (halves_of w) in
        let C : List Bool = drawn_halves system 0 (cell_of bit) in
        let end : ℕ = start + word_length system in
        let n : ℕ = width_of system - (start + word_length system + cell_length system) in
        let tail : List Bool = replicate n false in
        omega (
          arith,
          blank-at start (D ++ (C ++ tail)) (omega arith),
          word-at costs sums system both start (omega arith) w (C ++ tail),
          cell-at costs sums system both (start + word_length system) bit tail
              (omega (arith, cell-long system (start + word_length system))),
          ap (λ (k : ℕ). distance_from costs k tail) (cell-long system (start + word_length system)),
          distance-run costs sums (width_of system) both false (start + word_length system + cell_length system) n
              (omega arith),
          after-split sums system rises (start + word_length system) room,
        )

    module _ (found : Found) (before : found.start < starts system)
        (place : place_cost sums system found.start found.word ≡ found.distance) (longer : ℕ)
        (longest : IsLongerFound sums system found longer) where
      fits : found.start + word_length system ≤ width_of system
      fits = omega (arith, word-fits system, before)

      exact : (begin far : ℕ) (bit : Bool)
          → IsWithCell sums system (place_cost sums system found.start found.word) begin bit far
          → IsWithCell sums system found.distance begin bit far
      exact begin far bit with_cell = with_cell ∙ ap (λ (d : ℕ). d + cell_cost sums system begin 0 bit) place

      least : (levels : List Bool) → GoesOn system found.word found.start levels → longer ≤ distance_from costs 0 levels
      least levels (bit, inl (room, e)) =
          let begin : ℕ = found.start - cell_length system in
          let at : begin + cell_length system ≡ found.start = omega arith in
          let far : ℕ = distance_from costs 0 (begun_earlier system found.word found.start bit) in
          let l = longest.least begin far bit (inl at) (exact begin far bit (earlier found.word found.start begin bit at
          fits)) in
          omega (arith, l, ap (distance_from costs 0) e)
      least levels (bit, inr (room, e)) =
          let begin : ℕ = found.start + word_length system in
          let far : ℕ = distance_from costs 0 (ended_later system found.word found.start bit) in
          let l = longest.least begin far bit (inr (refl, room)) (exact begin far bit (later found.word found.start bit
          room)) in
          omega (arith, l, ap (distance_from costs 0) e)

      one : (begin : ℕ) (bit : Bool) → IsBeside system found.start begin
          → IsWithCell sums system found.distance begin bit longer
          → (levels : List Bool) × GoesOn system found.word found.start levels × (distance_from costs 0 levels ≡ longer)
      one begin bit (inl at) with_cell = (
        begun_earlier system found.word found.start bit,
        (bit, inl (omega arith, refl)),
        (
            let same = exact begin (distance_from costs 0 (begun_earlier system found.word found.start bit)) bit
            (earlier found.word found.start begin bit at fits) in
            omega (arith, same, with_cell)
            ),
      )
      one begin bit (inr (at, room)) with_cell = (
        ended_later system found.word found.start bit,
        (bit, inr (omega (arith, at, room), refl)),
        (
            let other : ℕ = found.start + word_length system in
            let same = exact other (distance_from costs 0 (ended_later system found.word found.start bit)) bit
            (later found.word found.start bit (omega (arith, at, room))) in
            let black : total_in sums.dark begin (cell_length system) ≡ total_in sums.dark other (cell_length system)
            = ap (λ (k : ℕ). total_in sums.dark k (cell_length system)) at in
            let drawn : cell_cost sums system begin 0 bit ≡ cell_cost sums system other 0 bit
            = ap (λ (k : ℕ). cell_cost sums system k 0 bit) at in
            omega (arith, same, with_cell, black, drawn)
            ),
      )

      pub least_longer : IsLeastRow (GoesOn system found.word found.start) (distance_from costs 0) longer
      least_longer = let o = longest.one in record { least = least; one = one o.0 o.1 o.2 o.3 }
