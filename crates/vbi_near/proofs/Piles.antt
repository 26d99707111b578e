-- How far lines are from a row is what their columns cost there.
-- nears_of stands on it, and Chosen, HalvedRows and LeastAt.
use Rattle.std.proofs.Common.{◌≡◌, ℕ, suc, ◌<◌, ◌+◌, List, [], ◌∷◌, Bool, length, get_or, refl, arith, ap, sym, ◌∙◌}
use Rattle.std.proofs.Common.{Option}
use Rattle.std.specs.{List.All, Prelude.None}
use Rattle.vbi_near.proofs.Common.{System, width_of, Slicing, IsPlace, picture_of, sample_of, drawn_as, Samples}
use Rattle.vbi_near.proofs.Common.{most_of, off_by, row_distance, distance_of, Shades, shade, column_cost}
use Rattle.vbi_near.proofs.Common.{distance_from, IsPile, far_from, IsLeastRow}
use Rattle.vbi_near.proofs.Columns.{length-picture}

-- ---- one line

-- how far a line, from column i on, is from these levels
row_from : Slicing → Samples → ℕ → List Bool → ℕ
row_from slicing line i [] = 0
row_from slicing line i (level ∷ levels) =
    off_by (most_of slicing) (get_or line i None) (sample_of slicing level) + row_from slicing line (suc i) levels

row_is : (slicing : Slicing) (whole : Samples) (i : ℕ) (line : Samples) (levels : List Bool)
    → length line ≡ length levels → ((j : ℕ) → get_or whole (i + j) None ≡ get_or line j None)
    → row_from slicing whole i levels ≡ row_distance (most_of slicing) line (drawn_as slicing levels)
unfolding row_from row_distance
row_is slicing whole i [] [] same at = refl
row_is slicing whole i [] (y ∷ levels) same at = absurd (omega arith)
row_is slicing whole i (x ∷ line) [] same at = absurd (omega arith)
row_is slicing whole i (x ∷ line) (y ∷ levels) same at =
    let e : i ≡ i + 0 = omega arith in
    let here : get_or whole i None ≡ x = ap (λ (k : ℕ). get_or whole k None) e ∙ at 0 in
    let first : off_by (most_of slicing) (get_or whole i None) (sample_of slicing y)
    ≡ off_by (most_of slicing) x (sample_of slicing y)
    = ap (λ (s : Option ℕ). off_by (most_of slicing) s (sample_of slicing y)) here in
    let next : (j : ℕ) → suc i + j ≡ i + suc j = λ j. omega arith in
    let rest = row_is slicing whole (suc i) line levels (omega arith)
    (λ j. ap (λ (k : ℕ). get_or whole k None) (next j) ∙ at (suc j)) in
    ap (λ (a : ℕ). a + row_from slicing whole (suc i) levels) first
    ∙ ap (λ (b : ℕ). off_by (most_of slicing) x (sample_of slicing y) + b) rest

-- ---- all lines

rows_from : Slicing → List Samples → ℕ → List Bool → ℕ
rows_from slicing [] i levels = 0
rows_from slicing (line ∷ lines) i levels = row_from slicing line i levels + rows_from slicing lines i levels

rows_none : (slicing : Slicing) (lines : List Samples) (i : ℕ) → rows_from slicing lines i [] ≡ 0
unfolding rows_from row_from
rows_none slicing [] i = refl
rows_none slicing (line ∷ lines) i = omega (arith, rows_none slicing lines i)

swapped : (a b c d : ℕ) → a + b + (c + d) ≡ a + c + (b + d)
swapped a b c d = omega arith

rows_more : (slicing : Slicing) (lines : List Samples) (i : ℕ) (level : Bool) (levels : List Bool)
    → rows_from slicing lines i (level ∷ levels)
    ≡ column_cost slicing lines i level + rows_from slicing lines (suc i) levels
unfolding rows_from row_from column_cost
rows_more slicing [] i level levels = refl
rows_more slicing (line ∷ lines) i level levels =
    ap (λ (n : ℕ). off_by (most_of slicing) (get_or line i None) (sample_of slicing level)
    + row_from slicing line (suc i) levels + n)
    (rows_more slicing lines i level levels)
    ∙ swapped (off_by (most_of slicing) (get_or line i None) (sample_of slicing level))
    (row_from slicing line (suc i) levels)
    (column_cost slicing lines i level) (rows_from slicing lines (suc i) levels)

rows_are : (slicing : Slicing) (width : ℕ) (lines : List Samples) (levels : List Bool) → length levels ≡ width
    → All (λ line. length line ≡ width) lines
    → rows_from slicing lines 0 levels ≡ distance_of (most_of slicing) lines (drawn_as slicing levels)
unfolding rows_from distance_of
rows_are slicing width [] levels wide all = refl
rows_are slicing width (line ∷ lines) levels wide all =
    let same : (j : ℕ) → get_or line (0 + j) None ≡ get_or line j None
    = λ j. let e : 0 + j ≡ j = omega arith in ap (λ (k : ℕ). get_or line k None) e in
    omega (
      arith,
      row_is slicing line 0 line levels (all 0 [] (omega arith) ∙ sym wide) same,
      rows_are slicing width lines levels wide (λ k d l. all (suc k) d (omega arith)),
    )

-- ---- costs of columns

costs_are : (slicing : Slicing) (lines : List Samples) (costs : Shades) (width i : ℕ) (levels : List Bool)
    → ((k : ℕ) (level : Bool) → k < width → get_or (shade costs level) k 0 ≡ column_cost slicing lines k level)
    → i + length levels ≡ width → distance_from costs i levels ≡ rows_from slicing lines i levels
unfolding distance_from
costs_are slicing lines costs width i [] exact wide = sym (rows_none slicing lines i)
costs_are slicing lines costs width i (level ∷ levels) exact wide =
    grind (arith, costs_are slicing lines costs width (suc i) levels exact (omega arith), rows_more)

pub levels-same : (system : System) (slicing : Slicing) (lines : List Samples) (costs : Shades)
    → IsPile system slicing lines costs → (levels : List Bool) → length levels ≡ width_of system
    → distance_from costs 0 levels ≡ distance_of (most_of slicing) lines (drawn_as slicing levels)
levels-same system slicing lines costs pile levels wide =
    costs_are slicing lines costs (width_of system) 0 levels pile.exact (omega (arith, wide))
    ∙ rows_are slicing (width_of system) lines levels wide pile.whole

pub far-same : (system : System) (slicing : Slicing) (lines : List Samples) (costs : Shades)
    → IsPile system slicing lines costs → (word : Option ℕ) (start : ℕ) → IsPlace system word start
    → distance_from costs 0 (picture_of system word start) ≡ far_from system slicing lines word start
far-same system slicing lines costs pile word start place =
    levels-same system slicing lines costs pile (picture_of system word start) (length-picture system word start place)

-- the least distance of rows as wide as the lines is the same by their columns
pub row-same : (system : System) (slicing : Slicing) (lines : List Samples) (costs : Shades)
    → IsPile system slicing lines costs → (IsRow : List Bool → Type 0) (distance : ℕ)
    → ((levels : List Bool) → IsRow levels → length levels ≡ width_of system)
    → IsLeastRow IsRow (distance_from costs 0) distance
    → IsLeastRow IsRow (λ levels. distance_of (most_of slicing) lines (drawn_as slicing levels)) distance
row-same system slicing lines costs pile IsRow distance wide is = record {
  least = λ levels row. omega (arith, is.least levels row, same levels row);
  one = (is.one.0, is.one.1, sym (same is.one.0 is.one.1) ∙ is.one.2);
}
  where
    same : (levels : List Bool) → IsRow levels
        → distance_from costs 0 levels ≡ distance_of (most_of slicing) lines (drawn_as slicing levels)
    same levels row = levels-same system slicing lines costs pile levels (wide levels row)
