-- The columns of half cells, of a drawn word and of a row.
-- Most modules here stand on it, and the functions that need to know that a row fits.
use Rattle.std.proofs.Common.{◌≡◌, ℕ, suc, ◌≤◌, ◌+◌, ◌-◌, ◌*◌, List, [], ◌∷◌, Bool, length, arith, ap, ◌∙◌, refl, sym}
use Rattle.std.proofs.Common.{◌++◌, false, Option}
use Rattle.std.specs.{Prelude.Some, Prelude.None, List.flat_map}
use Rattle.std.proofs.lemmas.List.{length-append, length-replicate}
use Rattle.std.proofs.Math.ListN.{replicate}
use Rattle.vbi_near.proofs.Common.{lowest_bits, cell_of, halves_of, System, width_of, column_of, half_length}
use Rattle.vbi_near.proofs.Common.{word_length, starts, drawn_halves, picture_of, IsPlace}
use Rattle.vbi_words.proofs.Bits.{length-lowest_bits}

pub column-first : (system : System) (start : ℕ) → column_of system start 0 ≡ start
column-first system start = grind arith

pub column-next : (system : System) (start j : ℕ)
    → column_of system start j + half_length system j ≡ column_of system start (suc j)
column-next system start j = grind arith

pub width-few : (system : System) → width_of system ≤ 1135
width-few system = grind arith

pub starts-few : (system : System) → starts system ≤ 285
starts-few system = grind arith

pub word-fits : (system : System) → word_length system ≤ width_of system
word-fits system = grind arith

pub column-drawn : (system : System) (start j : ℕ) (halves : List Bool)
    → column_of system start j + length (drawn_halves system j halves) ≡ column_of system start (j + length halves)
unfolding drawn_halves
column-drawn system start j [] = grind arith
column-drawn system start j (half ∷ halves) =
    grind (arith, column-drawn system start (suc j) halves, length-append, replicate, length-replicate, column-next)

pub length-cells : (bits : List Bool) → length (flat_map cell_of bits) ≡ 2 * length bits
length-cells [] = refl
length-cells (b ∷ bits) = omega (arith, length-cells bits)

-- the columns of a drawn word
pub word-drawn : (system : System) (start w : ℕ)
    → start + length (drawn_halves system 0 (halves_of w)) ≡ start + word_length system
word-drawn system start w =
    let all : length (halves_of w) ≡ 48
    = length-cells (lowest_bits 24 w) ∙ ap (λ (n : ℕ). 2 * n) (length-lowest_bits 24 w) in
    let e : 0 + length (halves_of w) ≡ 48 = omega (arith, all) in
    ap (λ (k : ℕ). k + length (drawn_halves system 0 (halves_of w))) (sym (column-first system start))
    ∙ column-drawn system start 0 (halves_of w) ∙ ap (column_of system start) e

-- a picture is as wide as a row
pub length-picture : (system : System) (word : Option ℕ) (start : ℕ) → IsPlace system word start
    → length (picture_of system word start) ≡ width_of system
unfolding picture_of
length-picture system None start place = length-replicate (width_of system) false
length-picture system (Some w) start (is, room) =
    let D : List Bool = drawn_halves system 0 (halves_of w) in
    let n : ℕ = width_of system - (start + word_length system) in
    omega (
      arith,
      length-append (replicate start false) (D ++ replicate n false),
      length-append D (replicate n false),
      length-replicate start false,
      length-replicate n false,
      word-drawn system start w,
    )
