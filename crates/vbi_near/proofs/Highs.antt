-- High columns, the cells of a word, and words one of which begins more than a cell later.
-- Shifted and Distinct stand on it.
use Rattle.std.proofs.Common.{◌≡◌, ℕ, suc, zero, ◌≤◌, ◌<◌, ◌+◌, ◌-◌, ◌*◌, List, [], ◌∷◌, ◌++◌, Bool, true, false, not}
use Rattle.std.proofs.Common.{length, refl, arith, ap, ap₂, sym, ◌∙◌, append_assoc, length-append, append-nil}
use Rattle.std.specs.List.{flat_map}
use Rattle.std.proofs.Math.ListN.{replicate}
use Rattle.std.proofs.lemmas.List.{length-replicate, replicate-append-replicate}
use Rattle.vbi_near.proofs.Common.{System, Ntsc, Pal, cell_of, differences, half_length, column_of, drawn_halves}
use Rattle.vbi_near.proofs.Columns.{column-drawn, length-cells}
use Rattle.vbi_words.specs.Jitter.{differs}
use Rattle.vbi_words.proofs.Apart.{differences_sym}
use Rattle.vbi_near.specs.Apart.{picture_distance}

-- ---- high columns

-- in how many columns the levels are high
abbrev pub highs : List Bool → ℕ
highs [] = 0
highs (b ∷ levels) = differs false b + highs levels

pub differences-append : (a b x y : List Bool) → length a ≡ length x
    → differences (a ++ b) (x ++ y) ≡ differences a x + differences b y
differences-append [] b [] y e = omega arith
differences-append [] b (q ∷ x) y e = absurd (omega (arith, e))
differences-append (p ∷ a) b [] y e = absurd (omega (arith, e))
differences-append (p ∷ a) b (q ∷ x) y e = omega (arith, differences-append a b x y (omega (arith, e)))

-- low columns differ from others in as many as are high there
pub low-differs : (n : ℕ) (levels more : List Bool) → length levels ≤ n
    → highs levels ≤ differences (replicate n false) (levels ++ more)
low-differs n [] more l = omega arith
low-differs zero (b ∷ levels) more l = absurd (omega (arith, l))
low-differs (suc n) (b ∷ levels) more l = omega (arith, low-differs n levels more (omega (arith, l)))

pub highs-append : (a b : List Bool) → highs (a ++ b) ≡ highs a + highs b
highs-append [] b = omega arith
highs-append (x ∷ a) b = omega (arith, highs-append a b)

pub highs-run : (n : ℕ) → highs (replicate n true) ≡ n
highs-run zero = refl
highs-run (suc n) = omega (arith, highs-run n)

-- ---- cells

-- the columns of the cell that begins with half cell j
abbrev pub cell_columns : System → ℕ → ℕ
cell_columns system j = half_length system j + half_length system (suc j)

-- its levels if its bit is this one
abbrev pub cell_levels : System → ℕ → Bool → List Bool
cell_levels system j bit = replicate (half_length system j) (not bit) ++ replicate (half_length system (suc j)) bit

-- the levels of these bits, the first of which begins with half cell j
abbrev pub bits_levels : System → ℕ → List Bool → List Bool
bits_levels system j bits = drawn_halves system j (flat_map cell_of bits)

pub length-cell : (system : System) (j : ℕ) (bit : Bool) → length (cell_levels system j bit) ≡ cell_columns system j
length-cell system j bit = grind (arith, length-append, replicate, length-replicate)

pub bits-begin : (system : System) (j : ℕ) (bit : Bool) (bits : List Bool)
    → bits_levels system j (bit ∷ bits) ≡ cell_levels system j bit ++ bits_levels system (suc (suc j)) bits
unfolding drawn_halves
bits-begin system j bit bits = grind (arith, append_assoc, replicate)

-- bits as many have columns as many
pub as-long : (system : System) (j : ℕ) (bits more : List Bool) → length bits ≡ length more
    → length (bits_levels system j bits) ≡ length (bits_levels system j more)
as-long system j bits more same =
    let halves : length (flat_map cell_of bits) ≡ length (flat_map cell_of more)
    = length-cells bits ∙ ap (λ (n : ℕ). 2 * n) same ∙ sym (length-cells more) in
    omega (
      arith,
      column-drawn system 0 j (flat_map cell_of bits),
      column-drawn system 0 j (flat_map cell_of more),
      ap (λ (n : ℕ). column_of system 0 (j + n)) halves,
    )

-- the fewest columns of a half cell
abbrev pub half_least : System → ℕ
half_least Ntsc = 14
half_least Pal = 17

half-long : (system : System) (j : ℕ) → half_least system ≤ half_length system j
half-long system j = grind arith

-- a cell has as many columns as pictures differ in, or one more
pub cell-long : (system : System) (j : ℕ)
    → (picture_distance system ≤ cell_columns system j) × (cell_columns system j ≤ picture_distance system + 1)
cell-long system j = grind arith

-- one half cell of a cell is high
pub cell-high : (system : System) (j : ℕ) (bit : Bool) → half_least system ≤ highs (cell_levels system j bit)
cell-high system j true = grind (arith, highs-append, replicate, highs-run, half-long)
cell-high system j false = grind (arith, highs-append, replicate, highs-run, half-long)

-- the first cell, which is a one, and one half cell more are high in as many columns as a cell has
pub first-high : (system : System)
    → picture_distance system ≤ highs (cell_levels system 0 true) + half_least system
first-high system = grind arith

pub bits-high : (system : System) (bits : List Bool) → 0 < length bits
    → picture_distance system ≤ highs (bits_levels system 0 (true ∷ bits))
bits-high system [] some = absurd (omega (arith, some))
bits-high system (bit ∷ bits) some =
    let cell : List Bool = cell_levels system 0 true in
    let next : List Bool = cell_levels system 2 bit in
    let rest : List Bool = bits_levels system 4 bits in
    let all : bits_levels system 0 (true ∷ bit ∷ bits) ≡ cell ++ (next ++ rest)
    = bits-begin system 0 true (bit ∷ bits) ∙ ap (λ (l : List Bool). cell ++ l) (bits-begin system 2 bit bits) in
    omega (
      arith,
      ap highs all,
      highs-append cell (next ++ rest),
      highs-append next rest,
      cell-high system 2 bit,
      first-high system,
    )

-- ---- a cell after another word

-- if the one levels end low for more than a cell, the last cell of the others lies there, and differs in its high
-- half cell
last-differs : (system : System) (j : ℕ) (bit : Bool) (bits levels others : List Bool) (low room : ℕ)
    → length levels + low ≡ length others + length (bits_levels system j (bit ∷ bits))
    → picture_distance system + 1 ≤ low → half_least system ≤ differences (levels ++ replicate (low + room) false)
    (others ++ (bits_levels system j (bit ∷ bits) ++ replicate room false))
unfolding drawn_halves
last-differs system j bit (next ∷ bits) levels others low room whole much =
    let cell : List Bool = cell_levels system j bit in
    let rest : List Bool = bits_levels system (suc (suc j)) (next ∷ bits) in
    let begun = bits-begin system j bit (next ∷ bits) in
    let joined : others ++ (bits_levels system j (bit ∷ next ∷ bits) ++ replicate room false)
    ≡ (others ++ cell) ++ (rest ++ replicate room false)
    = ap (λ (l : List Bool). others ++ (l ++ replicate room false)) begun
    ∙ ap (λ (l : List Bool). others ++ l) (append_assoc cell rest (replicate room false))
    ∙ sym (append_assoc others cell (rest ++ replicate room false)) in
    let long = ap (λ (l : List Bool). length l) begun in
    let later = last-differs system (suc (suc j)) next bits levels (others ++ cell) low room
    (omega (arith, whole, long, length-append cell rest, length-append others cell)) much in
    omega (arith, later, ap (differences (levels ++ replicate (low + room) false)) joined)
last-differs system j bit [] levels others low room whole much =
    let cell : List Bool = cell_levels system j bit in
    let before : ℕ = low - cell_columns system j in
    let after : ℕ = cell_columns system j + room in
    let c = cell-long system j in
    let begun : bits_levels system j (bit ∷ []) ≡ cell = bits-begin system j bit [] ∙ append-nil cell in
    let sum : low + room ≡ before + after = omega (arith, c.1, much) in
    let split : levels ++ replicate (low + room) false ≡ (levels ++ replicate before false) ++ replicate after false
    = ap (λ (n : ℕ). levels ++ replicate n false) sum
    ∙ ap (λ (l : List Bool). levels ++ l) (sym (replicate-append-replicate before after false))
    ∙ sym (append_assoc levels (replicate before false) (replicate after false)) in
    let joined : others ++ (bits_levels system j (bit ∷ []) ++ replicate room false)
    ≡ others ++ (cell ++ replicate room false)
    = ap (λ (l : List Bool). others ++ (l ++ replicate room false)) begun in
    let long = ap (λ (l : List Bool). length l) begun in
    let same : length (levels ++ replicate before false) ≡ length others
    = omega (
      arith,
      whole,
      long,
      length-cell system j bit,
      length-append levels (replicate before false),
      length-replicate before false,
      c.1,
      much,
    ) in
    let all = ap₂ differences split joined
    ∙ differences-append (levels ++ replicate before false) (replicate after false) others
    (cell ++ replicate room false) same in
    omega (
      arith,
      all,
      low-differs after cell (replicate room false) (omega (arith, length-cell system j bit)),
      cell-high system j bit,
    )

-- the word that begins first is high in its first cell, while the other is low still
pub far-apart : (system : System) (late room : ℕ) (bits more : List Bool) → length bits ≡ length more
    → picture_distance system + 1 ≤ late
    → picture_distance system ≤ differences (bits_levels system 0 (true ∷ bits) ++ replicate (late + room) false)
    (replicate late false ++ (bits_levels system 0 (true ∷ more) ++ replicate room false))
far-apart system late room bits more same much =
    let cell : List Bool = cell_levels system 0 true in
    let wide : ℕ = cell_columns system 0 in
    let c = cell-long system 0 in
    let rest : List Bool = bits_levels system 2 bits in
    let word : List Bool = bits_levels system 0 (true ∷ more) ++ replicate room false in
    let sum : late ≡ wide + (late - wide) = omega (arith, c.1, much) in
    let x : bits_levels system 0 (true ∷ bits) ++ replicate (late + room) false
    ≡ cell ++ (rest ++ replicate (late + room) false)
    = ap (λ (l : List Bool). l ++ replicate (late + room) false) (bits-begin system 0 true bits)
    ∙ append_assoc cell rest (replicate (late + room) false) in
    let y : replicate late false ++ word ≡ replicate wide false ++ (replicate (late - wide) false ++ word)
    = ap (λ (n : ℕ). replicate n false ++ word) sum
    ∙ ap (λ (l : List Bool). l ++ word) (sym (replicate-append-replicate wide (late - wide) false))
    ∙ append_assoc (replicate wide false) (replicate (late - wide) false) word in
    let long : length cell ≡ length (replicate wide false)
    = omega (arith, length-cell system 0 true, length-replicate wide false) in
    let all = ap₂ differences x y
    ∙ differences-append cell (rest ++ replicate (late + room) false) (replicate wide false)
    (replicate (late - wide) false ++ word) long in
    let first = low-differs wide cell [] (omega (arith, length-cell system 0 true)) in
    let turned = differences_sym cell (replicate wide false) ∙ ap (differences (replicate wide false))
    (sym (append-nil cell)) in
    let last = last-differs system 0 true more rest (replicate (late - wide) false) late room
    (omega (
      arith,
      sum,
      length-replicate (late - wide) false,
      ap (λ (l : List Bool). length l) (bits-begin system 0 true more),
      length-append cell (bits_levels system 2 more),
      length-cell system 0 true,
      as-long system 2 bits more same,
    )) much in
    omega (arith, all, first, turned, last, first-high system)
