-- Two words one of which begins some columns later, at most a cell: in how many columns they differ at least. A table
-- has the least of all words, from the last cell back to the first, which the checker computes. Distinct stands on it.
use Rattle.std.proofs.Common.{◌≡◌, ◌≢◌, ℕ, suc, zero, ◌≤◌, ◌<◌, ◌+◌, ◌-◌, List, [], ◌∷◌, ◌++◌, Bool, true, false}
use Rattle.std.proofs.Common.{length, take, drop, min, leb, eqb, ◌&&◌, refl, arith, ap, ap₂, sym, ◌∙◌, ◌⊎◌, le_trans}
use Rattle.std.proofs.Common.{append_assoc, take-append-drop, length-append, length-take-le, length-drop}
use Rattle.std.proofs.Math.ListN.{replicate}
use Rattle.std.proofs.lemmas.{List.length-replicate, Bool.leb-true, Bool.Decides.leb_tells, Bool.Decides.eqb_tells}
use Rattle.vbi_near.proofs.Common.{System, Ntsc, Pal, differences, drawn_halves}
use Rattle.vbi_near.proofs.Highs.{highs, differences-append, low-differs, cell_columns, cell_levels, length-cell}
use Rattle.vbi_near.proofs.Highs.{bits_levels, bits-begin, cell-long}
use Rattle.vbi_near.specs.Apart.{picture_distance}

-- a cell that lies some columns later: its levels beside the same cell of the other word, and beside what follows
abbrev pub levels_beside : System → ℕ → ℕ → Bool → List Bool
levels_beside system late j bit = take (cell_columns system j - late) (cell_levels system j bit)

abbrev pub levels_after : System → ℕ → ℕ → Bool → List Bool
levels_after system late j bit = drop (cell_columns system j - late) (cell_levels system j bit)

-- ---- the table

-- in how many columns the cell of the one word differs from the later word's, which begin with `levels`
abbrev pub cell_differences : System → ℕ → ℕ → List Bool → Bool → Bool → ℕ
cell_differences system late j levels one other =
    differences (cell_levels system j one) (levels ++ levels_beside system late j other)

-- in how many columns the cells that follow differ at least, by the bit of the later word's last cell, and whether all
-- bits so far are the same
pub record Floors : Type 0 where
  pub same_zero : ℕ
  pub same_one : ℕ
  pub apart_zero : ℕ
  pub apart_one : ℕ

abbrev pub floor : Floors → Bool → Bool → ℕ
floor floors false true = floors.same_zero
floor floors true true = floors.same_one
floor floors false false = floors.apart_zero
floor floors true false = floors.apart_one

-- whether all bits are the same still
abbrev pub still_same : Bool → Bool → Bool → Bool
still_same true true true = true
still_same true false false = true
still_same same one other = false

-- in how many columns the cell differs that follows the one at half cell j, with these two bits, and those after it
abbrev pub floor_with : System → ℕ → ℕ → Floors → Bool → Bool → Bool → Bool → ℕ
floor_with system late j rest bit same one other =
    cell_differences system late (suc (suc j)) (levels_after system late j bit) one other
    + floor rest other (still_same same one other)

abbrev pub least_floor : System → ℕ → ℕ → Floors → Bool → Bool → ℕ
least_floor system late j rest bit same =
    min (min (floor_with system late j rest bit same true true) (floor_with system late j rest bit same true false))
    (min (floor_with system late j rest bit same false true) (floor_with system late j rest bit same false false))

abbrev pub floors_with : System → ℕ → ℕ → Floors → Floors
floors_with system late j rest = record {
  same_zero = least_floor system late j rest false true;
  same_one = least_floor system late j rest true true;
  apart_zero = least_floor system late j rest false false;
  apart_one = least_floor system late j rest true false;
}

-- if n cells follow the one that begins with half cell j. Two words that are the same to the end are one word,
-- and nothing is asked of it
unfoldable pub floors : System → ℕ → ℕ → ℕ → Floors
floors system late j zero = record {
  same_zero = picture_distance system;
  same_one = picture_distance system;
  apart_zero = highs (levels_after system late j false);
  apart_one = highs (levels_after system late j true);
}
floors system late j (suc n) = floors_with system late j (floors system late (suc (suc j)) n)

-- in how many columns whole words differ at least; both begin with a one
unfoldable pub word_floor : System → ℕ → ℕ
word_floor system late =
    cell_differences system late 0 (replicate late false) true true + floor (floors system late 0 23) true true

-- whether words differ in as many columns as a cell has, at this many columns later and at fewer
far_until : System → ℕ → Bool
far_until system zero = leb (picture_distance system) (word_floor system 0)
far_until system (suc late) = leb (picture_distance system) (word_floor system (suc late)) && far_until system late

all-ntsc : far_until Ntsc 28 ≡ true
unfolding far_until word_floor floors
all-ntsc = refl

all-pal : far_until Pal 35 ≡ true
unfolding far_until word_floor floors
all-pal = refl

floor-far : (system : System) (most : ℕ) → far_until system most ≡ true → (late : ℕ) → late ≤ most
    → picture_distance system ≤ word_floor system late
unfolding far_until
floor-far system zero all zero l = leb-true (picture_distance system) (word_floor system 0) all
floor-far system zero all (suc late) l = absurd (omega (arith, l))
floor-far system (suc most) all late l =
    go (leb_tells (picture_distance system) (word_floor system (suc most))) (eqb_tells late (suc most))
    (λ rest less. floor-far system most rest late less)
  where
    go : ((leb (picture_distance system) (word_floor system (suc most)) ≡ true)
        × (picture_distance system ≤ word_floor system (suc most)))
        ⊎ ((leb (picture_distance system) (word_floor system (suc most)) ≡ false)
        × (word_floor system (suc most) < picture_distance system))
        → ((eqb late (suc most) ≡ true) × (late ≡ suc most)) ⊎ ((eqb late (suc most) ≡ false) × (late ≢ suc most))
        → (far_until system most ≡ true → late ≤ most → picture_distance system ≤ word_floor system late)
        → picture_distance system ≤ word_floor system late
    go either test later = grind (arith, far_until)

-- ---- words

module _ (system : System) (late room : ℕ) (fits : (j : ℕ) → late ≤ cell_columns system j) where
  -- the one word's levels from half cell j on, and the other's after some levels
  ones : ℕ → List Bool → List Bool
  ones j bits = bits_levels system j bits ++ replicate (late + room) false

  others : List Bool → ℕ → List Bool → List Bool
  others levels j bits = levels ++ (bits_levels system j bits ++ replicate room false)

  cell-split : (j : ℕ) (levels : List Bool) → length levels ≡ late → (one other : Bool) (bits more : List Bool)
      → differences (ones j (one ∷ bits)) (others levels j (other ∷ more))
      ≡ cell_differences system late j levels one other
      + differences (ones (suc (suc j)) bits) (others (levels_after system late j other) (suc (suc j)) more)
  unfolding ones others
  cell-split j levels long one other bits more =
      let cell : List Bool = cell_levels system j one in
      let beside : List Bool = levels_beside system late j other in
      let tail : List Bool = levels_after system late j other in
      let rest : List Bool = bits_levels system (suc (suc j)) bits in
      let after : List Bool = bits_levels system (suc (suc j)) more ++ replicate room false in
      let p : ones j (one ∷ bits) ≡ cell ++ ones (suc (suc j)) bits
      = ap (λ (l : List Bool). l ++ replicate (late + room) false) (bits-begin system j one bits)
      ∙ append_assoc cell rest (replicate (late + room) false) in
      let q : others levels j (other ∷ more) ≡ (levels ++ beside) ++ (tail ++ after)
      = ap (λ (l : List Bool). levels ++ (l ++ replicate room false)) (bits-begin system j other more)
      ∙ ap (λ (l : List Bool). levels ++ l)
      (append_assoc (cell_levels system j other) (bits_levels system (suc (suc j)) more) (replicate room false))
      ∙ ap (λ (l : List Bool). levels ++ (l ++ after))
      (sym (take-append-drop (cell_columns system j - late) (cell_levels system j other)))
      ∙ ap (λ (l : List Bool). levels ++ l) (append_assoc beside tail after)
      ∙ sym (append_assoc levels beside (tail ++ after)) in
      let same : length cell ≡ length (levels ++ beside)
      = omega (
        arith,
        length-cell system j one,
        length-append levels beside,
        long,
        length-take-le (cell_columns system j - late) (cell_levels system j other)
            (omega (arith, length-cell system j other)),
        fits j,
      ) in
      ap₂ differences p q ∙ differences-append cell (ones (suc (suc j)) bits) (levels ++ beside) (tail ++ after) same

  -- the least is of these two bits, or of others
  least-of : (j : ℕ) (rest : Floors) (bit same one other : Bool)
      → floor (floors_with system late j rest) bit same ≤ floor_with system late j rest bit same one other
  least-of j rest bit same one other = go bit same one other
    where
      least : (b s : Bool) (p q : Bool)
          → least_floor system late j rest b s ≤ floor_with system late j rest b s p q
      least b s true true = omega arith
      least b s true false = omega arith
      least b s false true = omega arith
      least b s false false = omega arith

      go : (b s p q : Bool) → floor (floors_with system late j rest) b s ≤ floor_with system late j rest b s p q
      go false true p q = least false true p q
      go true true p q = least true true p q
      go false false p q = least false false p q
      go true false p q = least true false p q

  unlike : (same one other : Bool) (bits more : List Bool) → (same ≡ true → one ∷ bits ≢ other ∷ more)
      → still_same same one other ≡ true → bits ≢ more
  unlike same one other bits more differ e f = grind arith

  after-long : (j : ℕ) (bit : Bool) → length (levels_after system late j bit) ≡ late
  after-long j bit = grind (arith, length-drop, cell_columns, cell_levels, length-cell)

  floors-hold : (n j : ℕ) (bit same : Bool) (bits more : List Bool) → length bits ≡ n → length more ≡ n
      → (same ≡ true → bits ≢ more) → floor (floors system late j n) bit same
      ≤ differences (ones (suc (suc j)) bits) (others (levels_after system late j bit) (suc (suc j)) more)
  unfolding floors ones others drawn_halves
  floors-hold zero j bit true [] [] e f differ = absurd (differ refl refl)
  floors-hold zero j false false [] [] e f differ = grind (arith, low-differs, replicate, after-long)
  floors-hold zero j true false [] [] e f differ = grind (arith, low-differs, replicate, after-long)
  floors-hold zero j bit same (one ∷ bits) more e f differ = absurd (omega (arith, e))
  floors-hold zero j bit same [] (other ∷ more) e f differ = absurd (omega (arith, f))
  floors-hold (suc n) j bit same [] more e f differ = absurd (omega (arith, e))
  floors-hold (suc n) j bit same (one ∷ bits) [] e f differ = absurd (omega (arith, f))
  floors-hold (suc n) j bit same (one ∷ bits) (other ∷ more) e f differ =
      let next = cell-split (suc (suc j)) (levels_after system late j bit) (after-long j bit) one other bits more in
      let rest = floors-hold n (suc (suc j)) other (still_same same one other) bits more (omega (arith, e))
      (omega (arith, f)) (unlike same one other bits more differ) in
      omega (arith, next, rest, least-of j (floors system late (suc (suc j)) n) bit same one other)

  -- words that begin with a one
  words-far : (bits more : List Bool) → length bits ≡ 23 → length more ≡ 23 → bits ≢ more → word_floor system late
      ≤ differences (ones 0 (true ∷ bits)) (others (replicate late false) 0 (true ∷ more))
  unfolding word_floor
  words-far bits more e f differ =
      let next = cell-split 0 (replicate late false) (length-replicate late false) true true bits more in
      omega (arith, next, floors-hold 23 0 true true bits more e f (λ _. differ))

-- words at most a cell apart
pub within-cell : (system : System) (late room : ℕ) → late ≤ picture_distance system → (bits more : List Bool)
    → length bits ≡ 23 → length more ≡ 23 → bits ≢ more → picture_distance system
    ≤ differences (bits_levels system 0 (true ∷ bits) ++ replicate (late + room) false)
    (replicate late false ++ (bits_levels system 0 (true ∷ more) ++ replicate room false))
unfolding ones others
within-cell system late room near bits more e f differ =
    le_trans (far system near)
    (words-far system late room (λ j. le_trans near (cell-long system j).0) bits more e f differ)
  where
    far : (system : System) → late ≤ picture_distance system → picture_distance system ≤ word_floor system late
    far Ntsc l = floor-far Ntsc 28 all-ntsc late l
    far Pal l = floor-far Pal 35 all-pal late l
