-- The samples of a drawn row, by the half cell in which each column lies.
use Rattle.vbi_words.proofs.Common.{◌≡◌, ℕ, ◌+◌, ◌<◌, Bool, true, false, cond, get_or, refl, sym, subst, ◌∙◌, arith}
use Rattle.vbi_words.proofs.Common.{List, zero-add, list_any, range_with_len, Any-from_list_any, list_any_at}
use Rattle.vbi_words.proofs.Common.{length-map-range_with_len, get_or-map-range_with_len, ext_get_or, and_parts}
use Rattle.vbi_words.proofs.Common.{leb-true, ltb-true, le-leb, lt-ltb, System, width_of, Slicing, halves_of, boundary}
use Rattle.vbi_words.proofs.Common.{IsDrawnHigh, IsDrawnRow, length, Option, Some, None, ◌&&◌}
use Rattle.std.specs.Prelude.{nat_lt, nat_le}
use Rattle.std.proofs.lemmas.List.FromFn.{length-range_with_len, get_or-range_with_len}
use Rattle.vbi_words.specs.Drawn.{is_drawn_in, is_drawn_high, drawn_sample_of, drawn_row_of, IsDrawnSample}

high_there : (system : System) (word column : ℕ)
    → list_any (is_drawn_in system word column) (range_with_len 0 48) ≡ true
    → IsDrawnHigh system word column
high_there system word column h =
    let a = Any-from_list_any (is_drawn_in system word column) (range_with_len 0 48) h in
    let inside : a.0 < 48 = omega (arith, a.2, length-range_with_len 0 48) in
    let here : 0 + a.0 ≡ a.1 = sym (get_or-range_with_len 0 48 a.0 a.1 inside) ∙ a.3 in
    let j : a.1 ≡ a.0 = omega arith in
    let both =
    and_parts (nat_le (boundary system a.1) column && nat_lt column (boundary system (a.1 + 1)))
    (get_or (halves_of word) a.1 false) a.4 in
    let ends = and_parts (nat_le (boundary system a.1) column) (nat_lt column (boundary system (a.1 + 1))) both.0 in (
      a.1,
      omega arith,
      leb-true (boundary system a.1) column ends.0,
      ltb-true column (boundary system (a.1 + 1)) ends.1,
      both.1,
    )

low_there : (system : System) (word column : ℕ)
    → list_any (is_drawn_in system word column) (range_with_len 0 48) ≡ false
    → IsDrawnHigh system word column → ⊥
low_there system word column h d =
    let low : nat_le (boundary system d.0) column ≡ true = le-leb (boundary system d.0) column d.2 in
    let high : nat_lt column (boundary system (d.0 + 1)) ≡ true = lt-ltb column (boundary system (d.0 + 1)) d.3 in
    let inside : d.0 < length (range_with_len 0 48) = omega (arith, length-range_with_len 0 48, d.1) in
    let at : is_drawn_in system word column d.0 ≡ true = rw (low, high, d.4) refl in
    let j : d.0 ≡ get_or (range_with_len 0 48) d.0 0 = sym (zero-add d.0)
    ∙ sym (get_or-range_with_len 0 48 d.0 0 d.1) in
    let P : ℕ → Type 0 = λ k. is_drawn_in system word column k ≡ true in
    let any : list_any (is_drawn_in system word column) (range_with_len 0 48) ≡ true
    = list_any_at (is_drawn_in system word column) (range_with_len 0 48) d.0 0 inside (subst P j at) in
    cc

-- ---- samples

sample_by : (system : System) (slicing : Slicing) (word column s : ℕ) (b : Bool)
    → list_any (is_drawn_in system word column) (range_with_len 0 48) ≡ b
    → IsDrawnSample system slicing (Some word) column s → s ≡ cond b slicing.white slicing.black
sample_by system slicing word column s true e h = h.0 (high_there system word column e)
sample_by system slicing word column s false e h = h.1 (low_there system word column e)

-- such a sample is the drawn one
pub drawn_sample_is : (system : System) (slicing : Slicing) (word : Option ℕ) (column s : ℕ)
    → IsDrawnSample system slicing word column s → s ≡ drawn_sample_of system slicing word column
unfolding drawn_sample_of is_drawn_high
drawn_sample_is system slicing None column s h = h
drawn_sample_is system slicing (Some word) column s h = sample_by system slicing word column s _ refl h

sample_from : (system : System) (slicing : Slicing) (word column : ℕ) (b : Bool)
    → list_any (is_drawn_in system word column) (range_with_len 0 48) ≡ b
    → IsDrawnSample system slicing (Some word) column (cond b slicing.white slicing.black)
sample_from system slicing word column true e = (λ d. refl, λ d. absurd (d (high_there system word column e)))
sample_from system slicing word column false e = (λ d. absurd (low_there system word column e d), λ d. refl)

-- the drawn sample is such a one
pub IsDrawnSample-drawn_sample_of : (system : System) (slicing : Slicing) (word : Option ℕ) (column : ℕ)
    → IsDrawnSample system slicing word column (drawn_sample_of system slicing word column)
unfolding drawn_sample_of is_drawn_high
IsDrawnSample-drawn_sample_of system slicing None column = refl
IsDrawnSample-drawn_sample_of system slicing (Some word) column = sample_from system slicing word column _ refl

-- ---- rows

pub is_drawn_row : (system : System) (slicing : Slicing) (word : Option ℕ)
    → IsDrawnRow system slicing word (drawn_row_of system slicing word)
unfolding drawn_row_of
is_drawn_row system slicing word = record {
  whole = length-map-range_with_len (drawn_sample_of system slicing word) 0 (width_of system);
  each = λ column inside.
      let P : ℕ → Type 0 = λ s. IsDrawnSample system slicing word column s in
      subst P
      (sym
      (get_or-map-range_with_len (drawn_sample_of system slicing word) 0 (width_of system) column column 0 inside
      (omega arith)))
      (IsDrawnSample-drawn_sample_of system slicing word column);
}

-- there is no other such row
pub only_drawn_row : (system : System) (slicing : Slicing) (word : Option ℕ) (samples : List ℕ)
    → IsDrawnRow system slicing word samples → samples ≡ drawn_row_of system slicing word
unfolding drawn_row_of
only_drawn_row system slicing word samples row =
    let drawn = is_drawn_row system slicing word in
    ext_get_or 0 samples (drawn_row_of system slicing word) (row.whole ∙ sym drawn.whole) (λ column inside.
    let within : column < width_of system = omega (arith, row.whole) in
    drawn_sample_is system slicing word column (get_or samples column 0) (row.each column within)
    ∙ sym (drawn_sample_is system slicing word column (get_or (drawn_row_of system slicing word) column 0)
    (drawn.each column within)))
