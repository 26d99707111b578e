-- The bytes of a drawn row, and what it is read as.
use Rattle.vbi_words.proofs.Common.{◌≡◌, ℕ, ◌+◌, ◌*◌, ◌/◌, ◌%◌, ◌<◌, List, [], ◌∷◌, ◌++◌, take, refl, sym, ap, subst}
use Rattle.vbi_words.proofs.Common.{◌∙◌, arith, append_assoc, inl, zero-add, flat_map, range_with_len, append-nil}
use Rattle.vbi_words.proofs.Common.{take_all, length-map-range_with_len, System, width_of, line_bytes, Slicing}
use Rattle.vbi_words.proofs.Common.{levels_of, IsReading, length, Option, Some, None}
use Rattle.std.proofs.Common.{set, map}
use Rattle.std.proofs.lemmas.List.{take_more_set, length-set}
use Rattle.std.proofs.lemmas.List.Concat.{flat_map-append}
use Rattle.std.proofs.lemmas.List.FromFn.{map-range_with_len_more}
use Rattle.vbi_words.specs.Levels.{samples_of, row_levels}
use Rattle.vbi_words.specs.Words.{IsWordOrNone}
use Rattle.vbi_words.specs.Drawn.{drawn_sample_of, drawn_row_of, sample_bytes, drawn_line_of, drawn_reading}
use Rattle.vbi_words.proofs.Sizes.{line_bytes-twice}
use Rattle.vbi_words.proofs.DrawnShows.{row_shows, row_low}
use Rattle.vbi_words.proofs.Lows.{blank_reads}
use Rattle.vbi_words.proofs.Outcomes.{blank_outcome}
use Rattle.vbi_words.proofs.Shown.{low_lead}

-- ---- samples as bytes

length-sample_bytes : (samples : List ℕ) → length (flat_map sample_bytes samples) ≡ 2 * length samples
length-sample_bytes [] = refl
length-sample_bytes (s ∷ samples) = omega (arith, length-sample_bytes samples)

samples_back : (samples : List ℕ) → samples_of (flat_map sample_bytes samples) ≡ samples
samples_back [] = refl
samples_back (s ∷ samples) =
    let whole : s % 256 + 256 * (s / 256) ≡ s = omega arith in
    ap (λ (v : ℕ). v ∷ samples_of (flat_map sample_bytes samples)) whole
    ∙ ap (λ (l : List ℕ). s ∷ l) (samples_back samples)

pub length-drawn_line_of : (system : System) (slicing : Slicing) (word : Option ℕ)
    → length (drawn_line_of system slicing word) ≡ line_bytes system
unfolding drawn_line_of drawn_row_of
length-drawn_line_of system slicing word =
    grind (arith, length-sample_bytes, length-map-range_with_len, line_bytes-twice)

pub samples_of-drawn_line_of : (system : System) (slicing : Slicing) (word : Option ℕ)
    → samples_of (drawn_line_of system slicing word) ≡ drawn_row_of system slicing word
unfolding drawn_line_of
samples_of-drawn_line_of system slicing word = samples_back (drawn_row_of system slicing word)

-- ---- column by column

-- the bytes of the first columns
abbrev pub first_columns : System → Slicing → Option ℕ → ℕ → List ℕ
first_columns system slicing word n =
    flat_map sample_bytes (map (drawn_sample_of system slicing word) (range_with_len 0 n))

-- one column more
pub one_column : (system : System) (slicing : Slicing) (word : Option ℕ) (line : List ℕ) (column s : ℕ)
    → 2 * column + 1 < length line → s ≡ drawn_sample_of system slicing word column
    → take (2 * column) line ≡ first_columns system slicing word column
    → take (2 * (column + 1)) (set (set line (2 * column) (s % 256)) (2 * column + 1) (s / 256))
    ≡ first_columns system slicing word (column + 1)
one_column system slicing word line column s inside is before =
    let f : ℕ → ℕ = drawn_sample_of system slicing word in
    let once = set line (2 * column) (s % 256) in
    let same = length-set line (2 * column) (s % 256) in
    let e : 2 * (column + 1) ≡ 2 * column + 1 + 1 = omega arith in
    ap (λ (k : ℕ). take k (set once (2 * column + 1) (s / 256))) e
    ∙ take_more_set once (2 * column + 1) (s / 256) (omega arith)
    ∙ ap (λ (l : List ℕ). l ++ s / 256 ∷ []) (take_more_set line (2 * column) (s % 256) (omega arith)
    ∙ ap (λ (l : List ℕ). l ++ s % 256 ∷ []) before)
    ∙ append_assoc (first_columns system slicing word column) (s % 256 ∷ []) (s / 256 ∷ [])
    ∙ ap (λ (v : ℕ). first_columns system slicing word column ++ sample_bytes v) is
    ∙ ap (λ (l : List ℕ). first_columns system slicing word column ++ l) (sym (append-nil (sample_bytes (f column))))
    ∙ sym (flat_map-append sample_bytes (map f (range_with_len 0 column)) (f column ∷ []))
    ∙ ap (flat_map sample_bytes) (sym (map-range_with_len_more f 0 column column (zero-add column)))

pub all_columns : (system : System) (slicing : Slicing) (word : Option ℕ) (line : List ℕ)
    → length line ≡ line_bytes system
    → take (2 * width_of system) line ≡ first_columns system slicing word (width_of system)
    → line ≡ drawn_line_of system slicing word
unfolding drawn_line_of drawn_row_of
all_columns system slicing word line long all = grind (arith, take_all, line_bytes-twice)

-- ---- readings

-- a drawn row is read as its word
pub drawn_reads : (system : System) (slicing : Slicing) (word : Option ℕ) → slicing.black < slicing.white
    → IsWordOrNone word
    → IsReading system (row_levels slicing (drawn_line_of system slicing word)) (drawn_reading word)
drawn_reads system slicing word order is =
    let P : List ℕ → Type 0 = λ samples. IsReading system (levels_of slicing samples) (drawn_reading word) in
    subst P (sym (samples_of-drawn_line_of system slicing word)) (row_reads word is)
  where
    row_reads : (word : Option ℕ) → IsWordOrNone word
        → IsReading system (levels_of slicing (drawn_row_of system slicing word)) (drawn_reading word)
    row_reads None is =
        let levels = levels_of slicing (drawn_row_of system slicing None) in
        blank_reads system levels
        (blank_outcome system levels (low_lead system levels (row_low system slicing order)))
    row_reads (Some word) is = inl (refl, row_shows system slicing word order is)
