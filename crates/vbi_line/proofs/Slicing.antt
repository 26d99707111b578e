-- Slicing samples into levels.
use Rattle.vbi_line.proofs.Common.{◌≡◌, ℕ, zero, suc, ◌+◌, ◌-◌, ◌*◌, ◌%◌, ◌^◌, ◌<◌, Bool, true, false, cond, nat_eq}
use Rattle.vbi_line.proofs.Common.{nat_lt, [], ◌∷◌, ◌++◌, inl, inr, map, length, get_or, refl, sym, ap, ◌∙◌, arith}
use Rattle.vbi_line.proofs.Common.{cases_lt, get_or-map, length-map-range_with_len, get_or-map-range_with_len, Slicing}
use Rattle.vbi_line.proofs.Common.{is_high_of, level_at, sample_at, KeepsBytes, level_of_bit, levels_in}
use Rattle.std.proofs.Common.{ltb, List, lit≤}
use Rattle.std.specs.Prelude.{replicate}
use Rattle.std.proofs.lemmas.List.{length-map, length-append, ext_get_or, get_or_append_left, get_or-append-add}
use Rattle.std.proofs.lemmas.Simd.{tops_compared, zip2_splat_left, mask_l-mod, mask_l-lt, bit_mask_l}
use lib.Lanes.{zip2, mask_l, top}
use mir.Val.{bits, hbits}
use mir.Syntax.{w16}
use Rattle.vbi_words.specs.Levels.{samples_of, row_levels}
use Rattle.vbi_line.specs.Line.{Line, LooksAtBlock}

-- ---- sixteen samples

bit_of_level : (b : Bool) → nat_eq (cond b 1 0) 1 ≡ b
bit_of_level true = refl
bit_of_level false = refl

-- a mask has the bits of its list
pub levels_of_mask : (levels : List Bool) (count : ℕ) → length levels ≡ count → levels_in count (mask_l levels) ≡ levels
levels_of_mask levels count long = ext_get_or false (levels_in count mask) levels (whole ∙ sym long) each
  where
    mask : ℕ
    mask = mask_l levels

    whole : length (levels_in count mask) ≡ count
    whole = length-map-range_with_len (level_of_bit mask) 0 count

    each : (i : ℕ) → i < length (levels_in count mask) → get_or (levels_in count mask) i false ≡ get_or levels i false
    each i l = grind (arith, whole, get_or-map-range_with_len, mask, bit_mask_l, bit_of_level)

-- which samples are above this one
abbrev pub above : ℕ → List ℕ → List Bool
above low samples = map (λ sample. nat_lt low sample) samples

-- the mask that the comparison of sixteen lanes makes
abbrev pub lanes_mask : ℕ → List ℕ → ℕ
lanes_mask low samples =
    mask_l (map (top (hbits w16)) (zip2 (λ a b. cond (ltb a b) (2 ^ bits w16 - 1) 0) (replicate 16 low) samples))
    % 2 ^ 64

pub mask_above : (samples : List ℕ) (low : ℕ) → length samples ≡ 16
    → lanes_mask low samples ≡ mask_l (above low samples)
mask_above samples low long =
    let tops = tops_compared w16 ltb (replicate 16 low) samples ∙ zip2_splat_left ltb low 16 samples long in
    ap (λ (ms : List Bool). mask_l ms % 2 ^ 64) tops
    ∙ mask_l-mod (above low samples) 64 (rw (length-map, long) (lit≤ tt))

pub levels_above : (samples : List ℕ) (low : ℕ) → length samples ≡ 16
    → levels_in 16 (lanes_mask low samples) ≡ above low samples
levels_above samples low long =
    ap (levels_in 16) (mask_above samples low long) ∙ levels_of_mask (above low samples) 16 (rw (length-map, long) refl)

pub above-lt : (samples : List ℕ) (low : ℕ) → length samples ≡ 16 → lanes_mask low samples < 2 ^ 16
above-lt samples low long = grind (arith, length-map, mask_above, mask_l-lt)

-- ---- the samples of a row

pub length-samples_of : (bytes : List ℕ) (n : ℕ) → length bytes ≡ 2 * n → length (samples_of bytes) ≡ n
length-samples_of [] n e = omega arith
length-samples_of (low ∷ []) n e = absurd (omega arith)
length-samples_of (low ∷ high ∷ bytes) zero e = absurd (omega arith)
length-samples_of (low ∷ high ∷ bytes) (suc n) e = ap suc (length-samples_of bytes n (omega arith))

pub sample_of : (bytes : List ℕ) (k : ℕ) → 2 * k + 1 < length bytes → get_or (samples_of bytes) k 0 ≡ sample_at bytes k
sample_of [] k l = absurd (omega arith)
sample_of (low ∷ []) k l = absurd (omega arith)
sample_of (low ∷ high ∷ bytes) zero l = refl
sample_of (low ∷ high ∷ bytes) (suc k) l =
    let even : 2 * suc k ≡ suc (suc (2 * k)) = omega arith in
    let odd : 2 * suc k + 1 ≡ suc (suc (2 * k + 1)) = omega arith in
    sample_of bytes k (omega arith)
    ∙ ap (λ (i : ℕ). get_or (low ∷ high ∷ bytes) i 0 + 256 * get_or bytes (2 * k + 1) 0) (sym even)
    ∙ ap (λ (i : ℕ). get_or (low ∷ high ∷ bytes) (2 * suc k) 0 + 256 * get_or (low ∷ high ∷ bytes) i 0) (sym odd)

-- these are the levels of the row's first samples
abbrev pub Sliced : Slicing → List ℕ → List Bool → Type 0
Sliced slicing held levels = (k : ℕ) → k < length levels → level_at levels k ≡ is_high_of slicing (sample_at held k)

pub sliced_more : (slicing : Slicing) (held : List ℕ) (levels more : List Bool) → Sliced slicing held levels
    → ((k : ℕ) → k < length more → level_at more k ≡ is_high_of slicing (sample_at held (length levels + k)))
    → Sliced slicing held (levels ++ more)
sliced_more slicing held levels more sliced new k l = elim (cases_lt k (length levels)) [
  | inl before ↦ get_or_append_left levels more false k before ∙ sliced k before
  | inr behind ↦
      let j : ℕ = k - length levels in
      let place : k ≡ length levels + j = omega arith in
      ap (level_at (levels ++ more)) place ∙ get_or-append-add levels more j false
      ∙ new j (omega (arith, length-append levels more))
      ∙ ap (λ (i : ℕ). is_high_of slicing (sample_at held i)) (sym place)
]

pub sliced_all : (slicing : Slicing) (held : List ℕ) (levels : List Bool) (width : ℕ) → length held ≡ 2 * width
    → length levels ≡ width → Sliced slicing held levels → levels ≡ row_levels slicing held
sliced_all slicing held levels width full long sliced =
    let samples : List ℕ = samples_of held in
    let count : length samples ≡ width = length-samples_of held width full in
    ext_get_or false levels (row_levels slicing held) (long ∙ sym (length-map samples (is_high_of slicing) ∙ count))
    (λ k l. sliced k l ∙ ap (is_high_of slicing) (sym (sample_of held k (omega arith)))
    ∙ sym (get_or-map (is_high_of slicing) samples k 0 false (omega (arith, count))))

-- ---- a block

-- the same bytes before and after two steps
pub keeps_on : (first middle last : Line) → KeepsBytes first middle → KeepsBytes middle last → KeepsBytes first last
keeps_on first middle last k l = record { system = l.system ∙ k.system; held = l.held ∙ k.held; room = l.room ∙ k.room }

-- a pass that gave as many samples as there are levels gives a block, and the levels of the block are added
module _ (slicing : Slicing) (levels : List Bool) (low : ℕ) {first old new : Line} {before block : List ℕ}
    {more : List Bool} (bytes : KeepsBytes first old) (gives : LooksAtBlock old (length levels) before block new)
    (are : more ≡ above low block) where
  pub length-block : length more ≡ 16
  length-block = ap length are ∙ length-map block (λ sample. nat_lt low sample) ∙ gives.long

  pub block_sliced : Sliced slicing first.held levels
      → ((sample : ℕ) → is_high_of slicing sample ≡ nat_lt low sample) → Sliced slicing first.held (levels ++ more)
  block_sliced sliced test = grind (arith, sliced_more, length-block, get_or-map)
