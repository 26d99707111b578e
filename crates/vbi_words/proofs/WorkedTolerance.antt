-- Worked facts of the definitions of tolerance, computed on a few columns.
use Rattle.vbi_words.proofs.Common.{◌≡◌, ℕ, ◌≤◌, ◌<◌, ◌+◌, ◌*◌, Bool, true, false, List, [], ◌∷◌, ◌++◌, ◌⊎◌, inl, inr}
use Rattle.vbi_words.proofs.Common.{refl, ap, ◌∙◌, arith, lit<, replicate, cases_lt, flat_map, ShowsAmply, IsBlurred}
use Rattle.vbi_words.proofs.Common.{NoneAlone, IsJittered, HasGlitches, level_at, Ntsc, Spells, halves_of, length}
use Rattle.std.proofs.lemmas.List.{length-append, length-replicate}
use Rattle.vbi_words.specs.Words.{lowest_bits}
use Rattle.vbi_words.specs.WorkedLines.{low, high, little_row}
use Rattle.vbi_words.proofs.HalfCells.{all_low}

-- ---- a row and its changes of level

-- its first change a column early
pub early_jittered : IsJittered little_row (low 1 ++ (high 4 ++ low 2))
early_jittered = (grind arith, λ c. grind arith)

-- the two columns beside its first change turned over
abbrev spiked : List Bool
spiked = low 1 ++ (high 1 ++ (low 1 ++ (high 2 ++ low 2)))

pub spiked_blurred : IsBlurred little_row spiked
spiked_blurred = grind arith

-- column 1 stands alone
pub spiked_alone : NoneAlone spiked → ⊥
spiked_alone none = go (none 1)
  where
    go : (level_at spiked 1 ≡ level_at spiked 0) ⊎ (level_at spiked 1 ≡ level_at spiked 2) → ⊥
    go (inl e) = let bad : true ≡ false = e in cc
    go (inr e) = let bad : true ≡ false = e in cc

-- its first change two columns late: column 3 isn't beside a change, and is turned over
pub late_not_blurred : IsBlurred little_row (low 4 ++ (high 1 ++ low 2)) → ⊥
late_not_blurred b = let bad : false ≡ true = b.others 3 refl refl in cc

-- ---- a glitch

-- three columns are one, with four equal ones on either side
pub three_glitch : HasGlitches 1 (low 11) (low 4 ++ (high 3 ++ low 4))
three_glitch = grind arith

-- four are none
pub four_no_glitch : HasGlitches 1 (low 11) (low 4 ++ (high 4 ++ low 3)) → ⊥
four_no_glitch (before, e, x) = go (cases_lt 4 x.g) (cases_lt 7 (x.g + x.m))
  where
    low_before : (c : ℕ) → level_at before c ≡ false
    low_before c = ap (λ (t : List Bool). level_at t c) e ∙ all_low 11 c

    go : (4 < x.g) ⊎ (x.g ≤ 4) → (7 < x.g + x.m) ⊎ (x.g + x.m ≤ 7) → ⊥
    go (inl l) b = let bad : true ≡ false = x.others 4 (inl l) ∙ low_before 4 in cc
    go (inr l) (inr k) = let bad : true ≡ false = x.others 7 (inr k) ∙ low_before 7 in cc
    go (inr l) (inl k) = omega (arith, x.few)

-- ---- a list that shows a word amply is long

spelled_long : (lo hi : ℕ) (halves drawn : List Bool) → Spells lo hi halves drawn → length halves * lo ≤ length drawn
spelled_long lo hi [] drawn e = omega arith
spelled_long lo hi (h ∷ halves) drawn (n, rest, low, high, e, spelled) =
    let all : length drawn ≡ n + length rest = ap length e ∙ length-append (replicate n h) rest
    ∙ ap (λ (i : ℕ). i + length rest) (length-replicate n h) in
    omega (arith, all, spelled_long lo hi halves rest spelled)

-- 24 ones, each half cell of the fewest columns, and five lows
abbrev ones : List Bool
ones = flat_map (λ (cell : Bool). low 11 ++ high 11) (replicate 24 true) ++ low 5

-- they show their word, and not amply
pub ones_not_amply : ShowsAmply Ntsc ones 16777215 → ⊥
unfolding lowest_bits
ones_not_amply s =
    let long : 48 * 13 ≤ length s.cut.drawn = spelled_long 13 16 (halves_of 16777215) s.cut.drawn s.spelled in
    let before : List Bool = replicate s.cut.before false in
    let after : List Bool = replicate s.cut.after false in
    let whole : length ones ≡ length before + (length s.cut.drawn + length after)
    = ap length s.cut.whole ∙ length-append before (s.cut.drawn ++ after)
    ∙ ap (λ (i : ℕ). length before + i) (length-append s.cut.drawn after) in
    let count : length ones < 48 * 13 = lit< tt in
    omega (arith, long, whole, count)
