-- Smoothed levels, level by level.
use Rattle.vbi_words.proofs.Common.{◌≡◌, ℕ, suc, zero, ◌<◌, ◌+◌, ◌-◌, Bool, false, List, [], ◌∷◌, ◌⊎◌, inl, inr, refl}
use Rattle.vbi_words.proofs.Common.{ap, sym, ◌∙◌, subst, arith, zero-add, get_or, drop, drop-cons, ext_get_or, drop_all}
use Rattle.vbi_words.proofs.Common.{length-map-range_with_len, get_or-map-range_with_len, cases_lt, level_at}
use Rattle.vbi_words.proofs.Common.{level_of_four, length}
use Rattle.vbi_words.specs.Smooth.{FourEqual, SmoothAt, IsSmooth, latest, smooth_of}

-- each level with the three before it, and the level before
unfoldable pub window : Bool → Bool → Bool → Bool → List Bool → List Bool
window out a b c [] = []
window out a b c (x ∷ rest) = level_of_four a b c x out ∷ window (level_of_four a b c x out) b c x rest

pub length-window : (out a b c : Bool) (s : List Bool) → length (window out a b c s) ≡ length s
unfolding window
length-window out a b c [] = refl
length-window out a b c (x ∷ s) = ap suc (length-window (level_of_four a b c x out) b c x s)

-- ---- the latest four equal levels, column by column

-- three lows before the levels
abbrev pub padded : List Bool → List Bool
padded s = false ∷ false ∷ false ∷ s

-- the level that the padded columns from n on give
abbrev level_from_padded : List Bool → ℕ → Bool → Bool
level_from_padded s n =
    level_of_four (level_at (padded s) n) (level_at (padded s) (suc n)) (level_at (padded s) (suc (suc n)))
    (level_at s n)

-- the level of the latest four equal levels at one more column
pub latest_next : (s : List Bool) (n : ℕ) → latest s (suc n - 3) ≡ level_from_padded s n (latest s (n - 3))
unfolding latest
latest_next s n = grind arith

-- the window after n columns
abbrev pub from_column : List Bool → ℕ → List Bool → List Bool
from_column s n =
    window (latest s (n - 3)) (level_at (padded s) n) (level_at (padded s) (suc n)) (level_at (padded s) (suc (suc n)))

from_next : (s : List Bool) (n : ℕ) (rest : List Bool)
    → from_column s n (level_at s n ∷ rest) ≡ latest s (suc n - 3) ∷ from_column s (suc n) rest
unfolding window
from_next s n rest = grind (arith, latest_next)

-- the window's levels from column n on
abbrev Windowed : List Bool → ℕ → List Bool → ℕ → Type 0
Windowed s n rest i = get_or (from_column s n rest) i false ≡ latest s (n + i - 2)

column_level : (s rest : List Bool) (n i : ℕ) → drop n s ≡ rest → i < length rest → Windowed s n rest i
column_level s [] n i e l = absurd (omega arith)
column_level s (x ∷ rest) n i e l = elim (cases_lt n (length s)) [
  | inl inside ↦
      let both : level_at s n ∷ drop (suc n) s ≡ x ∷ rest = sym (drop-cons s n false inside) ∙ e in
      let head : x ≡ level_at s n = cc in
      let tail : drop (suc n) s ≡ rest = cc in
      let moved : from_column s n (x ∷ rest) ≡ latest s (suc n - 3) ∷ from_column s (suc n) rest
      = ap (λ (y : Bool). from_column s n (y ∷ rest)) head ∙ from_next s n rest in
      ap (λ (t : List Bool). get_or t i false) moved ∙ go (λ k m. column_level s rest (suc n) k tail m) i l
  | inr past ↦ let none : [] ≡ x ∷ rest = sym (drop_all n s past) ∙ e in absurd cc
]
  where
    go : ((k : ℕ) → k < length rest → Windowed s (suc n) rest k) → (i : ℕ) → i < length (x ∷ rest)
        → get_or (latest s (suc n - 3) ∷ from_column s (suc n) rest) i false ≡ latest s (n + i - 2)
    go ih i l = grind arith

-- ---- the smoothed levels, by columns and by windows

pub length-smooth_of : (s : List Bool) → length (smooth_of s) ≡ length s
unfolding smooth_of
length-smooth_of s = length-map-range_with_len (λ c. latest s (c - 2)) 0 (length s)

pub smooth_level : (s : List Bool) (c : ℕ) → c < length s → level_at (smooth_of s) c ≡ latest s (c - 2)
unfolding smooth_of
smooth_level s c l = get_or-map-range_with_len (λ k. latest s (k - 2)) 0 (length s) c c false l (zero-add c)

pub smooth_window : (s : List Bool) → smooth_of s ≡ window false false false false s
unfolding latest
smooth_window s = ext_get_or false (smooth_of s) (window false false false false s)
    (length-smooth_of s ∙ sym (length-window false false false false s))
    (λ i l. let inside : i < length s = omega (arith, length-smooth_of s) in
    smooth_level s i inside ∙ ap (λ (k : ℕ). latest s (k - 2)) (sym (zero-add i))
    ∙ sym (column_level s s 0 i refl inside))

-- ---- the definition: one list is the smoothed one

-- no four equal columns begin at d
abbrev NoneAt : List Bool → ℕ → Type 0
NoneAt s d = (u : Bool) → FourEqual s d u → ⊥

-- four equal columns begin at d, or the earlier level stays
abbrev FourOrStay : List Bool → ℕ → Type 0
FourOrStay s d = ((v : Bool) × FourEqual s d v) ⊎ ((latest s (suc d) ≡ latest s d) × NoneAt s d)

pub four_next : (s : List Bool) (d : ℕ) → (v : Bool) → FourEqual s d v → latest s (suc d) ≡ v
unfolding latest
four_next s d v four = grind arith

four_or_stay : (s : List Bool) (d : ℕ) → FourOrStay s d
unfolding latest
four_or_stay s d = grind arith

-- v is the level of the latest four equal columns that begin before n
abbrev pub LatestBefore : List Bool → ℕ → Bool → Type 0
LatestBefore s n v =
    ((d : ℕ) × (d < n) × FourEqual s d v × ((e : ℕ) (u : Bool) → d < e → e < n → FourEqual s e u → ⊥))
    ⊎ ((v ≡ false) × ((e : ℕ) (u : Bool) → e < n → FourEqual s e u → ⊥))

latest_is : (s : List Bool) (n : ℕ) → LatestBefore s n (latest s n)
unfolding latest
latest_is s zero = inr (refl, λ e u l f. omega arith)
latest_is s (suc n) = go (latest_is s n) (four_or_stay s n)
  where
    -- where none begins before n, and none at n
    last : (e : ℕ) (u : Bool) → (e < n → FourEqual s e u → ⊥) → NoneAt s n → e < suc n → FourEqual s e u → ⊥
    last e u none not_here l f = grind arith

    go : LatestBefore s n (latest s n) → FourOrStay s n → LatestBefore s (suc n) (latest s (suc n))
    go ih (inl (v, four)) = subst (LatestBefore s (suc n)) (sym (four_next s n v four))
        (inl (n, omega arith, four, λ e u l m f. omega arith))
    go (inl (d, l, four, none)) (inr (stay, not_here)) = subst (LatestBefore s (suc n)) (sym stay)
        (inl (d, omega arith, four, λ e u after l f. last e u (none e u after) not_here l f))
    go (inr (low, none)) (inr (stay, not_here)) = subst (LatestBefore s (suc n)) (sym stay)
        (inr (low, λ e u l f. last e u (none e u) not_here l f))

at_from_before : (s : List Bool) (c : ℕ) (v : Bool) → LatestBefore s (c - 2) v → SmoothAt s c v
at_from_before s c v h = grind arith

-- one level alone is the smoothed one at a column
only_at : (s : List Bool) (c : ℕ) (v w : Bool) → SmoothAt s c v → SmoothAt s c w → v ≡ w
only_at s c v w h k = grind arith

pub is_smooth : (s : List Bool) → IsSmooth s (smooth_of s)
is_smooth s = grind (arith, length-smooth_of, at_from_before, smooth_level, latest_is)

pub only_smooth : (s t : List Bool) → IsSmooth s t → t ≡ smooth_of s
only_smooth s t (same, each) = ext_get_or false t (smooth_of s) (same ∙ sym (length-smooth_of s))
    (λ c l. let inside : c < length s = omega (arith, same) in
    only_at s c (level_at t c) (level_at (smooth_of s) c) (each c inside) ((is_smooth s).1 c inside))
