-- The rows on which half of a word is black: their half cells, and how far lines are from them.
-- half_distance and nears_of stand on it.
use Rattle.std.proofs.Common.{◌≡◌, ℕ, ◌≤◌, ◌<◌, ◌+◌, ◌-◌, List, Bool, true, false, length, take, drop, min, refl, arith}
use Rattle.std.proofs.Common.{ap, sym, ◌∙◌, Option, get_or}
use Rattle.std.proofs.Math.ListN.{replicate}
use Rattle.std.proofs.lemmas.List.{get_or_append_left, get_or-append_right, get_or-replicate, get_or-drop, get_or-take}
use Rattle.std.proofs.lemmas.List.{length-replicate, take_all}
use Rattle.std.specs.Prelude.{Some, None, not, ◌&&◌}
use Rattle.vbi_near.proofs.Common.{System, width_of, Slicing, lowest_bits, halves_of, Near, IsPlace, word_length}
use Rattle.vbi_near.proofs.Common.{drawn_as, AreBoth, halves_cost, Samples, most_of, distance_of, Shades, IsPile}
use Rattle.vbi_near.proofs.Common.{row_of_halves, half_of, halved_far, row_cost, halved_cost}
use Rattle.vbi_near.proofs.{Costs.row-cost, Piles.levels-same, CutShort.row-wide}

-- ---- half cells

pub half-long : (late : Bool) (w : ℕ) → length (half_of late w) ≡ 48
unfolding lowest_bits
half-long late w = grind arith

pub late-low : (w h : ℕ) → h < 24 → get_or (half_of true w) h false ≡ false
late-low w h l = grind (arith, get_or_append_left, replicate, length-replicate, get_or-replicate)

pub late-shown : (w h : ℕ) → 24 ≤ h → get_or (half_of true w) h false ≡ get_or (halves_of w) h false
late-shown w h l =
    let e : 24 + (h - 24) ≡ h = omega arith in
    get_or-append_right (replicate 24 false) (drop 24 (halves_of w)) 24 h false (length-replicate 24 false) l
    ∙ get_or-drop 24 (halves_of w) (h - 24) false ∙ ap (λ (k : ℕ). get_or (halves_of w) k false) e

early-long : (w : ℕ) → length (take 24 (halves_of w)) ≡ 24
unfolding lowest_bits
early-long w = refl

pub early-shown : (w h : ℕ) → h < 24 → get_or (half_of false w) h false ≡ get_or (halves_of w) h false
early-shown w h l =
    get_or_append_left (take 24 (halves_of w)) (replicate 24 false) false h (omega (arith, l, early-long w))
    ∙ get_or-take 24 (halves_of w) h false l

pub early-low : (w h : ℕ) → 24 ≤ h → h < 48 → get_or (half_of false w) h false ≡ false
early-low w h l less =
    get_or-append_right (take 24 (halves_of w)) (replicate 24 false) 24 h false (early-long w) l
    ∙ get_or-replicate 24 (h - 24) false false (omega arith)

pub below_half : (late : Bool) (w h : ℕ) → h < 24
    → get_or (half_of late w) h false ≡ (not late && get_or (halves_of w) h false)
below_half late w h l = grind (arith, late-low, early-shown)

pub from_half : (late : Bool) (w h : ℕ) → 24 ≤ h → h < 48
    → get_or (half_of late w) h false ≡ (late && get_or (halves_of w) h false)
from_half true w h l less = late-shown w h l
from_half false w h l less = early-low w h l less

-- ---- what they cost

pub all-costs : (cost : ℕ → Bool → ℕ) (late : Bool) (w n : ℕ) → n ≡ 48
    → halves_cost cost 0 (take n (half_of late w)) ≡ halves_cost cost 0 (half_of late w)
all-costs cost late w n e = ap (halves_cost cost 0) (take_all n (half_of late w) (omega (arith, e, half-long late w)))

-- ---- rows

module _ (system : System) (slicing : Slicing) (lines : List Samples) (costs sums : Shades)
    (pile : IsPile system slicing lines costs) (both : AreBoth costs sums (width_of system)) where
  half-same : (late : Bool) (w start : ℕ) → start + word_length system ≤ width_of system
      → row_cost sums system start (half_of late w)
      ≡ distance_of (most_of slicing) lines (drawn_as slicing (row_of_halves system start (half_of late w)))
  half-same late w start room =
      sym (row-cost costs sums system both start room (half_of late w) (half-long late w))
      ∙ levels-same system slicing lines costs pile (row_of_halves system start (half_of late w))
      (row-wide system start (half_of late w) (row_of_halves system start (half_of late w)) room (half-long late w)
      refl)

  pub halved-by : (near : Near) (word : Option ℕ) → IsPlace system word near.start
      → halved_cost sums system word near
      ≡ halved_far system (λ levels. distance_of (most_of slicing) lines (drawn_as slicing levels)) word near
  halved-by near None place = refl
  halved-by near (Some w) (word, room) =
      λ j. min (half-same true w near.start room j) (half-same false w near.start room j)
