-- Where a swap is found, and where none is.
use Rattle.std.proofs.Common.{◌≡◌, ℕ, true, false, List, arith, ◌<◌, ◌≤◌, inl}
use Rattle.std.proofs.Common.{inr, subst}
use Rattle.std.specs.Prelude.{Option, Some, None, IfSome, slice_get}
use Rattle.std.proofs.lemmas.Bool.Decides.{eqb_tells}
use Rattle.vbi_whole.specs.Types.{Number, Place, Video, Sightings, Clock}
use Rattle.vbi_side.specs.Clocks.{nearly_by}
use Rattle.vbi_side.specs.Numbers.{IsMarked}
use Rattle.vbi_side.specs.Paces.{spot}
use Rattle.vbi_whole.specs.Gaps.{IsLast, Judged}
use Rattle.vbi_whole.specs.Swaps.{is_stray, IsSwap, IsFirstStray, IsSearch}
use Rattle.vbi_whole.specs.declared.swaps.SwapSearch.{SwapSearch}
use Rattle.vbi_side.proofs.Truth.{video_fits, near_same}
use Rattle.vbi_whole.proofs.Telling.{neighbours_of}
use Rattle.vbi_whole.proofs.GapLaws.{same_before, same_number, on_video}

-- what the search knows, where this is the last number
pub search_at : (judged : Judged) (k : ℕ) (search : SwapSearch) (place : Place) → IsSearch judged k search
    → search.last ≡ Some place → IsSearch judged k (record { last = Some place; stray = search.stray })
search_at judged k search place is at =
    subst (λ last. IsSearch judged k (record { last = last; stray = search.stray })) at is

-- where a number and the one before it don't go on, no swap lies between
pub none_between : (clock : Clock) (seen : List Sightings) (answers : List Number) (k n : ℕ) (place : Place)
    → IsLast answers k (Some place) → IsMarked answers k n
    → nearly_by clock Video 0 place (spot k n) ≡ false
    → (f : ℕ) (swap : IsSwap clock seen answers f) → swap.j ≡ k → ⊥
none_between clock seen answers k n place last at apart f swap same =
    grind (arith, near_same, neighbours_of, same_before, same_number, video_fits)

-- where they go on, the field that stands off between them was swapped
pub swap_found : (clock : Clock) (seen : List Sightings) (answers : List Number) (k n : ℕ) (place : Place)
    (stray : Option ℕ)
    → IsLast answers k (Some place) → IsMarked answers k n → nearly_by clock Video 0 place (spot k n) ≡ true
    → IsFirstStray clock seen answers k (record { last = Some place; stray = stray })
    → IfSome stray (λ f. IsSwap clock seen answers f)
swap_found clock seen answers k n place stray h1 h2 h3 h4 = grind (arith, neighbours_of, on_video)

-- a swap that ends at the next number shows what stands off from the last one
stray_of : (clock : Clock) (seen : List Sightings) (answers : List Number) (k n : ℕ) (place : Place)
    → IsLast answers k (Some place) → IsMarked answers k n
    → (f : ℕ) (swap : IsSwap clock seen answers f) → swap.j ≡ k
    → (place.field < f) × (f < k) × (is_stray clock answers place f (slice_get seen f) ≡ true)
stray_of clock seen answers k n place last at f swap same = grind (arith, neighbours_of, same_before, same_number)

-- where none stands off, none was swapped
pub none_found : (clock : Clock) (seen : List Sightings) (answers : List Number) (k n : ℕ) (place : Place)
    (stray : Option ℕ)
    → IsLast answers k (Some place) → IsMarked answers k n → IsFirstStray clock seen answers k
    (record { last = Some place; stray = stray })
    → stray ≡ None
    → (f : ℕ) (swap : IsSwap clock seen answers f) → swap.j ≡ k → ⊥
none_found clock seen answers k n place stray h1 h2 h3 h4 f swap h5 = grind (arith, stray_of)

-- before the first one that stands off none was swapped, but for those before an earlier number
pub first_found : (clock : Clock) (seen : List Sightings) (answers : List Number) (k n : ℕ) (place : Place)
    (stray : Option ℕ)
    → IsLast answers k (Some place) → IsMarked answers k n → IsFirstStray clock seen answers k
    (record { last = Some place; stray = stray })
    → IfSome stray (λ g. (f : ℕ) → f < g → (swap : IsSwap clock seen answers f) → k ≤ swap.j → ⊥)
first_found clock seen answers k n place None last at strays = tt
first_found clock seen answers k n place (Some g) last at strays = λ f less swap far. elim (eqb_tells swap.j k) [
  | inl (t, same) ↦ let (after, before, stray) = stray_of clock seen answers k n place last at f swap same in
      strays.3 f after less stray
  | inr (t, other) ↦ swap.neighbours.between k n (omega (arith, swap.after, less, strays.1))
      (omega (arith, far, other)) at
]
