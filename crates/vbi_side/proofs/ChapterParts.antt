-- A chapter is believed of a field by a part of its capture just if it is by the whole.
use Rattle.std.proofs.Common.{◌≡◌, ℕ, ◌+◌, ◌*◌, ◌≤◌, Bool, List, refl, arith, ap₂, sym}
use Rattle.std.specs.Prelude.{slice_get, ◌⊎◌, ◌↔◌, nat_le, nat_lt, ◌&&◌, ◌||◌}
use Rattle.std.proofs.lemmas.Bool.{leb-true, le-leb}
use Rattle.vbi_side.specs.Types.{Sightings}
use Rattle.vbi_side.specs.Beliefs.{reach}
use Rattle.vbi_side.specs.Chapters.{says, opposes, said_weight, opposed_weight, BelievedChapter}
use Rattle.vbi_side.specs.Truth.{IsNear}
use Rattle.vbi_side.proofs.ChapterTruth.{alike}
use Rattle.vbi_side.proofs.Parts.{same_truth, weight_below-later}

-- what opposes a chapter, so many fields later
le_later : (first j i : ℕ) → nat_le j i ≡ nat_le (first + j) (first + i)
le_later first j i = grind (arith, le-leb, leb-true, same_truth)

opposes_later : (first i n j k : ℕ) → opposes i n j k ≡ opposes (first + i) n (first + j) k
opposes_later first i n j k =
    ap₂ (λ (a b : Bool). (a && nat_lt n k) || (b && nat_lt k n)) (le_later first j i) (le_later first i j)

-- a part that has the fields within reach of field i, or begins with the capture
pub chapter_in_part : (part whole : List Sightings) (first i n : ℕ) → (first ≡ 0) ⊎ (reach ≤ i)
    → ((j : ℕ) → IsNear i j → slice_get part j ≡ slice_get whole (first + j))
    → BelievedChapter part i n ↔ BelievedChapter whole (first + i) n
chapter_in_part part whole first i n before agree = (
  alike part whole i (first + i) n here said opposed,
  alike whole part (first + i) i n (sym here) (λ m. sym (said m)) (sym opposed),
)
  where
    here : slice_get part i ≡ slice_get whole (first + i)
    here = agree i (omega arith, omega arith)

    said : (m : ℕ) → said_weight part i m ≡ said_weight whole (first + i) m
    said m =
        weight_below-later (says i m) (says (first + i) m) part whole first i (2 * reach + 1) (omega arith) before
        agree (λ j k. refl)

    opposed : opposed_weight part i n ≡ opposed_weight whole (first + i) n
    opposed =
        weight_below-later (opposes i n) (opposes (first + i) n) part whole first i (2 * reach + 1) (omega arith)
        before agree (opposes_later first i n)
