-- What is judged, by the words that were read.
use Rattle.std.proofs.Common.{◌≡◌, ℕ, List, map, arith, subst, sym, ◌∙◌}
use Rattle.std.specs.Prelude.{Option, Some, slice_get}
use Rattle.std.proofs.lemmas.Simd.{map-map}
use Rattle.vbi_c.specs.Types.{Number, Sightings, LdvbiFieldReadings, Judging, Pace}
use Rattle.vbi_side.specs.Numbers.{believed}
use Rattle.vbi_side.specs.Truth.{IsSound}
use Rattle.vbi_side.specs.Misread.{Words, numbers_in, IsRead}
use Rattle.vbi_side.proofs.MisreadWords.{wrong_misread}
use Rattle.vbi_c.specs.Judging.{seen_in, lines_in, capture_of}

-- where a believed number is right by what was misread of numbers, it is by what was misread of words
pub read_sound : (judging : Judging) (readings : List LdvbiFieldReadings) (seen : List Sightings)
    (numbers : List Number)
    (pace : Pace) → seen ≡ map (seen_in judging) readings
    → ((recorded : ℕ → Option ℕ) (i m n : ℕ) → slice_get numbers i ≡ Some (believed n)
    → IsSound pace recorded seen i m → n ≡ m)
    → (disc : ℕ → Words) (recorded : ℕ → Option ℕ) (i m n : ℕ) → slice_get numbers i ≡ Some (believed n)
    → IsRead pace (capture_of judging readings disc recorded) i m → n ≡ m
read_sound judging readings seen numbers pace sees sound disc recorded i m n at read =
    let shown = map-map (numbers_in judging.system judging.counted) lines_in readings ∙ sym sees in
    sound recorded i m n at (subst (λ f. IsSound pace recorded f i m) shown (
      read.runs,
      read.has,
      omega (arith, read.few, wrong_misread (capture_of judging readings disc recorded) i read.told),
    ))
