-- What is told is written one after the other.
use Rattle.std.proofs.Common.{◌≡◌, ℕ, ◌+◌, ◌<◌, ◌≤◌, Bool, true, false, List, [], ◌∷◌, ◌++◌, length, refl, arith, ap}
use Rattle.std.proofs.Common.{sym, ◌∙◌}
use Rattle.std.proofs.Common.{take, drop, slice_set, slice_index_or, append_assoc}
use Rattle.std.proofs.lemmas.List.{drop_more, take_more_set, length-take-le, length-append}
use Rattle.vbi_story.specs.declared.reading.NumberReading.{NumberReading}
use Rattle.vbi_story.specs.Story.{reading_at, nothing, picked}

module _ (readings : List NumberReading) (marks : List Bool) (i : ℕ) (inside : i < length readings)
    (marked : i < length marks) where
  pub picked_is : slice_index_or marks i false ≡ true
      → picked (drop i readings) (drop i marks)
      ≡ reading_at readings i ∷ picked (drop (i + 1) readings) (drop (i + 1) marks)
  picked_is is = rw (drop_more readings i nothing inside, drop_more marks i false marked, is) refl

  pub picked_not : slice_index_or marks i false ≡ false
      → picked (drop i readings) (drop i marks) ≡ picked (drop (i + 1) readings) (drop (i + 1) marks)
  picked_not is = rw (drop_more readings i nothing inside, drop_more marks i false marked, is) refl

  module _ (told : List NumberReading) (count : ℕ) (le : count ≤ length told)
      (whole : take count told ++ picked (drop i readings) (drop i marks) ≡ picked readings marks)
      (is : slice_index_or marks i false ≡ true) where
    -- there is room for one more
    pub room_for : length (picked readings marks) ≤ length told → count < length told
    room_for room = omega (
      arith,
      ap length whole,
      length-append (take count told) (picked (drop i readings) (drop i marks)),
      length-take-le count told le,
      ap length (picked_is is),
    )

    -- and it is written there
    pub whole_more : count < length told
        → take (count + 1) (slice_set told count (reading_at readings i))
        ++ picked (drop (i + 1) readings) (drop (i + 1) marks) ≡ picked readings marks
    whole_more less =
        let rest = picked (drop (i + 1) readings) (drop (i + 1) marks) in
        ap (λ (xs : List NumberReading). xs ++ rest) (take_more_set told count (reading_at readings i) less)
        ∙ append_assoc (take count told) (reading_at readings i ∷ []) rest
        ∙ ap (λ (xs : List NumberReading). take count told ++ xs) (sym (picked_is is))
        ∙ whole
