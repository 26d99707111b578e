-- What is known of the first fields from one on, and of one field more.
use Rattle.std.proofs.Common.{◌≡◌, ℕ, ◌+◌, ◌<◌, ◌≤◌, ◌∷◌, [], ◌++◌, List, length, map, take, slice_set, refl, ap}
use Rattle.std.proofs.Common.{add_assoc, arith, inl, inr, sym, zero-add, ◌∙◌}
use Rattle.std.proofs.lemmas.Bool.Decides.{leb_tells}
use Rattle.std.specs.Prelude.{Some, None, slice_get}
use Rattle.std.proofs.lemmas.List.{take_more_set}
use Rattle.std.proofs.lemmas.List.FromFn.{get_or-map-range_with_len, length-map-range_with_len, map-range_with_len_more}
use Rattle.std.proofs.lemmas.Option.{slice_get_past, slice_get-get_or}
use Rattle.std.specs.List.{range_with_len}
use Rattle.vbi_side.specs.declared.sighting.Sightings.{Sightings}
use Rattle.vbi_seek.specs.declared.search.Looked.{Looked}

-- what the first i fields show stands there, and what the next one shows is put after it
pub shown_more : (show : ℕ → Sightings) (seen : List Sightings) (field i : ℕ) (here : Sightings) → i < length seen
    → take i seen ≡ map show (range_with_len field i) → here ≡ show (field + i)
    → take (i + 1) (slice_set seen i here) ≡ map show (range_with_len field (i + 1))
shown_more show seen field i here inside made here_is =
    take_more_set seen i here inside
    ∙ ap (λ (l : List Sightings). l ++ here ∷ []) made
    ∙ ap (λ (s : Sightings). map show (range_with_len field i) ++ s ∷ []) here_is
    ∙ sym (map-range_with_len_more show field i (field + i) refl)

-- one field more is counted
pub counted_more : (old looked new : Looked) (i : ℕ) → looked ≡ record old { fields = old.fields + i }
    → new ≡ record looked { fields = looked.fields + 1 } → new ≡ record old { fields = old.fields + (i + 1) }
counted_more old looked new i before more =
    more
    ∙ ap (λ (l : Looked). record l { fields = l.fields + 1 }) before
    ∙ ap (λ (n : ℕ). record old { fields = n }) (add_assoc old.fields i 1)

-- an element of a list that is made of so many numbers, from one on
pub at : {A : Type 0} (f : ℕ → A) (first count i j : ℕ) → i < count → first + i ≡ j
    → slice_get (map f (range_with_len first count)) i ≡ Some (f j)
at f first count i j inside is =
    slice_get-get_or (map f (range_with_len first count)) i (f j)
    (omega (arith, length-map-range_with_len f first count, inside))
    ∙ ap Some (get_or-map-range_with_len f first count i j (f j) inside is)

past : {A : Type 0} (f : ℕ → A) (first count i : ℕ) → count ≤ i
    → slice_get (map f (range_with_len first count)) i ≡ None
past f first count i outside =
    slice_get_past (map f (range_with_len first count)) i
    (omega (arith, length-map-range_with_len f first count, outside))

-- a piece has what the whole has there, as far as the piece goes, or to the end
pub same_there : {A : Type 0} (f : ℕ → A) (first count size j : ℕ) → first + count ≤ size
    → (count ≤ j → first + count ≡ size)
    → slice_get (map f (range_with_len first count)) j ≡ slice_get (map f (range_with_len 0 size)) (first + j)
same_there f first count size j inside all = elim (leb_tells count j) [
  | inr (t, less) ↦ at f first count j (first + j) less refl
      ∙ sym (at f 0 size (first + j) (first + j) (omega (arith, inside, less)) (zero-add (first + j)))
  | inl (t, more) ↦ past f first count j more ∙ sym (past f 0 size (first + j) (omega (arith, all more, more)))
]
