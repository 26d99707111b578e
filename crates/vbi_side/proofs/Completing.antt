-- The word that completes a time.
use Rattle.std.proofs.Common.{◌≡◌, ℕ, ◌<◌, List, length, get_or, refl, sym, subst}
use Rattle.std.proofs.Common.{inl, inr}
use Rattle.std.specs.Prelude.{Some, slice_get, ◌⊎◌}
use Rattle.std.proofs.lemmas.Option.{slice_get-get_or}
use Rattle.vbi_side.specs.Types.{System, Shown, Sightings}
use Rattle.vbi_side.specs.Sightings.{IsSeen, Shows}
use Rattle.vbi_side.specs.Votes.{IsCompleted}
use Rattle.vbi_side.proofs.Voting.{no_sightings}

-- a line of field i shows a time
abbrev pub IsSeenIn : List Sightings → ℕ → Type 0
IsSeenIn fields i =
    IsSeen (get_or fields i no_sightings).line_17 ⊎ IsSeen (get_or fields i no_sightings).line_18

seen_shown : (fields : List Sightings) (i : ℕ) → i < length fields → IsSeenIn fields i
    → (n : ℕ) × Shows (slice_get fields i) n
seen_shown fields i inside seen =
    let at : slice_get fields i ≡ Some (get_or fields i no_sightings) = slice_get-get_or fields i no_sightings inside in
    elim seen [
      | inl h ↦ (
        (get_or fields i no_sightings).line_17.number,
        subst (λ f. Shows f (get_or fields i no_sightings).line_17.number) (sym at) (inl (h, refl)),
      )
      | inr h ↦ (
        (get_or fields i no_sightings).line_18.number,
        subst (λ f. Shows f (get_or fields i no_sightings).line_18.number) (sym at) (inr (h, refl)),
      )
    ]

-- a field that shows a time isn't completed
pub seen_uncompleted : (system : System) (line_16 : Shown) (fields : List Sightings) (i word : ℕ) → i < length fields
    → IsSeenIn fields i → IsCompleted system line_16 fields i word → ⊥
seen_uncompleted system line_16 fields i word inside seen completed =
    let shown = seen_shown fields i inside seen in completed.3.unseen shown.0 shown.1
