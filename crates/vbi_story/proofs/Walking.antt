-- The way back, and what it comes to.
use Rattle.std.proofs.Common.{◌≡◌, ◌≢◌, ◌↔◌, ℕ, suc, ◌+◌, ◌<◌, ◌≤◌, Bool, true, false, List, [], ◌∷◌}
use Rattle.std.proofs.Common.{length, refl, arith, ◌∙◌, ap, slice_index, slice_set, drop, add-one, drop-cons}
use Rattle.std.proofs.lemmas.List.{drop-set}
use Rattle.std.specs.Prelude.{Option, Some, None}
use Rattle.vbi_story.specs.declared.reading.NumberReading.{NumberReading}
use Rattle.vbi_story.specs.Story.{reading_at, nothing, IsAmong, Each, Ascends, price, weight, picked}
use Rattle.vbi_story.specs.Story.{IsStory, IsBest}
use Rattle.vbi_story.specs.Working.{place_at, value_of, AreJudged, IsWalked, IsWay}

-- ---- a step of the way

module _ (readings : List NumberReading) (values : List ℕ) (origins : List ℕ) (worth i : ℕ) (next : Option ℕ)
    (story : List NumberReading) (way : IsWay readings values worth (i + 1) next story) where
  -- past a place that is not on it
  pub way_past : (next ≡ Some i → ⊥) → IsWay readings values worth i next story
  way_past other = record {
    done = way.done;
    goes_on = λ k is. let w = way.goes_on k is in
        let ne : k ≢ i = λ e. other (is ∙ ap Some e) in
        (omega (arith, w.0), w.1, w.2);
  }

  -- over one that is
  pub way_here : next ≡ Some i → i < length readings → AreJudged readings values origins (length readings)
      → IsWay readings values worth i (place_at origins i) (reading_at readings i ∷ story)
  way_here here inside judged =
      let w = way.goes_on i here in
      record {
        done = λ none. record {
          ascends = w.1;
          reaches = omega (arith, w.2, judged.begun i inside none);
        };
        goes_on = λ k is. let from = judged.came k i inside is in
            (from.0, (from.1, w.1), omega (arith, w.2, from.2));
      }

-- at the end nothing is left to come
way_ends : (readings : List NumberReading) (values : List ℕ) (worth : ℕ) (next o : Option ℕ)
    (story : List NumberReading)
    → next ≡ o → IsWay readings values worth 0 next story → IsWalked worth story
way_ends readings values worth next None story is way = way.done is
way_ends readings values worth next (Some k) story is way = absurd (omega (arith, (way.goes_on k is).0))

pub way_end : (readings : List NumberReading) (values : List ℕ) (worth : ℕ) (next : Option ℕ)
    (story : List NumberReading)
    → IsWay readings values worth 0 next story → IsWalked worth story
way_end readings values worth next story way = way_ends readings values worth next next story refl way

-- at its begin nothing is walked
pub way_begin : (readings : List NumberReading) (values : List ℕ) (n : ℕ) (last : Option ℕ)
    → ((k : ℕ) → last ≡ Some k → k < n) → IsWay readings values (value_of values last) n last []
way_begin readings values n None inside = record {
  done = λ e. record { ascends = tt; reaches = omega arith };
  goes_on = λ k e. absurd cc;
}
way_begin readings values n (Some j) inside = record {
  done = λ e. absurd cc;
  goes_on = λ k e. let same : j ≡ k = cc in (inside k e, (tt, tt), rw same (omega arith));
}

-- ---- what is marked

pub picked_past : (readings : List NumberReading) (marks : List Bool) (i : ℕ) → i < length readings → i < length marks
    → picked (drop i readings) (drop i (slice_set marks i false)) ≡ picked (drop (i + 1) readings) (drop (i + 1) marks)
picked_past readings marks i in_readings in_marks =
    rw (drop-set marks i false in_marks, drop-cons readings i nothing in_readings, add-one i) refl

pub picked_here : (readings : List NumberReading) (marks : List Bool) (i : ℕ) → i < length readings → i < length marks
    → picked (drop i readings) (drop i (slice_set marks i true))
    ≡ reading_at readings i ∷ picked (drop (i + 1) readings) (drop (i + 1) marks)
picked_here readings marks i in_readings in_marks =
    rw (drop-set marks i true in_marks, drop-cons readings i nothing in_readings, add-one i) refl

-- one step more
pub way_step : (readings : List NumberReading) (values : List ℕ) (origins : List ℕ) (marks : List Bool)
    (worth i : ℕ)
    (at next : Option ℕ) (here : Bool) → i < length readings → i < length marks
    → AreJudged readings values origins (length readings)
    → (here ≡ true ↔ at ≡ Some i) → (here ≡ true → next ≡ place_at origins i) → (here ≢ true → next ≡ at)
    → IsWay readings values worth (i + 1) at (picked (drop (i + 1) readings) (drop (i + 1) marks))
    → IsWay readings values worth i next (picked (drop i readings) (drop i (slice_set marks i here)))
way_step readings values origins marks worth i at next true in_readings in_marks judged is on off way =
    rw (on refl, picked_here readings marks i in_readings in_marks)
    (way_here readings values origins worth i at _ way (is.0 refl) in_readings judged)
way_step readings values origins marks worth i at next false in_readings in_marks judged is on off way =
    rw (off (λ e. absurd cc), picked_past readings marks i in_readings in_marks)
    (way_past readings values origins worth i at _ way (λ e. let clash = is.1 e in absurd cc))

-- what holds of each reading holds of each that is picked
pub picked_each : (P : NumberReading → Type 0) (readings : List NumberReading) (marks : List Bool)
    → ((i : ℕ) → i < length readings → P (reading_at readings i)) → Each P (picked readings marks)
picked_each P [] marks each = tt
picked_each P (r ∷ more) [] each = tt
picked_each P (r ∷ more) (false ∷ marks) each = picked_each P more marks (λ i h. each (suc i) (omega arith))
picked_each P (r ∷ more) (true ∷ marks) each =
    (each 0 (omega arith), picked_each P more marks (λ i h. each (suc i) (omega arith)))

-- ---- no story is worth more

module _ (readings : List NumberReading) (values : List ℕ) (origins : List ℕ)
    (judged : AreJudged readings values origins (length readings)) (top : ℕ)
    (most : (k : ℕ) → k < length readings → slice_index values k ≤ top) where
  -- than the value of the reading that it ends at
  rest_most : (r : NumberReading) (i : ℕ) → i < length readings → reading_at readings i ≡ r
      → (more : List NumberReading)
      → Each (IsAmong readings) more → Ascends (r ∷ more)
      → slice_index values i + weight more ≤ top + price (r ∷ more)
  rest_most r i inside is [] among ascends = omega (arith, most i inside)
  rest_most r i inside is (next ∷ more) among ascends =
      let k = among.0.0 in
      let in_k : k < length readings = among.0.1 in
      let at_k : reading_at readings k ≡ next = among.0.2 in
      let before : (reading_at readings i).field < (reading_at readings k).field = rw (is, at_k) ascends.0 in
      let step = rw (is, at_k) at (judged.after i k inside in_k before) in
      let rest = rest_most next k in_k at_k more among.1 ascends.1 in
      omega (arith, step, rest)

  pub story_most : (story : List NumberReading) → IsStory readings story → weight story ≤ top + price story
  story_most [] is = omega arith
  story_most (r ∷ more) is =
      let among : Each (IsAmong readings) (r ∷ more) = is.among in
      let i = among.0.0 in
      let inside : i < length readings = among.0.1 in
      let at : reading_at readings i ≡ r = among.0.2 in
      let own = rw at at (judged.alone i inside) in
      let rest = rest_most r i inside at more among.1 is.ascends in
      omega (arith, own, rest)

-- what was walked is the best
pub walked_best : (readings : List NumberReading) (values : List ℕ) (origins : List ℕ) (marks : List Bool)
    (top : ℕ)
    → AreJudged readings values origins (length readings)
    → ((k : ℕ) → k < length readings → slice_index values k ≤ top)
    → IsWalked top (picked readings marks) → IsBest readings (picked readings marks)
walked_best readings values origins marks top judged most walked = record {
  story_is = record {
    among = picked_each (IsAmong readings) readings marks (λ i h. (i, h, refl));
    ascends = walked.ascends;
  };
  best = λ other story. omega (arith, walked.reaches, story_most readings values origins judged top most other story);
}

-- the value of the greatest
pub most_of : (values : List ℕ) (last : Option ℕ) (top k : ℕ) → last ≡ Some top
    → slice_index values k ≤ slice_index values top → slice_index values k ≤ value_of values last
most_of values last top k is le = rw is le

-- and what was walked is worth just so much
pub walked_worth : (readings : List NumberReading) (values : List ℕ) (origins : List ℕ) (top : ℕ)
    (story : List NumberReading) → AreJudged readings values origins (length readings)
    → ((k : ℕ) → k < length readings → slice_index values k ≤ top) → IsBest readings story → IsWalked top story
    → top + price story ≡ weight story
walked_worth readings values origins top story judged most best walked =
    omega (arith, walked.reaches, story_most readings values origins judged top most story best.story_is)
