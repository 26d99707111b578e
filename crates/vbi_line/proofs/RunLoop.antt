-- What the loop over a line's runs needs.
use Rattle.vbi_line.proofs.Common.{◌≡◌, ℕ, zero, suc, ◌+◌, ◌<◌, ◌≤◌, Bool, false, [], ◌∷◌, ◌++◌, length, sym, ap, subst}
use Rattle.vbi_line.proofs.Common.{◌∙◌, arith, add-zero, append_assoc, append-nil, System, Change, Hold, IsOutcome}
use Rattle.vbi_line.proofs.Common.{level_at, sizes_of, State, dead, level_of, next_of, after_of, state_at}
use Rattle.vbi_line.proofs.Common.{after_append, Decoder, state_of, DiesAfter, IsRun}
use Rattle.std.proofs.Common.{List, take, add-one}
use Rattle.std.proofs.Math.ListN.{replicate}
use Rattle.std.proofs.lemmas.List.{take_more, replicate_more}
use Rattle.vbi_words.proofs.Machine
use Rattle.vbi_words.proofs.Outcomes.{DiesAt, GoesOn, hold_outcome, change_outcome}
use Rattle.vbi_line.proofs.Ending.{alive}

-- a run with its length by another name
pub counted : {levels : List Bool} {column : ℕ} {v : Bool} {m n : ℕ} → m ≡ n → IsRun levels column v n
    → IsRun levels column v m
counted {levels} {column} {v} e run = subst (IsRun levels column v) (sym e) run

-- the state after a run of k levels v
abbrev after_run : System → State → ℕ → Bool → State
after_run system state k v = after_of system state (replicate k v)

-- the level after a run is the run's
last_level : (system : System) (state : State) (v : Bool) (k : ℕ) → 0 < k → (after_run system state k v ≡ dead → ⊥)
    → level_of (after_run system state k v) ≡ v
last_level system state v zero some alive = absurd (omega arith)
last_level system state v (suc k) some alive =
    ap level_of last ∙ Machine.next_level (sizes_of system) (after_run system state k v) v (λ d. alive (last ∙ d))
  where
    one_more : replicate (suc k) v ≡ replicate k v ++ v ∷ []
    one_more = ap (λ (j : ℕ). replicate j v) (sym (add-one k)) ∙ sym (replicate_more k v)

    last : after_run system state (suc k) v ≡ next_of system (after_run system state k v) v
    last = ap (after_of system state) one_more ∙ Machine.after-append (sizes_of system) state (replicate k v) (v ∷ [])

module _ {levels : List Bool} {column : ℕ} {v : Bool} {count : ℕ} (run : IsRun levels column v count) where
  -- the levels up to a place in the run
  pub run_levels : (k : ℕ) → k ≤ count → take (column + k) levels ≡ take column levels ++ replicate k v
  run_levels zero l = ap (λ (j : ℕ). take j levels) (add-zero column) ∙ sym (append-nil (take column levels))
  run_levels (suc k) l =
      let place : column + suc k ≡ (column + k) + 1 = omega arith in
      let last : List Bool → List Bool = λ t. t ++ v ∷ [] in
      ap (λ (j : ℕ). take j levels) place ∙ take_more levels (column + k) false (omega (arith, run.inside))
      ∙ ap (λ (b : Bool). take (column + k) levels ++ b ∷ []) (run.each k (omega arith))
      ∙ ap last (run_levels k (omega arith)) ∙ append_assoc (take column levels) (replicate k v) (v ∷ [])
      ∙ ap (λ (t : List Bool). take column levels ++ t)
      (replicate_more k v ∙ ap (λ (j : ℕ). replicate j v) (add-one k))

  here : level_at levels column ≡ v
  here = ap (level_at levels) (sym (add-zero column)) ∙ run.each 0 run.some

  -- the decoder has read the levels before the run
  module _ (system : System) (decoder : Decoder) (so_far : state_of decoder ≡ state_at system levels column) where
    after_levels : (k : ℕ) → k ≤ count → after_run system (state_of decoder) k v ≡ state_at system levels (column + k)
    after_levels k l = grind (arith, after_append, run_levels)

    pub goes_on : (new : State) → new ≡ after_of system (state_of decoder) (replicate count v)
        → new ≡ state_at system levels (column + count)
    goes_on new e = e ∙ after_levels count (omega arith)

    -- the next run has the other level
    pub turned : (next : Decoder) → state_of next ≡ after_of system (state_of decoder) (replicate count v)
        → column + count < length levels → level_at levels (column + count) ≡ level_of (state_of next) → ⊥
    turned next e l same = grind (arith, last_level, alive)

    pub changes : (0 < column → column < length levels → level_at levels column ≡ level_of (state_of decoder) → ⊥)
        → (lived : ℕ) → lived ≡ 0 → DiesAfter system (state_of decoder) v lived
        → IsOutcome system levels (Change (column + lived))
    changes turns lived none dies =
        subst (λ (j : ℕ). IsOutcome system levels (Change j)) place
        (change_outcome system levels column (record { within = inside; alive = living; dies = gone }) differs)
      where
        place : column ≡ column + lived
        place = omega (arith, none)

        inside : column < length levels
        inside = omega (arith, run.inside, run.some)

        living : state_at system levels column ≡ dead → ⊥
        living d = alive decoder (so_far ∙ d)

        at_once : after_run system (state_of decoder) (0 + 1) v ≡ dead
        at_once = subst (λ (j : ℕ). after_run system (state_of decoder) (j + 1) v ≡ dead) none dies.1

        gone : state_at system levels (column + 1) ≡ dead
        gone = sym (after_levels 1 (omega (arith, run.some))) ∙ at_once

        differs : GoesOn system levels column → ⊥
        differs same = grind arith

    pub holds : (lived : ℕ) → 0 < lived → lived < count → DiesAfter system (state_of decoder) v lived
        → IsOutcome system levels (Hold (column + lived))
    holds lived some few dies = hold_outcome system levels (column + lived) at same
      where
        there : after_run system (state_of decoder) lived v ≡ state_at system levels (column + lived)
        there = after_levels lived (omega arith)

        place : (column + lived) + 1 ≡ column + (lived + 1)
        place = omega arith

        at : DiesAt system levels (column + lived)
        at = grind (arith, alive, there, state_at, place, after_levels)

        same : GoesOn system levels (column + lived)
        same = grind (arith, there, last_level)
