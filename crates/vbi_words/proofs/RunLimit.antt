-- How long a run may become.
use Rattle.vbi_words.proofs.Common.{◌≡◌, ℕ, suc, zero, ◌≤◌, ◌<◌, ◌+◌, ◌*◌, Bool, true, false, List, [], ◌∷◌, ◌++◌, ◌⊎◌}
use Rattle.vbi_words.proofs.Common.{◌↔◌, inl, inr, refl, ap, sym, ◌∙◌, subst, arith, append_assoc, replicate, cases_lt}
use Rattle.vbi_words.proofs.Common.{not, System, half_max, Viable, Option, Some, None}
use Rattle.vbi_words.specs.Outcomes.{EndsOtherwise, HasRunLimit}
use Rattle.vbi_words.proofs.Sizes.{Sizes, sizes_of, apart_of}
use Rattle.vbi_words.proofs.Machine
use Rattle.vbi_words.proofs.Machine.{State, lead, first, second, tail, dead, level_of, length_of, limit, stay, turn}
use Rattle.vbi_words.proofs.Machine.{next}
use Rattle.vbi_words.proofs.SystemMachine.{next_of, after_of, limit_of, state_after, after_append}
use Rattle.vbi_words.proofs.Stays
use Rattle.vbi_words.proofs.Stays.{Fresh, turn_fresh}
use Rattle.vbi_words.proofs.Shown.{viable_alive, alive_viable}

module _ (sizes : Sizes) where
  open sizes use {greatest, cells}

  fresh_next : (state : State) (v : Bool) → level_of state ≡ not v → Fresh sizes (next sizes state v)
  fresh_next state v e = grind arith

  fresh_start : (v : Bool) → Fresh sizes (next sizes (lead 0) v)
  fresh_start true = turn_fresh sizes (lead 0)
  fresh_start false = tt

  -- a limit is the greatest length of one half cell, or of two
  abbrev OneOrTwo : ℕ → Type 0
  OneOrTwo m = (m ≡ greatest) ⊎ (m ≡ greatest + greatest)

  limit_value : (state : State) (m : ℕ) → limit sizes state ≡ Some m → OneOrTwo m
  limit_value state m = grind arith

  fresh_length : (state : State) (m : ℕ) → limit sizes state ≡ Some m → Fresh sizes state → length_of state ≡ 1
  fresh_length state m e f = grind arith

module _ (system : System) (levels : List Bool) (v : Bool) where
  -- the state after the run's first level
  abbrev begun : State
  begun = state_after system (levels ++ v ∷ [])

  begun_is : begun ≡ next_of system (state_after system levels) v
  begun_is = after_append system levels (v ∷ [])

  -- the state after the whole run
  more : (k : ℕ) → state_after system (levels ++ replicate (suc k) v) ≡ after_of system begun (replicate k v)
  more k = grind (arith, append_assoc, after_append)

  module _ (ends : EndsOtherwise levels v) (viable : Viable system (levels ++ v ∷ [])) where
    alive : begun ≡ dead → ⊥
    alive = viable_alive system (levels ++ v ∷ []) viable

    level : level_of begun ≡ v
    level = grind (arith, begun_is, alive)

    after : (k : ℕ) → state_after system (levels ++ replicate (suc k) v) ≡ Stays.stays (sizes_of system) k begun
    after k = more k ∙ Stays.after_run (sizes_of system) k begun v alive level

    -- the run began at a change
    fresh : Fresh (sizes_of system) begun
    fresh = subst (Fresh (sizes_of system)) (sym begun_is) (go ends)
      where
        first_level : (front : List Bool) → levels ≡ front ++ not v ∷ [] → level_of (state_after system levels) ≡ not v
        first_level front e =
            let last : state_after system levels ≡ next_of system (state_after system front) (not v)
            = ap (state_after system) e ∙ after_append system front (not v ∷ []) in
            let dies : next_of system dead v ≡ dead = Machine.dead_after (sizes_of system) (v ∷ []) in
            let living : state_after system levels ≡ dead → ⊥
            = λ d. alive (begun_is ∙ ap (λ (s : State). next_of system s v) d ∙ dies) in
            ap level_of last
            ∙ Machine.next_level (sizes_of system) (state_after system front) (not v) (λ d. living (last ∙ d))

        go : EndsOtherwise levels v → Fresh (sizes_of system) (next_of system (state_after system levels) v)
        go (inl none) = grind (arith, fresh_start)
        go (inr (front, e)) = fresh_next (sizes_of system) (state_after system levels) v (first_level front e)

    -- without a limit
    free : limit_of system begun ≡ None → (k : ℕ) → 0 < k → Viable system (levels ++ replicate k v)
    free e zero some = absurd (omega arith)
    free e (suc k) some = alive_viable system (levels ++ replicate (suc k) v)
        (λ d. Stays.alive_grown k begun alive (sym (Stays.stays_free (sizes_of system) k begun e) ∙ sym (after k) ∙ d))

    -- with one
    module _ (m : ℕ) (e : limit_of system begun ≡ Some m) where
      one : length_of begun ≡ 1
      one = fresh_length (sizes_of system) begun m e fresh

      value : (m ≡ half_max system) ⊎ (m ≡ 2 * half_max system)
      value = elim (limit_value (sizes_of system) begun m e) [ inl a ↦ inl a | inr b ↦ inr (omega arith) ]

      some : 1 ≤ m
      some = elim value [ inl a ↦ omega (arith, apart_of system) | inr b ↦ omega (arith, apart_of system) ]

      forth : (k : ℕ) → Viable system (levels ++ replicate (suc k) v) → suc k ≤ m
      forth k w = elim (cases_lt m (suc k)) [
        | inl beyond ↦
            let dies : Stays.stays (sizes_of system) k begun ≡ dead
            = Stays.stays_beyond (sizes_of system) k m begun e (omega (arith, one, some)) (omega (arith, one)) in
            absurd (viable_alive system (levels ++ replicate (suc k) v) w (after k ∙ dies))
        | inr within ↦ within
      ]

      back : (k : ℕ) → suc k ≤ m → Viable system (levels ++ replicate (suc k) v)
      back k within =
          let lives = Stays.stays_within (sizes_of system) k m begun e (omega (arith, one)) in
          alive_viable system (levels ++ replicate (suc k) v)
          (λ d. Stays.alive_grown k begun alive (sym lives ∙ sym (after k) ∙ d))

      bounded : (k : ℕ) → 0 < k → (Viable system (levels ++ replicate k v) ↔ k ≤ m)
      bounded zero positive = absurd (omega arith)
      bounded (suc k) positive = (forth k, back k)

  pub run_limit : EndsOtherwise levels v → Viable system (levels ++ v ∷ []) → HasRunLimit system levels v
  run_limit ends viable = go (limit_of system begun) refl
    where
      go : (o : Option ℕ) → limit_of system begun ≡ o → HasRunLimit system levels v
      go None e = inl (free ends viable e)
      go (Some m) e = inr (m, value ends viable m e, bounded ends viable m e)
