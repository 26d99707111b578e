-- What the machine says of the outcome of a list of levels.
use Rattle.vbi_words.proofs.Common.{◌≡◌, ℕ, suc, zero, ◌<◌, ◌+◌, ◌-◌, Bool, true, false, List, refl, ap, sym, ◌∙◌}
use Rattle.vbi_words.proofs.Common.{subst, arith, take, not, System, Word, Blank, Unfinished, Change, Hold, IsWord}
use Rattle.vbi_words.proofs.Common.{ShowsNone, Viable, level_at, AllLow, FirstHopeless, Holds, IsOutcome, None, length}
use Rattle.std.proofs.lemmas.List.{take-take}
use Rattle.vbi_words.proofs.Machine.{State, dead, level_of, is_lead}
use Rattle.vbi_words.proofs.SystemMachine.{ending_of, state_after, state_at, state_next, dead_later}
use Rattle.vbi_words.proofs.Shown
use Rattle.vbi_words.proofs.Runs.{not_same}

pub dead_none : (system : System) (levels : List Bool) → state_after system levels ≡ dead → ShowsNone system levels
dead_none system levels e = Shown.ended_none system levels (ap (ending_of system) e)

pub dead_high : (system : System) (levels : List Bool) → state_after system levels ≡ dead → AllLow levels → ⊥
dead_high system levels e low = let f : false ≡ true = ap is_lead (sym e) ∙ Shown.low_lead system levels low in cc

-- a state that isn't dead has the level of the column before it
level_before : (system : System) (levels : List Bool) (k : ℕ) → k < length levels
    → (state_at system levels (k + 1) ≡ dead → ⊥) → level_of (state_at system levels (k + 1)) ≡ level_at levels k
level_before system levels k within alive = grind (arith, state_next, state_at)

-- the machine dies at column c
pub record DiesAt (system : System) (levels : List Bool) (c : ℕ) : Type 0 where
  pub within : c < length levels
  pub alive : state_at system levels c ≡ dead → ⊥
  pub dies : state_at system levels (c + 1) ≡ dead

-- the level at column c is that of the machine's last run
abbrev pub GoesOn : System → List Bool → ℕ → Type 0
GoesOn system levels c = level_at levels c ≡ level_of (state_at system levels c)

module _ (system : System) (levels : List Bool) (c : ℕ) (there : DiesAt system levels c) where
  hopeless : FirstHopeless system levels c
  hopeless = record {
    inside = there.within;
    before = λ d l. subst (Viable system) (take-take (d + 1) c levels (omega arith))
        (Shown.viable_take system (take c levels) (d + 1) living);
    hopeless = λ v. Shown.viable_alive system (take (c + 1) levels) v there.dies;
  }
    where
      living : Viable system (take c levels)
      living = Shown.alive_viable system (take c levels) there.alive

  gone : state_after system levels ≡ dead
  gone = dead_later system levels (c + 1) there.dies

  -- after the first column, the machine's last run has the level of the column before
  run_level : (k : ℕ) → k + 1 ≡ c → level_of (state_at system levels c) ≡ level_at levels (c - 1)
  run_level k e = grind (arith, state_at, dead, level_before)

  -- the first column isn't that of a death by a low level
  not_first : 0 ≡ c → GoesOn system levels c → ⊥
  not_first e same = grind arith

  pub hold_outcome : GoesOn system levels c → IsOutcome system levels (Hold c)
  hold_outcome same = (dead_none system levels gone, dead_high system levels gone, hopeless, held c refl)
    where
      held : (k : ℕ) → k ≡ c → Holds levels c
      held zero e = absurd (not_first e same)
      held (suc k) e = (omega arith, same ∙ run_level k (omega arith))

  pub change_outcome : (GoesOn system levels c → ⊥) → IsOutcome system levels (Change c)
  change_outcome differs = (dead_none system levels gone, dead_high system levels gone, hopeless, moved c refl)
    where
      moved : (k : ℕ) → k ≡ c → Holds levels c → ⊥
      moved zero e (positive, same) = omega arith
      moved (suc k) e (positive, same) = differs (same ∙ sym (run_level k (omega arith)))

module _ (system : System) (levels : List Bool) where
  pub word_outcome : (w : ℕ) → IsWord w → Shown.EndsWith system levels w → IsOutcome system levels (Word w)
  word_outcome w range e = Shown.ended_shows system levels w range e

  pub blank_outcome : is_lead (state_after system levels) ≡ true → IsOutcome system levels Blank
  blank_outcome e =
      (Shown.ended_none system levels (none (state_after system levels) e), Shown.lead_low system levels e)
    where
      none : (state : State) → is_lead state ≡ true → ending_of system state ≡ None
      none state e = grind arith

  pub unfinished_outcome : (state_after system levels ≡ dead → ⊥) → is_lead (state_after system levels) ≡ false
      → ending_of system (state_after system levels) ≡ None → IsOutcome system levels Unfinished
  unfinished_outcome alive high none = (
    Shown.ended_none system levels none,
    (λ low. let e : false ≡ true = sym high ∙ Shown.low_lead system levels low in cc),
    Shown.alive_viable system levels alive,
  )

-- ---- by what the machine computes of a line

-- it dies at column c
module _ (system : System) (levels : List Bool) (c : ℕ) (v : Bool) (within : c < length levels)
    (alive : state_at system levels c ≡ dead → ⊥) (dies : state_at system levels (c + 1) ≡ dead)
    (run : level_of (state_at system levels c) ≡ v) where
  -- by a level that isn't its last run's
  pub changes : level_at levels c ≡ not v → IsOutcome system levels (Change c)
  changes at = grind (arith, change_outcome, not_same)

  -- by a level of its last run
  pub holds : level_at levels c ≡ v → IsOutcome system levels (Hold c)
  holds at = hold_outcome system levels c (record { within = within; alive = alive; dies = dies }) (at ∙ sym run)
