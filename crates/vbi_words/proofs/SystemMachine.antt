-- The machine at the sizes of a system's words.
use Rattle.vbi_words.proofs.Common.{◌≡◌, ℕ, ◌<◌, ◌+◌, Bool, false, List, [], ◌∷◌, ◌++◌, ap, sym, ◌∙◌, take, drop}
use Rattle.vbi_words.proofs.Common.{take-append-drop, System, level_at, Option, length}
use Rattle.std.proofs.lemmas.List.{take_more}
use Rattle.vbi_words.proofs.Sizes.{sizes_of, apart_of}
use Rattle.vbi_words.proofs.Machine
use Rattle.vbi_words.proofs.Machine.{State, lead, dead}

-- the state after one more level like the last
abbrev pub stay_of : System → State → State
stay_of system = Machine.stay (sizes_of system)

-- the state after one of the other level
abbrev pub turn_of : System → State → State
turn_of system = Machine.turn (sizes_of system)

-- the state after one more level
abbrev pub next_of : System → State → Bool → State
next_of system = Machine.next (sizes_of system)

-- the state after these levels
abbrev pub after_of : System → State → List Bool → State
after_of system = Machine.after (sizes_of system)

-- the greatest length of the last run, if it has one
abbrev pub limit_of : System → State → Option ℕ
limit_of system = Machine.limit (sizes_of system)

-- the bits that are shown when nothing more comes
abbrev pub ending_of : System → State → Option (List Bool)
ending_of system = Machine.ending (sizes_of system)

-- what holds of each state that is reached
abbrev pub IsFit : System → State → Type 0
IsFit system = Machine.Fit (sizes_of system)

-- ---- from the start of a line

-- the state after these levels
abbrev pub state_after : System → List Bool → State
state_after system = after_of system (lead 0)

-- the state after the first n levels
abbrev pub state_at : System → List Bool → ℕ → State
state_at system levels n = state_after system (take n levels)

pub fit_after : (system : System) (levels : List Bool) → IsFit system (state_after system levels)
fit_after system levels = Machine.after_fit (sizes_of system) (apart_of system) (lead 0) levels tt

pub after_append : (system : System) (front more : List Bool)
    → state_after system (front ++ more) ≡ after_of system (state_after system front) more
after_append system front more = Machine.after-append (sizes_of system) (lead 0) front more

-- one more level
pub state_next : (system : System) (levels : List Bool) (n : ℕ) → n < length levels
    → state_at system levels (n + 1) ≡ next_of system (state_at system levels n) (level_at levels n)
state_next system levels n within = ap (state_after system) (take_more levels n false within)
    ∙ after_append system (take n levels) (level_at levels n ∷ [])

-- the machine is dead once it was
pub dead_later : (system : System) (levels : List Bool) (n : ℕ) → state_at system levels n ≡ dead
    → state_after system levels ≡ dead
dead_later system levels n e =
    ap (state_after system) (sym (take-append-drop n levels)) ∙ after_append system (take n levels) (drop n levels)
    ∙ ap (λ (s : State). after_of system s (drop n levels)) e ∙ Machine.dead_after (sizes_of system) (drop n levels)
