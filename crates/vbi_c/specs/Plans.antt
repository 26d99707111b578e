-- The plan of a file, as C asks about it: first the spacing is looked at, then the clock.
use Rattle.std.specs.Prelude.{◌≡◌, ◌↔◌, ℕ, length, Option, Some, None, IfSome, ok_or, Result, Ok}
use Rattle.vbi_c.specs.Types.{Layout, PlanFault, LdvbiClock, LdvbiChecked, Refusal}
use Rattle.vbi_plan.specs.Plans.{IsDone, IsFirstFault, Plan}
use Rattle.vbi_c.specs.declared.status.Refusal.TheVariants.{Pace, Clock}
use Rattle.vbi_c.specs.Numbers.{spacing_given, clock_given, rule_for_c}
use Rattle.vbi_c.specs.Statuses.{in_turn}

-- the layout that the numbers of a call ask for
abbrev pub layout_of : ℕ → LdvbiClock → ℕ → ℕ → Result Layout Refusal
layout_of spacing clock begin end = in_turn (ok_or (spacing_given spacing) Pace) (λ spacing.
    in_turn (ok_or (clock_given clock) Clock) (λ clock.
    Ok (record { clock = clock; spacing = spacing; begin = begin; end = end })))

-- the first fault of a plan of so many stretches, or 0 if it has none
abbrev pub checked_for_c : ℕ → Option PlanFault → LdvbiChecked
checked_for_c stretches None = record { stretch = stretches; rule = 0 }
checked_for_c stretches (Some fault) = record { stretch = fault.stretch; rule = rule_for_c fault.rule }

-- what is found of a plan: no fault if it is done, else its first one
abbrev pub IsChecked : Plan → LdvbiChecked → Type 0
IsChecked plan checked = (fault : Option PlanFault) × (checked ≡ checked_for_c (length plan.stretches) fault)
    × ((fault ≡ None) ↔ IsDone plan) × IfSome fault (IsFirstFault plan)
