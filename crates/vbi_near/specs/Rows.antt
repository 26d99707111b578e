-- What a row costs by its sums.
use Rattle.std.specs.Prelude.{ℕ, ◌+◌, ◌-◌, Bool, false, List, Option}
use Rattle.vbi_near.specs.Common.{System, width_of, Slicing, word_length, IsPlace, Samples, Shades, shades, IsPile}
use Rattle.vbi_near.specs.Nearest.{IsNearestBy, IsFirstBy, far_from}
use Rattle.vbi_near.specs.{declared.sums.Sums.Sums, declared.near.Near.Near, Sums.AreBoth, Sums.span}
use Rattle.vbi_near.specs.{LineCodes.codes_of, LineCodes.IsCodePlace, LongerSignal.IsLonger, ShorterSignal.IsShorter}
use Rattle.vbi_near.specs.{Costs.cell_cost, Costs.place_cost, Leads.code_cost}

abbrev pub shades_of : Sums → Shades
shades_of sums = shades sums.dark.now sums.light.now

-- what a bit costs in a cell of a word that begins at `start`
abbrev pub cell_cost_by : Sums → ℕ → ℕ → Bool → ℕ
cell_cost_by sums = cell_cost (shades_of sums) sums.system

-- what a word costs that begins at `start`
abbrev pub word_cost_by : Sums → ℕ → ℕ → ℕ
word_cost_by sums = place_cost (shades_of sums) sums.system

-- what a code costs that begins at `start`, or none
abbrev pub code_cost_by : Sums → ℕ → ℕ → ℕ
code_cost_by sums = code_cost (shades_of sums) sums.system

-- what the columns cost before and after a word that begins at `start`
abbrev pub around_cost : Shades → System → ℕ → ℕ
around_cost sums system start =
    span sums false 0 start
    + span sums false (start + word_length system) (width_of system - (start + word_length system))

-- the lines cost so much in each column, and these are the sums of that
pub record IsRowOf (sums : Sums) (slicing : Slicing) (lines : List Samples) (costs : Shades) : Type 0 where
  pub pile : IsPile sums.system slicing lines costs
  pub both : AreBoth costs (shades_of sums) (width_of sums.system)

-- all that is said of the nearest of the drawn rows at these places
pub record IsNearOf (IsThere : Option ℕ → ℕ → Type 0) (system : System) (slicing : Slicing) (lines : List Samples)
    (near : Near) : Type 0 where
  pub nearest : IsNearestBy IsThere (far_from system slicing lines) near
  pub first : IsFirstBy IsThere (far_from system slicing lines) near
  pub longer : IsLonger system slicing lines near
  pub shorter : IsShorter system slicing lines near

-- all that is said of the nearest word of some lines, and of their nearest code
abbrev pub IsNearWord : System → Slicing → List Samples → Near → Type 0
IsNearWord system slicing lines near = IsNearOf (IsPlace system) system slicing lines near

abbrev pub IsNearCode : System → ℕ → Slicing → List Samples → Near → Type 0
IsNearCode system line slicing lines near =
    IsNearOf (IsCodePlace (codes_of system line) system) system slicing lines near
