-- Which clock the believed numbers of a disc tell.
use Rattle.std.specs.Prelude.{◌≡◌, ℕ, zero, suc, ◌+◌, ◌*◌, ◌≤◌, ◌&&◌, ◌⊎◌, not, Bool, List, length, if◌then◌else◌}
use Rattle.vbi_whole.specs.Types.{Clock, Number, Place, Rule}
use Rattle.vbi_side.specs.Paces.{nearly, spot}
use Rattle.vbi_side.specs.Clocks.{nearly_by}
use Rattle.vbi_whole.specs.declared.clock_search.Pairs.{Pairs}
use Rattle.vbi_whole.specs.Gaps.{AreNeighbours, IsFree}

-- the numbers of two places go on without a clock
abbrev pub go_on_plain : Rule → Place → Place → Bool
go_on_plain rule a b = nearly rule.pace rule.slack a b

-- they go on by this clock, whichever the rule has
abbrev pub go_on_by : Clock → Rule → Place → Place → Bool
go_on_by clock rule a b = nearly_by clock rule.pace rule.slack a b

-- two numbers go on by the clock, and not without
abbrev pub explains : Clock → Rule → Place → Place → Bool
explains clock rule a b = go_on_by clock rule a b && not (go_on_plain rule a b)

-- they go on without it, and not by it
abbrev pub opposes : Clock → Rule → Place → Place → Bool
opposes clock rule a b = go_on_plain rule a b && not (go_on_by clock rule a b)

-- with one pair more
abbrev pub one_more : Bool → ℕ → ℕ
one_more is count = count + (if is then 1 else 0)

abbrev pub with_pair : Clock → Rule → Place → Place → Pairs → Pairs
with_pair clock rule a b pairs = record {
  explained = one_more (explains clock rule a b) pairs.explained;
  opposed = one_more (opposes clock rule a b) pairs.opposed;
}

-- this many of the neighbours before field k the clock explains, and against this many it speaks
unfoldable pub ArePairs : Clock → Rule → List Number → ℕ → Pairs → Type 0
ArePairs clock rule answers zero pairs = pairs ≡ record { explained = 0; opposed = 0 }
ArePairs clock rule answers (suc k) pairs =
    (IsFree answers k × ArePairs clock rule answers k pairs)
    ⊎ ((i m n : ℕ) × (fewer : Pairs) × AreNeighbours answers (spot i m) (spot k n) × ArePairs clock rule answers k fewer
    × (pairs ≡ with_pair clock rule (spot i m) (spot k n) fewer))

-- it explains at least three pairs, and at least twice as many as it speaks against
abbrev pub AreEnough : Pairs → Type 0
AreEnough pairs = (3 ≤ pairs.explained) × (2 * pairs.opposed ≤ pairs.explained)

-- the numbers tell this clock
abbrev pub IsClockTold : Clock → Rule → List Number → Type 0
IsClockTold clock rule answers = (pairs : Pairs) × ArePairs clock rule answers (length answers) pairs
    × AreEnough pairs

-- the clock explains this many pairs, if it is told; else this is 0
abbrev pub IsWeight : Clock → Rule → List Number → ℕ → Type 0
IsWeight clock rule answers weight = (pairs : Pairs) × ArePairs clock rule answers (length answers) pairs
    × ((AreEnough pairs × (weight ≡ pairs.explained)) ⊎ ((AreEnough pairs → ⊥) × (weight ≡ 0)))

-- it is told, and no clock that is told explains more
abbrev pub ExplainsMost : Clock → Rule → List Number → Type 0
ExplainsMost clock rule answers = (pairs : Pairs) × ArePairs clock rule answers (length answers) pairs
    × AreEnough pairs × ((other : Clock) (others : Pairs) → ArePairs other rule answers (length answers) others
    → AreEnough others → others.explained ≤ pairs.explained)
