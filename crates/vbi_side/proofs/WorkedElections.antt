-- The worked elections, computed.
use Rattle.std.proofs.Common.{ℕ, refl, arith}
use Rattle.vbi_side.specs.Votes.{weight_of_first, IsElected}
use Rattle.vbi_side.proofs.RightVotes.{half_elects_none, few_elect_none, few_for_each}
use Rattle.vbi_side.specs.WorkedVotes.{in_field_4, two_to_one, two_to_two, light_to_heavy, alone, light_alone}
use Rattle.vbi_side.specs.WorkedVotes.{three_to_one}

pub two : IsElected in_field_4 two_to_one 4300
unfolding weight_of_first
two = record { part_is = refl; majority = omega arith; some = omega arith }

-- ---- where one has half

pub none : (m : ℕ) → IsElected in_field_4 two_to_two m → ⊥
unfolding weight_of_first
none m = half_elects_none in_field_4 two_to_two 4300 m refl

pub light : (m : ℕ) → IsElected in_field_4 light_to_heavy m → ⊥
unfolding weight_of_first
light m = half_elects_none in_field_4 light_to_heavy 4300 m refl

-- ---- where there are few

pub alone_elected : IsElected in_field_4 alone 4300
unfolding weight_of_first
alone_elected = record { part_is = refl; majority = omega arith; some = omega arith }

pub light_alone_none : (m : ℕ) → IsElected in_field_4 light_alone m → ⊥
unfolding weight_of_first
light_alone_none m = few_elect_none in_field_4 light_alone m (omega arith)

pub three_none : (m : ℕ) → IsElected in_field_4 three_to_one m → ⊥
unfolding weight_of_first
three_none m = few_for_each in_field_4 three_to_one 4300 m (omega arith) (omega arith)

pub ruleset elections = (two, none, light, alone_elected, light_alone_none, three_none)
