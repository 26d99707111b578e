-- The cause of a fault, seen from an earlier moment of the same call.
use Rattle.vbi_line.proofs.Common.{◌≤◌, arith, failures_of, NoError, Counted}
use Rattle.vbi_line.specs.Counted.{HasCause}

pub cause_later : {D : Type 0} (old now new : Counted D) → NoError old now
    → (failures_of old).all ≤ (failures_of now).all → HasCause now new → HasCause old new
cause_later old now new none least h = grind arith
