-- There is something that any three rows show, whichever of their columns are erased.
-- some_recovered stands on it.
use Rattle.std.proofs.Common.{ℕ, Bool, List, refl}
use Rattle.vbi_near.proofs.{Common.System, Common.Slicing, Common.unit_of, SomeSeen.some_of_both, SomeSeen.some_seen}
use Rattle.vbi_near.specs.Recovery.{IsRecovered, recovered_of, field_line}
use Rattle.vbi_near.specs.{declared.recovery.Recovered.Recovered, Candidates.Line}

-- three rows show something
pub some_recovered : (system : System) (slicing : Slicing) (rows : List ℕ) (erased : List Bool)
    → (recovered : List Recovered) × IsRecovered system slicing rows erased recovered
some_recovered system slicing rows erased =
    let line : ℕ → Line = field_line system slicing rows erased in
    let first = some_seen (line 0) in
    let second = some_seen (line 1) in
    let third = some_seen (line 2) in
    let both = some_of_both (line 1) (line 2).row in (
      recovered_of (unit_of slicing) first.0 second.0 third.0 both.0,
      (
        first.0,
        second.0,
        third.0,
        both.0,
        record { line_16 = first.1; line_17 = second.1; line_18 = third.1; pair = λ opened. both.1 },
        refl,
      ),
    )
