-- What is recovered of three rows is all that there is.
use Rattle.std.proofs.Common.{rules}
use Rattle.std.proofs.Common.{◌≡◌, ℕ, List}
use Rattle.vbi_near.specs.declared.recovery.Recovered.{Recovered}
use Rattle.vbi_near.specs.Recovery.{IsRecovered, none_erased}
use Rattle.vbi_near.proofs.OneRecovered.{one_recovered}
use Rattle.vbi_near.proofs.SomeRecovered.{some_recovered}
use Rattle.vbi_seek.specs.declared.side_bytes.Setup.{Setup}
use Rattle.vbi_seek.specs.FieldLines.{recovery_of}

pub is_recovered : (setup : Setup) (rows : List ℕ)
    → IsRecovered setup.system setup.levels rows (none_erased setup.system) (recovery_of setup rows)
unfolding recovery_of
is_recovered setup rows = (some_recovered setup.system setup.levels rows (none_erased setup.system)).1

pub only_recovered : (setup : Setup) (rows : List ℕ) (lines : List Recovered)
    → IsRecovered setup.system setup.levels rows (none_erased setup.system) lines → lines ≡ recovery_of setup rows
only_recovered setup rows lines is = search (rules, one_recovered, is_recovered)
