-- Seeking in the bytes of a side, as C asks for it: first the system is looked at, then black and white, then what is
-- counted, then the pace.
use Rattle.std.specs.Prelude.{ℕ, Result, Ok}
use Rattle.vbi_c.specs.Types.{Sought, Seek, LdvbiSought, Refusal}
use Rattle.vbi_c.specs.Judging.{with_pace}
use Rattle.vbi_c.specs.Numbers.{counted_of, asked_of, sought_pace}
use Rattle.vbi_c.specs.Setups.{setup_of}
use Rattle.vbi_c.specs.Statuses.{in_turn}

-- what the numbers of a call ask for
abbrev pub seek_of : ℕ → ℕ → ℕ → ℕ → ℕ → Result Seek Refusal
seek_of system black white counted pace = in_turn (setup_of system black white) (λ setup.
    in_turn (with_pace (Ok setup.system) (counted_of counted) (asked_of pace))
    (λ judging. Ok (record { setup = setup; judging = judging })))

-- a number that was sought, as C sees it
abbrev pub sought_for_c : Sought → LdvbiSought
sought_for_c sought = record {
  field = sought.field;
  number = sought.number;
  pace = sought_pace sought.pace;
  looked = sought.looked;
  before = sought.before;
  after = sought.after;
}
