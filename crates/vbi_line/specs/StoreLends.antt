-- What the array of a line's bytes is after a part of it was lent. No public clause cites this file.
use Rattle.std.specs.Prelude.{ℕ, List, take, drop, ◌++◌, ◌-◌}
use Rattle.std.specs.List.{refill}
use Rattle.std.specs.Borrow.{Lends, Fml, MutBor, Array, u8}
use Rattle.vbi_line.specs.declared.store.LineBytes.{LineBytes}
use Rattle.vbi_line.specs.contracts.store.LineBytes.{the_row}

-- the list with the part from one place up to another written over, as long as before
abbrev pub with_part : List ℕ → ℕ → ℕ → List ℕ → List ℕ
with_part xs from to ws = take from xs ++ (refill (to - from) (take (to - from) (drop from xs)) ws ++ drop to xs)

-- once the borrow r ends, the part has what was written through r
abbrev pub LendsPart : MutBor LineBytes → ℕ → ℕ → MutBor (List ℕ) → Fml
LendsPart store from to r =
    Lends the_row (Array u8 0) store r (λ ws. record { bytes = with_part store.now.bytes from to ws })
