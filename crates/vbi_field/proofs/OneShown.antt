-- What the definitions of `Shown` have is all that there is.
use Rattle.vbi_field.proofs.Common.{rules, ◌≡◌, ℕ, ◌*◌, ◌≤◌, [], ◌∷◌, take, replicate, get_or, ap, ◌∙◌, sym, subst}
use Rattle.vbi_field.proofs.Common.{arith, ◌↔◌, System, Ntsc, Pal, width_of, Reading, Slicing, Recovered, given_samples}
use Rattle.vbi_field.proofs.Common.{none_erased, as_readings, Bool, false, List}
use Rattle.std.proofs.lemmas.List.{take-replicate}
use Rattle.vbi_near.specs.declared.near.Near.{Near}
use Rattle.vbi_near.specs.Candidates.{Row}
use Rattle.vbi_near.specs.Recovery.{IsRecovered, IsSureBy, row_reading}
use Rattle.vbi_near.proofs.Kept.{sure-shown}
use Rattle.vbi_near.proofs.OneNear.{one_near}
use Rattle.vbi_near.proofs.OneRecovered.{one_recovered}
use Rattle.vbi_near.proofs.SomeNear.{some_near}
use Rattle.vbi_near.proofs.SomeRecovered.{some_recovered}
use Rattle.vbi_field.specs.RecoveredRows.{IsNearRow, near_of, recovery_of, reading_as}

-- ---- the nearest word of a row

pub is_near : (system : System) (slicing : Slicing) (row : Row)
    → IsNearRow system slicing row (near_of system slicing row)
unfolding near_of
is_near system slicing row = grind (arith, some_near)

pub only_near : (system : System) (slicing : Slicing) (row : Row) (near : Near) → IsNearRow system slicing row near
    → near ≡ near_of system slicing row
only_near system slicing row near is =
    let own = is_near system slicing row in
    one_near system slicing (given_samples row ∷ []) near (near_of system slicing row) is.nearest is.first is.longer
    is.shorter own.nearest own.first own.longer own.shorter

pub one_near_row : (system : System) (slicing : Slicing) (row : Row) (near : Near)
    → IsNearRow system slicing row near ↔ (near ≡ near_of system slicing row)
one_near_row system slicing row near = (
  only_near system slicing row near,
  λ e. subst (λ (n : Near). IsNearRow system slicing row n) (sym e) (is_near system slicing row),
)

-- ---- what three rows show

pub is_shown : (system : System) (slicing : Slicing) (rows : List ℕ) (marks : List Bool)
    → IsRecovered system slicing rows marks (recovery_of system slicing rows marks)
unfolding recovery_of
is_shown system slicing rows marks = (some_recovered system slicing rows marks).1

pub only_shown : (system : System) (slicing : Slicing) (rows : List ℕ) (marks : List Bool) (shown : List Recovered)
    → IsRecovered system slicing rows marks shown → shown ≡ recovery_of system slicing rows marks
only_shown system slicing rows marks shown is = search (rules, one_recovered, is_shown)

pub one_shown : (system : System) (slicing : Slicing) (rows : List ℕ) (marks : List Bool) (shown : List Recovered)
    → IsRecovered system slicing rows marks shown ↔ (shown ≡ recovery_of system slicing rows marks)
one_shown system slicing rows marks shown = (
  only_shown system slicing rows marks shown,
  λ e. subst (λ (r : List Recovered). IsRecovered system slicing rows marks r) (sym e)
      (is_shown system slicing rows marks),
)

-- no column of three rows is erased by the first of these marks
width-few : (system : System) → width_of system ≤ 1135
width-few Ntsc = omega arith
width-few Pal = omega arith

pub nothing_erased : (system : System) (n : ℕ) → n ≡ width_of system
    → take (3 * n) (replicate 3405 false) ≡ none_erased system
nothing_erased system n e =
    take-replicate (3 * n) 3405 false (omega (arith, e, width-few system))
    ∙ ap (λ (k : ℕ). replicate (3 * k) false) e

-- they are three
pub has_three : (system : System) (slicing : Slicing) (rows : List ℕ) (marks : List Bool) (l : List Recovered)
    (a b c : Recovered) → IsRecovered system slicing rows marks l
    → record {
      first = reading_as (get_or l 0 a);
      second = reading_as (get_or l 1 b);
      third = reading_as (get_or l 2 c);
    } ≡ as_readings l
has_three system slicing rows marks l a b c (first, second, third, both, seen, e) = grind arith

-- ---- rows that are sure

-- a line as it was read
abbrev as_read : Reading → Recovered
as_read reading = record { outcome = reading.outcome; pass = reading.pass }

-- three rows whose readings are sure are shown as they were read
pub sure_rows : (system : System) (slicing : Slicing) (rows : List ℕ) (marks : List Bool) (shown : List Recovered)
    (a b c : Reading) → IsRecovered system slicing rows marks shown → a ≡ row_reading system slicing rows 0
    → b ≡ row_reading system slicing rows 1 → c ≡ row_reading system slicing rows 2
    → IsSureBy a.outcome a.pass → IsSureBy b.outcome b.pass → IsSureBy c.outcome c.pass
    → shown ≡ as_read a ∷ as_read b ∷ as_read c ∷ []
sure_rows system slicing rows marks shown a b c (first, second, third, both, seen, e) one two three s t u =
    grind (arith, sure-shown)
