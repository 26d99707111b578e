-- How the numbers before a field follow each other, with one field more.
use Rattle.std.proofs.Common.{◌≡◌, ℕ, suc, ◌+◌, ◌<◌, List, length, get_or, arith}
use Rattle.std.specs.Prelude.{Some, ◌&&◌, if◌then◌else◌}
use Rattle.std.proofs.lemmas.Option.{slice_get-get_or}
use Rattle.vbi_whole.specs.Types.{Number}
use Rattle.vbi_side.specs.Numbers.{nothing}
use Rattle.vbi_whole.specs.NumbersOnBoth.{place_or, last_known, is_turn, is_odd, turns, odd_turns}

pub last_more : (answers : List Number) (k : ℕ) → k < length answers
    → place_or (last_known answers k) k (Some (get_or answers k nothing)) ≡ last_known answers (k + 1)
unfolding last_known
last_more answers k inside = grind (arith, slice_get-get_or)

pub turns_more : (answers : List Number) (k : ℕ) → k < length answers
    → (if is_turn (last_known answers k) (Some (get_or answers k nothing)) then suc (turns answers k)
    else turns answers k) ≡ turns answers (k + 1)
unfolding turns
turns_more answers k inside = grind (arith, slice_get-get_or)

pub odd_more : (answers : List Number) (k : ℕ) → k < length answers
    → (if is_turn (last_known answers k) (Some (get_or answers k nothing)) && is_odd (last_known answers k) k
    then suc (odd_turns answers k) else odd_turns answers k) ≡ odd_turns answers (k + 1)
unfolding odd_turns
odd_more answers k inside = grind (arith, slice_get-get_or)
