use Rattle.std.proofs.Common.{List, ap, refl, sym, get_or}
use Rattle.vbi_near.specs.declared.recovery.Recovered.{Recovered}
use Rattle.vbi_near.specs.Recovery.{field_line, row_at, are_open, stands_by}
use Rattle.vbi_near.proofs.{Common.unit_of, Ahead.said-ahead, Ahead.first-shown, Ahead.other-shown}
use Rattle.vbi_near.proofs.laws.recovered_costs.Goals as goal

pub returns-clause-lines : goal.returns-clause-lines
returns-clause-lines c = said-ahead

pub returns-clause-first : goal.returns-clause-first
returns-clause-first c system slicing rows erased second third word (a, b, d, both, seen, e) =
    first-shown (field_line system slicing rows erased 0) a both word seen.line_16
    (sym (ap (λ (list : List Recovered). get_or list 0 second) e))

pub returns-clause-second : goal.returns-clause-second
returns-clause-second c system slicing rows erased first third word (a, b, d, both, seen, e) =
    let unit = unit_of slicing in
    other-shown (field_line system slicing rows erased 1) (field_line system slicing rows erased 1)
    (row_at system rows erased 2) b (are_open unit b d) (stands_by unit b.near d.near both) both word refl seen.line_17
    seen.pair (sym (ap (λ (list : List Recovered). get_or list 1 first) e))

pub returns-clause-third : goal.returns-clause-third
returns-clause-third c system slicing rows erased first second word (a, b, d, both, seen, e) =
    let unit = unit_of slicing in
    other-shown (field_line system slicing rows erased 2) (field_line system slicing rows erased 1)
    (row_at system rows erased 2) d (are_open unit b d) (stands_by unit b.near d.near both) both word refl seen.line_18
    seen.pair (sym (ap (λ (list : List Recovered). get_or list 2 first) e))
