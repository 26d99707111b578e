-- What is written with a whole row.
use Rattle.vbi_field.proofs.Common.{◌≡◌, ℕ, ◌+◌, ◌*◌, ◌<◌, ◌++◌, length, arith, add-zero, Result, Err, Ok, width_of}
use Rattle.vbi_field.proofs.Common.{height_of, ConfigView, written_of, Puts, Outlet, IsProgress, MovesOneRow, AddsRow}
use Rattle.vbi_field.proofs.Common.{Progress, fields_of, rows_at, FieldRows, selected, IsTextBetween, joined_entry_of}
use Rattle.vbi_field.proofs.Common.{Kind, RunFault, List, append-nil, Option}
use Rattle.std.specs.Prelude.{IsErr}
use Rattle.vbi_field.proofs.Counts.{whole_fields}
use Rattle.vbi_field.proofs.Devices.{wrote_none, wrote_whole, put_in_part}
use Rattle.vbi_field.proofs.FeedTexts.{begun_same, begun_next}

-- the whole fields of whole rows
pub fields_at : (c : ConfigView) (z : List ℕ) (p : Progress) → IsProgress c z p → fields_of c z ≡ p.fields
fields_at c z p at = grind (arith, whole_fields, add-zero)

-- the number of rows, and the looks, one row further
pub record Further (c : ConfigView) (p p' : Progress) (looked : ℕ) : Type 0 where
  pub rows : p'.fields * height_of c.system + p'.row ≡ p.fields * height_of c.system + p.row + 1
  pub looks : looked ≡ width_of c.system * selected p'.fields p'.row

pub further : (c : ConfigView) (p p' : Progress) (looked : ℕ)
    → looked ≡ width_of c.system * selected p.fields (p.row + 1)
    → MovesOneRow c p p' → Further c p p' looked
further c p p' looked before h = grind arith

module _ (t : Kind) {W : Type 0} (contents : W → Option (List ℕ)) (o o' : Outlet W) {c : ConfigView} {z : List ℕ}
    {p : Progress} (at : IsProgress c z p) (b : List ℕ) {p' : Progress} (next : IsProgress c (z ++ b) p') where
  -- no field is whole now, and nothing is due
  pub added_inside : p'.fields ≡ p.fields → AddsRow t contents c o o z b p' (Ok tt)
  added_inside same = grind (arith, append-nil, begun_same, fields_at, wrote_none)

  module _ (fields : p'.fields ≡ p.fields + 1) (rows : FieldRows)
      (reads : rows ≡ rows_at c (z ++ b) p.fields)
      (before : ℕ) (counts : before ≡ p.fields) (text : List ℕ) (is : text ≡ joined_entry_of t c before rows) where
    -- the entry of a field is due
    entry_due : IsTextBetween t c z (z ++ b) text
    entry_due = grind (arith, fields_at, begun_next)

    -- the entry was put whole
    pub added_whole : Puts contents o o' text → written_of o' ≡ written_of o + length text
        → AddsRow t contents c o o' z b p' (Ok tt)
    added_whole puts whole = grind (arith, entry_due, wrote_whole)

    -- the entry was put in part, so the answer is a fault
    pub added_in_part : Puts contents o o' text → written_of o' < written_of o + length text
        → (r : Result (Unit {0}) RunFault) → IsErr r → AddsRow t contents c o o' z b p' r
    added_in_part puts short (Ok u) is = cc
    added_in_part puts short (Err fault) is = grind (arith, entry_due, put_in_part)
