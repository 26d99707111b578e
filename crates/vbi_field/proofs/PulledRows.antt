-- What a run keeps from row to row, with the bytes of rows that are kept.
use Rattle.vbi_field.proofs.Common.{◌≡◌, ℕ, ◌+◌, ◌++◌, length, ap, ◌∙◌, arith, IsTrue, Ok, ConfigView, height_of}
use Rattle.vbi_field.proofs.Common.{Outlet, Intake, Progress, HoldsRows, HoldsOn, IsLineOf, MovesOneRow, Reading}
use Rattle.vbi_field.proofs.Common.{rows_in, rows_at, TakesLine, Full, Kind, List, Option, Bool}
use Rattle.vbi_field.proofs.HeldRows.{holds_more, holds_field, holds_next, tall}
use Rattle.vbi_field.proofs.Pulled.{Pulled}

pub record PulledRows (t : Kind) {R W : Type 0} (remaining : R → Option (List ℕ)) (contents : W → Option (List ℕ))
    (c : ConfigView) (i0 : Intake R) (o0 : Outlet W) (k : ℕ) (i : Intake R) (o : Outlet W) (p : Progress)
    (keeps : Bool) (before held : List ℕ) : Type 0 where
  pub pulled : Pulled t remaining contents c i0 o0 k i o p
  pub long : length held ≡ length before
  pub holds : IsTrue keeps → HoldsRows c pulled.z p.fields p.row held

module _ {t : Kind} {R W : Type 0} {remaining : R → Option (List ℕ)} {contents : W → Option (List ℕ)} {c : ConfigView}
    {i0 : Intake R} {o0 : Outlet W} {k : ℕ} {i : Intake R} {o : Outlet W} {p : Progress}
    (g : Pulled t remaining contents c i0 o0 k i o p) {filled : Intake R} (row : TakesLine remaining i filled (Ok Full))
  where
    line_held : filled.line.held ≡ row.bytes
    line_held = row.fetches.held ∙ ap (λ (l : List ℕ). l ++ row.bytes) g.held

    -- the row was put in its place
    pub holds_kept : {keeps : Bool} {reading : Option Reading} {held now : List ℕ} → IsLineOf c row.bytes p.row reading
        → (IsTrue keeps → HoldsRows c g.z p.fields p.row held)
        → (IsTrue keeps → HoldsOn c.system p.row filled.line.held held now)
        → IsTrue keeps → HoldsRows c (g.z ++ row.bytes) p.fields (p.row + 1) now
    holds_kept {keeps} {reading} {held} {now} came was on kept = grind (arith, holds_more, line_held)

    -- at its field's end all three are held
    pub kept_field : {keeps : Bool} {now : List ℕ}
        → (IsTrue keeps → HoldsRows c (g.z ++ row.bytes) p.fields (p.row + 1) now) → IsTrue keeps
        → p.row + 1 ≡ height_of c.system → rows_in c.system now ≡ rows_at c (g.z ++ row.bytes) p.fields
    kept_field more kept ends = grind (arith, holds_field, tall)

    pub kept_next : {keeps : Bool} {now z : List ℕ} (p' : Progress) → z ≡ g.z ++ row.bytes
        → (IsTrue keeps → HoldsRows c (g.z ++ row.bytes) p.fields (p.row + 1) now) → IsTrue keeps → MovesOneRow c p p'
        → HoldsRows c z p'.fields p'.row now
    kept_next {keeps} {now} {z} p' e more kept next = grind (arith, holds_next)
