-- A run that fetched a whole row more: what is due with the row was written, or its writer failed.
use Rattle.vbi_field.proofs.Common.{◌≡◌, ℕ, ◌+◌, ◌*◌, ◌≤◌, ◌<◌, inl, inr, ◌++◌, length, take, drop, sym, ap, ◌∙◌, arith}
use Rattle.vbi_field.proofs.Common.{subst, cond, zero-le, add-zero, append_assoc, refl, Result, Ok, Err, IsErrAnd}
use Rattle.vbi_field.proofs.Common.{IsTrue, ◌↔◌, Summary, EndsInside, RunFault, Write, Consumes, Appends, over}
use Rattle.vbi_field.proofs.Common.{Appends-trans, Consumes-trans, length-append, length-drop, length-take-le}
use Rattle.vbi_field.proofs.Common.{take-append-drop, le_of_eq, le_trans, zero-mul, mul-le-mul_right, width_of}
use Rattle.vbi_field.proofs.Common.{height_of, line_bytes, field_bytes, Slicing, System, ConfigView, allowed_bytes, Pal}
use Rattle.vbi_field.proofs.Common.{Reading, fields_of, rest_of, looks_of, tries, device_of, failures_of, NoError}
use Rattle.vbi_field.proofs.Common.{HasCause, IsSameDevice, Outlet, Full, Intake, Runs, TakesLine, IsProgress, IsLineOf}
use Rattle.vbi_field.proofs.Common.{MovesOneRow, AddsRow, Progress, selected, ExtendsInPart, Kind, Bool, true, false}
use Rattle.vbi_field.proofs.Common.{List, Option}
use Rattle.vbi_line.specs.Intake as intakes
use Rattle.vbi_line.specs.OneReading.{ReadsLine}
use Rattle.vbi_field.specs.Outlet as outlets
use Rattle.vbi_field.specs.Texts.{text_before_tail}
use Rattle.vbi_field.proofs.Counts.{sizes_of, few_fields, bytes_of_next_field, rows_fit, whole_fields, past_fields}
use Rattle.vbi_field.proofs.Counts.{selected_is}
use Rattle.vbi_field.proofs.FeedTexts.{begun_same}
use Rattle.vbi_field.proofs.AddedRows.{fields_at, further}
use Rattle.vbi_field.proofs.Devices.{inside_of}
use Rattle.vbi_field.proofs.PullFaults.{write_fault}
use Rattle.vbi_field.proofs.Pulled.{Pulled}

-- a line has no more samples than this
narrow : (s : System) → width_of s ≤ line_bytes Pal
narrow s = let sizes = sizes_of s in omega arith

-- no more looks than a pass has
cond_le : (b : Bool) (x : ℕ) → x ≤ line_bytes Pal → cond b x 0 ≤ line_bytes Pal
cond_le true x le = le
cond_le false x le = zero-le

-- whole fields, and the last of them
record LastField (t : Kind) (c : ConfigView) (z b : List ℕ) : Type 0 where
  pub before : List ℕ
  pub last : List ℕ
  pub both : before ++ last ≡ z ++ b
  pub fields : rest_of c before ≡ 0
  pub field : length last ≡ field_bytes c.system
  pub begun : text_before_tail t c before ≡ text_before_tail t c z

-- where a row b after z ends a field
last_field : (t : Kind) (c : ConfigView) (z b : List ℕ) (p p' : Progress) → IsProgress c z p → IsProgress c (z ++ b) p'
    → p'.fields ≡ p.fields + 1 → p'.row ≡ 0 → LastField t c z b
last_field t c z b p p' at next fields row =
    let n : ℕ = p.fields * height_of c.system * line_bytes c.system in
    let tall : p.fields * height_of c.system ≤ p.fields * height_of c.system + p.row = omega arith in
    let within : n ≤ length z = le_trans (mul-le-mul_right (line_bytes c.system) tall) (le_of_eq (sym at.whole)) in
    let all : length (z ++ b) ≡ (p.fields + 1) * height_of c.system * line_bytes c.system =
    next.whole ∙ ap (λ k. k * line_bytes c.system) (rw (fields, row) (add-zero _)) in
    let long = bytes_of_next_field c.system p.fields in
    let m = length-take-le n z within in
    let d = length-drop n z in
    let whole : take n z ++ drop n z ≡ z = take-append-drop n z in
    let head : length (take n z) ≡ (p.fields * height_of c.system + 0) * line_bytes c.system + 0 =
    m ∙ ap (λ k. k * line_bytes c.system) (sym (add-zero _)) ∙ sym (add-zero _) in
    let sizes = sizes_of c.system in
    let some : 0 < height_of c.system = omega arith in
    let first : fields_of c (take n z) ≡ p.fields = whole_fields c.system _ p.fields 0 0 some sizes.some head in
    let both : fields_of c (take n z ++ drop n z) ≡ fields_of c (take n z) = ap (fields_of c) whole ∙ fields_at c z p at
    ∙ sym first in
    record {
      before = take n z;
      last = drop n z ++ b;
      both = sym (append_assoc (take n z) (drop n z) b) ∙ ap (λ l. l ++ b) whole;
      fields = past_fields c.system _ p.fields 0 0 some sizes.some head ∙ ap (λ k. k + 0) (zero-mul _);
      field = omega (arith, length-append (drop n z) b, length-append z b);
      begun = begun_same t c (take n z) (drop n z) both ∙ ap (text_before_tail t c) whole;
    }

-- what was taken, where the line has been read since
record Took {R : Type 0} (remaining : R → Option (List ℕ)) (i i' : Intake R) (bytes : List ℕ) : Type 0 where
  pub consumed : Consumes (remaining (device_of (intakes.counted_of i)))
      (remaining (device_of (intakes.counted_of i'))) bytes
  pub fetched : i'.fetched ≡ i.fetched + length bytes
  pub most : (failures_of (intakes.counted_of i')).all
      ≤ (failures_of (intakes.counted_of i)).all + tries * (length bytes + 1)
  pub no_error : NoError (intakes.counted_of i) (intakes.counted_of i')
  pub same : IsSameDevice (intakes.counted_of i) (intakes.counted_of i')

module _ {t : Kind} {R W : Type 0} {remaining : R → Option (List ℕ)} {contents : W → Option (List ℕ)} {c : ConfigView}
    {i0 : Intake R} {o0 : Outlet W} {k : ℕ} {i : Intake R} {o : Outlet W} {p : Progress}
    (g : Pulled t remaining contents c i0 o0 k i o p)
    {filled i' : Intake R} {is_selected : Bool} (selects : IsTrue is_selected ↔ ((15 ≤ p.row) × (p.row ≤ 17)))
    {reading : Option Reading} {levels : Slicing} (same_levels : levels ≡ c.levels)
    (row : TakesLine remaining i filled (Ok Full)) (line : ReadsLine levels is_selected filled.line i'.line reading)
    (reader : intakes.KeepsReader filled i') (named : IsSameDevice (intakes.counted_of i) (intakes.counted_of filled))
  where
    system : filled.line.system ≡ c.system
    system = let kept = row.fetches.kept in kept.system ∙ g.system

    took : Took remaining i i' row.bytes
    took = grind arith

    pub row_came : IsLineOf c row.bytes p.row reading
    row_came = grind arith

    looks_after : i'.line.looked ≡ width_of c.system * selected p.fields (p.row + 1)
    looks_after = grind arith

    -- what is due with the row was written
    pub step : (o' : Outlet W) (p' : Progress) → MovesOneRow c p p'
        → outlets.Rises o o' p.fields p'.fields
        → AddsRow t contents c o o' g.z row.bytes p' (Ok tt) → NoError (outlets.counted_of o) (outlets.counted_of o')
        → IsSameDevice (outlets.counted_of o) (outlets.counted_of o')
        → k + 1 ≤ c.max_fields * height_of c.system
        → (after : Pulled t remaining contents c i0 o0 (k + 1) i' o' p') × (after.z ≡ g.z ++ row.bytes)
    step o' p' next rises (position, added) no_error same_writer limit =
        let z : List ℕ = g.z ++ row.bytes in
        let l = length-append g.z row.bytes in
        let came = row_came.whole in
        let sizes = sizes_of c.system in
        let kept = row.fetches.kept in
        let looks = cond_le is_selected (width_of filled.line.system) (narrow filled.line.system) in
        let on = further c p p' i'.line.looked looks_after next in
        let rows : p'.fields * height_of c.system + p'.row ≡ k + 1 = on.rows ∙ ap (λ n. n + 1) g.rows in
        let wrote = added.wrote in
        let w = wrote.written in
        let m = ap length added.due in
        let n = length-append (text_before_tail t c g.z) added.text in
        let P : List ℕ → Type 0 = Appends (contents (device_of (outlets.counted_of o0)))
        (contents (device_of (outlets.counted_of o'))) in (
          record {
            z = z;
            consumed = Consumes-trans _ _ _ g.z row.bytes g.consumed took.consumed;
            fetched = omega (arith, took.fetched, g.fetched);
            long = omega (arith, g.long);
            reads = omega (arith, took.most, g.reads);
            appended =
                subst P added.due
                (Appends-trans _ _ _ (text_before_tail t c g.z) added.text g.appended wrote.appended);
            written = omega (arith, g.written);
            small = omega (arith, g.small, rises.written);
            writes = omega (arith, g.writes, rises.failures);
            calm_reads = took.no_error ∙ g.calm_reads;
            calm_writes = no_error ∙ g.calm_writes;
            at = position;
            rows = rows;
            few = few_fields c.system p'.fields p'.row c.max_fields (omega arith);
            system = line.system ∙ system;
            held = line.held;
            cursors = line.cursors;
            looked = omega (arith, line.looked, kept.looked, g.looked);
            looks = on.looks;
            same_reader = took.same ∙ g.same_reader;
            same_writer = same_writer ∙ g.same_writer;
          },
          refl,
        )

    -- the entry of the field that the row ends was put in part
    pub entry_fault : (o' : Outlet W) (p' : Progress) → MovesOneRow c p p' → p'.row ≡ 0
        → IsProgress c (g.z ++ row.bytes) p' → ExtendsInPart t contents c o o' g.z (g.z ++ row.bytes)
        → HasCause (outlets.counted_of o) (outlets.counted_of o')
        → k + 1 ≤ c.max_fields * height_of c.system → (r : Result Summary RunFault)
        → IsErrAnd r (λ e. e ≡ Write o'.written) → Runs t c (over remaining i0 i') (over contents o0 o') r
    entry_fault o' p' next first after added cause limit (Ok s) fails = absurd fails
    entry_fault o' p' next first after added cause limit (Err fault) fails =
        let z : List ℕ = g.z ++ row.bytes in
        let l = length-append g.z row.bytes in
        let on = further c p p' i'.line.looked looks_after next in
        let rows : p'.fields * height_of c.system + p'.row ≡ k + 1 = on.rows ∙ ap (λ n. n + 1) g.rows in
        let long : length z ≡ (k + 1) * line_bytes c.system = after.whole ∙ ap (λ n. n * line_bytes c.system) rows in
        let within : length z ≤ allowed_bytes c =
        le_trans (le_of_eq long) (rows_fit c.system (k + 1) c.max_fields limit) in
        let looks : i'.line.looked ≡ looks_of c z =
        on.looks ∙ ap (λ n. width_of c.system * n)
        (sym
        (selected_is c.system (length z) p'.fields p'.row 0 after.inside (sizes_of c.system).some
        (after.whole ∙ sym (add-zero _)))) in
        let due = last_field t c g.z row.bytes p p' g.at after (next_fields p p' next first) first in
        let w = added.wrote in
        let P : List ℕ → Type 0 = λ b. EndsInside b (text_before_tail t c z) (text_before_tail t c g.z ++ w.part) in
        write_fault t remaining contents c i0 o0 i' o o' z (text_before_tail t c g.z) w.part fault
        (Consumes-trans _ _ _ g.z row.bytes g.consumed took.consumed) (omega (arith, took.fetched, g.fetched))
        g.appended g.written (took.no_error ∙ g.calm_reads) g.calm_writes w.wrote cause fails within looks
        (inr (inl (
          due.before,
          due.last,
          due.both,
          due.fields,
          due.field,
          subst P (sym due.begun)
              (inside_of contents o o' (text_before_tail t c g.z) added.text (text_before_tail t c z) w added.due),
        )))
      where
        next_fields : (p p' : Progress) → MovesOneRow c p p' → p'.row ≡ 0 → p'.fields ≡ p.fields + 1
        next_fields p p' (inl (fields, row)) first = absurd (omega arith)
        next_fields p p' (inr (fields, row, last)) first = fields
