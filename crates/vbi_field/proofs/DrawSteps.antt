-- What a run of drawing keeps from row to row.
use Rattle.vbi_field.proofs.Common.{rules, ◌≡◌, ℕ, ◌+◌, ◌*◌, ◌≤◌, ◌<◌, inl, inr, [], ◌∷◌, ◌++◌, length, refl, sym, ap}
use Rattle.vbi_field.proofs.Common.{◌∙◌, arith, append_assoc, Result, Ok, Err, IsErrAnd, IsAtEnd, length-append}
use Rattle.vbi_field.proofs.Common.{flat_map-append, drawn_line_of, field_bytes, Pal, ConfigView, most_rows}
use Rattle.vbi_field.proofs.Common.{longest_row, tries, device_of, failures_of, NoError, HasCause, IsSameDevice, Outlet}
use Rattle.vbi_field.proofs.Common.{HasNoNewline, Fetches, TakesRow, RowIntake, newline, AreRows, rows_of, row_words}
use Rattle.vbi_field.proofs.Common.{WordRow, over, EndsRow, RunsDrawing, DrawFault, List, Option, Some, None}
use Rattle.std.proofs.lemmas.List.{append-nil}
use Rattle.vbi_field.specs.Outlet as outlets
use Rattle.vbi_field.specs.RowIntake as intakes
use Rattle.vbi_field.specs.RowIntake.{IsFresh}
use Rattle.vbi_field.specs.WordRows.{word_row_of}
use Rattle.vbi_field.specs.Draws.{draw_out, drawn_field_of}
use Rattle.vbi_field.specs.declared.row_intake.NextRow.TheVariants.{Row, LastRow}
use Rattle.vbi_field.specs.declared.drawing.DrawFault.TheVariants as faults
use Rattle.vbi_field.proofs.DrawnLemmas.{length-drawn_field_of}
use Rattle.vbi_field.proofs.RowSteps.{Fetches-none, Fetches-more}
use Rattle.vbi_field.proofs.Devices.{has_failed, inside_of, wrote_none, wrote_twice}
use Rattle.vbi_field.proofs.WordRowLemmas.{rows_of-line, rows_of-part, row_words-line, row_words-part, AreRows-more}

-- a field more
draw_out-more : (c : ConfigView) (rows : List WordRow) (words : WordRow)
    → draw_out c (rows ++ words ∷ []) ≡ draw_out c rows ++ drawn_field_of c words
unfolding draw_out
draw_out-more c rows words = grind (arith, flat_map-append, append-nil)

draw_out-none : (c : ConfigView) → draw_out c [] ≡ []
unfolding draw_out
draw_out-none c = refl

module _ {R W : Type 0} (remaining : R → Option (List ℕ)) (contents : W → Option (List ℕ)) (c : ConfigView)
    (i0 : RowIntake R) (o0 : Outlet W) where
  -- this number of rows were fetched and their fields written, and the line holds a drawn row of no word
  pub record Drawn (done : ℕ) (i : RowIntake R) (o : Outlet W) (line : List ℕ) : Type 0 where
    pub z : List ℕ
    pub rows : List WordRow
    pub fetches : Fetches remaining i0 i z
    pub fetched : i.fetched ≡ length z
    pub ends : EndsRow z
    pub well_formed : AreRows z rows
    pub count : length rows ≡ done
    pub long : length z ≤ longest_row * done
    pub reads : (failures_of (intakes.counted_of i)).all ≤ tries * longest_row * done
    pub wrote : outlets.Wrote contents o0 o (draw_out c rows)
    pub written : o.written ≡ length (draw_out c rows)
    pub small : o.written ≤ field_bytes Pal * done
    pub writes : (failures_of (outlets.counted_of o)).all ≤ tries * (o.written + most_rows * done)
    pub calm_reads : (failures_of (intakes.counted_of i)).errors ≡ 0
    pub calm_writes : (failures_of (outlets.counted_of o)).errors ≡ 0
    pub same_writer : IsSameDevice (outlets.counted_of o0) (outlets.counted_of o)
    pub black : line ≡ drawn_line_of c.system c.levels None

  pub start : (line : List ℕ) → IsFresh i0 → outlets.IsFresh o0 → line ≡ drawn_line_of c.system c.levels None
      → Drawn 0 i0 o0 line
  start line fresh clean black =
      let f = fresh.fetched in
      let n = fresh.failures in
      let w = clean.written in
      let m = clean.failures in
      let reader = i0.device in
      let writer = o0.device in
      record {
        z = [];
        rows = [];
        fetches = Fetches-none remaining i0;
        fetched = f;
        ends = inl refl;
        well_formed = refl;
        count = refl;
        long = omega arith;
        reads = omega arith;
        wrote = rw (draw_out-none c) (wrote_none contents o0);
        written = rw (draw_out-none c) w;
        small = omega arith;
        writes = omega arith;
        calm_reads = omega (arith, reader.failed);
        calm_writes = omega (arith, writer.failed);
        same_writer = refl;
        black = black;
      }

module _ {R W : Type 0} {remaining : R → Option (List ℕ)} {contents : W → Option (List ℕ)} {c : ConfigView}
    {i0 : RowIntake R} {o0 : Outlet W} {done : ℕ} {i : RowIntake R} {o : Outlet W} {line : List ℕ}
    (g : Drawn remaining contents c i0 o0 done i o line) where
  module _ (j : RowIntake R) (b : List ℕ) (f : Fetches remaining i j b) where
    pub fetches_more : Fetches remaining i0 j (g.z ++ b)
    fetches_more = Fetches-more remaining i0 i j g.z b g.fetches f

    pub fetched_more : j.fetched ≡ length (g.z ++ b)
    fetched_more = omega (arith, f.fetched, g.fetched, length-append g.z b)

  -- the rows with one more
  rows_count : (words : WordRow) → length (g.rows ++ words ∷ []) ≡ done + 1
  rows_count words = omega (arith, length-append g.rows (words ∷ []), g.count)

  -- ---- a good row was fetched, and its field is written, whole or in part

  module _ (j : RowIntake R) (b : List ℕ) (words : WordRow) (f : Fetches remaining i j b)
      (calm : NoError (intakes.counted_of i) (intakes.counted_of j))
      (one : rows_of b ≡ b ∷ []) (is : row_words b ≡ Some words) (few : done < c.max_fields) where
    well_formed_more : AreRows (g.z ++ b) (g.rows ++ words ∷ [])
    well_formed_more = AreRows-more g.z b g.rows words g.well_formed g.ends one is

    longer : length (draw_out c (g.rows ++ words ∷ [])) ≡ length (draw_out c g.rows) + length (drawn_field_of c words)
    longer = ap length (draw_out-more c g.rows words) ∙ length-append (draw_out c g.rows) (drawn_field_of c words)

    -- the writer failed
    write_failed : (p : Outlet W) (r : Result ℕ DrawFault) → outlets.WrotePart contents o p (drawn_field_of c words)
        → HasCause (outlets.counted_of o) (outlets.counted_of p) → IsErrAnd r (λ e. e ≡ faults.Write p.written)
        → RunsDrawing c (over remaining i0 j) (over contents o0 p) r
    write_failed p (Ok n) part cause e = absurd e
    write_failed p (Err fault) part cause e =
        let base = draw_out c g.rows in
        let all = fetches_more j b f in
        let wrote = part.wrote in
        let both = wrote_twice contents o0 o p base part.part g.wrote wrote in
        let w = wrote.written in
        let count : p.written ≡ length (base ++ part.part) = omega (arith, g.written, length-append base part.part) in
        record {
          z = g.z ++ b;
          text = base ++ part.part;
          consumed = all.consumed;
          appended = both.appended;
          fetched = fetched_more j b f;
          written = count;
          says = rw e (record {
            devices = (has_failed o.device p.device g.calm_writes cause, calm ∙ g.calm_reads);
            came = record {
              rows = g.rows;
              last = words;
              well_formed = well_formed_more;
              few = omega (arith, g.count);
              count = count;
              inside = inside_of contents o p base (drawn_field_of c words) (draw_out c (g.rows ++ words ∷ [])) part
                  (sym (draw_out-more c g.rows words));
            };
          });
        }

    module _ (p : Outlet W) (wrote : outlets.Wrote contents o p (drawn_field_of c words))
        (no_error : NoError (outlets.counted_of o) (outlets.counted_of p)) where
      wrote_more : outlets.Wrote contents o0 p (draw_out c (g.rows ++ words ∷ []))
      wrote_more = search (rules, draw_out-more, wrote_twice)

      written_more : p.written ≡ length (draw_out c (g.rows ++ words ∷ []))
      written_more = omega (arith, longer, g.written, wrote.written)

      -- the field is written, and the row was the last
      last_row : IsAtEnd (remaining (device_of (intakes.counted_of j)))
          → RunsDrawing c (over remaining i0 j) (over contents o0 p) (Ok (done + 1))
      last_row end = grind (arith, fetches_more, wrote_more, fetched_more, written_more, well_formed_more, rows_count)

      -- the field is written, and rows may follow
      next_row : (line : List ℕ) → IsSameDevice (outlets.counted_of o) (outlets.counted_of p)
          → line ≡ drawn_line_of c.system c.levels None → EndsRow (g.z ++ b)
          → length b ≤ longest_row
          → (failures_of (intakes.counted_of j)).all ≤ (failures_of (intakes.counted_of i)).all + tries * longest_row
          → (failures_of (outlets.counted_of p)).all
          ≤ (failures_of (outlets.counted_of o)).all + tries * (length (drawn_field_of c words) + most_rows)
          → Drawn remaining contents c i0 o0 (done + 1) j p line
      next_row line same black ends short reads writes =
          grind (
            arith,
            length-drawn_field_of,
            length-append,
            fetches_more,
            fetched_more,
            well_formed_more,
            rows_count,
            wrote_more,
            written_more,
          )

  -- ---- the same of a row with its newline, and of a last one without

  line_one : (b row : List ℕ) → HasNoNewline row → b ≡ row ++ newline ∷ [] → rows_of b ≡ b ∷ []
  line_one b row plain e = rw e (rows_of-line row plain)

  line_is : (b row : List ℕ) (words : WordRow) → HasNoNewline row → b ≡ row ++ newline ∷ []
      → word_row_of row ≡ Some words → row_words b ≡ Some words
  line_is b row words plain e w = rw e (row_words-line row plain ∙ w)

  line_ends : (b row : List ℕ) → b ≡ row ++ newline ∷ [] → EndsRow (g.z ++ b)
  line_ends b row e = inr (g.z ++ row, ap (λ (l : List ℕ). g.z ++ l) e ∙ sym (append_assoc g.z row (newline ∷ [])))

  module _ (j : RowIntake R) (words : WordRow) (t : TakesRow remaining i j (Row words)) (few : done < c.max_fields)
      (p : Outlet W) where
    pub row_failed : (r : Result ℕ DrawFault) → outlets.WrotePart contents o p (drawn_field_of c words)
        → HasCause (outlets.counted_of o) (outlets.counted_of p)
        → IsErrAnd r (λ e. e ≡ faults.Write p.written) → RunsDrawing c (over remaining i0 j) (over contents o0 p) r
    row_failed = search (rules, write_failed, line_one, line_is)

    pub row_drawn : (line : List ℕ) → outlets.Wrote contents o p (drawn_field_of c words)
        → NoError (outlets.counted_of o) (outlets.counted_of p)
        → IsSameDevice (outlets.counted_of o) (outlets.counted_of p)
        → (failures_of (outlets.counted_of p)).all
        ≤ (failures_of (outlets.counted_of o)).all + tries * (length (drawn_field_of c words) + most_rows)
        → line ≡ drawn_line_of c.system c.levels None → Drawn remaining contents c i0 o0 (done + 1) j p line
    row_drawn line wrote no_error same writes black = search (rules, next_row, line_one, line_is, line_ends)

  module _ (j : RowIntake R) (words : WordRow) (t : TakesRow remaining i j (LastRow words))
      (few : done < c.max_fields) (p : Outlet W) where
    pub last_row_failed : (r : Result ℕ DrawFault) → outlets.WrotePart contents o p (drawn_field_of c words)
        → HasCause (outlets.counted_of o) (outlets.counted_of p)
        → IsErrAnd r (λ e. e ≡ faults.Write p.written) → RunsDrawing c (over remaining i0 j) (over contents o0 p) r
    last_row_failed = search (rules, write_failed, rows_of-part, row_words-part)

    pub last_row_drawn : outlets.Wrote contents o p (drawn_field_of c words)
        → NoError (outlets.counted_of o) (outlets.counted_of p)
        → RunsDrawing c (over remaining i0 j) (over contents o0 p) (Ok (done + 1))
    last_row_drawn wrote no_error = grind (arith, last_row, rows_of-part, row_words-part)
