-- How a run of drawing ends where no field is written any more: the reader's end, its fault, a malformed row, or a byte
-- after the last row that is allowed.
use Rattle.vbi_field.proofs.Common.{◌≡◌, ℕ, ◌+◌, ◌≤◌, ◌<◌, inl, inr, [], ◌∷◌, ◌++◌, length, refl, ap, ◌∙◌, arith}
use Rattle.vbi_field.proofs.Common.{Result, Ok, Err, IsAtEnd, device_of, NoError, HasCause, Outlet, ConfigView}
use Rattle.vbi_field.proofs.Common.{longest_row, HasNoNewline, Fetches, TakesRow, TakesByte, RowIntake, newline}
use Rattle.vbi_field.proofs.Common.{rows_of, row_words, over, RunsDrawing, Malformed, DrawFault, ◌⊎◌, List, Option}
use Rattle.vbi_field.proofs.Common.{None}
use Rattle.vbi_field.specs.RowIntake as intakes
use Rattle.vbi_field.specs.WordRows.{word_row_of}
use Rattle.vbi_field.specs.Draws.{draw_out, Draws, counts_of}
use Rattle.vbi_field.specs.declared.row_intake.NextRow.TheVariants.{Failed}
use Rattle.vbi_field.specs.declared.row_intake.NextByte.TheVariants as bytes
use Rattle.vbi_field.specs.declared.drawing.DrawFault.TheVariants as faults
use Rattle.vbi_field.proofs.DrawSteps.{Drawn, fetches_more, fetched_more}
use Rattle.vbi_field.proofs.Devices.{has_failed}
use Rattle.vbi_field.proofs.WordRowLemmas.{rows_of-append, rows_of-line, rows_of-part, row_words-line, row_words-part}

module _ {R W : Type 0} {remaining : R → Option (List ℕ)} {contents : W → Option (List ℕ)} {c : ConfigView}
    {i0 : RowIntake R} {o0 : Outlet W} {done : ℕ} {i : RowIntake R} {o : Outlet W} {line : List ℕ}
    (g : Drawn remaining contents c i0 o0 done i o line) where
  -- the run ends with these bytes, and nothing more is written
  ends_here : (j : RowIntake R) (b : List ℕ) → Fetches remaining i j b → (result : Result ℕ DrawFault)
      → Draws c (remaining (device_of (intakes.counted_of j))) (counts_of j o) result (g.z ++ b) (draw_out c g.rows)
      → RunsDrawing c (over remaining i0 j) (over contents o0 o) result
  ends_here j b f result says =
      let all = fetches_more g j b f in
      let wrote = g.wrote in
      record {
        z = g.z ++ b;
        text = draw_out c g.rows;
        consumed = all.consumed;
        appended = wrote.appended;
        fetched = fetched_more g j b f;
        written = g.written;
        says = says;
      }

  -- the reader ended after whole rows
  ended : (j : RowIntake R) → Fetches remaining i j [] → NoError (intakes.counted_of i) (intakes.counted_of j)
      → IsAtEnd (remaining (device_of (intakes.counted_of j))) → done ≤ c.max_fields
      → RunsDrawing c (over remaining i0 j) (over contents o0 o) (Ok done)
  ended j f calm end few = grind arith

  -- the reader failed
  read_failed : (j : RowIntake R) (b : List ℕ) → Fetches remaining i j b → HasNoNewline b
      → HasCause (intakes.counted_of i) (intakes.counted_of j)
      → (done + 1 ≤ c.max_fields) ⊎ ((done + 1 ≡ c.max_fields + 1) × (b ≡ []))
      → RunsDrawing c (over remaining i0 j) (over contents o0 o) (Err (faults.Read (done + 1)))
  read_failed j b f plain cause few = ends_here j b f (Err (faults.Read (done + 1))) (record {
    devices = (has_failed i.device j.device g.calm_reads cause, g.calm_writes);
    came = record {
      before = g.z;
      part = b;
      rows = g.rows;
      both = refl;
      whole = g.ends;
      unfinished = plain;
      well_formed = g.well_formed;
      number_of = omega (arith, g.count);
      few = few;
      drawn = refl;
    };
  })

  -- a byte followed the last row that is allowed
  pub too_many : (j : RowIntake R) (byte : ℕ) → TakesByte remaining i j (bytes.Byte byte) → done ≡ c.max_fields
      → RunsDrawing c (over remaining i0 j) (over contents o0 o) (Err faults.TooManyFields)
  too_many j byte t last = ends_here j (byte ∷ []) t.fetches (Err faults.TooManyFields) (record {
    devices = (t.got ∙ g.calm_reads, g.calm_writes);
    came = record {
      before = g.z;
      byte = byte;
      rows = g.rows;
      both = refl;
      whole = g.ends;
      well_formed = g.well_formed;
      number_of = g.count ∙ last;
      drawn = refl;
    };
  })

  -- ---- a malformed row

  module _ (j : RowIntake R) (b : List ℕ) (f : Fetches remaining i j b)
      (calm : NoError (intakes.counted_of i) (intakes.counted_of j))
      (few : done < c.max_fields) where
    bad : rows_of b ≡ b ∷ [] → row_words b ≡ None
        → ((front : List ℕ) × (b ≡ front ++ newline ∷ [])) ⊎
        (IsAtEnd (remaining (device_of (intakes.counted_of j))) ⊎ (length b ≡ longest_row))
        → RunsDrawing c (over remaining i0 j) (over contents o0 o) (Err (faults.Row (done + 1)))
    bad one malformed read_to = ends_here j b f (Err (faults.Row (done + 1))) (record {
      devices = (calm ∙ g.calm_reads, g.calm_writes);
      came = record {
        before = g.z;
        row = b;
        rows = g.rows;
        both = refl;
        cut = rows_of-append g.z b g.ends ∙ ap (λ (l : List (List ℕ)). rows_of g.z ++ l) one;
        well_formed = g.well_formed;
        number_of = omega (arith, g.count);
        few = omega arith;
        malformed = malformed;
        read_to = read_to;
        drawn = refl;
      };
    })

    bad_as : (row : List ℕ) → HasNoNewline row → word_row_of row ≡ None
        → (b ≡ row ++ newline ∷ [])
        ⊎
        (((b ≡ row) × (0 < length row) × IsAtEnd (remaining (device_of (intakes.counted_of j))))
        ⊎ ((b ≡ row) × (length row ≡ longest_row)))
        → RunsDrawing c (over remaining i0 j) (over contents o0 o) (Err (faults.Row (done + 1)))
    bad_as row plain none (inl e) = grind (arith, bad, rows_of-line, row_words-line)
    bad_as row plain none (inr (inl e)) = grind (arith, bad, rows_of-part, row_words-part)
    bad_as row plain none (inr (inr e)) = grind (arith, bad, rows_of-part, row_words-part)

  pub bad_row : (j : RowIntake R) (t : TakesRow remaining i j Malformed) → done < c.max_fields
      → RunsDrawing c (over remaining i0 j) (over contents o0 o) (Err (faults.Row (done + 1)))
  bad_row j t few = bad_as j t.bytes t.fetches t.caused few t.got.row t.got.plain t.got.malformed t.got.read_to

  pub row_read_failed : (j : RowIntake R) (t : TakesRow remaining i j Failed) → done < c.max_fields
      → RunsDrawing c (over remaining i0 j) (over contents o0 o) (Err (faults.Read (done + 1)))
  row_read_failed j t few = read_failed j t.bytes t.fetches t.got t.caused (inl (omega arith))

  pub byte_read_failed : (j : RowIntake R) → TakesByte remaining i j bytes.Failed → (n : ℕ) → n ≡ c.max_fields
      → done ≡ n
      → RunsDrawing c (over remaining i0 j) (over contents o0 o) (Err (faults.Read (n + 1)))
  byte_read_failed j t n max last = grind (arith, read_failed)
