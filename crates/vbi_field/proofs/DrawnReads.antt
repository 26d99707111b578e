-- A drawn field is read as the words that were drawn.
use Rattle.vbi_field.proofs.Common.{◌≡◌, ℕ, zero, suc, ◌+◌, ◌*◌, ◌<◌, List, [], ◌∷◌, ◌++◌, length, take, drop, sym, ap}
use Rattle.vbi_field.proofs.Common.{subst, ◌∙◌, arith, append_assoc, Some, slice_get, row_levels, line_at, IsWordOrNone}
use Rattle.std.proofs.Math.Nat.{mul_comm, suc-mul, zero-mul}
use Rattle.std.proofs.lemmas.List.{take_at, drop_at, drop-drop}
use Rattle.vbi_field.specs.ConfigView.{height_of, line_bytes, field_bytes, ConfigView}
use Rattle.vbi_words.specs.Drawn.{drawn_line_of, drawn_reading}
use Rattle.vbi_words.specs.Readings.{IsReading}
use Rattle.vbi_words.proofs.DrawnLines.{length-drawn_line_of, drawn_reads}
use Rattle.vbi_field.specs.declared.word_row.WordRow.{WordRow}
use Rattle.vbi_field.specs.Draws.{word_at, drawn_field_of, draw_out, AreDrawable, drawn_readings}
use Rattle.vbi_field.specs.Texts.{RowReads, FieldReads}
use Rattle.vbi_field.proofs.Counts.{sizes_of}
use Rattle.vbi_field.proofs.DrawnLemmas.{length-drawn_field_of, drawn_rows_of, length-drawn_rows_of, drawn_rows_of-more}
use Rattle.vbi_field.proofs.DrawnLemmas.{drawn_rows_of-split}

-- ---- one row of a stream

-- the stream from a field on begins with that field
field_at : (c : ConfigView) (rows : List WordRow) (i : ℕ) (words : WordRow) → slice_get rows i ≡ Some words
    → (rest : List ℕ) × (drop (i * field_bytes c.system) (draw_out c rows) ≡ drawn_field_of c words ++ rest)
unfolding draw_out
field_at c [] i words e = cc
field_at c (row ∷ rows) zero words e =
    let same : row ≡ words = cc in (
      draw_out c rows,
      ap (λ (n : ℕ). drop n (drawn_field_of c row ++ draw_out c rows)) (zero-mul (field_bytes c.system))
          ∙ ap (λ (w : WordRow). drawn_field_of c w ++ draw_out c rows) same,
    )
field_at c (row ∷ rows) (suc i) words e =
    let later = field_at c rows i words e in
    let size : suc i * field_bytes c.system ≡ field_bytes c.system + i * field_bytes c.system =
    omega (arith, suc-mul i (field_bytes c.system)) in
    let field = drawn_field_of c row in (
      later.0,
      ap (λ (n : ℕ). drop n (field ++ draw_out c rows)) size
          ∙ sym (drop-drop (i * field_bytes c.system) (field_bytes c.system) (field ++ draw_out c rows))
          ∙ ap (drop (i * field_bytes c.system))
          (drop_at field (draw_out c rows) (field_bytes c.system) (length-drawn_field_of c row))
          ∙ later.1,
    )

line_at-draw_out : (c : ConfigView) (rows : List WordRow) (i r : ℕ) (words : WordRow) → slice_get rows i ≡ Some words
    → r < height_of c.system
    → line_at c.system (draw_out c rows) i r ≡ drawn_line_of c.system c.levels (word_at words r)
line_at-draw_out c rows i r words e inside =
    let field = field_at c rows i words e in
    let line = drawn_line_of c.system c.levels (word_at words r) in
    let split = drawn_rows_of-split c words (r + 1) (omega arith) in
    let before = drawn_rows_of c words r in
    let long : length before ≡ line_bytes c.system * r =
    length-drawn_rows_of c words r ∙ mul_comm r (line_bytes c.system) in
    let whole : drawn_field_of c words ++ field.0 ≡ before ++ (line ++ (split.0 ++ field.0)) =
    ap (λ (l : List ℕ). l ++ field.0) (split.1 ∙ ap (λ (l : List ℕ). l ++ split.0) (drawn_rows_of-more c words r))
    ∙ append_assoc (before ++ line) split.0 field.0 ∙ append_assoc before line (split.0 ++ field.0) in
    ap (take (line_bytes c.system)) (
    sym (drop-drop (line_bytes c.system * r) (i * field_bytes c.system) (draw_out c rows))
    ∙ ap (drop (line_bytes c.system * r)) (field.1 ∙ whole)
    ∙ drop_at before (line ++ (split.0 ++ field.0)) (line_bytes c.system * r) long
    )
    ∙ take_at line (split.0 ++ field.0) (line_bytes c.system) (length-drawn_line_of c.system c.levels (word_at words r))

-- the row is read as its word
row_reads : (c : ConfigView) (rows : List WordRow) (i r : ℕ) (words : WordRow) → c.levels.black < c.levels.white
    → slice_get rows i ≡ Some words → r < height_of c.system → IsWordOrNone (word_at words r)
    → RowReads c (draw_out c rows) i r (drawn_reading (word_at words r))
row_reads c rows i r words order e inside is =
    let P : List ℕ → Type 0 = λ l. IsReading c.system (row_levels c.levels l) (drawn_reading (word_at words r)) in
    subst P (sym (line_at-draw_out c rows i r words e inside))
    (drawn_reads c.system c.levels (word_at words r) order is)

pub drawn_field : (c : ConfigView) (rows : List WordRow) (i : ℕ) (words : WordRow) → c.levels.black < c.levels.white
    → slice_get rows i ≡ Some words → AreDrawable words → FieldReads c (draw_out c rows) i (drawn_readings words)
drawn_field c rows i words order e are =
    let sizes = sizes_of c.system in
    record {
      first = row_reads c rows i 15 words order e (omega arith) are.first;
      second = row_reads c rows i 16 words order e (omega arith) are.second;
      third = row_reads c rows i 17 words order e (omega arith) are.third;
    }
