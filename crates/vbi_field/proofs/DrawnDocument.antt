-- The text of a drawn stream.
use Rattle.vbi_field.proofs.Common.{◌≡◌, ℕ, ◌+◌, ◌*◌, ◌/◌, ◌%◌, ◌<◌, [], ◌∷◌, ◌++◌, length, refl, sym, ◌∙◌, arith}
use Rattle.vbi_field.proofs.Common.{join_by, range_with_len, length-append, zero-mul, suc-mul, field_bytes, System}
use Rattle.vbi_field.proofs.Common.{ConfigView, Ntsc, Pal, drawn_readings, fields_of, rest_of, whole_text, ReadingKind}
use Rattle.vbi_field.proofs.Common.{by, AreRows, WordRow, List}
use Rattle.std.specs.Prelude.{slice_index_or}
use Rattle.std.proofs.lemmas.Option.{slice_get-get_or}
use Rattle.vbi_field.specs.Draws.{draw_out, drawn_field_of, drawn_text, no_words}
use Rattle.vbi_field.proofs.DrawnLemmas.{length-drawn_field_of}
use Rattle.vbi_field.proofs.DrawnReads.{drawn_field}
use Rattle.vbi_field.proofs.OneDocument.{one_document}
use Rattle.vbi_field.proofs.WordRowLaw.{rows_drawable}

pub length-draw_out : (c : ConfigView) (rows : List WordRow)
    → length (draw_out c rows) ≡ length rows * field_bytes c.system
unfolding draw_out
length-draw_out c [] = sym (zero-mul (field_bytes c.system))
length-draw_out c (row ∷ rows) =
    length-append (drawn_field_of c row) (draw_out c rows)
    ∙ omega (arith, length-drawn_field_of c row, length-draw_out c rows, suc-mul (length rows) (field_bytes c.system))

-- the fields of whole fields, and no bytes past them
all_fields : (s : System) (n k : ℕ) → n ≡ k * field_bytes s → n / field_bytes s ≡ k
all_fields Ntsc n k e = omega arith
all_fields Pal n k e = omega arith

no_rest : (s : System) (n k : ℕ) → n ≡ k * field_bytes s → n % field_bytes s ≡ 0
no_rest Ntsc n k e = omega arith
no_rest Pal n k e = omega arith

pub drawn_document : (t : ReadingKind) (c : ConfigView) (text : List ℕ) (rows : List WordRow)
    → c.levels.black < c.levels.white
    → AreRows text rows → whole_text (by t) c (draw_out c rows) ≡ drawn_text t c rows
drawn_document t c text rows order are =
    let z = draw_out c rows in
    let whole : fields_of c z ≡ length rows = all_fields c.system _ _ (length-draw_out c rows) in
    let none : rest_of c z ≡ 0 = no_rest c.system _ _ (length-draw_out c rows) in
    sym ((one_document t c z (drawn_text t c rows)).0 (
      λ i. drawn_readings (slice_index_or rows i no_words),
      λ i lt.
          let is = slice_get-get_or rows i no_words (omega arith) in
          drawn_field c rows i (slice_index_or rows i no_words) order is
          (rows_drawable text rows i (slice_index_or rows i no_words) are is),
      same z whole none,
    ))
  where
    same : (z : List ℕ) → fields_of c z ≡ length rows → rest_of c z ≡ 0 → drawn_text t c rows
        ≡ t.head c
        ++ join_by (λ i. t.entry (i + 1) (drawn_readings (slice_index_or rows i no_words))) t.joint
        (range_with_len 0 (fields_of c z))
        ++ t.tail (fields_of c z) (rest_of c z)
    same z whole none = rw (whole, none) refl
