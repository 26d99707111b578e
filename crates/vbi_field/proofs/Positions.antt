-- The position to which a stream has come, and its whole rows.
use Rattle.vbi_field.proofs.Common.{◌≡◌, ℕ, ◌+◌, ◌-◌, ◌*◌, ◌/◌, ◌%◌, ◌≤◌, ◌<◌, ◌++◌, length, take, drop, sym, ap, ◌∙◌}
use Rattle.vbi_field.proofs.Common.{arith, length-append, take-append-drop, le_trans, le_of_eq, mul-le-mul_right}
use Rattle.vbi_field.proofs.Common.{height_of, line_bytes, ConfigView, allowed_bytes, Line, IsAt, position_in}
use Rattle.vbi_field.proofs.Common.{reading_among, fields_of, rest_of, reading_at, IsProgress, Progress, List}
use Rattle.std.proofs.lemmas.Nat.{div-mul-add, mod-mul-add}
use Rattle.std.proofs.Math.Seq.{drop_at}
use Rattle.vbi_field.proofs.Counts.{bytes_of_rows, whole_fields, past_fields}
use Rattle.vbi_field.proofs.Growing.{reading_at-more, among_same}

-- z is whole rows and the bytes that are held
pub record Split (c : ConfigView) (z held : List ℕ) (p : Progress) : Type 0 where
  pub rows : List ℕ
  pub split : z ≡ rows ++ held
  pub position : IsProgress c rows p
  pub short : length held < line_bytes c.system

module _ (c : ConfigView) (z held : List ℕ) (p : Progress) (s : Split c z held p) where
  -- how long it is
  pub split_long : length z ≡ (p.fields * height_of c.system + p.row) * line_bytes c.system + length held
  split_long = grind (arith, length-append)

  pub split_fields : fields_of c z ≡ p.fields
  split_fields = grind (arith, whole_fields, split_long)

  pub split_rest : rest_of c z ≡ p.row * line_bytes c.system + length held
  split_rest = grind (arith, past_fields, split_long)

  pub split_rows : rest_of c z / line_bytes c.system ≡ p.row
  split_rows = grind (arith, split_rest, div-mul-add)

  split_held : held ≡ drop (length z - rest_of c z % line_bytes c.system) z
  split_held = grind (arith, split_rest, mod-mul-add, length-append, drop_at)

  -- the reading of a row that has come
  stays : (r : ℕ) → r < p.row → reading_at c z p.fields r ≡ reading_at c s.rows p.fields r
  stays r lt = grind (arith, reading_at-more, le_trans, mul-le-mul_right, le_of_eq)

  -- that of a row which may not have come yet
  split_reading : (r : ℕ) → reading_among c s.rows p.fields p.row r
      ≡ reading_among c z (fields_of c z) (rest_of c z / line_bytes c.system) r
  split_reading r = grind (arith, among_same, stays, split_rows, split_fields)

  -- so its position is that of the line and the progress
  pub at_of : (l : Line) → l.held ≡ held → length z ≤ allowed_bytes c → IsAt c z (position_in c l p)
  at_of l e le = grind (arith, split_fields, split_rest, split_held, split_reading)

-- what has come to a position is whole rows and the bytes that are held
pub split_of : (c : ConfigView) (z : List ℕ) (l : Line) (p : Progress) → length l.held < line_bytes c.system
    → p.row < height_of c.system
    → IsAt c z (position_in c l p) → Split c z l.held p
split_of c z l p short inside at =
    let n = length z - rest_of c z % line_bytes c.system in
    let rows : List ℕ = take n z in
    let fields : p.fields ≡ fields_of c z = ap (λ q. q.fields) at.position in
    let rest : p.row * line_bytes c.system + length l.held ≡ rest_of c z = ap (λ q. q.rest) at.position in
    let held : l.held ≡ drop n z = ap (λ q. q.held) at.position in
    let split : z ≡ rows ++ l.held = sym (take-append-drop n z) ∙ ap (λ h. take n z ++ h) (sym held) in
    let long : length z ≡ length rows + length l.held = ap length split ∙ length-append rows l.held in
    let whole : length rows ≡ (p.fields * height_of c.system + p.row) * line_bytes c.system =
    bytes_of_rows c.system (length z) (length rows) p.fields p.row (length l.held) fields rest long in
    let past : rest_of c z / line_bytes c.system ≡ p.row =
    ap (λ m. m / line_bytes c.system) (sym rest) ∙ div-mul-add p.row (line_bytes c.system) (length l.held) short in
    let stays : (r : ℕ) → r < p.row → reading_at c z p.fields r ≡ reading_at c rows p.fields r = λ r lt.
    (ap (λ h. reading_at c h p.fields r) split
    ∙ reading_at-more c rows l.held p.fields r
    (le_trans (mul-le-mul_right {m = p.fields * height_of c.system + r + 1} (line_bytes c.system) (omega arith))
    (le_of_eq (sym whole)))) in
    let reading : (r : ℕ) → reading_among c z (fields_of c z) (rest_of c z / line_bytes c.system) r
    ≡ reading_among c rows p.fields p.row r = λ r.
    ap (λ n. reading_among c z (fields_of c z) n r) past ∙ ap (λ n. reading_among c z n p.row r) (sym fields)
    ∙ among_same c z rows p.fields p.row r (stays r) in
    record {
      rows = rows;
      split = split;
      position = record {
        whole = whole;
        inside = inside;
        first = ap (λ q. q.first) at.position ∙ reading 15;
        second = ap (λ q. q.second) at.position ∙ reading 16;
        third = ap (λ q. q.third) at.position ∙ reading 17;
      };
      short = short;
    }
