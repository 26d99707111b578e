-- The bytes of rows 15, 16 and 17 while a stream grows.
use Rattle.vbi_field.proofs.Common.{◌≡◌, ℕ, ◌+◌, ◌-◌, ◌*◌, ◌≤◌, ◌<◌, inl, inr, ◌++◌, length, take, drop, sym, ap, ◌∙◌}
use Rattle.vbi_field.proofs.Common.{arith, append_assoc, length-append, length-drop, length-take-le, take-append-drop}
use Rattle.vbi_field.proofs.Common.{take_all, drop-drop, joined_rows, eq-or-lt_of_le, mul-le-mul_right, height_of}
use Rattle.vbi_field.proofs.Common.{line_bytes, field_bytes, System, ConfigView, Ntsc, Pal, line_at, rows_at, rows_in}
use Rattle.vbi_field.proofs.Common.{HoldsRows, HoldsOn, IsKept, MovesOneRow, Progress, ◌⊎◌, List}
use Rattle.std.proofs.lemmas.Bool.{cases_lt}
use Rattle.std.proofs.lemmas.List.{drop_at}
use Rattle.vbi_field.proofs.Growing.{line_at-more, line_at-new}

module _ (c : ConfigView) (z b : List ℕ) (i row : ℕ) (held now : List ℕ)
    (long : length z ≡ (i * height_of c.system + row) * line_bytes c.system)
    (whole : length b ≡ line_bytes c.system) where
  placed : (r at : ℕ) → (r < row → line_at c.system held 0 at ≡ line_at c.system z i r)
      → IsKept r row b (line_at c.system held 0 at) (line_at c.system now 0 at) → r < row + 1
      → line_at c.system now 0 at ≡ line_at c.system (z ++ b) i r
  placed r at before kept less = go (eq-or-lt_of_le {n = r} {m = row} (omega arith))
    where
      go : (r ≡ row) ⊎ (r < row) → line_at c.system now 0 at ≡ line_at c.system (z ++ b) i r
      go (inl e) =
          let here : length z ≡ (i * height_of c.system + r) * line_bytes c.system = long
          ∙ ap (λ k. (i * height_of c.system + k) * line_bytes c.system) (sym e) in
          kept.0 (sym e) ∙ sym (line_at-new c.system z b i r here whole)
      go (inr k) = grind (arith, mul-le-mul_right, before, line_at-more)

  pub holds_more : HoldsRows c z i row held → HoldsOn c.system row b held now → HoldsRows c (z ++ b) i (row + 1) now
  holds_more was on = grind (arith, placed)

-- a whole field's
pub holds_field : (c : ConfigView) (z : List ℕ) (i rows : ℕ) (held : List ℕ) → HoldsRows c z i rows held → 17 < rows
    → rows_in c.system held ≡ rows_at c z i
holds_field c z i rows held holds all = grind arith

-- none yet
pub holds_none : (c : ConfigView) (z : List ℕ) (i row : ℕ) (held : List ℕ) → row ≡ 0 → HoldsRows c z i row held
holds_none c z i row held e = grind arith

-- one row further
pub holds_next : (c : ConfigView) (z : List ℕ) (p p' : Progress) (held : List ℕ)
    → HoldsRows c z p.fields (p.row + 1) held → MovesOneRow c p p' → HoldsRows c z p'.fields p'.row held
holds_next c z p p' held holds (inl (fields, row)) = rw (fields, row) holds
holds_next c z p p' held holds (inr (fields, row, last)) = holds_none c z p'.fields p'.row held row

-- a field has rows past these
pub tall : (s : System) → 17 < height_of s
tall Ntsc = omega arith
tall Pal = omega arith

-- ---- a row that is copied over the bytes of its place

module _ (s : System) (held b : List ℕ) (r : ℕ) (small : r ≤ 2) (room : 3 * line_bytes s ≤ length held)
    (whole : length b ≡ line_bytes s) where
  abbrev from : ℕ
  from = line_bytes s * r

  abbrev spliced : List ℕ
  spliced = take from held ++ (b ++ drop (from + length b) held)

  within : from + length b ≤ length held
  within = grind (arith, small, room, whole)

  long-first : length (take from held) ≡ from
  long-first = length-take-le from held (omega (arith, within))

  again : spliced ≡ (take from held ++ b) ++ drop (from + length b) held
  again = sym (append_assoc (take from held) b (drop (from + length b) held))

  times-row : (0 * height_of s + r) * line_bytes s ≡ from
  times-row = grind arith

  here : line_at s spliced 0 r ≡ b
  here = grind (arith, again, line_at-more, length-append, long-first, times-row, line_at-new)

  before : (q : ℕ) → q < r → line_at s spliced 0 q ≡ line_at s held 0 q
  before q less =
      let fits : (0 * height_of s + q + 1) * line_bytes s ≤ length (take from held) = grind (arith, long-first, less) in
      line_at-more s (take from held) (b ++ drop (from + length b) held) 0 q fits
      ∙ sym (line_at-more s (take from held) (drop from held) 0 q fits)
      ∙ ap (λ (l : List ℕ). line_at s l 0 q) (take-append-drop from held)

  behind : (q : ℕ) → r < q → line_at s spliced 0 q ≡ line_at s held 0 q
  behind q less =
      let m : ℕ = from + length b in
      let k : ℕ = 0 * field_bytes s + line_bytes s * q - m in
      let e : 0 * field_bytes s + line_bytes s * q ≡ m + k = grind (arith, less, whole) in
      let long : length (take from held ++ b) ≡ m
      = length-append (take from held) b ∙ ap (λ n. n + length b) long-first in
      ap (take (line_bytes s)) (ap (λ n. drop n spliced) e
      ∙ ap (drop (m + k)) again
      ∙ sym (drop-drop k m ((take from held ++ b) ++ drop m held))
      ∙ ap (drop k) (drop_at (take from held ++ b) (drop m held) m long)
      ∙ drop-drop k m held
      ∙ ap (λ n. drop n held) (sym e))

  held_at : (row q : ℕ) → row ≡ 15 + r → IsKept (15 + q) row b (line_at s held 0 q) (line_at s spliced 0 q)
  held_at row q is = grind (arith, here, cases_lt, before, behind)

  pub put_on : (row : ℕ) → row ≡ 15 + r → HoldsOn s row b held spliced
  put_on row is = grind (arith, within, long-first, length-append, length-drop, held_at)

-- ---- three rows one after the other

-- three rows that are taken apart and joined are what they were
pub joined_in : (s : System) (rows : List ℕ) → length rows ≡ 3 * line_bytes s → joined_rows (rows_in s rows) ≡ rows
joined_in s rows long =
    let l : ℕ = line_bytes s in
    let a : 0 * field_bytes s + line_bytes s * 0 ≡ 0 = grind arith in
    let b : 0 * field_bytes s + line_bytes s * 1 ≡ l = grind arith in
    let c : 0 * field_bytes s + line_bytes s * 2 ≡ l + l = grind arith in
    let last : take l (drop (l + l) rows) ≡ drop (l + l) rows =
    take_all l (drop (l + l) rows) (omega (arith, length-drop (l + l) rows, long)) in
    (λ j. take l (drop (a j) rows) ++ (take l (drop (b j) rows) ++ take l (drop (c j) rows)))
    ∙ ap (λ (x : List ℕ). take l rows ++ (take l (drop l rows) ++ x)) (last ∙ sym (drop-drop l l rows))
    ∙ ap (λ (x : List ℕ). take l rows ++ x) (take-append-drop l (drop l rows))
    ∙ take-append-drop l rows
