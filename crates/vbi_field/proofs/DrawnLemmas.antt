-- Fields that are drawn.
use Rattle.vbi_field.proofs.Common.{◌≡◌, ℕ, zero, suc, ◌+◌, ◌*◌, ◌-◌, ◌≤◌, [], ◌++◌, length, refl, sym, ap, ◌∙◌, arith}
use Rattle.vbi_field.proofs.Common.{append_assoc, add-zero, zero-add, zero-mul, suc-mul, flat_map, range_with_len}
use Rattle.vbi_field.proofs.Common.{length-append, height_of, line_bytes, field_bytes, ConfigView, drawn_line_of}
use Rattle.vbi_field.proofs.Common.{length-drawn_line_of, WordRow, word_at, List, None}
use Rattle.std.proofs.lemmas.List.{append-nil}
use Rattle.vbi_field.specs.Draws.{drawn_field_of}
use Rattle.vbi_field.proofs.Counts.{sizes_of}

-- ---- lists made from the numbers from a on

module _ {X : Type 0} (f : ℕ → List X) where
  -- the first and the others
  pub flat_range_split : (a m n : ℕ)
      → flat_map f (range_with_len a (m + n)) ≡ flat_map f (range_with_len a m) ++ flat_map f (range_with_len (a + m) n)
  flat_range_split a zero n = rw (zero-add n, add-zero a)
  flat_range_split a (suc m) n =
      let e : suc m + n ≡ suc (m + n) = omega arith in
      let k : a + suc m ≡ a + 1 + m = omega arith in
      ap (λ (j : ℕ). flat_map f (range_with_len a j)) e
      ∙ ap (λ (l : List X). f a ++ l) (flat_range_split (a + 1) m n)
      ∙ sym (append_assoc (f a) (flat_map f (range_with_len (a + 1) m)) (flat_map f (range_with_len (a + 1 + m) n)))
      ∙ ap (λ (j : ℕ). (f a ++ flat_map f (range_with_len (a + 1) m)) ++ flat_map f (range_with_len j n)) (sym k)

  -- one more
  pub flat_range_more : (n : ℕ) → flat_map f (range_with_len 0 (n + 1)) ≡ flat_map f (range_with_len 0 n) ++ f n
  flat_range_more n = grind (arith, flat_range_split, append-nil, zero-add)

  -- of equally many each
  pub length-flat_range : (a n w : ℕ) → ((k : ℕ) → length (f k) ≡ w) → length (flat_map f (range_with_len a n)) ≡ n * w
  length-flat_range a zero w each = sym (zero-mul w)
  length-flat_range a (suc n) w each =
      length-append (f a) (flat_map f (range_with_len (a + 1) n))
      ∙ ap (λ (k : ℕ). k + length (flat_map f (range_with_len (a + 1) n))) (each a)
      ∙ ap (λ (k : ℕ). w + k) (length-flat_range (a + 1) n w each)
      ∙ omega (arith, suc-mul n w)

-- ---- rows of a field

-- ---- fields

-- the first rows of a drawn field
unfoldable pub drawn_rows_of : ConfigView → WordRow → ℕ → List ℕ
drawn_rows_of c words n = flat_map (λ r. drawn_line_of c.system c.levels (word_at words r)) (range_with_len 0 n)

pub length-drawn_rows_of : (c : ConfigView) (words : WordRow) (n : ℕ)
    → length (drawn_rows_of c words n) ≡ n * line_bytes c.system
unfolding drawn_rows_of
length-drawn_rows_of c words n = grind (arith, length-flat_range, length-drawn_line_of)

pub drawn_rows_of-more : (c : ConfigView) (words : WordRow) (n : ℕ)
    → drawn_rows_of c words (n + 1) ≡ drawn_rows_of c words n ++ drawn_line_of c.system c.levels (word_at words n)
unfolding drawn_rows_of
drawn_rows_of-more c words n = flat_range_more (λ r. drawn_line_of c.system c.levels (word_at words r)) n

pub drawn_rows_of-none : (c : ConfigView) (words : WordRow) → drawn_rows_of c words 0 ≡ []
unfolding drawn_rows_of
drawn_rows_of-none c words = refl

pub drawn_rows_of-all : (c : ConfigView) (words : WordRow)
    → drawn_rows_of c words (height_of c.system) ≡ drawn_field_of c words
unfolding drawn_rows_of drawn_field_of
drawn_rows_of-all c words = refl

-- the first rows, and the others
pub drawn_rows_of-split : (c : ConfigView) (words : WordRow) (n : ℕ) → n ≤ height_of c.system
    → (rest : List ℕ) × (drawn_field_of c words ≡ drawn_rows_of c words n ++ rest)
unfolding drawn_rows_of drawn_field_of
drawn_rows_of-split c words n l =
    let f : ℕ → List ℕ = λ r. drawn_line_of c.system c.levels (word_at words r) in
    let e : height_of c.system ≡ n + (height_of c.system - n) = omega arith in (
      flat_map f (range_with_len (0 + n) (height_of c.system - n)),
      ap (λ (k : ℕ). flat_map f (range_with_len 0 k)) e ∙ flat_range_split f 0 n (height_of c.system - n),
    )

pub length-drawn_field_of : (c : ConfigView) (words : WordRow) → length (drawn_field_of c words) ≡ field_bytes c.system
length-drawn_field_of c words =
    ap length (sym (drawn_rows_of-all c words))
    ∙ length-drawn_rows_of c words (height_of c.system)
    ∙ sym (sizes_of c.system).field

-- the last row of a field has no word
pub last_word : (c : ConfigView) (words : WordRow) → word_at words (height_of c.system - 1) ≡ None
last_word c words = grind arith
