-- Numbers of fields, rows, bytes and samples looked at. What needs the sizes of the two systems is here: a field is
-- `height_of s` rows of `line_bytes s` bytes each.
use Rattle.vbi_field.proofs.Common.{◌≡◌, ℕ, ◌+◌, ◌*◌, ◌/◌, ◌%◌, ◌≤◌, ◌<◌, refl, ap, ◌∙◌, arith, add-one, suc-mul}
use Rattle.vbi_field.proofs.Common.{selected, width_of, height_of, line_bytes, field_bytes, System, Ntsc, Pal}

-- one more of a size
pub times-next : (n size : ℕ) → (n + 1) * size ≡ n * size + size
times-next n size = ap (λ k. k * size) (add-one n) ∙ suc-mul n size

-- ---- sizes

-- how a field is made of rows, and a row of samples, with bounds that hold for both systems
pub record Sizes (s : System) : Type 0 where
  pub line : line_bytes s ≡ 2 * width_of s
  pub field : field_bytes s ≡ height_of s * line_bytes s
  pub some : 0 < line_bytes s
  pub narrow : line_bytes s ≤ line_bytes Pal
  pub tall : 18 < height_of s
  pub low : height_of s ≤ height_of Pal
  pub small : field_bytes s ≤ field_bytes Pal

pub sizes_of : (s : System) → Sizes s
sizes_of s = grind arith

-- ---- rows and fields

-- the bytes before row r of field i
pub bytes_before : (s : System) (i r : ℕ)
    → i * field_bytes s + line_bytes s * r ≡ (i * height_of s + r) * line_bytes s
bytes_before Ntsc i r = omega arith
bytes_before Pal i r = omega arith

-- the bytes of m fields
pub bytes_of_fields : (s : System) (m : ℕ) → m * field_bytes s ≡ m * height_of s * line_bytes s
bytes_of_fields Ntsc m = omega arith
bytes_of_fields Pal m = omega arith

-- the bytes of one field more
pub bytes_of_next_field : (s : System) (f : ℕ)
    → (f + 1) * height_of s * line_bytes s ≡ f * height_of s * line_bytes s + field_bytes s
bytes_of_next_field Ntsc f = omega arith
bytes_of_next_field Pal f = omega arith

-- rows that m fields have room for lie in m fields
pub few_fields : (s : System) (f r m : ℕ) → f * height_of s + r ≤ m * height_of s → f ≤ m
few_fields Ntsc f r m le = omega arith
few_fields Pal f r m le = omega arith

-- all rows of m fields are m whole fields, and no row past them
pub all_fields : (s : System) (f r m : ℕ) → r < height_of s → f * height_of s + r ≡ m * height_of s → (f ≡ m) × (r ≡ 0)
all_fields Ntsc f r m inside e = (omega arith, omega arith)
all_fields Pal f r m inside e = (omega arith, omega arith)

-- a row of a field before field m is before field m
pub row_before : (s : System) (f r m : ℕ) → f < m → r < height_of s → f * height_of s + r < m * height_of s
row_before Ntsc f r m before inside = omega arith
row_before Pal f r m before inside = omega arith

-- k rows of m fields have no more bytes than these fields
pub rows_fit : (s : System) (k m : ℕ) → k ≤ m * height_of s → k * line_bytes s ≤ m * field_bytes s
rows_fit Ntsc k m le = omega arith
rows_fit Pal k m le = omega arith

-- fewer than all rows of m fields, with h bytes of the next, have no more bytes than these fields either
pub row_fits : (s : System) (k m h : ℕ) → k < m * height_of s → h ≤ line_bytes s
    → k * line_bytes s + h ≤ m * field_bytes s
row_fits Ntsc k m h lt short = omega arith
row_fits Pal k m h lt short = omega arith

-- ---- a stream of n bytes

-- the rows of its whole fields
pub whole_rows_fit : (s : System) (n : ℕ) → n / field_bytes s * height_of s * line_bytes s ≤ n
whole_rows_fit Ntsc n = omega arith
whole_rows_fit Pal n = omega arith

-- a longer stream has no fewer whole fields
pub more_fields : (s : System) (n m : ℕ) → n / field_bytes s ≤ (n + m) / field_bytes s
more_fields Ntsc n m = omega arith
more_fields Pal n m = omega arith

-- with f whole fields and no more bytes than theirs it is exactly these fields
pub exactly_fields : (s : System) (n f r h : ℕ) → n ≡ (f * height_of s + r) * line_bytes s + h
    → n ≤ f * field_bytes s → n ≡ f * field_bytes s
exactly_fields Ntsc n f r h e le = omega arith
exactly_fields Pal n f r h e le = omega arith

-- one field more, where no byte is past the whole fields
pub rest-next : (s : System) (n m : ℕ) → n % field_bytes s ≡ 0 → m ≡ field_bytes s → (n + m) % field_bytes s ≡ 0
rest-next Ntsc n m none field = omega arith
rest-next Pal n m none field = omega arith

-- the bytes of its whole rows, from its whole fields and the bytes past them
pub bytes_of_rows : (s : System) (n rows f r h : ℕ) → f ≡ n / field_bytes s → r * line_bytes s + h ≡ n % field_bytes s
    → n ≡ rows + h → rows ≡ (f * height_of s + r) * line_bytes s
bytes_of_rows Ntsc n rows f r h fields rest e = omega arith
bytes_of_rows Pal n rows f r h fields rest e = omega arith

-- its whole fields, where it is f fields, r rows and h bytes
pub whole_fields : (s : System) (n f r h : ℕ) → r < height_of s → h < line_bytes s
    → n ≡ (f * height_of s + r) * line_bytes s + h → n / field_bytes s ≡ f
whole_fields Ntsc n f r h inside short e = omega arith
whole_fields Pal n f r h inside short e = omega arith

-- the bytes past its whole fields, where it is f fields, r rows and h bytes
pub past_fields : (s : System) (n f r h : ℕ) → r < height_of s → h < line_bytes s
    → n ≡ (f * height_of s + r) * line_bytes s + h → n % field_bytes s ≡ r * line_bytes s + h
past_fields Ntsc n f r h inside short e = omega arith
past_fields Pal n f r h inside short e = omega arith

-- ---- samples looked at

-- those of three rows for each field, the unfinished one among them, are enough
pub few_looks : (s : System) (f r : ℕ) → width_of s * selected f r ≤ 3 * width_of s * (f + 1)
few_looks Ntsc f r = omega arith
few_looks Pal f r = omega arith

-- in an empty stream
pub no_looks : (s : System)
    → width_of s * selected (0 / field_bytes s) (0 % field_bytes s / line_bytes s) ≡ 0
no_looks Ntsc = refl
no_looks Pal = refl

-- the rows looked at of f fields, r rows and h bytes
pub selected_is : (s : System) (n f r h : ℕ) → r < height_of s → h < line_bytes s
    → n ≡ (f * height_of s + r) * line_bytes s + h
    → selected (n / field_bytes s) (n % field_bytes s / line_bytes s) ≡ selected f r
selected_is s n f r h inside short e = grind arith

-- the line past m fields is in no row that is looked at
pub selected_past : (s : System) (n m b : ℕ) → n ≡ m * field_bytes s + b → b ≤ line_bytes s
    → selected (n / field_bytes s) (n % field_bytes s / line_bytes s) ≡ selected m 0
selected_past s n m b e le = grind arith
