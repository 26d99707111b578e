-- A drawn row: from the system's own start on it is the one drawn for its word, and of lines that are all this row its
-- word is the nearest one. drawn_at_start and drawn_is_nearest stand on it.
use Rattle.std.proofs.Common.{◌≡◌, ℕ, zero, suc, ◌≤◌, ◌<◌, ◌+◌, ◌-◌, ◌*◌, List, [], ◌∷◌, ◌++◌, Bool, true, false}
use Rattle.std.proofs.Common.{length, get_or, refl, arith, ap, sym, subst, ◌∙◌, ◌⊎◌, inl, inr, Option, append_assoc}
use Rattle.std.proofs.Common.{map, suc-mul}
use Rattle.std.specs.{Prelude.Some, Prelude.None, List.All, List.flat_map, Int.abs_diff}
use Rattle.std.proofs.Math.ListN.{replicate, get_or-append}
use Rattle.std.proofs.lemmas.List.{length-replicate, get_or-replicate, get_or-append_right, get_or-map, length-map}
use Rattle.std.proofs.lemmas.{Bool.cases_lt, Nat.mul-le}
use Rattle.vbi_near.proofs.Common.{System, width_of, start_of, Slicing, IsWordOrNone, lowest_bits, halves_of, IsWord}
use Rattle.vbi_near.proofs.Common.{cell_of, boundary, drawn_row_of, differences, half_length, word_length, drawn_halves}
use Rattle.vbi_near.proofs.Common.{picture_of, sample_of, drawn_as, IsPlace, Near, most_of, known, row_distance}
use Rattle.vbi_near.proofs.Common.{distance_of, IsNearest, far_from}
use Rattle.vbi_near.proofs.Certain.{some_is, none_some, some_none}
use Rattle.vbi_near.proofs.Distinct.{rows, rows_apart, few_misread}
use Rattle.vbi_near.proofs.{Most.most_of-some, Columns.length-cells, Columns.length-picture}
use Rattle.vbi_words.proofs.{Bits.length-lowest_bits, HalfCells.all_low, DrawnSamples.only_drawn_row, Shown.word_bits}
use Rattle.vbi_words.specs.Drawn.{IsDrawnHigh, IsDrawnSample}
use Rattle.vbi_near.specs.Apart.{picture_distance}

-- ---- from the system's own start on

module _ (system : System) where
  next-boundary : (j : ℕ) → boundary system (suc j) ≡ boundary system j + half_length system j
  next-boundary j = grind arith

  later : (i j : ℕ) → i ≤ j → boundary system i ≤ boundary system j
  later i j l = grind arith

  -- a column lies in one of these half cells, the first being half cell j of its word, and that one is high
  abbrev IsHighIn : List Bool → ℕ → ℕ → Type 0
  IsHighIn halves j column =
      (i : ℕ) × (i < length halves) × (boundary system (j + i) ≤ column) × (column < boundary system (j + i + 1))
      × (get_or halves i false ≡ true)

  -- the levels of these half cells, and low columns after them
  abbrev pub levels_from : List Bool → ℕ → ℕ → List Bool
  levels_from halves j after = drawn_halves system j halves ++ replicate after false

  module _ (h : Bool) (halves : List Bool) (j after k : ℕ) where
    parts : get_or (levels_from (h ∷ halves) j after) k false
        ≡ get_or (replicate (half_length system j) h ++ levels_from halves (suc j) after) k false
    unfolding drawn_halves
    parts = grind (arith, append_assoc)

    pub first-level : k < half_length system j → get_or (levels_from (h ∷ halves) j after) k false ≡ h
    first-level l = grind (arith, parts, get_or-append, replicate, length-replicate, get_or-replicate)

    pub later-level : half_length system j ≤ k → get_or (levels_from (h ∷ halves) j after) k false
        ≡ get_or (levels_from halves (suc j) after) (k - half_length system j) false
    later-level l = grind (arith, parts, get_or-append_right, replicate, length-replicate)

    moved : half_length system j ≤ k
        → boundary system (suc j) + (k - half_length system j) ≡ boundary system j + k
    moved l = omega (arith, next-boundary j)

  high-in : (halves : List Bool) (j after k : ℕ) → get_or (levels_from halves j after) k false ≡ true
      → IsHighIn halves j (boundary system j + k)
  unfolding drawn_halves
  high-in [] j after k high = absurd (let low = all_low after k in cc)
  high-in (h ∷ halves) j after k high =
      go (high-in halves (suc j) after (k - half_length system j)) (cases_lt k (half_length system j))
    where
      go : (get_or (levels_from halves (suc j) after) (k - half_length system j) false ≡ true
          → IsHighIn halves (suc j) (boundary system (suc j) + (k - half_length system j)))
          → (k < half_length system j) ⊎ (half_length system j ≤ k) → IsHighIn (h ∷ halves) j (boundary system j + k)
      go rest (inl less) = grind (arith, next-boundary, first-level)
      go rest (inr le) =
          let found = rest (sym (later-level h halves j after k le) ∙ high) in
          let same = moved h halves j after k le in
          let here : boundary system (j + suc found.0) ≡ boundary system (suc j + found.0)
          = ap (boundary system) (omega arith) in
          let next : boundary system (j + suc found.0 + 1) ≡ boundary system (suc j + found.0 + 1)
          = ap (boundary system) (omega arith) in (
            suc found.0,
            omega (arith, found.1),
            omega (arith, here, same, found.2),
            omega (arith, next, same, found.3),
            found.4,
          )

  high-there : (halves : List Bool) (j after k : ℕ) → IsHighIn halves j (boundary system j + k)
      → get_or (levels_from halves j after) k false ≡ true
  high-there [] j after k (i, inside, low, high, at) = absurd (omega arith)
  high-there (h ∷ halves) j after k (zero, inside, low, high, at) = grind (arith, first-level, next-boundary)
  high-there (h ∷ halves) j after k (suc i, inside, low, high, at) =
      let here : boundary system (j + suc i) ≡ boundary system (suc j + i) = ap (boundary system) (omega arith) in
      let next : boundary system (j + suc i + 1) ≡ boundary system (suc j + i + 1)
      = ap (boundary system) (omega arith) in
      let le : half_length system j ≤ k
      = omega (arith, low, here, later (suc j) (suc j + i) (omega arith), next-boundary j) in
      let same = moved h halves j after k le in
      later-level h halves j after k le
      ∙ high-there halves (suc j) after (k - half_length system j)
      (i, omega (arith, inside), omega (arith, low, here, same), omega (arith, high, next, same), at)

-- ---- the row

first-start : (system : System) → boundary system 0 ≡ start_of system
first-start system = grind arith

first-place : (system : System) → start_of system + word_length system ≤ width_of system
first-place system = grind arith

length-halves : (w : ℕ) → length (halves_of w) ≡ 48
length-halves w = length-cells (lowest_bits 24 w) ∙ ap (λ (n : ℕ). 2 * n) (length-lowest_bits 24 w)

-- ---- a word's picture

module _ (system : System) (start w : ℕ) where
  -- the columns after a word
  abbrev pub after : ℕ
  after = width_of system - (start + word_length system)

  pub before-word : (c : ℕ) → c < start → get_or (picture_of system (Some w) start) c false ≡ false
  unfolding picture_of
  before-word c l = grind (arith, get_or-append, replicate, length-replicate, all_low)

  pub in-word : (c : ℕ) → start ≤ c → get_or (picture_of system (Some w) start) c false
      ≡ get_or (levels_from system (halves_of w) 0 after) (c - start) false
  unfolding picture_of
  in-word c l = grind (arith, get_or-append_right, replicate, length-replicate)

module _ (system : System) (slicing : Slicing) (w : ℕ) where
  abbrev picture : List Bool
  picture = picture_of system (Some w) (start_of system)

  from-picture : (c : ℕ) → get_or picture c false ≡ true → IsDrawnHigh system w c
  from-picture c high = grind (arith, before-word, high-in, in-word, first-start, length-halves)

  to-picture : (c : ℕ) → IsDrawnHigh system w c → get_or picture c false ≡ true
  to-picture c drawn = grind (arith, first-start, later, in-word, high-there, length-halves)

  sample-at : (c : ℕ) (level : Bool) → get_or picture c false ≡ level
      → IsDrawnSample system slicing (Some w) c (sample_of slicing level)
  sample-at c level e = grind (arith, from-picture, to-picture)

row-drawn : (system : System) (slicing : Slicing) (word : Option ℕ)
    → length (picture_of system word (start_of system)) ≡ width_of system
    → ((c : ℕ) → c < width_of system → IsDrawnSample system slicing word c
    (sample_of slicing (get_or (picture_of system word (start_of system)) c false)))
    → drawn_as slicing (picture_of system word (start_of system)) ≡ drawn_row_of system slicing word
row-drawn system slicing word long each =
    let picture = picture_of system word (start_of system) in
    only_drawn_row system slicing word (drawn_as slicing picture) (record {
      whole = length-map picture (sample_of slicing) ∙ long;
      each = λ c l. subst (IsDrawnSample system slicing word c)
          (sym (get_or-map (sample_of slicing) picture c false 0 (omega (arith, long)))) (each c l);
    })

pub drawn_first : (system : System) (slicing : Slicing) (word : Option ℕ) → IsWordOrNone word
    → drawn_as slicing (picture_of system word (start_of system)) ≡ drawn_row_of system slicing word
unfolding picture_of
drawn_first system slicing None is = grind (arith, row-drawn, length-replicate, all_low)
drawn_first system slicing (Some w) is =
    row-drawn system slicing (Some w) (length-picture system (Some w) (start_of system) (is, first-place system))
    (λ c l. sample-at system slicing w c _ refl)

-- ---- lines that are all one drawn row

-- ---- distances of lines that are one row

no_difference : (n : ℕ) → abs_diff n n ≡ 0
no_difference n = omega arith

row-itself : (most : ℕ) (row : List ℕ) → row_distance most (known row) row ≡ 0
unfolding row_distance
row-itself most [] = refl
row-itself most (sample ∷ row) = grind (arith, row-itself most row, no_difference)

distance-each : (most : ℕ) (row other : List ℕ) (lines : List (List ℕ)) → All (λ line. line ≡ row) lines
    → distance_of most (map known lines) other ≡ length lines * row_distance most (known row) other
unfolding distance_of
distance-each most row other [] all = grind arith
distance-each most row other (line ∷ lines) all =
    let first : row_distance most (known line) other ≡ row_distance most (known row) other
    = ap (λ (l : List ℕ). row_distance most (known l) other) (all 0 [] (omega arith)) in
    omega (
      arith,
      first,
      suc-mul (length lines) (row_distance most (known row) other),
      distance-each most row other lines (λ k d l. all (suc k) d (omega arith)),
    )

-- ---- where a picture begins

all_same : (x y : List Bool) → length x ≡ length y → differences x y ≡ 0 → x ≡ y
all_same [] [] long none = refl
all_same [] (b ∷ y) long none = absurd (omega arith)
all_same (a ∷ x) [] long none = absurd (omega arith)
all_same (true ∷ x) (true ∷ y) long none = ap (λ (l : List Bool). true ∷ l) (all_same x y (omega arith) (omega arith))
all_same (false ∷ x) (false ∷ y) long none =
    ap (λ (l : List Bool). false ∷ l) (all_same x y (omega arith) (omega arith))
all_same (true ∷ x) (false ∷ y) long none = absurd (omega arith)
all_same (false ∷ x) (true ∷ y) long none = absurd (omega arith)

half-some : (system : System) → 0 < half_length system 1
half-some system = grind arith

module _ (system : System) (w : ℕ) (is : IsWord w) where
  -- the half cells after the first two
  rest : List Bool
  rest = flat_map cell_of (word_bits w is).1.0

  begun : halves_of w ≡ false ∷ true ∷ rest
  unfolding rest
  begun = ap (flat_map cell_of) (word_bits w is).1.1

  level-of : (start k : ℕ) → get_or (levels_from system (halves_of w) 0 (after system start w)) k false
      ≡ get_or (levels_from system (false ∷ true ∷ rest) 0 (after system start w)) k false
  level-of start k = grind (arith, begun)

  low-first : (start c : ℕ) → c < start + half_length system 0
      → get_or (picture_of system (Some w) start) c false ≡ false
  low-first start c l = grind (arith, get_or, before-word, in-word, level-of, first-level, rest, after)

  high-then : (start c : ℕ) → c ≡ start + half_length system 0
      → get_or (picture_of system (Some w) start) c false ≡ true
  high-then start c e = grind (arith, in-word, level-of, later-level, rest, after, first-level, half-some)

  no_earlier : (s t : ℕ) → picture_of system (Some w) s ≡ picture_of system (Some w) t → s < t → ⊥
  no_earlier s t same l =
      let c : ℕ = s + half_length system 0 in
      let high = high-then s c refl in
      let low = low-first t c (omega (arith, l)) in
      let both = ap (λ (x : List Bool). get_or x c false) same in cc

  one_start : (s t : ℕ) → picture_of system (Some w) s ≡ picture_of system (Some w) t → s ≡ t
  one_start s t same = grind (arith, no_earlier)

starts-same : (system : System) (word other : Option ℕ) (s t : ℕ) → other ≡ word → IsPlace system word s
    → IsPlace system other t → picture_of system other t ≡ picture_of system word s → t ≡ s
starts-same system word other s t e p q same = grind (arith, some_none, none_some, one_start, some_is)

-- ---- the nearest word

positive : (a b : ℕ) → 0 < a → 0 < b → 0 < a * b
positive a b l m = omega (arith, mul-le 1 1 a b (omega arith) (omega arith))

some-apart : (system : System) → 0 < picture_distance system
some-apart system = grind arith

module _ (system : System) (slicing : Slicing) (lines : List (List ℕ)) (near : Near) (word : Option ℕ) (start : ℕ)
    (order : slicing.black < slicing.white) (some : 0 < length lines)
    (all : All (λ line. line ≡ drawn_as slicing (picture_of system word start)) lines)
    (is : IsNearest system slicing (map known lines) near) (place : IsPlace system word start) where
  abbrev row : List ℕ
  row = drawn_as slicing (picture_of system word start)

  abbrev most : ℕ
  most = most_of slicing

  whole : All (λ line. length line ≡ width_of system) lines
  whole k d l = grind (arith, length-map, length-picture)

  nothing : far_from system slicing (map known lines) word start ≡ 0
  nothing =
      let each = distance-each most row row lines all in
      let none : length lines * row_distance most (known row) row ≡ length lines * 0
      = ap (λ (n : ℕ). length lines * n) (row-itself most row) in
      omega (arith, each, none)

  pub drawn-distance : near.distance ≡ 0
  drawn-distance = let least = is.least word start place in omega (arith, least, nothing)

  pub drawn-word : near.word ≡ word
  drawn-word = grind (arith, few_misread, whole, positive, some-apart, nothing, most_of-some)

  -- the row answered has the samples of the row drawn, and so its levels
  same-row : row_distance most (known row) (drawn_as slicing (picture_of system near.word near.start)) ≡ 0
  same-row = go (cases_lt 0 (row_distance most (known row) other))
    where
      other : List ℕ
      other = drawn_as slicing (picture_of system near.word near.start)

      go : (0 < row_distance most (known row) other) ⊎ (row_distance most (known row) other ≤ 0)
          → row_distance most (known row) other ≡ 0
      go (inr le) = omega arith
      go (inl l) =
          let far = positive (length lines) (row_distance most (known row) other) some l in
          absurd (omega (arith, far, distance-each most row other lines all, is.exact, drawn-distance))

  same-picture : picture_of system word start ≡ picture_of system near.word near.start
  same-picture = all_same x y long (go (cases_lt 0 (differences x y)))
    where
      x : List Bool
      x = picture_of system word start

      y : List Bool
      y = picture_of system near.word near.start

      long : length x ≡ length y
      long = length-picture system word start place ∙ sym (length-picture system near.word near.start is.place)

      go : (0 < differences x y) ⊎ (differences x y ≤ 0) → differences x y ≡ 0
      go (inr le) = omega arith
      go (inl l) =
          let far = positive (differences x y) most l (most_of-some slicing order) in
          absurd (omega (arith, far, rows slicing x y long, same-row))

  pub drawn-start : near.start ≡ start
  drawn-start = starts-same system word near.word start near.start drawn-word place is.place (sym same-picture)

  pub drawn-rival : length lines * (picture_distance system * most) ≤ near.rival
  drawn-rival =
      let o = is.other in
      let far = rows_apart system slicing word o.0 start o.1 place o.2 (λ e. o.3 (sym e ∙ sym drawn-word)) in
      let each = distance-each most row (drawn_as slicing (picture_of system o.0 o.1)) lines all in
      let grow = mul-le (length lines) (picture_distance system * most) (length lines)
      (row_distance most (known row) (drawn_as slicing (picture_of system o.0 o.1))) (omega arith) far in
      omega (arith, grow, each, o.4)
