-- The pictures of different words are apart, and so are their drawn rows.
-- pictures_apart, rows_apart, few_misread and DrawnNearest stand on it.
use Rattle.std.proofs.Common.{◌≡◌, ◌≢◌, ℕ, suc, ◌≤◌, ◌<◌, ◌+◌, ◌-◌, ◌*◌, List, [], ◌∷◌, ◌++◌, Bool, true, false, length}
use Rattle.std.proofs.Common.{map, refl, arith, ap, ap₂, sym, ◌∙◌, subst, Option, ◌⊎◌, inl, inr, suc-mul, append_assoc}
use Rattle.std.proofs.Common.{append-nil}
use Rattle.std.specs.{Prelude.Some, Prelude.None, Prelude.min, List.All, Int.abs_diff}
use Rattle.std.proofs.Math.{ListN.replicate, Nat.add-mul}
use Rattle.std.proofs.lemmas.{Nat.mul-le, List.replicate-append-replicate}
use Rattle.vbi_near.proofs.Common.{System, width_of, Slicing, IsWord, halves_of, differences, Near, word_length}
use Rattle.vbi_near.proofs.Common.{drawn_halves, picture_of, IsPlace, sample_of, drawn_as, known, most_of, row_distance}
use Rattle.vbi_near.proofs.Common.{distance_of, IsNearest, far_from}
use Rattle.vbi_near.proofs.Highs.{highs, differences-append, low-differs, highs-append, bits_levels, bits-high}
use Rattle.vbi_near.proofs.Highs.{far-apart}
use Rattle.vbi_near.proofs.{Most.most_of-within, Columns.length-picture, Certain.same_or_not, Shifted.within-cell}
use Rattle.vbi_words.specs.Jitter.{differs}
use Rattle.vbi_words.proofs.{Shown.word_bits, Apart.differences_sym}
use Rattle.vbi_near.specs.Apart.{picture_distance}
use Rattle.vbi_words.proofs.Bits

-- ---- two words

-- some columns later, or at the same column
apart-by : (system : System) (late room : ℕ) (bits more : List Bool) → length bits ≡ 23 → length more ≡ 23
    → bits ≢ more → picture_distance system
    ≤ differences (bits_levels system 0 (true ∷ bits) ++ replicate (late + room) false)
    (replicate late false ++ (bits_levels system 0 (true ∷ more) ++ replicate room false))
apart-by system late room bits more e f differ = grind (arith, bits_levels, replicate, far-apart, within-cell)

words_later : (system : System) (s t v w : ℕ) → IsPlace system (Some v) s → IsPlace system (Some w) t → v ≢ w → s ≤ t
    → picture_distance system ≤ differences (picture_of system (Some v) s) (picture_of system (Some w) t)
unfolding picture_of
words_later system s t v w one two differ later =
    let late : ℕ = t - s in
    let room : ℕ = width_of system - (t + word_length system) in
    let a = word_bits v one.0 in
    let b = word_bits w two.0 in
    let x : List Bool = bits_levels system 0 (true ∷ a.1.0) ++ replicate (late + room) false in
    let y : List Bool = replicate late false ++ (bits_levels system 0 (true ∷ b.1.0) ++ replicate room false) in
    let remains : width_of system - (s + word_length system) ≡ late + room = omega (arith, two.1, later) in
    let before : t ≡ s + late = omega (arith, later) in
    let p : picture_of system (Some v) s ≡ replicate s false ++ x
    = ap₂ (λ (bits : List Bool) (n : ℕ). replicate s false ++ (bits_levels system 0 bits ++ replicate n false)) a.1.1
    remains in
    let word : List Bool = bits_levels system 0 (true ∷ b.1.0) ++ replicate room false in
    let q : picture_of system (Some w) t ≡ replicate s false ++ y
    = ap₂ (λ (bits : List Bool) (n : ℕ). replicate n false ++ (bits_levels system 0 bits ++ replicate room false)) b.1.1
    before
    ∙ ap (λ (l : List Bool). l ++ word) (sym (replicate-append-replicate s late false))
    ∙ append_assoc (replicate s false) (replicate late false) word in
    let n : suc (length a.1.0) ≡ 24 = sym (ap length a.1.1) ∙ a.0 in
    let m : suc (length b.1.0) ≡ 24 = sym (ap length b.1.1) ∙ b.0 in
    let other : a.1.0 ≢ b.1.0
    = λ e. differ (Bits.same_from_lowest 24 v w one.0.1 two.0.1
    (a.1.1 ∙ ap (λ (bits : List Bool). true ∷ bits) e ∙ sym b.1.1)) in
    let all = ap₂ differences p q ∙ differences-append (replicate s false) x (replicate s false) y refl in
    omega (arith, all, apart-by system late room a.1.0 b.1.0 (omega (arith, n)) (omega (arith, m)) other)

words_apart : (system : System) (s t v w : ℕ) → IsPlace system (Some v) s → IsPlace system (Some w) t → v ≢ w
    → picture_distance system ≤ differences (picture_of system (Some v) s) (picture_of system (Some w) t)
words_apart system s t v w one two differ = grind (arith, words_later, differences_sym)

-- ---- a word and none

highs-picture : (system : System) (start w : ℕ) → IsWord w
    → picture_distance system ≤ highs (picture_of system (Some w) start)
unfolding picture_of
highs-picture system start w is =
    let n : ℕ = width_of system - (start + word_length system) in
    let D : List Bool = drawn_halves system 0 (halves_of w) in
    let b = word_bits w is in
    let long : suc (length b.1.0) ≡ 24 = sym (ap length b.1.1) ∙ b.0 in
    let begun : picture_distance system ≤ highs D
    = subst (λ (bits : List Bool). picture_distance system ≤ highs (bits_levels system 0 bits))
    (sym b.1.1) (bits-high system b.1.0 (omega (arith, long))) in
    omega (
      arith,
      highs-append (replicate start false) (D ++ replicate n false),
      highs-append D (replicate n false),
      begun,
    )

none_apart : (system : System) (start w t : ℕ) → IsPlace system (Some w) start
    → picture_distance system ≤ differences (picture_of system None t) (picture_of system (Some w) start)
unfolding picture_of
none_apart system start w t place =
    let y : List Bool = picture_of system (Some w) start in
    let long : length y ≡ width_of system = length-picture system (Some w) start place in
    let low = low-differs (width_of system) y [] (omega (arith, long)) in
    let same = ap (differences (replicate (width_of system) false)) (append-nil y) in
    omega (arith, low, same, highs-picture system start w place.0)

-- ---- any two

pub pictures_apart : (system : System) (one other : Option ℕ) (s t : ℕ) → IsPlace system one s
    → IsPlace system other t → one ≢ other
    → picture_distance system ≤ differences (picture_of system one s) (picture_of system other t)
pictures_apart system None None s t p q differ = absurd (differ refl)
pictures_apart system None (Some w) s t p q differ = none_apart system t w s q
pictures_apart system (Some v) None s t p q differ = grind (arith, none_apart, differences_sym)
pictures_apart system (Some v) (Some w) s t p q differ = words_apart system s t v w p q (λ e. differ (ap Some e))

-- ---- lines between two drawn rows

one_differs : (slicing : Slicing) (sample : ℕ) (b c : Bool)
    → differs b c * most_of slicing
    ≤ min (abs_diff sample (sample_of slicing b)) (most_of slicing)
    + min (abs_diff sample (sample_of slicing c)) (most_of slicing)
one_differs slicing sample b c = grind (arith, most_of-within)

triangle : (slicing : Slicing) (line : List ℕ) (x y : List Bool) → length line ≡ length x → length line ≡ length y
    → differences x y * most_of slicing
    ≤ row_distance (most_of slicing) (known line) (drawn_as slicing x)
    + row_distance (most_of slicing) (known line) (drawn_as slicing y)
unfolding row_distance
triangle slicing [] [] y a b = omega arith
triangle slicing [] (p ∷ x) y a b = absurd (omega arith)
triangle slicing (l ∷ line) [] y a b = absurd (omega arith)
triangle slicing (l ∷ line) (p ∷ x) [] a b = absurd (omega arith)
triangle slicing (l ∷ line) (p ∷ x) (q ∷ y) a b =
    joined (differs p q) (differences x y) (most_of slicing)
    (min (abs_diff l (sample_of slicing p)) (most_of slicing))
    (min (abs_diff l (sample_of slicing q)) (most_of slicing))
    (row_distance (most_of slicing) (known line) (drawn_as slicing x))
    (row_distance (most_of slicing) (known line) (drawn_as slicing y)) (one_differs slicing l p q)
    (triangle slicing line x y (omega arith) (omega arith))
  where
    joined : (m n u a b c d : ℕ) → m * u ≤ a + b → n * u ≤ c + d → (m + n) * u ≤ a + c + (b + d)
    joined m n u a b c d e f = omega (arith, add-mul m n u)

triangles : (slicing : Slicing) (width : ℕ) (lines : List (List ℕ)) (x y : List Bool) → length x ≡ width
    → length y ≡ width → All (λ line. length line ≡ width) lines
    → length lines * (differences x y * most_of slicing)
    ≤ distance_of (most_of slicing) (map known lines) (drawn_as slicing x)
    + distance_of (most_of slicing) (map known lines) (drawn_as slicing y)
unfolding distance_of
triangles slicing width [] x y a b all = grind arith
triangles slicing width (line ∷ lines) x y a b all =
    let long : length line ≡ width = all 0 [] (omega arith) in
    let rest = triangles slicing width lines x y a b (λ k d l. all (suc k) d (omega arith)) in
    omega (
      arith,
      suc-mul (length lines) (differences x y * most_of slicing),
      triangle slicing line x y (long ∙ sym a) (long ∙ sym b),
      rest,
    )

pub rows : (slicing : Slicing) (x y : List Bool) → length x ≡ length y
    → differences x y * most_of slicing
    ≤ row_distance (most_of slicing) (known (drawn_as slicing x)) (drawn_as slicing y)
unfolding row_distance
rows slicing [] y a = omega arith
rows slicing (p ∷ x) [] a = absurd (omega arith)
rows slicing (p ∷ x) (q ∷ y) a =
    joined (differs p q) (differences x y) (most_of slicing)
    (min (abs_diff (sample_of slicing p) (sample_of slicing q)) (most_of slicing))
    (row_distance (most_of slicing) (known (drawn_as slicing x)) (drawn_as slicing y))
    (one p q) (rows slicing x y (omega arith))
  where
    joined : (m n u a b : ℕ) → m * u ≤ a → n * u ≤ b → (m + n) * u ≤ a + b
    joined m n u a b e f = omega (arith, add-mul m n u)

    one : (b c : Bool) → differs b c * most_of slicing
        ≤ min (abs_diff (sample_of slicing b) (sample_of slicing c)) (most_of slicing)
    one b c = grind (arith, most_of-within)

pub rows_apart : (system : System) (slicing : Slicing) (one other : Option ℕ) (s t : ℕ) → IsPlace system one s
    → IsPlace system other t → one ≢ other
    → picture_distance system * most_of slicing
    ≤ row_distance (most_of slicing) (known (drawn_as slicing (picture_of system one s)))
    (drawn_as slicing (picture_of system other t))
rows_apart system slicing one other s t p q differ =
    let x : List Bool = picture_of system one s in
    let y : List Bool = picture_of system other t in
    let u : ℕ = most_of slicing in
    let same : length x ≡ length y = length-picture system one s p ∙ sym (length-picture system other t q) in
    let grow : picture_distance system * u ≤ differences x y * u
    = mul-le (picture_distance system) u (differences x y) u (pictures_apart system one other s t p q differ)
    (omega arith) in
    let far = rows slicing x y same in omega (arith, grow, far)

pub few_misread : (system : System) (slicing : Slicing) (lines : List (List ℕ)) (near : Near) (word : Option ℕ)
    (start : ℕ) → All (λ line. length line ≡ width_of system) lines → IsNearest system slicing (map known lines) near
    → IsPlace system word start
    → 2 * far_from system slicing (map known lines) word start
    < length lines * (picture_distance system * most_of slicing)
    → near.word ≡ word
few_misread system slicing lines near word start all is place few = go (same_or_not near.word word)
  where
    u : ℕ
    u = most_of slicing

    go : (near.word ≡ word) ⊎ (near.word ≢ word) → near.word ≡ word
    go (inl e) = e
    go (inr differ) =
        let x : List Bool = picture_of system near.word near.start in
        let y : List Bool = picture_of system word start in
        let apart = pictures_apart system near.word word near.start start is.place place differ in
        let sum = triangles slicing (width_of system) lines x y (length-picture system near.word near.start is.place)
        (length-picture system word start place) all in
        let each : picture_distance system * most_of slicing
        ≤ differences x y * most_of slicing
        = mul-le (picture_distance system) (most_of slicing) (differences x y)
        (most_of slicing) apart (omega arith) in
        let grow = mul-le (length lines) (picture_distance system * most_of slicing) (length lines)
        (differences x y * most_of slicing) (omega arith) each in
        absurd (let least = is.least word start place in omega (arith, sum, grow, is.exact, least, few))
