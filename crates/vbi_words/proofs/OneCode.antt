-- A word has one code: no two patterns have a word in common.
use Rattle.std.proofs.Common.{◌≡◌, ℕ, suc, zero, ◌≤◌, ◌<◌, ◌+◌, Bool, true, false, ltb, leb, ◌&&◌, ◌||◌, List, []}
use Rattle.std.proofs.Common.{◌∷◌, cond, Any, ◌⊎◌, inl, inr, refl, subst, sym, ◌∙◌, arith}
use Rattle.std.proofs.lemmas.Bool.{leb-true, le-leb, and_parts, and_from, or_cases, cases_eq}
use Rattle.std.specs.List.{list_all, list_any, range_with_len}
use Rattle.vbi_words.specs.declared.code.Code.{Code}
use Rattle.vbi_words.specs.declared.code.Code.TheVariants.{Other}
use Rattle.vbi_words.specs.Codes.{digit_of, Pattern, patterns_of, HasPattern, HasCodeOf, IsCode}
use Rattle.vbi_words.specs.Codes.{first_code, fits, code_of}

-- ---- tests of consecutive numbers

all_pass : (p : ℕ → Bool) (a n : ℕ) → ((k : ℕ) → a ≤ k → k < a + n → p k ≡ true)
    → list_all p (range_with_len a n) ≡ true
all_pass p a zero each = refl
all_pass p a (suc n) each = and_from (p a) (list_all p (range_with_len (a + 1) n)) (each a (omega arith) (omega arith))
    (all_pass p (a + 1) n (λ k l m. each k (omega arith) (omega arith)))

each_passes : (p : ℕ → Bool) (a n : ℕ) → list_all p (range_with_len a n) ≡ true → (k : ℕ) → a ≤ k → k < a + n
    → p k ≡ true
each_passes p a zero e k l m = absurd (omega arith)
each_passes p a (suc n) e k l m =
    let parts = and_parts (p a) (list_all p (range_with_len (a + 1) n)) e in
    elim (cases_eq a k) [
      | inl same ↦ subst (λ (j : ℕ). p j ≡ true) same parts.0
      | inr ne ↦ each_passes p (a + 1) n parts.1 k (omega arith) (omega arith)
    ]

some_passes : (p : ℕ → Bool) (a n : ℕ) → list_any p (range_with_len a n) ≡ true
    → (k : ℕ) × (a ≤ k) × (k < a + n) × (p k ≡ true)
some_passes p a zero e = absurd cc
some_passes p a (suc n) e = elim (or_cases (p a) (list_any p (range_with_len (a + 1) n)) e) [
  | inl here ↦ (a, omega arith, omega arith, here)
  | inr later ↦
      let r = some_passes p (a + 1) n later in
      (r.0, omega (arith, r.1), omega (arith, r.2), r.3)
]

-- ---- no word matches two patterns

-- at this place one pattern's digits are below the other's
abbrev below_at : ℕ → Pattern → Pattern → Bool
below_at place a b = ltb (digit_of a.greatest place) (digit_of b.least place)

-- at some place the digits of one pattern are below those of the other
abbrev apart : Pattern → Pattern → Bool
apart a b = list_any (λ place. below_at place a b || below_at place b a) (range_with_len 1 6)

below-not : (word place : ℕ) (a b : Pattern) → 1 ≤ place → place ≤ 6 → below_at place a b ≡ true → HasPattern word a
    → HasPattern word b → ⊥
below-not word place a b low high e x y = grind arith

apart-not : (word : ℕ) (a b : Pattern) → apart a b ≡ true → HasPattern word a → HasPattern word b → ⊥
apart-not word a b e x y =
    let r = some_passes (λ place. below_at place a b || below_at place b a) 1 6 e in
    let last : r.0 ≤ 6 = omega (arith, r.2) in
    elim (or_cases (below_at r.0 a b) (below_at r.0 b a) r.3) [
      | inl h ↦ below-not word r.0 a b r.1 last h x y
      | inr h ↦ below-not word r.0 b a r.1 last h y x
    ]

-- the pattern is apart from each of the patterns
abbrev apart_from : Pattern → List Pattern → Bool
apart_from pattern patterns = list_all (apart pattern) patterns

-- each pattern is apart from each later one
abbrev all_apart : List Pattern → Bool
all_apart [] = true
all_apart (r ∷ patterns) = apart_from r patterns && all_apart patterns

later-not : (word : ℕ) (pattern : Pattern) (patterns : List Pattern) → apart_from pattern patterns ≡ true
    → HasPattern word pattern → Any (HasPattern word) patterns → ⊥
later-not word pattern [] e x (i, q, l, here, y) = omega arith
later-not word pattern (r ∷ patterns) e x (zero, q, l, here, y) =
    apart-not word pattern r (and_parts (apart pattern r) (apart_from pattern patterns) e).0 x
    (subst (HasPattern word) (sym here) y)
later-not word pattern (r ∷ patterns) e x (suc i, q, l, here, y) =
    later-not word pattern patterns (and_parts (apart pattern r) (apart_from pattern patterns) e).1 x
    (i, q, omega arith, here, y)

-- the pattern without its code
matched : (word : ℕ) (code : Code) (patterns : List Pattern) → HasCodeOf patterns word code
    → Any (HasPattern word) patterns
matched word code patterns (i, p, l, here, (x, e)) = (i, p, l, here, x)

one_of : (word : ℕ) (c d : Code) (patterns : List Pattern) → all_apart patterns ≡ true → HasCodeOf patterns word c
    → HasCodeOf patterns word d → c ≡ d
one_of word c d [] far (i, p, l, here, x) y = absurd (omega arith)
one_of word c d (r ∷ patterns) far (zero, p, l, here, (x, e)) (zero, q, m, there, (y, f)) = grind arith
one_of word c d (r ∷ patterns) far (zero, p, l, here, (x, e)) (suc j, q, m, there, (y, f)) =
    let parts = and_parts (apart_from r patterns) (all_apart patterns) far in
    absurd (later-not word r patterns parts.0 (subst (HasPattern word) (sym here) x) (j, q, omega arith, there, y))
one_of word c d (r ∷ patterns) far (suc i, p, l, here, (x, e)) (zero, q, m, there, (y, f)) =
    let parts = and_parts (apart_from r patterns) (all_apart patterns) far in
    absurd (later-not word r patterns parts.0 (subst (HasPattern word) (sym there) y) (i, p, omega arith, here, x))
one_of word c d (r ∷ patterns) far (suc i, p, l, here, x) (suc j, q, m, there, y) =
    let parts = and_parts (apart_from r patterns) (all_apart patterns) far in
    one_of word c d patterns parts.1 (i, p, omega arith, here, x) (j, q, omega arith, there, y)

-- a word has one code
one_code : (word : ℕ) (c d : Code) → IsCode word c → IsCode word d → c ≡ d
one_code word c d (inl x) (inl y) = one_of word c d (patterns_of word) refl x y
one_code word c d (inl x) (inr y) = absurd (y.0 (matched word c (patterns_of word) x))
one_code word c d (inr x) (inl y) = absurd (x.0 (matched word d (patterns_of word) y))
one_code word c d (inr x) (inr y) = x.1 ∙ sym y.1

-- ---- the code as a function

-- the test is that of the relation
fits-between : (word : ℕ) (pattern : Pattern) → fits word pattern ≡ true → HasPattern word pattern
fits-between word pattern e place low high =
    let parts = and_parts _ _ (each_passes
    (λ x. leb (digit_of pattern.least x) (digit_of word x) && leb (digit_of word x) (digit_of pattern.greatest x))
    1 6 e place low (omega arith)) in
    (leb-true _ _ parts.0, leb-true _ _ parts.1)

between-fits : (word : ℕ) (pattern : Pattern) → HasPattern word pattern → fits word pattern ≡ true
between-fits word pattern x = all_pass _ 1 6 (λ place low high.
    let here = x place low (omega arith) in
    and_from (leb (digit_of pattern.least place) (digit_of word place))
    (leb (digit_of word place) (digit_of pattern.greatest place)) (le-leb _ _ here.0) (le-leb _ _ here.1))

-- the word doesn't match the first of the patterns, nor the second, and so on
abbrev Unmatched : ℕ → List Pattern → Type 0
Unmatched word [] = Unit {0}
Unmatched word (pattern ∷ patterns) = (HasPattern word pattern → ⊥) × Unmatched word patterns

none_of : (word : ℕ) (patterns : List Pattern) → Unmatched word patterns → Any (HasPattern word) patterns → ⊥
none_of word [] unmatched (i, q, l, here, x) = omega arith
none_of word (pattern ∷ patterns) unmatched (zero, q, l, here, x) = grind arith
none_of word (pattern ∷ patterns) unmatched (suc i, q, l, here, x) =
    none_of word patterns unmatched.1 (i, q, omega arith, here, x)

-- the goal, where the word doesn't match the first of the patterns, nor the second, and so on
abbrev pub Unless : ℕ → List Pattern → Type 0 → Type 0
Unless word [] goal = goal
Unless word (pattern ∷ patterns) goal = (HasPattern word pattern → ⊥) → Unless word patterns goal

unless : (word : ℕ) (patterns : List Pattern) (goal : Type 0) → (Unmatched word patterns → goal)
    → Unless word patterns goal
unless word [] goal shown = shown tt
unless word (pattern ∷ patterns) goal shown = λ first. unless word patterns goal (λ others. shown (first, others))

pub other : (word : ℕ) → Unless word (patterns_of word) (IsCode word Other)
other word = unless word (patterns_of word) (IsCode word Other)
    (λ unmatched. inr (none_of word (patterns_of word) unmatched, refl))

-- the code of the first pattern is one that the word has
first_is : (word : ℕ) (patterns : List Pattern)
    → HasCodeOf patterns word (first_code word patterns)
    ⊎ (Unmatched word patterns × (first_code word patterns ≡ Other))
first_is word [] = inr (tt, refl)
first_is word (pattern ∷ patterns) = go (fits word pattern) refl (first_is word patterns)
  where
    go : (b : Bool) → fits word pattern ≡ b
        → HasCodeOf patterns word (first_code word patterns)
        ⊎ (Unmatched word patterns × (first_code word patterns ≡ Other))
        → HasCodeOf (pattern ∷ patterns) word (cond b pattern.code (first_code word patterns))
        ⊎ (Unmatched word (pattern ∷ patterns) × (cond b pattern.code (first_code word patterns) ≡ Other))
    go true e later = inl (0, pattern, omega arith, refl, (fits-between word pattern e, refl))
    go false e (inl (i, q, l, here, x)) = inl (suc i, q, omega arith, here, x)
    go false e (inr (none, other)) = grind (arith, between-fits, other)

-- the function gives the word's code
pub code_of_is : (word : ℕ) → IsCode word (code_of word)
unfolding code_of
code_of_is word = go (first_is word (patterns_of word))
  where
    go : HasCodeOf (patterns_of word) word (code_of word)
        ⊎ (Unmatched word (patterns_of word) × (code_of word ≡ Other))
        → IsCode word (code_of word)
    go (inl x) = inl x
    go (inr (none, other)) = inr (none_of word (patterns_of word) none, other)

pub only_code_of : (word : ℕ) (code : Code) → IsCode word code → code ≡ code_of word
only_code_of word code x = one_code word code (code_of word) x (code_of_is word)
