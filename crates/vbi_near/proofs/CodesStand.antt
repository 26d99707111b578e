-- The table of a line's codes has the words whose code may stand on the line, and no others.
-- codes_stand stands on it.
use Rattle.std.proofs.Common.{◌≡◌, ℕ, zero, suc, ◌≤◌, ◌<◌, false, List, [], ◌∷◌, ◌⊎◌, inl, inr, refl, sym, ap, ◌∙◌}
use Rattle.std.proofs.Common.{subst, arith, lit<, lit≤}
use Rattle.std.specs.Prelude.{Bool, true, IsTrue, ◌↔◌, ◌&&◌, not}
use Rattle.std.proofs.lemmas.Bool.{cases_lt, cases_eq, ltb-true, lt-ltb, true≢false, false_from_ne_true}
use Rattle.vbi_near.proofs.Common.{System, Ntsc, Pal, IsWord, digit_of, IsBetween, range, IsIn, IsOneOf, codes_of}
use Rattle.vbi_near.proofs.Common.{codes_of_16, codes_of_17, is_beyond_79999}
use Rattle.vbi_near.proofs.Digits.{between, beyond-digits, digits-beyond}
use Rattle.vbi_words.specs.declared.code.Code.{Code}
use Rattle.vbi_words.specs.declared.code.Code.TheVariants.{Picture, Chapter, Time, ClvPicture, CxOn, CxOff, Users}
use Rattle.vbi_words.specs.declared.code.Code.TheVariants.{LeadIn, LeadOut, PictureStop, ClvMark, Other}
use Rattle.vbi_words.specs.Codes.{Pattern, patterns_of, HasPattern, HasCodeOf, code_of, may_stand, last_two, picture_of}
use Rattle.vbi_words.specs.Codes.{chapter_of, seconds_of, last_three, pictures_in_second}
use Rattle.vbi_words.proofs.OneCode.{code_of_is, only_code_of}

-- ---- the pattern of a word's code

-- the word matches the first of the patterns, which has this code, or the second, and so on; or the code is no class's
abbrev Matched : ℕ → List Pattern → Code → Type 0
Matched word [] code = code ≡ Other
Matched word (pattern ∷ patterns) code = (HasPattern word pattern × (code ≡ pattern.code)) ⊎ Matched word patterns code

-- a pattern that the word matches is the first, or the second, and so on
matched : (word : ℕ) (patterns : List Pattern) (code : Code) → HasCodeOf patterns word code
    → Matched word patterns code
matched word [] code (i, p, l, here, x) = absurd (omega arith)
matched word (r ∷ patterns) code (zero, p, l, here, (x, e)) = grind arith
matched word (r ∷ patterns) code (suc i, p, l, here, x) = inr (matched word patterns code (i, p, omega arith, here, x))

-- a code of no class
unmatched : (word : ℕ) (patterns : List Pattern) (code : Code) → code ≡ Other → Matched word patterns code
unmatched word [] code e = e
unmatched word (r ∷ patterns) code e = inr (unmatched word patterns code e)

-- the code of a word
code-matched : (word : ℕ) → Matched word (patterns_of word) (code_of word)
code-matched word = grind (arith, code_of_is, matched, unmatched)

-- ---- what may stand is in the table

-- a code may stand if the one that it is may
may : (system : System) (line : ℕ) (code of : Code) → code ≡ of → IsTrue (may_stand system line code)
    → IsTrue (may_stand system line of)
may system line code of e stands = subst (λ (c : Code). IsTrue (may_stand system line c)) e stands

-- a code may not stand if the one that it is may not
barred : (system : System) (line : ℕ) (code of : Code) → code ≡ of → may_stand system line of ≡ false
    → IsTrue (may_stand system line code) → ⊥
barred system line code of e denied stands = true≢false (sym (may system line code of e stands) ∙ denied)

-- what may stand on line 17 may stand on line 18
same_18 : (system : System) (code : Code) → may_stand system 18 code ≡ may_stand system 17 code
same_18 system LeadIn = refl
same_18 system LeadOut = refl
same_18 system (Picture n) = refl
same_18 system (Chapter n) = refl
same_18 system (Time h m) = refl
same_18 system ClvMark = refl
same_18 system PictureStop = refl
same_18 system (ClvPicture s p) = refl
same_18 system (CxOn n) = refl
same_18 system (CxOff n) = refl
same_18 system (Users d n) = refl
same_18 system Other = refl

-- ---- ranges that are narrower than a pattern

-- x has a word's digits place by place: the last two make the number
module _ (w : ℕ) where
  -- times of an hour's 60 minutes
  time-in : IsBetween 0xF0DD00 0xF9DD99 w → last_two w < 60 → IsBetween 0xF0DD00 0xF9DD59 w
  time-in x few = grind (arith, between)

  time-of : IsBetween 0xF0DD00 0xF9DD59 w → IsBetween 0xF0DD00 0xF9DD99 w × (last_two w < 60)
  time-of x = grind (arith, between)

  -- CLV pictures of a second's 30
  clv-in_30 : IsBetween 0x8AE000 0x8FE999 w → last_two w < 30 → IsBetween 0x8AE000 0x8FE929 w
  clv-in_30 x few = grind (arith, between)

  clv-of_30 : IsBetween 0x8AE000 0x8FE929 w → IsBetween 0x8AE000 0x8FE999 w × (last_two w < 30)
  clv-of_30 x = grind (arith, between)

  -- the first 20 of a second's 25
  clv-in_20 : IsBetween 0x8AE000 0x8FE999 w → last_two w < 20 → IsBetween 0x8AE000 0x8FE919 w
  clv-in_20 x few = grind (arith, between)

  clv-of_20 : IsBetween 0x8AE000 0x8FE919 w → IsBetween 0x8AE000 0x8FE999 w × (last_two w < 25)
  clv-of_20 x = grind (arith, between)

  -- the others of a second's 25
  clv-in_25 : IsBetween 0x8AE000 0x8FE999 w → 20 ≤ last_two w → last_two w < 25 → IsBetween 0x8AE020 0x8FE924 w
  clv-in_25 x many few = grind (arith, between)

  clv-of_25 : IsBetween 0x8AE020 0x8FE924 w → IsBetween 0x8AE000 0x8FE999 w × (last_two w < 25)
  clv-of_25 x = grind (arith, between)

-- ---- picture numbers below 80,000 and from there on

-- pictures up to 79,999
module _ (w : ℕ) where
  low-in : IsBetween 0xF00000 0xFF9999 w → digit_of w 2 < 8 → IsBetween 0xF00000 0xF79999 w
  low-in x low = grind (arith, between)

  high-in : IsBetween 0xF00000 0xFF9999 w → 8 ≤ digit_of w 2 → IsBetween 0xF80000 0xFF9999 w
  high-in x high = grind (arith, between)

  picture-in : IsBetween 0xF00000 0xFF9999 w → is_beyond_79999 w ≡ false → IsBetween 0xF00000 0xF79999 w
  picture-in x within = grind (arith, digits-beyond, high-in, low-in)

  picture-of : IsBetween 0xF00000 0xF79999 w → IsBetween 0xF00000 0xFF9999 w
  picture-of x = grind (arith, between)

-- a word isn't in two ranges if the greatest digit of the one at a place is below the least of the other
apart : (w a b c d place : ℕ) → 1 ≤ place → place ≤ 6 → IsBetween a b w → IsBetween c d w
    → digit_of b place < digit_of c place → ⊥
apart w a b c d place low high x y less = omega (arith, (x place low high).1, (y place low high).0, less)

-- ---- the words of a line

module _ (system : System) (w : ℕ) (is : IsWord w) where
  -- what may stand on line 17 is in its table
  in_17 : (code : Code) → Matched w (patterns_of w) code → is_beyond_79999 w ≡ false
      → IsTrue (may_stand system 17 code) → IsOneOf codes_of_17 w
  in_17 code (inl (x, e)) within stands = inl (is, x)
  in_17 code (inr (inl (x, e))) within stands = inr (inl (is, x))
  in_17 code (inr (inr (inl (x, e)))) within stands = inr (inr (inl (is, picture-in w x within)))
  in_17 code (inr (inr (inr (inl (x, e))))) within stands = inr (inr (inr (inl (is, x))))
  in_17 code (inr (inr (inr (inr (inl (x, e)))))) within stands = inr (inr (inr (inr (inl (is, x)))))
  in_17 code (inr (inr (inr (inr (inr (inl (x, e))))))) within stands = inr (inr (inr (inr (inr (inl (is, x))))))
  in_17 code (inr (inr (inr (inr (inr (inr (inl (x, e)))))))) within stands = grind (arith, ltb-true, may, time-in)
  in_17 code (inr (inr (inr (inr (inr (inr (inr (inl (x, e))))))))) within stands = grind (arith, barred)
  in_17 code (inr (inr (inr (inr (inr (inr (inr (inr (inl (x, e)))))))))) within stands = grind (arith, barred)
  in_17 code (inr (inr (inr (inr (inr (inr (inr (inr (inr (inl (x, e))))))))))) within stands = grind (arith, barred)
  in_17 code (inr (inr (inr (inr (inr (inr (inr (inr (inr (inr (inl (x, e)))))))))))) within stands =
      absurd (barred system 17 code (Users (digit_of w 2) (last_three w)) e refl stands)
  in_17 code (inr (inr (inr (inr (inr (inr (inr (inr (inr (inr (inr e))))))))))) within stands = grind (arith, barred)

  -- a CLV picture, and other codes of line 16, in the table of each system
  clv_16 : (system : System) → IsBetween 0x8AE000 0x8FE999 w → last_two w < pictures_in_second system
      → IsOneOf (codes_of_16 system) w
  clv_16 Ntsc x few = inr (inl (is, clv-in_30 w x few))
  clv_16 Pal x few = go (cases_lt (last_two w) 20)
    where
      go : (last_two w < 20) ⊎ (20 ≤ last_two w) → IsOneOf (codes_of_16 Pal) w
      go (inl less) = inr (inl (is, clv-in_20 w x less))
      go (inr more) = inr (inr (inl (is, clv-in_25 w x more few)))

  stop_16 : (system : System) → IsBetween 0x82CFFF 0x82CFFF w → IsOneOf (codes_of_16 system) w
  stop_16 system x = grind arith

  cx_on_16 : (system : System) → IsBetween 0x8DC000 0x8DCFFF w → IsOneOf (codes_of_16 system) w
  cx_on_16 system x = grind arith

  cx_off_16 : (system : System) → IsBetween 0x8BA000 0x8BAFFF w → IsOneOf (codes_of_16 system) w
  cx_off_16 system x = grind arith

  users_16 : (system : System) → IsBetween 0x80D000 0x87DFFF w → IsOneOf (codes_of_16 system) w
  users_16 system x = grind arith

  -- what may stand on line 16 is in its table
  in_16 : (code : Code) → Matched w (patterns_of w) code → IsTrue (may_stand system 16 code)
      → IsOneOf (codes_of_16 system) w
  in_16 code (inl (x, e)) stands = absurd (barred system 16 code LeadIn e refl stands)
  in_16 code (inr (inl (x, e))) stands = absurd (barred system 16 code LeadOut e refl stands)
  in_16 code (inr (inr (inl (x, e)))) stands = absurd (barred system 16 code (Picture (picture_of w)) e refl stands)
  in_16 code (inr (inr (inr (inl (x, e))))) stands = stop_16 system x
  in_16 code (inr (inr (inr (inr (inl (x, e)))))) stands = grind (arith, barred)
  in_16 code (inr (inr (inr (inr (inr (inl (x, e))))))) stands = absurd (barred system 16 code ClvMark e refl stands)
  in_16 code (inr (inr (inr (inr (inr (inr (inl (x, e)))))))) stands = grind (arith, barred)
  in_16 code (inr (inr (inr (inr (inr (inr (inr (inl (x, e))))))))) stands = grind (arith, clv_16, ltb-true, may)
  in_16 code (inr (inr (inr (inr (inr (inr (inr (inr (inl (x, e)))))))))) stands = cx_on_16 system x
  in_16 code (inr (inr (inr (inr (inr (inr (inr (inr (inr (inl (x, e))))))))))) stands = cx_off_16 system x
  in_16 code (inr (inr (inr (inr (inr (inr (inr (inr (inr (inr (inl (x, e)))))))))))) stands = users_16 system x
  in_16 code (inr (inr (inr (inr (inr (inr (inr (inr (inr (inr (inr e))))))))))) stands = grind (arith, barred)

  -- the code of a word that matches a pattern
  abbrev Has : Code → Type 0
  Has code = HasCodeOf (patterns_of w) w code

  -- by its pattern's code
  by : (line : ℕ) (code : Code) → Has code → IsTrue (may_stand system line code)
      → IsTrue (may_stand system line (code_of w))
  by line code has stands = may system line code (code_of w) (only_code_of w code (inl has)) stands

  -- what is in the table of line 17 may stand there
  of_17 : IsOneOf codes_of_17 w → IsTrue (may_stand system 17 (code_of w))
  of_17 (inl (word, x)) = by 17 LeadIn (0, _, lit< tt, refl, (x, refl)) refl
  of_17 (inr (inl (word, x))) = by 17 LeadOut (1, _, lit< tt, refl, (x, refl)) refl
  of_17 (inr (inr (inl (word, x)))) =
      by 17 (Picture (picture_of w)) (2, _, lit< tt, refl, (picture-of w x, refl)) refl
  of_17 (inr (inr (inr (inl (word, x))))) = by 17 PictureStop (3, _, lit< tt, refl, (x, refl)) refl
  of_17 (inr (inr (inr (inr (inl (word, x)))))) = by 17 (Chapter (chapter_of w)) (4, _, lit< tt, refl, (x, refl)) refl
  of_17 (inr (inr (inr (inr (inr (inl (word, x))))))) = by 17 ClvMark (5, _, lit< tt, refl, (x, refl)) refl
  of_17 (inr (inr (inr (inr (inr (inr (inl (word, x)))))))) =
      let y = time-of w x in
      by 17 (Time (digit_of w 2) (last_two w)) (6, _, lit< tt, refl, (y.0, refl)) (lt-ltb (last_two w) 60 y.1)
  of_17 (inr (inr (inr (inr (inr (inr (inr none))))))) = absurd none

  -- the codes of line 16 may stand there
  of_clv : IsBetween 0x8AE000 0x8FE999 w → last_two w < pictures_in_second system
      → IsTrue (may_stand system 16 (code_of w))
  of_clv x few =
      by 16 (ClvPicture (seconds_of w) (last_two w)) (7, _, lit< tt, refl, (x, refl))
      (lt-ltb (last_two w) (pictures_in_second system) few)

  of_stop : IsBetween 0x82CFFF 0x82CFFF w → IsTrue (may_stand system 16 (code_of w))
  of_stop x = by 16 PictureStop (3, _, lit< tt, refl, (x, refl)) refl

  of_cx_on : IsBetween 0x8DC000 0x8DCFFF w → IsTrue (may_stand system 16 (code_of w))
  of_cx_on x = by 16 (CxOn (last_three w)) (8, _, lit< tt, refl, (x, refl)) refl

  of_cx_off : IsBetween 0x8BA000 0x8BAFFF w → IsTrue (may_stand system 16 (code_of w))
  of_cx_off x = by 16 (CxOff (last_three w)) (9, _, lit< tt, refl, (x, refl)) refl

  of_users : IsBetween 0x80D000 0x87DFFF w → IsTrue (may_stand system 16 (code_of w))
  of_users x = by 16 (Users (digit_of w 2) (last_three w)) (10, _, lit< tt, refl, (x, refl)) refl

-- what is in the table of line 16 may stand there
of_16 : (system : System) (w : ℕ) → IsWord w → IsOneOf (codes_of_16 system) w
    → IsTrue (may_stand system 16 (code_of w))
of_16 Ntsc w is (inl (word, x)) = of_stop Ntsc w is x
of_16 Ntsc w is (inr (inl (word, x))) = let y = clv-of_30 w x in of_clv Ntsc w is y.0 y.1
of_16 Ntsc w is (inr (inr (inl (word, x)))) = of_cx_on Ntsc w is x
of_16 Ntsc w is (inr (inr (inr (inl (word, x))))) = of_cx_off Ntsc w is x
of_16 Ntsc w is (inr (inr (inr (inr (inl (word, x)))))) = of_users Ntsc w is x
of_16 Ntsc w is (inr (inr (inr (inr (inr none))))) = absurd none
of_16 Pal w is (inl (word, x)) = of_stop Pal w is x
of_16 Pal w is (inr (inl (word, x))) = let y = clv-of_20 w x in of_clv Pal w is y.0 y.1
of_16 Pal w is (inr (inr (inl (word, x)))) = let y = clv-of_25 w x in of_clv Pal w is y.0 y.1
of_16 Pal w is (inr (inr (inr (inl (word, x))))) = of_cx_on Pal w is x
of_16 Pal w is (inr (inr (inr (inr (inl (word, x)))))) = of_cx_off Pal w is x
of_16 Pal w is (inr (inr (inr (inr (inr (inl (word, x))))))) = of_users Pal w is x
of_16 Pal w is (inr (inr (inr (inr (inr (inr none)))))) = absurd none

-- ---- none of a line's codes is a picture number of 80,000 or more

module _ (w : ℕ) (beyond : IsBetween 0xF80000 0xFF9999 w) where
  -- the words that begin with 8
  not_8 : (least greatest : ℕ) → IsIn (range least greatest) w → digit_of greatest 1 < 15 → ⊥
  not_8 least greatest (word, x) less = apart w least greatest 0xF80000 0xFF9999 1 (lit≤ tt) (lit≤ tt) x beyond less

  not_17 : IsOneOf codes_of_17 w → ⊥
  not_17 (inl x) = not_8 _ _ x (lit< tt)
  not_17 (inr (inl x)) = not_8 _ _ x (lit< tt)
  not_17 (inr (inr (inl (word, x)))) =
      apart w 0xF00000 0xF79999 0xF80000 0xFF9999 2 (lit≤ tt) (lit≤ tt) x beyond (lit< tt)
  not_17 (inr (inr (inr (inl x)))) = not_8 _ _ x (lit< tt)
  not_17 (inr (inr (inr (inr (inl x))))) = not_8 _ _ x (lit< tt)
  not_17 (inr (inr (inr (inr (inr (inl x)))))) = not_8 _ _ x (lit< tt)
  not_17 (inr (inr (inr (inr (inr (inr (inl (word, x)))))))) =
      apart w 0xF80000 0xFF9999 0xF0DD00 0xF9DD59 3 (lit≤ tt) (lit≤ tt) beyond x (lit< tt)
  not_17 (inr (inr (inr (inr (inr (inr (inr none))))))) = none

  not_16 : (system : System) → IsOneOf (codes_of_16 system) w → ⊥
  not_16 Ntsc (inl x) = not_8 _ _ x (lit< tt)
  not_16 Ntsc (inr (inl x)) = not_8 _ _ x (lit< tt)
  not_16 Ntsc (inr (inr (inl x))) = not_8 _ _ x (lit< tt)
  not_16 Ntsc (inr (inr (inr (inl x)))) = not_8 _ _ x (lit< tt)
  not_16 Ntsc (inr (inr (inr (inr (inl x))))) = not_8 _ _ x (lit< tt)
  not_16 Ntsc (inr (inr (inr (inr (inr none))))) = none
  not_16 Pal (inl x) = not_8 _ _ x (lit< tt)
  not_16 Pal (inr (inl x)) = not_8 _ _ x (lit< tt)
  not_16 Pal (inr (inr (inl x))) = not_8 _ _ x (lit< tt)
  not_16 Pal (inr (inr (inr (inl x)))) = not_8 _ _ x (lit< tt)
  not_16 Pal (inr (inr (inr (inr (inl x))))) = not_8 _ _ x (lit< tt)
  not_16 Pal (inr (inr (inr (inr (inr (inl x)))))) = not_8 _ _ x (lit< tt)
  not_16 Pal (inr (inr (inr (inr (inr (inr none)))))) = none

-- a code of line 17 is no picture number of 80,000 or more, nor is a code of line 16
within_17 : (w : ℕ) → IsOneOf codes_of_17 w → is_beyond_79999 w ≡ false
within_17 w one = false_from_ne_true (is_beyond_79999 w) (λ is. not_17 w (beyond-digits w is) one)

within_16 : (system : System) (w : ℕ) → IsOneOf (codes_of_16 system) w → is_beyond_79999 w ≡ false
within_16 system w one = false_from_ne_true (is_beyond_79999 w) (λ is. not_16 w (beyond-digits w is) system one)

-- ---- on each of the three lines

-- a code may stand on a line and is no picture number of 80,000 or more: both, and each
both-stand : (a b : Bool) → a ≡ true → b ≡ false → IsTrue (a && not b)
both-stand a b stands within = λ j. stands j && not (within j)

each-stands : (a b : Bool) → IsTrue (a && not b) → IsTrue a × (b ≡ false)
each-stands true true is = cc
each-stands true false is = (refl, refl)
each-stands false b is = cc

-- the table of a line has a word if its code may stand there, but no picture number of 80,000 or more, and no other
abbrev Stands : System → ℕ → ℕ → Type 0
Stands system word line =
    IsOneOf (codes_of system line) word
    ↔ IsTrue (may_stand system line (code_of word) && not (is_beyond_79999 word))

-- on each of the three lines
pub codes_stand : (system : System) (line word : ℕ) → 16 ≤ line → line ≤ 18 → IsWord word
    → (IsOneOf (codes_of system line) word
    ↔ IsTrue (may_stand system line (code_of word) && not (is_beyond_79999 word)))
codes_stand system line word low high is = go (cases_eq line 16) (cases_eq line 17)
  where
    is_16 : IsOneOf (codes_of_16 system) word
        → IsTrue (may_stand system 16 (code_of word) && not (is_beyond_79999 word))
    is_16 one =
        both-stand (may_stand system 16 (code_of word)) (is_beyond_79999 word) (of_16 system word is one)
        (within_16 system word one)

    is_17 : IsOneOf codes_of_17 word → IsTrue (may_stand system 17 (code_of word) && not (is_beyond_79999 word))
    is_17 one =
        both-stand (may_stand system 17 (code_of word)) (is_beyond_79999 word) (of_17 system word is one)
        (within_17 word one)

    has_17 : IsTrue (may_stand system 17 (code_of word) && not (is_beyond_79999 word)) → IsOneOf codes_of_17 word
    has_17 stands =
        let each = each-stands (may_stand system 17 (code_of word)) (is_beyond_79999 word) stands in
        in_17 system word is (code_of word) (code-matched word) each.1 each.0

    has_16 : IsTrue (may_stand system 16 (code_of word) && not (is_beyond_79999 word))
        → IsOneOf (codes_of_16 system) word
    has_16 stands =
        let each = each-stands (may_stand system 16 (code_of word)) (is_beyond_79999 word) stands in
        in_16 system word is (code_of word) (code-matched word) each.0

    go : (line ≡ 16) ⊎ (line ≡ 16 → ⊥) → (line ≡ 17) ⊎ (line ≡ 17 → ⊥) → Stands system word line
    go (inl e) any = subst (Stands system word) (sym e) (is_16, has_16)
    go (inr not_first) (inl e) = subst (Stands system word) (sym e) (is_17, has_17)
    go (inr not_first) (inr nor) =
        let e : line ≡ 18 = omega arith in
        let same : (may_stand system 18 (code_of word) && not (is_beyond_79999 word))
        ≡ (may_stand system 17 (code_of word) && not (is_beyond_79999 word)) =
        ap (λ (b : Bool). b && not (is_beyond_79999 word)) (same_18 system (code_of word)) in
        subst (Stands system word) (sym e) (λ one. same ∙ is_17 one, λ stands. has_17 (sym same ∙ stands))
