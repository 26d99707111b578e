-- Parts of a story, and what it is without them.
use Rattle.std.proofs.Common.{◌≡◌, ℕ, suc, ◌+◌, ◌-◌, ◌<◌, ◌≤◌, List, [], ◌∷◌, ◌++◌, length, arith, sym, ◌∙◌, ap, subst}
use Rattle.std.proofs.Common.{take, drop}
use Rattle.std.proofs.lemmas.List.{take-append-drop, drop-drop, get_or-take, get_or-drop, length-take-le, length-drop}
use Rattle.vbi_story.specs.declared.reading.NumberReading.{NumberReading}
use Rattle.vbi_story.specs.Story.{reading_at, nothing, IsAmong, Each, IsBefore, Ascends, IsStory, weight}
use Rattle.vbi_story.specs.Beliefs.{part, without}
use Rattle.vbi_story.proofs.Splices.{weight_append, each_append, each_first, each_rest, ascends_begin, earlier}
use Rattle.vbi_story.proofs.Chains.{run_weight}

ascends_tail : (xs ys : List NumberReading) → Ascends (xs ++ ys) → Ascends ys
ascends_tail [] ys a = a
ascends_tail (x ∷ xs) ys a = ascends_tail xs ys a.1

before_without : (x : NumberReading) (xs ys zs : List NumberReading) → Ascends (x ∷ (xs ++ (ys ++ zs)))
    → IsBefore x (xs ++ zs)
before_without x (y ∷ xs) ys zs a = a.0
before_without x [] ys [] a = tt
before_without x [] ys (z ∷ zs) a = earlier x z ys zs a

ascends_without : (xs ys zs : List NumberReading) → Ascends (xs ++ (ys ++ zs)) → Ascends (xs ++ zs)
ascends_without [] ys zs a = ascends_tail ys zs a
ascends_without (x ∷ xs) ys zs a = (before_without x xs ys zs a, ascends_without xs ys zs a.1)

each_of : (P : NumberReading → Type 0) (xs : List NumberReading)
    → ((n : ℕ) → n < length xs → P (reading_at xs n)) → Each P xs
each_of P [] each = tt
each_of P (x ∷ xs) each = (each 0 (omega arith), each_of P xs (λ n h. each (suc n) (omega arith)))

module _ (told : List NumberReading) (a b : ℕ) (le : a ≤ b) where
  rest_is : drop a told ≡ part told a b ++ drop b told
  rest_is =
      let past : a + (b - a) ≡ b = omega arith in
      sym (take-append-drop (b - a) (drop a told))
      ∙ ap (λ (xs : List NumberReading). part told a b ++ xs)
      (drop-drop (b - a) a told ∙ ap (λ (n : ℕ). drop n told) past)

  told_is : told ≡ take a told ++ (part told a b ++ drop b told)
  told_is = sym (take-append-drop a told) ∙ ap (λ (xs : List NumberReading). take a told ++ xs) rest_is

  pub story_without : (readings : List NumberReading) → IsStory readings told → IsStory readings (without told a b)
  story_without readings story =
      let among : Each (IsAmong readings) (take a told ++ (part told a b ++ drop b told))
      = subst (Each (IsAmong readings)) told_is story.among in
      record {
        among = each_append (IsAmong readings) (take a told) (drop b told)
            (each_first (IsAmong readings) (take a told) (part told a b ++ drop b told) among)
            (each_rest (IsAmong readings) (part told a b) (drop b told)
            (each_rest (IsAmong readings) (take a told) (part told a b ++ drop b told) among));
        ascends = ascends_without (take a told) (part told a b) (drop b told) (subst Ascends told_is story.ascends);
      }

  pub story_part : (readings : List NumberReading) → IsStory readings told → IsStory readings (part told a b)
  story_part readings story =
      let among : Each (IsAmong readings) (take a told ++ (part told a b ++ drop b told))
      = subst (Each (IsAmong readings)) told_is story.among in
      record {
        among = each_first (IsAmong readings) (part told a b) (drop b told)
            (each_rest (IsAmong readings) (take a told) (part told a b ++ drop b told) among);
        ascends = ascends_begin (part told a b) (drop b told)
            (ascends_tail (take a told) (part told a b ++ drop b told) (subst Ascends told_is story.ascends));
      }

  pub each_part : (P : NumberReading → Type 0) → b ≤ length told
      → ((n : ℕ) → a ≤ n → n < b → P (reading_at told n)) → Each P (part told a b)
  each_part P inside each =
      let long : length (part told a b) ≡ b - a
      = length-take-le (b - a) (drop a told) (omega (arith, length-drop a told)) in
      each_of P (part told a b) (λ n h.
      let less : n < b - a = omega (arith, long) in
      let is : reading_at (part told a b) n ≡ reading_at told (a + n)
      = get_or-take (b - a) (drop a told) n nothing less ∙ get_or-drop a told n nothing in
      subst P (sym is) (each (a + n) (omega arith) (omega arith)))

  -- its weight, by what is told up to a place
  pub weight_part : weight (take a told) + weight (part told a b) ≡ weight (take b told)
  weight_part = omega (
    arith,
    run_weight told a b le,
    weight_append (take a told) (drop b told),
    ap weight (take-append-drop b told),
    weight_append (take b told) (drop b told),
  )
