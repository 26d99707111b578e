-- A part of a story is exchanged for another.
use Rattle.std.proofs.Common.{◌≡◌, ◌+◌, ◌<◌, ◌≤◌, List, [], ◌∷◌, ◌++◌, refl, arith}
use Rattle.vbi_story.specs.declared.reading.NumberReading.{NumberReading}
use Rattle.vbi_story.specs.Story.{IsAmong, Each, IsBefore, Ascends, price, weight, first_price, IsStory, IsBest}
use Rattle.vbi_story.specs.Stretches.{between}

pub weight_append : (xs ys : List NumberReading) → weight (xs ++ ys) ≡ weight xs + weight ys
weight_append [] ys = omega arith
weight_append (x ∷ xs) ys = omega (arith, weight_append xs ys)

first_same : (x y : NumberReading) (xs ys : List NumberReading)
    → first_price x (xs ++ y ∷ ys) ≡ first_price x (xs ++ y ∷ [])
first_same x y [] ys = refl
first_same x y (z ∷ xs) ys = refl

pub price_split : (xs : List NumberReading) (y : NumberReading) (ys : List NumberReading)
    → price (xs ++ y ∷ ys) ≡ price (xs ++ y ∷ []) + price (y ∷ ys)
price_split [] y ys = omega arith
price_split (x ∷ xs) y ys = omega (arith, price_split xs y ys, first_same x y xs ys)

pub each_append : (P : NumberReading → Type 0) (xs ys : List NumberReading) → Each P xs → Each P ys → Each P (xs ++ ys)
each_append P [] ys a b = b
each_append P (x ∷ xs) ys a b = (a.0, each_append P xs ys a.1 b)

pub each_first : (P : NumberReading → Type 0) (xs ys : List NumberReading) → Each P (xs ++ ys) → Each P xs
each_first P [] ys a = tt
each_first P (x ∷ xs) ys a = (a.0, each_first P xs ys a.1)

pub each_rest : (P : NumberReading → Type 0) (xs ys : List NumberReading) → Each P (xs ++ ys) → Each P ys
each_rest P [] ys a = a
each_rest P (x ∷ xs) ys a = each_rest P xs ys a.1

-- what follows for each follows for all
pub each_both : (P Q : NumberReading → Type 0) → ((r : NumberReading) → P r → Q r) → (xs : List NumberReading)
    → Each P xs → Each Q xs
each_both P Q then [] a = tt
each_both P Q then (x ∷ xs) a = (then x a.0, each_both P Q then xs a.1)

before_first : (x y : NumberReading) (xs ys zs : List NumberReading) → IsBefore x (xs ++ y ∷ ys)
    → IsBefore x (xs ++ y ∷ zs)
before_first x y [] ys zs b = b
before_first x y (z ∷ xs) ys zs b = b

pub ascends_first : (xs : List NumberReading) (y : NumberReading) (ys : List NumberReading) → Ascends (xs ++ y ∷ ys)
    → Ascends (xs ++ y ∷ [])
ascends_first [] y ys a = (tt, tt)
ascends_first (x ∷ xs) y ys a = (before_first x y xs ys [] a.0, ascends_first xs y ys a.1)

begin_before : (x : NumberReading) (xs ys : List NumberReading) → IsBefore x (xs ++ ys) → IsBefore x xs
begin_before x [] ys b = tt
begin_before x (z ∷ xs) ys b = b

pub ascends_begin : (xs ys : List NumberReading) → Ascends (xs ++ ys) → Ascends xs
ascends_begin [] ys a = tt
ascends_begin (x ∷ xs) ys a = (begin_before x xs ys a.0, ascends_begin xs ys a.1)

pub ascends_rest : (xs : List NumberReading) (y : NumberReading) (ys : List NumberReading) → Ascends (xs ++ y ∷ ys)
    → Ascends (y ∷ ys)
ascends_rest [] y ys a = a
ascends_rest (x ∷ xs) y ys a = ascends_rest xs y ys a.1

pub ascends_join : (xs : List NumberReading) (y : NumberReading) (ys : List NumberReading) → Ascends (xs ++ y ∷ [])
    → Ascends (y ∷ ys)
    → Ascends (xs ++ y ∷ ys)
ascends_join [] y ys a b = b
ascends_join (x ∷ xs) y ys a b = (before_first x y xs [] ys a.0, ascends_join xs y ys a.1 b)

-- one that stands before another in a story is of an earlier field
pub earlier : (x y : NumberReading) (xs ys : List NumberReading) → Ascends (x ∷ (xs ++ y ∷ ys)) → x.field < y.field
earlier x y [] ys a = a.0
earlier x y (z ∷ xs) ys a = omega (arith, a.0, earlier z y xs ys a.1)

-- ---- the exchange

module _ (readings before after old new : List NumberReading) (a b : NumberReading)
    (best : IsBest readings (before ++ a ∷ (old ++ b ∷ after)))
    (told : IsStory readings (between a new b)) where
  exchanged : IsStory readings (before ++ a ∷ (new ++ b ∷ after))
  exchanged =
      let was : IsStory readings (before ++ a ∷ (old ++ b ∷ after)) = best.story_is in
      record {
        among = each_append (IsAmong readings) before (a ∷ (new ++ b ∷ after))
            (each_first (IsAmong readings) before (a ∷ (old ++ b ∷ after)) was.among) (
              told.among.0,
              each_append (IsAmong readings) new (b ∷ after)
                  (each_first (IsAmong readings) new (b ∷ []) told.among.1)
                  (each_rest (IsAmong readings) (a ∷ old) (b ∷ after)
                  (each_rest (IsAmong readings) before (a ∷ (old ++ b ∷ after)) was.among)),
            );
        ascends = ascends_join before a (new ++ b ∷ after)
            (ascends_first before a (old ++ b ∷ after) was.ascends)
            (ascends_join (a ∷ new) b after told.ascends
            (ascends_rest (a ∷ old) b after (ascends_rest before a (old ++ b ∷ after) was.ascends)));
      }

  weight_parts : (middle : List NumberReading) → weight (before ++ a ∷ (middle ++ b ∷ after))
      ≡ weight before + (weight middle + (a.weight + weight (b ∷ after)))
  weight_parts middle = omega (
    arith,
    weight_append before (a ∷ (middle ++ b ∷ after)),
    weight_append middle (b ∷ after),
  )

  price_parts : (middle : List NumberReading) → price (before ++ a ∷ (middle ++ b ∷ after))
      ≡ price (before ++ a ∷ []) + (price (between a middle b) + price (b ∷ after))
  price_parts middle = omega (arith, price_split before a (middle ++ b ∷ after), price_split (a ∷ middle) b after)

  -- what was told there is worth at least what may be told in its place
  pub exchange : weight new + price (between a old b) ≤ weight old + price (between a new b)
  exchange =
      let most = best.best (before ++ a ∷ (new ++ b ∷ after)) exchanged in
      omega (arith, most, weight_parts new, weight_parts old, price_parts new, price_parts old)
