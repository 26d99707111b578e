-- What the best story tells in a stretch.
use Rattle.std.proofs.Common.{◌≡◌, ◌≢◌, inl, inr, ℕ, ◌+◌, ◌*◌, ◌<◌, ◌≤◌, List, [], ◌∷◌, ◌++◌, refl}
use Rattle.std.proofs.Common.{arith, subst, sym, ◌∙◌, ap, append_assoc}
use Rattle.std.proofs.lemmas.Bool.{cases_Bool}
use Rattle.std.specs.Prelude.{nat_eq, Bool, true, false}
use Rattle.std.proofs.lemmas.Bool.Decides.{nat_tests}
use Rattle.std.proofs.lemmas.Grind.{common_steps}
use Rattle.vbi_story.specs.declared.reading.NumberReading.{NumberReading}
use Rattle.vbi_story.specs.Story.{IsAmong, Each, Ascends, price, weight, first_price, IsStory, IsBest}
use Rattle.vbi_story.specs.Story.{is_near, near, far}
use Rattle.vbi_story.specs.Stretches.{IsWithin, AreLighter, AreFarOff, IsOn, IsOff, between, AreOutdone, IsHeard}
use Rattle.vbi_story.specs.Stretches.{AreOutweighed, RanOn, AreOfVideo, RunsOn}
use Rattle.vbi_story.proofs.Prices.{price_same, price_least, price_far, price_most}
use Rattle.vbi_story.proofs.Splices.{exchange, each_both, ascends_begin, weight_append, each_first, each_rest}
use Rattle.vbi_story.proofs.Splices.{ascends_first, ascends_rest, earlier}

-- a way along one row costs nothing
free : (row : ℕ) (a b : NumberReading) (right : List NumberReading) → IsOn row a → IsOn row b → Each (IsOn row) right
    → price (between a right b) ≡ 0
free row a b [] on_a on_b on = omega (arith, price_same a.row b.row (on_a ∙ sym on_b))
free row a b (x ∷ right) on_a on_b on =
    omega (arith, price_same a.row x.row (on_a ∙ sym on.0), free row x b right on.0 on_b on.1)

-- ---- what leaving costs

last_near : (row : ℕ) (x b : NumberReading) (wrong : List NumberReading) → IsOff row x → IsOn row b
    → Each (IsOff row) wrong
    → near ≤ price (x ∷ (wrong ++ b ∷ []))
last_near row x b [] off on_b each = omega (arith, price_least x.row b.row (λ e. off (e ∙ on_b)))
last_near row x b (y ∷ wrong) off on_b each = omega (arith, last_near row y b wrong each.0 on_b each.1)

pub leaving_near : (row : ℕ) (a b : NumberReading) (wrong : List NumberReading) → IsOn row a → IsOn row b
    → Each (IsOff row) wrong → wrong ≢ [] → 2 * near ≤ price (between a wrong b)
leaving_near row a b [] on_a on_b each some = absurd (some refl)
leaving_near row a b (x ∷ wrong) on_a on_b each some =
    omega (arith, price_least a.row x.row (λ e. each.0 (sym e ∙ on_a)), last_near row x b wrong each.0 on_b each.1)

near_turned : (a b : ℕ) → is_near a b ≡ false → is_near b a ≡ false
near_turned a b away = grind (arith, nat_tests, common_steps)

last_far : (row : ℕ) (x b : NumberReading) (wrong : List NumberReading) → IsOff row x → is_near x.row row ≡ false
    → IsOn row b
    → Each (IsOff row) wrong → Each (λ r. is_near r.row row ≡ false) wrong → far ≤ price (x ∷ (wrong ++ b ∷ []))
last_far row x b [] off away on_b each far_off =
    omega (arith, price_far x.row b.row (λ e. off (e ∙ on_b)) (rw on_b away))
last_far row x b (y ∷ wrong) off away on_b each far_off =
    omega (arith, last_far row y b wrong each.0 far_off.0 on_b each.1 far_off.1)

pub leaving_far : (row : ℕ) (a b : NumberReading) (wrong : List NumberReading) → IsOn row a → IsOn row b
    → Each (IsOff row) wrong → Each (λ r. is_near r.row row ≡ false) wrong → wrong ≢ []
    → 2 * far ≤ price (between a wrong b)
leaving_far row a b [] on_a on_b each far_off some = absurd (some refl)
leaving_far row a b (x ∷ wrong) on_a on_b each far_off some =
    let turned : is_near row x.row ≡ false = near_turned x.row row far_off.0 in
    omega (
      arith,
      price_far a.row x.row (λ e. each.0 (sym e ∙ on_a)) (rw on_a turned),
      last_far row x b wrong each.0 far_off.0 on_b each.1 far_off.1,
    )

-- ---- a run is heard

-- a step costs at most a far one, and nothing where nothing comes
first_most : (r : NumberReading) (more : List NumberReading) → first_price r more ≤ far
first_most r [] = omega arith
first_most r (next ∷ more) = price_most r.row next.row

price_joined : (xs ys : List NumberReading) → price (xs ++ ys) ≤ price xs + (far + price ys)
price_joined [] ys = omega arith
price_joined (x ∷ []) ys = omega (arith, first_most x ys)
price_joined (x ∷ y ∷ xs) ys = omega (arith, price_joined (y ∷ xs) ys)

price_apart : (xs ys : List NumberReading) → price xs + price ys ≤ price (xs ++ ys)
price_apart [] ys = omega arith
price_apart (x ∷ []) ys = omega arith
price_apart (x ∷ y ∷ xs) ys = omega (arith, price_apart (y ∷ xs) ys)

run_free : (row : ℕ) (right : List NumberReading) → Each (IsOn row) right → price right ≡ 0
run_free row [] on = refl
run_free row (x ∷ []) on = omega arith
run_free row (x ∷ y ∷ right) on =
    omega (arith, price_same x.row y.row (on.0 ∙ sym on.1.0), run_free row (y ∷ right) on.1)

pub run_heard : (readings before middle after right : List NumberReading) (row : ℕ)
    → IsBest readings (before ++ (middle ++ after)) → IsStory readings (before ++ (right ++ after))
    → Each (IsOn row) right → weight right ≤ weight middle + 2 * far
run_heard readings before middle after right row best told on =
    let most = best.best (before ++ (right ++ after)) told in
    omega (
      arith,
      most,
      weight_append before (right ++ after),
      weight_append right after,
      weight_append before (middle ++ after),
      weight_append middle after,
      price_joined before (right ++ after),
      price_joined right after,
      run_free row right on,
      price_apart before (middle ++ after),
      price_apart middle after,
    )

-- ---- none is left out

pub none_left_out : (readings before after : List NumberReading) (a b r : NumberReading) (row : ℕ)
    → IsBest readings (before ++ a ∷ b ∷ after) → IsOn row a → IsOn row b → IsOn row r → IsAmong readings r
    → a.field < r.field → r.field < b.field → r.weight ≡ 0
none_left_out readings before after a b r row best on_a on_b on_r among a_first b_last =
    let was = each_rest (IsAmong readings) before (a ∷ b ∷ after) best.story_is.among in
    let told : IsStory readings (between a (r ∷ []) b) = record {
      among = (was.0, (among, (was.1.0, tt)));
      ascends = (a_first, (b_last, (tt, tt)));
    } in
    omega (
      arith,
      exchange readings before after [] (r ∷ []) a b best told,
      free row a b (r ∷ []) on_a on_b (on_r, tt),
      free row a b [] on_a on_b tt,
    )

-- ---- whatever is told between two true ones is true

each_cut : (P : NumberReading → Type 0) (xs : List NumberReading) (y : NumberReading) (ys : List NumberReading)
    → Each P (xs ++ y ∷ ys)
    → Each P (xs ++ y ∷ [])
each_cut P [] y ys each = (each.0, tt)
each_cut P (x ∷ xs) y ys each = (each.0, each_cut P xs y ys each.1)

-- the way back: the readings before the first that is right again
record Back (is_right : NumberReading → Bool) (b : NumberReading) (whole : List NumberReading) : Type 0 where
  off : List NumberReading
  first : NumberReading
  rest : List NumberReading
  is : whole ≡ off ++ first ∷ rest
  are_off : Each (λ r. is_right r ≡ false) off
  first_right : is_right first ≡ true
  until : first.field ≤ b.field

module _ (is_right : NumberReading → Bool) where
  back : (more : List NumberReading) (b : NumberReading) (after : List NumberReading) → is_right b ≡ true
      → Ascends (more ++ b ∷ after) → Back is_right b (more ++ b ∷ after)
  back [] b after right_b ascends = record {
    off = [];
    first = b;
    rest = after;
    is = refl;
    are_off = tt;
    first_right = right_b;
    until = omega arith;
  }
  back (x ∷ more) b after right_b ascends = elim (cases_Bool (is_right x)) [
    | inl right ↦ record {
      off = [];
      first = x;
      rest = more ++ b ∷ after;
      is = refl;
      are_off = tt;
      first_right = right;
      until = omega (arith, earlier x b more after ascends);
    }
    | inr off ↦ let w = back more b after right_b ascends.1 in record {
      off = x ∷ w.off;
      first = w.first;
      rest = w.rest;
      is = ap (λ (xs : List NumberReading). x ∷ xs) w.is;
      are_off = (off, w.are_off);
      first_right = w.first_right;
      until = w.until;
    }
  ]

  -- no way off what is right and back is in the best story
  module _ (readings : List NumberReading) (from to : ℕ) (heard : IsHeard is_right readings from to) where
    no_way_off : (before wrong after : List NumberReading) (a b : NumberReading)
        → IsBest readings (before ++ a ∷ (wrong ++ b ∷ after)) → is_right a ≡ true → is_right b ≡ true
        → from ≤ a.field → b.field ≤ to → Each (λ r. is_right r ≡ false) wrong → wrong ≢ [] → ⊥
    no_way_off before wrong after a b best right_a right_b begin end off some =
        let among = each_rest (IsAmong readings) before (a ∷ (wrong ++ b ∷ after)) best.story_is.among in
        let ascends = ascends_rest before a (wrong ++ b ∷ after) best.story_is.ascends in
        let told : IsStory readings (between a wrong b) = record {
          among = each_cut (IsAmong readings) (a ∷ wrong) b after among;
          ascends = ascends_first (a ∷ wrong) b after ascends;
        } in
        let out : AreOutdone is_right readings a wrong b
        = heard.outdone a b wrong right_a right_b begin end told off some in
        absurd (omega (arith, out.more, exchange readings before after wrong out.right a b best out.told))

    pub all_right : (middle before after : List NumberReading) (a b : NumberReading)
        → IsBest readings (before ++ a ∷ (middle ++ b ∷ after)) → is_right a ≡ true → is_right b ≡ true
        → from ≤ a.field → b.field ≤ to → Each (λ r. is_right r ≡ true) middle
    all_right [] before after a b best right_a right_b begin end = tt
    all_right (x ∷ middle) before after a b best right_a right_b begin end =
        let ascends : Ascends (a ∷ x ∷ (middle ++ b ∷ after))
        = ascends_rest before a (x ∷ (middle ++ b ∷ after)) best.story_is.ascends in
        elim (cases_Bool (is_right x)) [
          | inl right ↦
              let same : before ++ a ∷ x ∷ (middle ++ b ∷ after) ≡ (before ++ a ∷ []) ++ x ∷ (middle ++ b ∷ after)
              = sym (append_assoc before (a ∷ []) (x ∷ (middle ++ b ∷ after))) in
              let later : a.field < x.field = ascends.0 in (
                right,
                all_right middle (before ++ a ∷ []) after x b (subst (IsBest readings) same best) right right_b
                    (omega arith) end,
              )
          | inr off ↦
              let w = back middle b after right_b ascends.1.1 in
              absurd (no_way_off before (x ∷ w.off) w.rest a w.first
              (subst (λ (xs : List NumberReading). IsBest readings (before ++ a ∷ x ∷ xs)) w.is best)
              right_a w.first_right begin (omega (arith, w.until)) (off, w.are_off) (λ e. absurd cc))
        ]

-- ---- on a row

test_is : (x y : ℕ) → nat_eq x y ≡ true → x ≡ y
test_is x y h = grind (arith, nat_tests)

test_no : (x y : ℕ) → nat_eq x y ≡ false → x ≢ y
test_no x y h e = absurd (grind (arith, nat_tests))

is_test : (x y : ℕ) → x ≡ y → nat_eq x y ≡ true
is_test x y e = grind (arith, nat_tests)

heard_on : (readings : List NumberReading) (row from to : ℕ) → RanOn readings row from to
    → IsHeard (λ r. nat_eq r.row row) readings from to
heard_on readings row from to ran = record {
  outdone = λ a b wrong on_a on_b begin end told off some.
      let is_a : IsOn row a = test_is a.row row on_a in
      let is_b : IsOn row b = test_is b.row row on_b in
      let out : AreOutweighed readings row a wrong b = ran.outweighed a b wrong is_a is_b begin end told
      (each_both _ _ (λ r h. test_no r.row row h) wrong off) some in
      record {
        right = out.right;
        told = out.told;
        more = omega (arith, out.less, free row a b out.right is_a is_b out.on_row);
      };
}

pub all_on : (readings : List NumberReading) (row from to : ℕ) → RanOn readings row from to
    → (middle before after : List NumberReading) (a b : NumberReading)
    → IsBest readings (before ++ a ∷ (middle ++ b ∷ after)) → IsOn row a → IsOn row b → from ≤ a.field → b.field ≤ to
    → Each (IsOn row) middle
all_on readings row from to ran middle before after a b best on_a on_b begin end =
    each_both _ _ (λ r h. test_is r.row row h) middle
    (all_right (λ r. nat_eq r.row row) readings from to (heard_on readings row from to ran) middle before after a b best
    (is_test a.row row on_a) (is_test b.row row on_b) begin end)

-- each of these is of a field between those of the readings beside them
within : (a b : NumberReading) (middle after : List NumberReading) → Ascends (a ∷ (middle ++ b ∷ after))
    → Each (λ r. (a.field < r.field) × (r.field < b.field)) middle
within a b [] after ascends = tt
within a b (x ∷ middle) after ascends = (
  (ascends.0, earlier x b middle after ascends.1),
  each_both _ _ (λ r h. (omega (arith, ascends.0, h.0), h.1)) middle (within x b middle after ascends.1),
)

-- what is told between two is a story too
inner : (readings : List NumberReading) (a b : NumberReading) (wrong : List NumberReading)
    → IsStory readings (between a wrong b)
    → IsStory readings wrong × IsStory readings (a ∷ b ∷ [])
inner readings a b wrong told = (
  record {
    among = each_first (IsAmong readings) wrong (b ∷ []) told.among.1;
    ascends = ascends_begin wrong (b ∷ []) told.ascends.1;
  },
  record {
    among = (told.among.0, each_rest (IsAmong readings) wrong (b ∷ []) told.among.1);
    ascends = (earlier a b wrong [] told.ascends, (tt, tt));
  },
)

-- and of those fields
in_stretch : (readings : List NumberReading) (from to : ℕ) (a b : NumberReading) (wrong : List NumberReading)
    → from ≤ a.field
    → b.field ≤ to → IsStory readings (between a wrong b) → Each (IsWithin from to) wrong
in_stretch readings from to a b wrong begin end told =
    each_both _ _ (λ r h. (omega (arith, h.0), omega (arith, h.1))) wrong (within a b wrong [] told.ascends)

each_far : (readings : List NumberReading) (row from to : ℕ) → AreFarOff readings row from to
    → (wrong : List NumberReading)
    → Each (IsAmong readings) wrong → Each (IsWithin from to) wrong → Each (IsOff row) wrong
    → Each (λ r. is_near r.row row ≡ false) wrong
each_far readings row from to away [] among inside off = tt
each_far readings row from to away (x ∷ wrong) among inside off =
    (away x among.0 inside.0 off.0, each_far readings row from to away wrong among.1 inside.1 off.1)

pub few_near : (readings : List NumberReading) (row from to : ℕ) → AreLighter readings row from to (2 * near)
    → RanOn readings row from to
few_near readings row from to few = record {
  outweighed = λ a b wrong on_a on_b begin end told off some.
      let parts = inner readings a b wrong told in
      let inside = in_stretch readings from to a b wrong begin end told in
      record {
        right = [];
        told = parts.1;
        on_row = tt;
        less = omega (arith, few wrong parts.0 inside off, leaving_near row a b wrong on_a on_b off some);
      };
}

pub few_far : (readings : List NumberReading) (row from to : ℕ) → AreLighter readings row from to (2 * far)
    → AreFarOff readings row from to → RanOn readings row from to
few_far readings row from to few away = record {
  outweighed = λ a b wrong on_a on_b begin end told off some.
      let parts = inner readings a b wrong told in
      let inside = in_stretch readings from to a b wrong begin end told in
      let far_off = each_far readings row from to away wrong parts.0.among inside off in
      record {
        right = [];
        told = parts.1;
        on_row = tt;
        less = omega (arith, few wrong parts.0 inside off, leaving_far row a b wrong on_a on_b off far_off some);
      };
}

-- ---- and so are its numbers

module _ (big row from to : ℕ) (recorded : ℕ → ℕ) (readings : List NumberReading)
    (video : AreOfVideo big readings) (runs : RunsOn big recorded row from to) where
  numbers_on : (a b : NumberReading) → from ≤ a.field → b.field ≤ to → (these : List NumberReading)
      → Each (IsAmong readings) these → Each (λ r. (a.field < r.field) × (r.field < b.field)) these
      → Each (IsOn row) these → Each (λ r. r.number ≡ recorded r.field) these
  numbers_on a b begin end [] among inside on = tt
  numbers_on a b begin end (x ∷ these) among inside on = (
    omega (arith, video x among.0, runs x.field (omega (arith, inside.0.0)) (omega (arith, inside.0.1)), on.0),
    numbers_on a b begin end these among.1 inside.1 on.1,
  )

  on_row_by : (r : NumberReading) → IsAmong readings r → from ≤ r.field → r.field ≤ to → r.number ≡ recorded r.field
      → IsOn row r
  on_row_by r among begin end is = omega (arith, video r among, runs r.field begin end)

  pub numbers_sound : (before middle after : List NumberReading) (a b : NumberReading) → RanOn readings row from to
      → IsBest readings (before ++ a ∷ (middle ++ b ∷ after)) → from ≤ a.field → b.field ≤ to
      → a.number ≡ recorded a.field → b.number ≡ recorded b.field → Each (λ r. r.number ≡ recorded r.field) middle
  numbers_sound before middle after a b ran best begin end is_a is_b =
      let among : Each (IsAmong readings) (a ∷ (middle ++ b ∷ after))
      = each_rest (IsAmong readings) before (a ∷ (middle ++ b ∷ after)) best.story_is.among in
      let ascends : Ascends (a ∷ (middle ++ b ∷ after))
      = ascends_rest before a (middle ++ b ∷ after) best.story_is.ascends in
      let last : Each (IsAmong readings) (b ∷ after) = each_rest (IsAmong readings) middle (b ∷ after) among.1 in
      let less : a.field < b.field = earlier a b middle after ascends in
      let on_a : IsOn row a = on_row_by a among.0 begin (omega arith) is_a in
      let on_b : IsOn row b = on_row_by b last.0 (omega arith) end is_b in
      numbers_on a b begin end middle (each_first (IsAmong readings) middle (b ∷ after) among.1)
      (within a b middle after ascends)
      (all_on readings row from to ran middle before after a b best on_a on_b begin end)
