use Rattle.std.proofs.Common.{◌≡◌, ◌∙◌, ℕ, true, false, [], refl, sym, ap, subst, arith, inl, inr, length}
use Rattle.std.specs.Prelude.{Option, unwrap_or, slice_get}
use Rattle.std.proofs.lemmas.Option.{slice_get_within}
use Rattle.vbi_whole.specs.Types.{Number, Video, Plain}
use Rattle.vbi_side.specs.Numbers.{believed, nothing, IsMarked}
use Rattle.vbi_whole.specs.Gaps.{AreGaps, rule_by, since_end}
use Rattle.vbi_whole.specs.Tallies.{stills_of, last_still}
use Rattle.vbi_side.specs.Clocks.{kept}
use Rattle.std.proofs.lemmas.Bool.Decides.{eqb_tells}
use Rattle.vbi_side.specs.Paces.{nearly, spot}
use Rattle.vbi_whole.specs.Drifts.{IsDrift}
use Rattle.vbi_whole.specs.Swaps.{IsSwap, is_stray}
use Rattle.vbi_whole.specs.WorkedSides.{cav, two_pictures, two_answers}
use Rattle.vbi_whole.specs.Detours.{detoured_from}
use Rattle.vbi_whole.proofs.BlankFields.{short_side}
use Rattle.vbi_whole.proofs.Telling.{none_written}
use Rattle.vbi_whole.proofs.gap_laws.worked_whole.Goals as goal

at_state : Option Number → ℕ
at_state o = (unwrap_or o nothing).state

-- the second field has no number
never : (j l : ℕ) → j ≡ 1 → IsMarked two_answers j l → ⊥
unfolding at_state
never j l same at =
    let here : IsMarked two_answers 1 l = subst (λ x. IsMarked two_answers x l) same at in
    let e : 0 ≡ 1 = ap at_state here in absurd (omega (arith, e))

-- between the two pictures stands a field that shows nothing
no_swap : (k : ℕ) → IsSwap Plain two_pictures two_answers k → ⊥
unfolding kept
no_swap k swap =
    let inside = slice_get_within two_answers swap.j (believed swap.n) swap.neighbours.there in
    let middle : k ≡ 1 = omega (arith, inside, swap.after, swap.before) in
    let h : false ≡ true = subst (λ x. is_stray Plain two_answers (spot swap.i swap.m) x
    (slice_get two_pictures x) ≡ true) middle swap.stray in cc

-- the second picture counts to the first
no_drift : (j : ℕ) → IsDrift (rule_by Video 0 cav) two_answers j → ⊥
unfolding kept
no_drift j drift =
    let inside = slice_get_within two_answers j (believed drift.n) drift.there in
    elim (eqb_tells j 1) [
      | inl (t, same) ↦ never j drift.n same drift.there
      | inr (f, other) ↦
          let last : j ≡ 2 = omega (arith, inside, other, drift.order) in
          elim (eqb_tells drift.i 1) [
            | inl (t, same) ↦ never drift.i drift.m same drift.here
            | inr (g, more) ↦ apart j last drift (omega (arith, last, drift.order, more))
          ]
    ]
  where
    apart : (k : ℕ) → k ≡ 2 → (drift : IsDrift (rule_by Video 0 cav) two_answers k) → drift.i ≡ 0 → ⊥
    apart k last drift first =
        let here = subst (λ x. IsMarked two_answers x drift.m) first drift.here in
        let there = subst (λ x. IsMarked two_answers x drift.n) last drift.there in
        let m : 1 ≡ drift.m = ap (λ o. (unwrap_or o nothing).number) here in
        let n : 2 ≡ drift.n = ap (λ o. (unwrap_or o nothing).number) there in
        let h : false ≡ true = sym (subst (λ x. nearly Video 0 (spot drift.i drift.m) (spot x drift.n)
        ≡ false) last drift.apart)
        ∙ subst (λ x. nearly Video 0 (spot x drift.m) (spot 2 drift.n) ≡ true) (sym first)
        (subst (λ x. nearly Video 0 (spot 0 x) (spot 2 drift.n) ≡ true) m
        (subst (λ x. nearly Video 0 (spot 0 1) (spot 2 x) ≡ true) n refl)) in
        cc

pub returns : goal.returns
unfolding AreGaps since_end stills_of last_still kept detoured_from
returns c = record {
  told = record {
    gaps = [];
    unread = 0;
    all = inr (inl (
      0,
      1,
      2,
      0,
      record {
        neighbours = record {
          order = omega arith;
          here = refl;
          there = refl;
          between = λ j l lt less. never j l (omega (arith, lt, less));
        };
        near = refl;
      },
      inl (inl (λ n. never 1 n refl), inl (inr (λ j l less. absurd (omega (arith, less))), (refl, refl))),
      refl,
    ));
    told = record { comes_to = refl; written = none_written [] };
  };
  swapped = false;
  swap = (refl, λ pace slack. no_swap);
  drifts = false;
  drift = no_drift;
  padded = refl;
  blank = short_side (rule_by Video 0 cav) two_answers (let few : length two_answers ≡ 3 = refl in omega (arith, few));
  verdict = refl;
  reasons = inr (
    1,
    2,
    record {
      begins = refl;
      ends = refl;
      none_before = λ i k less. absurd (omega (arith, less));
      none_after = λ i k less at. absurd (omega (arith, less, slice_get_within two_answers i (believed k) at));
    },
    refl,
  );
}
