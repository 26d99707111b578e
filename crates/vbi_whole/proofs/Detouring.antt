-- Detours: what gaps are told to be, as they are found one by one.
use Rattle.std.proofs.Common.{◌≡◌, ℕ, ◌+◌, ◌≤◌, List, [], ◌∷◌, ◌++◌, refl, arith, ap, sym, ◌∙◌}
use Rattle.std.proofs.Common.{subst, length}
use Rattle.std.specs.Prelude.{Option, Some, None, ◌⊎◌}
use Rattle.std.proofs.lemmas.List.{append_assoc, append-nil, length-append}
use Rattle.vbi_whole.specs.Types.{Gap, Tally, Rule}
use Rattle.vbi_whole.specs.Gaps.{inserted, replaced}
use Rattle.vbi_whole.specs.Detours.{detour_of, fields_by, turned, detoured_from}
use Rattle.vbi_whole.specs.Detours.{detoured}
use Rattle.vbi_whole.specs.Tallies.{AreTold, AreTelling, listed, stage}

module _ (rule : Rule) where
  -- ---- two gaps

  -- the first of two that are no detour is told as it is
  pub no_detour : (a b : Gap) (more : List Gap) → detour_of rule a b ≡ None
      → detoured_from rule (Some a) (b ∷ more) ≡ a ∷ detoured_from rule (Some b) more
  unfolding detoured_from
  no_detour a b more none = rw (none, detoured_from) refl

  -- of two that are one both are told so
  pub a_detour : (a b : Gap) (more : List Gap) (kind : ℕ) → detour_of rule a b ≡ Some kind
      → detoured_from rule (Some a) (b ∷ more)
      ≡ turned kind (fields_by rule kind a b) a ∷ turned kind 0 b ∷ detoured_from rule None more
  unfolding detoured_from
  a_detour a b more kind is = rw (is, detoured_from) refl

  -- ---- one gap more

  -- the first one waits
  pub one_waits : (gaps : List Gap) (unread : ℕ) (tally : Tally) (old new : List Gap) (gap : Gap)
      → AreTelling rule (listed gaps unread) (stage None tally) old new
      → AreTelling rule (listed (gaps ++ gap ∷ []) unread) (stage (Some gap) tally) old new
  unfolding detoured_from
  one_waits gaps unread tally old new gap telling = grind (arith, append_assoc)

  -- the one before it is told, and it waits
  pub one_told : (gaps : List Gap) (unread : ℕ) (tally next : Tally) (old new then_new : List Gap)
      (a b : Gap) → detour_of rule a b ≡ None
      → (telling : AreTelling rule (listed gaps unread) (stage (Some a) tally) old new)
      → AreTold rule.numbering.clock (listed (telling.settled ++ a ∷ []) unread) next old then_new
      → AreTelling rule (listed (gaps ++ b ∷ []) unread) (stage (Some b) next) old then_new
  one_told gaps unread tally next old new then_new a b none telling told = grind (arith, append_assoc, no_detour)

  -- both are told
  pub two_told : (gaps : List Gap) (unread : ℕ) (tally next : Tally) (old new then_new : List Gap)
      (a b : Gap) (kind : ℕ) → detour_of rule a b ≡ Some kind
      → (telling : AreTelling rule (listed gaps unread) (stage (Some a) tally) old new)
      → AreTold rule.numbering.clock (listed ((telling.settled ++ turned kind (fields_by rule kind a b) a ∷ [])
      ++ turned kind 0 b ∷ []) unread) next old then_new
      → AreTelling rule (listed (gaps ++ b ∷ []) unread) (stage None next) old then_new
  two_told gaps unread tally next old new then_new a b kind is telling told = grind (arith, a_detour, append_assoc)

  -- ---- the end

  ends_as : (gaps : List Gap) (unread : ℕ) (last : Option Gap) (tally : Tally) (old new : List Gap)
      → (telling : AreTelling rule (listed gaps unread) (stage last tally) old new)
      → detoured rule gaps ≡ telling.settled ++ detoured_from rule last []
  ends_as gaps unread last tally old new telling =
      ap (detoured rule) (sym (append-nil gaps)) ∙ telling.goes_on []

  pub none_waits : (gaps : List Gap) (unread : ℕ) (tally : Tally) (old new : List Gap)
      → AreTelling rule (listed gaps unread) (stage None tally) old new
      → AreTold rule.numbering.clock (listed (detoured rule gaps) unread) tally old new
  unfolding detoured_from
  none_waits gaps unread tally old new telling =
      let as_is = ends_as gaps unread None tally old new telling ∙ append-nil telling.settled in
      subst (λ (xs : List Gap). AreTold rule.numbering.clock (listed xs unread) tally old new) (sym as_is) telling.told

  pub last_told : (gaps : List Gap) (unread : ℕ) (tally next : Tally) (old new then_new : List Gap)
      (gap : Gap) → (telling : AreTelling rule (listed gaps unread) (stage (Some gap) tally) old new)
      → AreTold rule.numbering.clock (listed (telling.settled ++ gap ∷ []) unread) next old then_new
      → AreTold rule.numbering.clock (listed (detoured rule gaps) unread) next old then_new
  unfolding detoured_from
  last_told gaps unread tally next old new then_new gap telling told =
      let as_is = ends_as gaps unread (Some gap) tally old new telling in
      subst (λ (xs : List Gap). AreTold rule.numbering.clock (listed xs unread) next old then_new) (sym as_is) told

  -- ---- as many are told as there are

  abbrev pub count : Option Gap → ℕ
  count None = 0
  count (Some gap) = 1

  pub detoured_length : (last : Option Gap) (gaps : List Gap)
      → length (detoured_from rule last gaps) ≡ count last + length gaps
  unfolding detoured_from
  detoured_length None [] = refl
  detoured_length (Some a) [] = refl
  detoured_length None (b ∷ gaps) = omega (arith, detoured_length (Some b) gaps)
  detoured_length (Some a) (b ∷ gaps) =
      go (detour_of rule a b) refl (detoured_length (Some b) gaps) (detoured_length None gaps)
    where
      go : (o : Option ℕ) → detour_of rule a b ≡ o
          → length (detoured_from rule (Some b) gaps) ≡ 1 + length gaps
          → length (detoured_from rule None gaps) ≡ 0 + length gaps
          → length (detoured_from rule (Some a) (b ∷ gaps)) ≡ 1 + length (b ∷ gaps)
      go None e one none = omega (arith, ap (λ (xs : List Gap). length xs) (no_detour a b gaps e), one)
      go (Some kind) e one none = omega (arith, ap (λ (xs : List Gap). length xs) (a_detour a b gaps kind e), none)

  pub settled_few : (gaps : List Gap) (unread : ℕ) (last : Option Gap) (tally : Tally) (old new : List Gap)
      → AreTelling rule (listed gaps unread) (stage last tally) old new → tally.gaps ≤ length gaps
  settled_few gaps unread last tally old new telling =
      omega (
        arith,
        ap (λ (t : Tally). t.gaps) telling.told.comes_to,
        ap (λ (xs : List Gap). length xs) (ends_as gaps unread last tally old new telling),
        length-append telling.settled (detoured_from rule last []),
        detoured_length None gaps,
      )

  -- ---- its kind

  -- a detour is of one of two kinds
  pub detour_kind : (a b : Gap) (kind : ℕ) → detour_of rule a b ≡ Some kind
      → (kind ≡ replaced) ⊎ (kind ≡ inserted)
  detour_kind a b kind h1 = grind arith
