use Rattle.std.proofs.Common.{◌≡◌, ℕ, ◌<◌, List, arith, refl, sym, subst, inl, inr, length}
use Rattle.std.specs.Prelude.{Option, Some, None, IfSome, unwrap_or}
use Rattle.vbi_whole.specs.Types.{Number, Place}
use Rattle.vbi_side.specs.Numbers.{IsMarked}
use Rattle.vbi_whole.proofs.verdict.judge_whole.Goals as goal

-- a number is believed of it, and of no field after it
abbrev IsEnd : List Number → Place → Type 0
IsEnd answers last = IsMarked answers last.field last.number
    × ((i k : ℕ) → last.field < i → IsMarked answers i k → ⊥)

-- the last field with a number, which is there as the first one is
last_is : (answers : List Number) (first : Place) (found : Option Place)
    → IfSome found (λ one. (one.field < length answers) × IsMarked answers one.field one.number
    × ((i k : ℕ) → one.field < i → IsMarked answers i k → ⊥))
    → (found ≡ None → (i k : ℕ) → IsMarked answers i k → ⊥) → IsMarked answers first.field first.number
    → IsEnd answers (unwrap_or found first)
last_is answers first None some none at = absurd (none refl first.field first.number at)
last_is answers first (Some one) some none at = (some.1, some.2)

pub returns-in_default : goal.returns-in_default
returns-in_default c = record {
  told = c.find_gaps-tally.ensures;
  swapped = c.swap_by-swap.result.is_seen;
  swap = c.swap_by-swap.ensures;
  drifts = c.has_drift-drifts.result;
  drift = c.has_drift-drifts.ensures;
  padded = c.padded_in-padded.ensures;
  blank = c.first_blank-blank.ensures;
  verdict = c.verdict.ensures;
  reasons = inl (c.in_default.ensures.none refl, grind (arith, c.default.ensures), refl, refl);
}

pub returns : goal.returns
returns c =
    let last = subst (IsEnd c.args.side.now.numbers.now) (sym c.unwrap_or-last.ensures)
    (last_is c.args.side.now.numbers.now c.in-Some.first c.last_believed.result c.last_believed.ensures.some
    c.last_believed.ensures.none c.in-Some.ensures.some.1) in
    record {
      told = c.find_gaps-tally.ensures;
      swapped = c.swap_by-swap.result.is_seen;
      swap = c.swap_by-swap.ensures;
      drifts = c.has_drift-drifts.result;
      drift = c.has_drift-drifts.ensures;
      padded = c.padded_in-padded.ensures;
      blank = c.first_blank-blank.ensures;
      verdict = c.verdict-2.ensures;
      reasons = inr (
        c.in-Some.first.number,
        c.unwrap_or-last.result.number,
        record {
          begins = c.in-Some.ensures.some.1;
          ends = last.0;
          none_before = c.in-Some.ensures.some.2;
          none_after = last.1;
        },
        c.reasons_against-reasons.ensures,
      );
    }
