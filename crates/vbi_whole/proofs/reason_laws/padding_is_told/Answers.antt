use Rattle.std.proofs.Common.{◌≡◌, ◌<◌, ℕ, ◌+◌, Bool, true, false, List, refl, arith, sym, ◌∙◌, inl, inr}
use Rattle.std.specs.Prelude.{Some, slice_get, nat_le, nat_lt, ◌==◌, if◌then◌else◌}
use Rattle.vbi_side.specs.Ends.{no_end, lead_out, doubtful_end, lead_in, padding, out_weight, in_weight}
use Rattle.vbi_whole.specs.Verdicts.{padded_in, AreReasons}
use Rattle.vbi_whole.proofs.Costless.{inserted_is_no}
use Rattle.vbi_whole.proofs.NoReason.{one_counted}
use Rattle.vbi_whole.proofs.WholeSides.{none_known}
use Rattle.vbi_whole.proofs.reason_laws.padding_is_told.Goals as goal

-- a field of padding is counted
some_padded : (ends : List ℕ) (i : ℕ) → slice_get ends i ≡ Some padding → 0 < padded_in ends
some_padded ends i at = omega (arith, one_counted (λ e. e == padding) ends i padding at refl)

pub returns-clause-never : goal.returns-clause-never
returns-clause-never c judged may_end finding old new is i at whole = go is.reasons
  where
    go : AreReasons judged may_end finding is.swapped is.drifts → ⊥
    go (inl (never, e, first, last)) =
        absurd (let h = sym (none_known judged may_end finding old new is never) ∙ whole in cc)
    go (inr (m, n, are, e)) =
        absurd (let h = sym (inserted_is_no judged may_end finding old new is
        (λ never. never finding.first m are.begins) (inr (some_padded judged.ends i at))) ∙ whole in cc)

pub returns-clause-verdict : goal.returns-clause-verdict
returns-clause-verdict c judged may_end finding old new is some i at =
    inserted_is_no judged may_end finding old new is some
    (inr (some_padded judged.ends i at))

low_end : (out lead any : Bool)
    → (if out then lead_out else (if lead then lead_in else (if any then doubtful_end else no_end))) < padding
low_end true lead any = omega arith
low_end false true any = omega arith
low_end false false true = omega arith
low_end false false false = omega arith

pub returns-clause-never_read : goal.returns-clause-never_read
returns-clause-never_read c line_17 line_18 =
    let outs = out_weight line_17 + out_weight line_18 in
    let ins = in_weight line_17 + in_weight line_18 in
    low_end (nat_le 2 outs) (nat_le 2 ins) (nat_lt 0 (outs + ins))
