use Rattle.std.proofs.Common.{◌≡◌, ◌≢◌, ℕ, ◌+◌, ◌<◌, ◌≤◌, Bool, true, false, refl, arith, sym, ◌∙◌, inl, inr}
use Rattle.std.specs.Prelude.{◌⊎◌, ◌↔◌, nat_le, nat_lt, if◌then◌else◌}
use Rattle.std.proofs.lemmas.Bool.Decides.{leb_tells}
use Rattle.vbi_side.specs.Types.{LeadIn, LeadOut, Shown}
use Rattle.vbi_side.specs.Ends.{out_weight, in_weight, end_by, end_of, lead_in, lead_out, doubtful_end, no_end}
use Rattle.vbi_side.specs.SoundEnds.{IsCodeToldSurely}
use Rattle.vbi_side.proofs.EndsTold.{two_told, told_two, out_weighs, in_weighs, told_sound}
use Rattle.vbi_side.proofs.end_laws.ends_sound.Goals as goal

-- ---- the answer

-- it is of lead-out, of lead-in, or of neither, by these weights
abbrev EndCases : ℕ → ℕ → Type 0
EndCases outs ins =
    ((2 ≤ outs) × (end_by outs ins ≡ lead_out))
    ⊎ ((outs < 2) × (2 ≤ ins) × (end_by outs ins ≡ lead_in))
    ⊎ ((outs < 2) × (ins < 2) × (end_by outs ins ≢ lead_out) × (end_by outs ins ≢ lead_in))

end_cases : (outs ins : ℕ) → EndCases outs ins
end_cases outs ins = go (leb_tells 2 outs) (leb_tells 2 ins)
  where
    other : Bool → ℕ
    other = λ b. if b then doubtful_end else no_end

    low : (b : Bool) → (other b ≢ lead_out) × (other b ≢ lead_in)
    low true = (λ e. absurd (omega (arith, e)), λ e. absurd (omega (arith, e)))
    low false = (λ e. absurd (omega (arith, e)), λ e. absurd (omega (arith, e)))

    go : ((nat_le 2 outs ≡ true) × (2 ≤ outs)) ⊎ ((nat_le 2 outs ≡ false) × (outs < 2))
        → ((nat_le 2 ins ≡ true) × (2 ≤ ins)) ⊎ ((nat_le 2 ins ≡ false) × (ins < 2)) → EndCases outs ins
    go (inl (t, le)) _ = inl (le, rw t refl)
    go (inr (f, lt)) (inl (t, le)) = inr (inl (lt, le, rw (f, t) refl))
    go (inr (f, lt)) (inr (g, less)) =
        let is : end_by outs ins ≡ other (nat_lt 0 (outs + ins)) = rw (f, g) refl in
        let p = low (nat_lt 0 (outs + ins)) in inr (inr (lt, less, λ e. p.0 (sym is ∙ e), λ e. p.1 (sym is ∙ e)))

apart : lead_in ≡ lead_out → ⊥
apart e = absurd (omega (arith, e))

out_answer : (outs ins : ℕ) → (end_by outs ins ≡ lead_out) ↔ (2 ≤ outs)
out_answer outs ins = elim (end_cases outs ins) [
  | inl (le, is) ↦ (λ e. le, λ more. is)
  | inr (inl (lt, le, is)) ↦ (λ e. absurd (apart (sym is ∙ e)), λ more. absurd (omega (arith, more, lt)))
  | inr (inr (lt, less, never, none)) ↦ (λ e. absurd (never e), λ more. absurd (omega (arith, more, lt)))
]

in_answer : (outs ins : ℕ) → (end_by outs ins ≡ lead_in) ↔ ((2 ≤ ins) × (2 ≤ outs → ⊥))
in_answer outs ins = elim (end_cases outs ins) [
  | inl (le, is) ↦ (λ e. absurd (apart (sym e ∙ is)), λ more. absurd (more.1 le))
  | inr (inl (lt, le, is)) ↦ (λ e. (le, λ more. absurd (omega (arith, more, lt))), λ more. is)
  | inr (inr (lt, less, never, none)) ↦ (λ e. absurd (none e), λ more. absurd (omega (arith, more.0, less)))
]

outs_in_words : (line_17 line_18 : Shown)
    → (end_of line_17 line_18 ≡ lead_out) ↔ IsCodeToldSurely LeadOut line_17 line_18
outs_in_words line_17 line_18 =
    let answer = out_answer (out_weight line_17 + out_weight line_18) (in_weight line_17 + in_weight line_18) in (
      λ e. two_told LeadOut line_17 line_18 (out_weight line_17) (out_weight line_18) (out_weighs line_17)
          (out_weighs line_18) (answer.0 e),
      λ told. answer.1 (told_two LeadOut line_17 line_18 (out_weight line_17) (out_weight line_18) (out_weighs line_17)
          (out_weighs line_18) told),
    )

ins_in_words : (line_17 line_18 : Shown) → (end_of line_17 line_18 ≡ lead_in)
    ↔ (IsCodeToldSurely LeadIn line_17 line_18 × (IsCodeToldSurely LeadOut line_17 line_18 → ⊥))
ins_in_words line_17 line_18 =
    let answer = in_answer (out_weight line_17 + out_weight line_18) (in_weight line_17 + in_weight line_18) in
    let outs = out_weighs line_17 in
    let also = out_weighs line_18 in (
      λ e. (
        two_told LeadIn line_17 line_18 (in_weight line_17) (in_weight line_18) (in_weighs line_17) (in_weighs line_18)
            (answer.0 e).0,
        λ told. (answer.0 e).1 (told_two LeadOut line_17 line_18 (out_weight line_17) (out_weight line_18) outs also
            told),
      ),
      λ told. answer.1 (
        told_two LeadIn line_17 line_18 (in_weight line_17) (in_weight line_18) (in_weighs line_17) (in_weighs line_18)
            told.0,
        λ enough. told.1 (two_told LeadOut line_17 line_18 (out_weight line_17) (out_weight line_18) outs also enough),
      ),
    )

-- ---- the law

pub returns-clause-outs_told : goal.returns-clause-outs_told
returns-clause-outs_told c = outs_in_words

pub returns-clause-ins_told : goal.returns-clause-ins_told
returns-clause-ins_told c = ins_in_words

pub returns-clause-outs : goal.returns-clause-outs
returns-clause-outs c line_17 line_18 e =
    told_sound LeadOut line_17 line_18 ((outs_in_words line_17 line_18).0 e)

pub returns-clause-ins : goal.returns-clause-ins
returns-clause-ins c line_17 line_18 e = told_sound LeadIn line_17 line_18 ((ins_in_words line_17 line_18).0 e).0
