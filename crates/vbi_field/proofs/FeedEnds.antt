-- How a stream that is pushed begins and ends.
use Rattle.vbi_field.proofs.Common.{◌≡◌, ℕ, ◌+◌, ◌*◌, ◌<◌, length, arith, sym, ap, ◌∙◌, Result, Ok, Err, line_bytes}
use Rattle.vbi_field.proofs.Common.{ConfigView, Line, document, IsAt, IsFinished, IsFeederState, position_in}
use Rattle.vbi_field.proofs.Common.{written_of, Puts, WrotePart, Outlet, fields_of, rest_of, looks_of, Progress}
use Rattle.vbi_field.proofs.Common.{PutsTail, RunFault, Summary, List, Option}
use Rattle.vbi_field.proofs.Positions.{Split, split_of, split_fields, split_rest}
use Rattle.vbi_field.proofs.Devices.{wrote_whole, put_in_part}

-- what was put is the first of it
pub in_part : {W : Type 0} (contents : W → Option (List ℕ)) (o o' : Outlet W) (bytes whole : List ℕ) → bytes ≡ whole
    → Puts contents o o' bytes → written_of o' < written_of o + length bytes → WrotePart contents o o' whole
in_part contents o o' bytes whole is puts less = grind (arith, put_in_part)

module _ {W : Type 0} (contents : W → Option (List ℕ)) (c : ConfigView) (l : Line) (p : Progress)
    (st : IsFeederState c l p)
    (o o' : Outlet W)
    (z : List ℕ) (at : IsAt c z (position_in c l p)) (held rest : ℕ) (hs : held ≡ length l.held)
    (rs : rest ≡ p.row * line_bytes c.system + held) where
  parts : Split c z l.held p
  parts = split_of c z l p st.short st.inside at

  fields : p.fields ≡ fields_of c z
  fields = sym (split_fields c z l.held p parts)

  past : rest ≡ rest_of c z
  past = rs ∙ ap (λ n. p.row * line_bytes c.system + n) hs ∙ sym (split_rest c z l.held p parts)

  tail : document.tail p.fields rest ≡ document.tail (fields_of c z) (rest_of c z)
  tail = ap (λ n. document.tail n rest) fields ∙ ap (document.tail (fields_of c z)) past

  looks : l.looked ≡ looks_of c z
  looks = grind arith

  -- the tail was put, or the first of it
  pub finished : (looked : ℕ) (r : Result Summary RunFault) → looked ≡ l.looked
      → PutsTail document contents o o' p.fields rest looked r → IsFinished contents c o o' z r
  finished looked (Ok s) ls put = grind (arith, tail, wrote_whole, fields, past, looks)
  finished looked (Err e) ls put = grind (arith, in_part, tail, fields)
