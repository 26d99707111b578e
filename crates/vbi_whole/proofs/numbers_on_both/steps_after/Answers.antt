use Rattle.std.proofs.Common.{◌≡◌, ◌∙◌, ℕ, suc, Bool, List, ap, arith, get_or}
use Rattle.std.specs.Prelude.{Option, Some, ◌&&◌, if◌then◌else◌}
use Rattle.vbi_whole.specs.Types.{Number}
use Rattle.vbi_side.specs.Numbers.{nothing}
use Rattle.vbi_whole.specs.NumbersOnBoth.{place_or, is_turn, is_odd}
use Rattle.vbi_whole.proofs.BothFields.{last_more, turns_more, odd_more}
use Rattle.vbi_whole.proofs.numbers_on_both.steps_after.Goals as goal

-- a count grows by what holds
counted : (b c : Bool) (m n : ℕ) → b ≡ c → m ≡ n → (if b then suc m else m) ≡ (if c then suc n else n)
counted b c m n same is = ap (λ x. if x then suc m else m) same ∙ ap (λ x. if c then suc x else x) is

-- the answer of field k
abbrev answer : List Number → ℕ → Option Number
answer answers k = Some (get_or answers k nothing)

pub returns : goal.returns
returns c =
    let before = c.requires.before in
    let answers = c.args.numbers.now in
    let k = c.args.field in
    record {
      last = c.place_or.ensures.value ∙ ap (λ o. place_or o k (answer answers k)) before.last
          ∙ last_more answers k c.requires.inside;
      earlier = c.place_or.ensures.earlier;
      all = c.counted.ensures.value ∙ counted _ _ _ _ (c.is_turn.ensures
          ∙ ap (λ o. is_turn o (answer answers k)) before.last) before.all ∙ turns_more answers k c.requires.inside;
      odd = c.counted-2.ensures.value ∙ counted _ _ _ _ (c.is_odd_turn.ensures
          ∙ ap (λ o. is_turn o (answer answers k) && is_odd o k) before.last) before.odd
          ∙ odd_more answers k c.requires.inside;
      few = omega (arith, c.counted.ensures.few, before.few);
      fewer = omega (arith, c.counted-2.ensures.few, before.fewer);
    }
