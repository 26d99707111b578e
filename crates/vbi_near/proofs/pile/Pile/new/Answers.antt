use Rattle.std.proofs.Common.{ℕ, List, [], refl, subst, sym, take, replicate}
use Rattle.vbi_near.proofs.{Common.AreFew, Common.IsPile, Common.shades, Counting.few-empty, Counting.pile-empty}
use Rattle.vbi_near.proofs.pile.Pile.new.Goals as goal

pub invariant_of-result-clause-dark : goal.invariant_of-result-clause-dark
invariant_of-result-clause-dark c =
    subst (λ (costs : List ℕ). AreFew 0 (take c.width.result costs)) (sym c.requires.0) (few-empty c.width.result 1135)

pub invariant_of-result-clause-light : goal.invariant_of-result-clause-light
invariant_of-result-clause-light c =
    subst (λ (costs : List ℕ). AreFew 0 (take c.width-2.result costs)) (sym c.requires.1)
    (few-empty c.width-2.result 1135)

pub returns : goal.returns
returns c = record {
  empty = record {
    of_system = refl;
    of_levels = refl;
    costs = subst (λ (darks : List ℕ). IsPile c.args.system c.args.levels []
        (shades (take c.width.result darks) (take c.width-2.result c.args.lights.now))) (sym c.requires.0)
        (subst (λ (lights : List ℕ). IsPile c.args.system c.args.levels []
        (shades (take c.width.result (replicate 1135 0)) (take c.width-2.result lights))) (sym c.requires.1)
        (pile-empty c.args.system c.args.levels c.width.result c.width-2.result 1135));
  };
  none = refl;
}
