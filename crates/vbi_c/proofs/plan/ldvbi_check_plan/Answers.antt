use Rattle.std.proofs.Common.{subst, rules}
use Rattle.std.specs.Prelude.{IfOk, Result}
use Rattle.vbi_c.specs.Types.{Layout, Refusal}
use Rattle.vbi_c.specs.Plans.{IsChecked}
use Rattle.vbi_c.proofs.plan.ldvbi_check_plan.Goals as goal

pub returns : goal.returns
returns c = record {
  checks = record {
    status_is = search rules;
    does = subst (λ (asked : Result Layout Refusal). IfOk asked (λ layout. IsChecked (record {
      layout = layout;
      numbers = c.args.numbers.now;
      captures = c.args.captures.now;
      stretches = c.args.plan.now;
    }) c.checked_for_c.result)) c.in-Ok.ensures
        (c.check_plan.result, c.checked_for_c.ensures, c.check_plan.ensures.done, c.check_plan.ensures.fault);
    refused = search rules;
  };
}
