use Rattle.std.proofs.Common.{◌≡◌, ◌∙◌, sym, ap, drop, Bool, ℕ, ◌+◌, ◌-◌, arith}
use Rattle.std.specs.Prelude.{◌&&◌}
use Rattle.vbi_c.specs.Erased.{are_sorted}
use Rattle.vbi_c.proofs.Erasing.{no_entry, are_sorted-more, are_sorted-last}
use Rattle.vbi_c.proofs.erased.are_sorted.Goals as goal

pub loop-i-preserved : goal.loop-i-preserved
loop-i-preserved c =
    let same : c.loop-i.i ≡ c.loop-i.i + 1 - 1 = omega arith in
    c.loop-i.invariant
    ∙ are_sorted-more c.args.list.now c.loop-i.i no_entry c.loop-i.auto.i c.loop-i-test.true
    ∙ ap (λ (follows : Bool). follows && are_sorted (drop c.loop-i.i c.args.list.now))
    (sym c.may_follow.ensures ∙ c.if-not-may_follow.false)
    ∙ ap (λ (next : ℕ). are_sorted (drop next c.args.list.now)) same

pub returns-then-not-may_follow : goal.returns-then-not-may_follow
returns-then-not-may_follow c =
    sym (c.loop-i.invariant
    ∙ are_sorted-more c.args.list.now c.loop-i.i no_entry c.loop-i.auto.i c.loop-i-test.true
    ∙ ap (λ (follows : Bool). follows && are_sorted (drop c.loop-i.i c.args.list.now))
    (sym c.may_follow.ensures ∙ c.if-not-may_follow.true))

pub returns : goal.returns
returns c = sym (c.loop-i.invariant ∙ are_sorted-last c.args.list.now c.loop-i.i c.loop-i-test.false)
