use Rattle.std.proofs.Common.{◌≡◌, ◌∙◌, true, false, sym, subst, arith}
use Rattle.vbi_seek.specs.declared.narrowing.Between.{Between}
use Rattle.vbi_seek.specs.Searches.{IsNarrowedBetween, later_in, earlier_in}
use Rattle.vbi_seek.proofs.Narrowed.{near_from, by_one, by_later, by_earlier, guessed_after, guessed_before}
use Rattle.vbi_seek.proofs.narrowing.narrow_between.Goals as goal
use Rattle.vbi_seek.proofs.narrowing.narrow_between.Goals.{then-narrow_by_one-via-then-narrow_by_one}
use Rattle.vbi_seek.proofs.narrowing.narrow_between.Goals.{then-narrow_by_one-via-else-narrow_by_one+then-narrow_near}
use Rattle.vbi_seek.proofs.narrowing.narrow_between.Goals.{
  then-narrow_by_one-via-else-narrow_by_one+else-narrow_near+then-narrow_near-2,
}

pub returns-then-narrow_by_one-clause-narrowed : goal.returns-then-narrow_by_one-clause-narrowed
returns-then-narrow_by_one-clause-narrowed c =
    let search = c.args.search.now in
    let told = c.args.told in
    let spare = c.args.looked.now.spare in
    let seen = c.args.seen.now in
    let old = c.args.between.now in
    let first = c.narrow_by_one.ensures in
    elim c.then-narrow_by_one.branch [
      | then-narrow_by_one-via-then-narrow_by_one w ↦
          subst (λ (b : Between). IsNarrowedBetween search told spare seen old b) (sym w.between-is)
          (by_one search told spare seen old c.narrow_by_one.new.between (first.narrowed w.if-narrow_by_one.true))
      | then-narrow_by_one-via-else-narrow_by_one+then-narrow_near w ↦
          subst (λ (b : Between). IsNarrowedBetween search told spare seen old b) (sym w.between-is)
          (by_later search told spare seen old (first.none w.if-narrow_by_one.false) w.narrow_near.new.between
          (near_from search (later_in old) told old c.narrow_by_one.new.between w.narrow_near.new.between
          (first.kept w.if-narrow_by_one.false) (w.narrow_near.ensures.narrowed w.if-narrow_near.true)))
      | then-narrow_by_one-via-else-narrow_by_one+else-narrow_near+then-narrow_near-2 w ↦
          subst (λ (b : Between). IsNarrowedBetween search told spare seen old b) (sym w.between-is)
          (by_earlier search told spare seen old (first.none w.if-narrow_by_one.false)
          w.narrow_near-else-narrow_near.new.between
          (near_from search (earlier_in old) told old w.narrow_near.new.between
          w.narrow_near-else-narrow_near.new.between
          (w.narrow_near.ensures.kept w.if-narrow_near.false ∙ first.kept w.if-narrow_by_one.false)
          (w.narrow_near-else-narrow_near.ensures.narrowed w.if-narrow_near-2.true)))
    ]

pub returns-then-is_after-clause-narrowed : goal.returns-then-is_after-clause-narrowed
returns-then-is_after-clause-narrowed c =
    guessed_after c.args.search.now c.args.told c.args.looked.now.spare c.args.seen.now c.args.between.now
    (c.narrow_by_one.ensures.none c.if-narrow_by_one.false)
    (c.narrow_near.ensures.silent c.if-narrow_near.false)
    (λ many. c.narrow_near-else-narrow_near.ensures.silent c.if-narrow_near-2.false
    (omega (arith, many, c.narrow_near.ensures.spared)))
    c.narrow_near-else-narrow_near.new.between
    (c.narrow_near-else-narrow_near.ensures.kept c.if-narrow_near-2.false
    ∙ c.narrow_near.ensures.kept c.if-narrow_near.false ∙ c.narrow_by_one.ensures.kept c.if-narrow_by_one.false)
    (c.is_after.ensures.0 c.if-is_after.true)

pub returns-else-is_after-clause-narrowed : goal.returns-else-is_after-clause-narrowed
returns-else-is_after-clause-narrowed c =
    guessed_before c.args.search.now c.args.told c.args.looked.now.spare c.args.seen.now c.args.between.now
    (c.narrow_by_one.ensures.none c.if-narrow_by_one.false)
    (c.narrow_near.ensures.silent c.if-narrow_near.false)
    (λ many. c.narrow_near-else-narrow_near.ensures.silent c.if-narrow_near-2.false
    (omega (arith, many, c.narrow_near.ensures.spared)))
    c.narrow_near-else-narrow_near.new.between
    (c.narrow_near-else-narrow_near.ensures.kept c.if-narrow_near-2.false
    ∙ c.narrow_near.ensures.kept c.if-narrow_near.false ∙ c.narrow_by_one.ensures.kept c.if-narrow_by_one.false)
    (λ likely. let h : true ≡ false = sym (c.is_after.ensures.1 likely) ∙ c.if-is_after.false in cc)
