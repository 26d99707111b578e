use Rattle.std.proofs.Common.{◌≡◌, ◌∙◌, true, sym, inl, inr}
use Rattle.std.specs.Prelude.{◌⊎◌}
use Rattle.vbi_whole.specs.Drifts.{leads_by}
use Rattle.vbi_whole.proofs.Drifting.{span_more, leads_back}
use Rattle.vbi_whole.proofs.drift.extended.Goals.{then-low_leads, else-low_leads, then-high_trails, else-high_trails}
use Rattle.vbi_whole.proofs.drift.extended.Goals as goal

pub returns : goal.returns
returns c =
    let rule = c.args.rule in
    let span = c.args.span in
    let there = c.args.there in
    let low = c.if-low_leads.result in
    let high = c.if-high_trails.result in
    let lower : ((low ≡ span.low) × (leads_by rule span.low there ≡ true))
    ⊎ ((low ≡ there) × (leads_by rule there span.low ≡ true))
    = elim c.if-low_leads.branch [
      | then-low_leads w ↦ inl (w.result-is, sym c.leads_by-low_leads.ensures ∙ w.if-low_leads.true)
      | else-low_leads w ↦ inr (
        w.result-is,
        leads_back rule span.low there
            (sym c.leads_by-low_leads.ensures ∙ w.if-low_leads.false),
      )
    ] in
    let higher : ((high ≡ span.high) × (leads_by rule there span.high ≡ true))
    ⊎ ((high ≡ there) × (leads_by rule span.high there ≡ true))
    = elim c.if-high_trails.branch [
      | then-high_trails w ↦ inl (w.result-is, sym c.leads_by-high_trails.ensures ∙ w.if-high_trails.true)
      | else-high_trails w ↦ inr (
        w.result-is,
        leads_back rule there span.high
            (sym c.leads_by-high_trails.ensures ∙ w.if-high_trails.false),
      )
    ] in
    span_more rule c.args.numbers.now span there low high c.requires.span c.requires.there c.requires.on lower higher
