use Rattle.std.proofs.Common.{ℕ, ◌+◌, ◌-◌, ◌*◌, ◌/◌, min, ap, ◌∙◌}
use Rattle.vbi_near.proofs.Levelling.{one_quotient}
use Rattle.vbi_near.proofs.levelled_lines.levelled_sample.Goals as goal

pub returns : goal.returns
returns c =
    let scale = c.args.scale in
    let by : ℕ → ℕ → ℕ → ℕ = λ own mean unit. min ((32768 * scale + own * unit - mean * unit) / scale) 65535 in
    c.quotient.ensures ∙ ap (λ (n : ℕ). min (n / scale) 65535) c.saturating_sub.ensures
    ∙ ap (λ (n : ℕ). by n c.from-2.result c.from-unit.result) c.from.ensures
    ∙ ap (λ (n : ℕ). by c.args.own n c.from-unit.result) c.from-2.ensures
    ∙ ap (λ (n : ℕ). by c.args.own c.args.mean n) c.from-unit.ensures
    ∙ one_quotient scale c.args.own c.args.mean c.requires.some
