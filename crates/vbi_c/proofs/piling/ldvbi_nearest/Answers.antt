use Rattle.std.proofs.Common.{◌≡◌, ℕ, ◌/◌, length, subst, ap, IfOk, rules}
use Rattle.vbi_near.specs.Distances.{lines_of}
use Rattle.vbi_near.specs.Nearest.{IsNearest}
use Rattle.vbi_near.specs.LongerSignal.{IsLonger}
use Rattle.vbi_words.specs.Geometry.{line_bytes}
use Rattle.vbi_c.specs.Nearest.{IsNearestOf}
use Rattle.vbi_c.proofs.piling.ldvbi_nearest.Goals as goal

pub returns : goal.returns
returns c =
    let setup = c.in-Ok.found in
    let near = c.nearest_of_lines.result in
    let count : length c.args.bytes.now / c.line_bytes.result ≡ length c.args.bytes.now / line_bytes setup.system
    = ap (λ (n : ℕ). length c.args.bytes.now / n) c.line_bytes.ensures in
    record {
      nearest = record {
        status_is = search rules;
        does = subst (λ r. IfOk r (λ s. IsNearestOf s c.args.bytes.now c.near_for_c.result)) c.in-Ok.ensures.setup (
          near,
          c.near_for_c.ensures,
          subst (λ (n : ℕ). IsNearest setup.system setup.levels (lines_of setup.system c.args.bytes.now n) near) count
              c.nearest_of_lines.ensures.near.nearest,
          subst (λ (n : ℕ). IsLonger setup.system setup.levels (lines_of setup.system c.args.bytes.now n) near) count
              c.nearest_of_lines.ensures.near.longer,
        );
        refused = search rules;
      };
    }
