use Rattle.std.proofs.Common.{ℕ, List, ◌++◌, length, drop, ap, ◌∙◌, refl}
use Rattle.std.proofs.Math.ListN.{replicate}
use Rattle.std.proofs.lemmas.List.{drop-replicate}
use Rattle.vbi_c.proofs.recovering.record_of.Goals as goal

pub returns : goal.returns
returns c =
    let text = c.args.text.now in record {
      long = refl;
      bytes = c.copy_first.ensures
          ∙ ap (λ (t : List ℕ). t ++ drop (length t) (replicate 448 0)) c.as_bytes.ensures.value
          ∙ ap (λ (zeros : List ℕ). text ++ zeros) (drop-replicate (length text) 448 0);
    }
