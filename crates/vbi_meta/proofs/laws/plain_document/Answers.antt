use Rattle.vbi_meta.proofs.Common.{sym, subst, IsPlainText}
use Rattle.vbi_meta.proofs.PlainDocument.{plain_document}
use Rattle.vbi_meta.proofs.laws.plain_document.Goals as goal

pub returns : goal.returns
returns _ = record {
  text = plain_document;
  extracted = λ c input z text summary numbers ran.
      subst IsPlainText (sym ran.document) (plain_document c z (record { config = numbers; within = ran.within }));
}
