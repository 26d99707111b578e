use Rattle.vbi_field.proofs.Pieces as pieces
use Rattle.vbi_field.proofs.laws.pushed_document.Goals as goal

pub returns-clause-text : goal.returns-clause-text
returns-clause-text g c = λ config o o' all s. pieces.text _ config o o' all s

pub returns-clause-pulled : goal.returns-clause-pulled
returns-clause-pulled g c = λ config o o' all s s' input written pushes.
    pieces.pulled _ config o o' all s pushes s' input written
