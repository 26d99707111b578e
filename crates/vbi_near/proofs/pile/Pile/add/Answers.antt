use Rattle.vbi_near.proofs.pile.Pile.add.Goals as goal

pub invariant_of-self-clause-dark : goal.invariant_of-self-clause-dark
invariant_of-self-clause-dark c =
    (c.add_line.ensures.few c.args.self.now.count (c.args.self.now.dark, c.args.self.now.light)).0

pub invariant_of-self-clause-light : goal.invariant_of-self-clause-light
invariant_of-self-clause-light c =
    (c.add_line.ensures.few c.args.self.now.count (c.args.self.now.dark, c.args.self.now.light)).1

pub returns-clause-line : goal.returns-clause-line
returns-clause-line c system slicing lines is = record {
  of_system = is.of_system;
  of_levels = is.of_levels;
  costs = c.add_line.ensures.pile c.args.self.now.system lines c.args.self.now.dark_whole is.costs;
}
