use Rattle.parser.proofs.declaration.NamePartRowPart.read.Goals as goal

pub returns-clause-reads : goal.returns-clause-reads
returns-clause-reads c = c.name.ensures.reads c.args._levels
