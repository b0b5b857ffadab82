use Rattle.analysis.proofs.tables.Tables.+first_byte.Given as goal

abbrev pub decreases-first_byte : goal.decreases-first_byte
decreases-first_byte l = l.i
