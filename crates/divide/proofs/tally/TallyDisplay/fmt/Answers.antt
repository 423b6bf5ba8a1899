-- The pieces of the text stand together from the left in what is written, and from the right in what is wanted.
use Rattle.std.proofs.Common.{append_assoc}
use Rattle.divide.proofs.tally.TallyDisplay.fmt.Goals as goal

pub returns-clause-writes : goal.returns-clause-writes
returns-clause-writes g c p ok = simp append_assoc at (c.write.ensures.writes p ok)
