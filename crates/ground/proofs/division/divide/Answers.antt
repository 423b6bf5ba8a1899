-- The promises of the division do not depend on what is answered, so each way out has the same lemma.
use Rattle.ground.proofs.Divisions.{division}
use Rattle.ground.proofs.division.divide.Goals as goal

pub returns-in_err-expect_residue-2-clause-division : goal.returns-in_err-expect_residue-2-clause-division
returns-in_err-expect_residue-2-clause-division g c = division (g.met.G.Ground.lawful c.args.ground.now) c.args.y c.args.x

pub returns-clause-division : goal.returns-clause-division
returns-clause-division g c = division (g.met.G.Ground.lawful c.args.ground.now) c.args.y c.args.x
