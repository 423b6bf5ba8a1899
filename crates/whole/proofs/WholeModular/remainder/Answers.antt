use Rattle.whole.specs.Laws.{whole_reduces}
use Rattle.whole.proofs.WholeModular.remainder.Goals as goal

pub returns-clause-ring : goal.returns-clause-ring
returns-clause-ring c = let m = c.args.self.now.modulus in whole_reduces m.value m.is_modulus
