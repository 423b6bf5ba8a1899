use Rattle.std.proofs.Common.{refl, lit≤}
use Rattle.ground.specs.Bits.{bits}
use Rattle.ground.specs.Loop.{runs}
use Rattle.ground.specs.Modulus.{IsModulus}
use Rattle.worked.proofs.divisions.Goals as goal

seven : IsModulus 7
seven = record { odd = refl; least = lit≤ tt; most = lit≤ tt }

fifteen : IsModulus 15
fifteen = record { odd = refl; least = lit≤ tt; most = lit≤ tt }

pub returns : goal.returns
unfolding bits runs
returns c = record {
  worked = refl;
  told = rw (c.quotient.ensures.divides seven, c.quotient-2.ensures.divides fifteen, c.quotient-3.ensures.divides fifteen);
}
