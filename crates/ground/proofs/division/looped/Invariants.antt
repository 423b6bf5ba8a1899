use Rattle.std.proofs.Common.{◌+◌}
use Rattle.ground.specs.Bits.{bits}
use Rattle.ground.proofs.Running.{Running}
use Rattle.ground.proofs.division.looped.Given as goal

abbrev pub invariant-loop-run : goal.invariant-loop-run
invariant-loop-run g l = Running (g.G.Ground.meaning l.ground) l.y l.x l.run.registers l.run.steps

abbrev pub decreases-loop-run : goal.decreases-loop-run
decreases-loop-run g l = bits l.run.registers.a.value + bits l.run.registers.b.value
