use Rattle.std.proofs.Common.{ap, arith}
use Rattle.ground.specs.Bits.{bits}
use Rattle.ground.proofs.Bits.{bits_half, bits_le}
use Rattle.ground.proofs.Running.{running_start, running_more}
use Rattle.ground.proofs.division.looped.Goals as goal

pub loop-run-init : goal.loop-run-init
loop-run-init g c =
    rw c.start-run.ensures (running_start (g.met.G.Ground.lawful c.args.ground.now) c.if-x-eq0.false c.requires.residue)

-- no more steps than the bits of two numbers of 32 bits
pub step-run-requires : goal.step-run-requires
step-run-requires g c =
    let x_bits = bits_le 32 c.args.x (omega arith) in
    let m_bits = bits_le 32 c.start-run.result.registers.b.value (omega arith) in
    omega (arith, x_bits, m_bits, ap (λ r. bits r.registers.b.value) c.start-run.ensures, c.loop-run.invariant.room, bits_half c.loop-run.run.registers.a.value c.loop-run.invariant.kept.a.above)

pub loop-run-preserved : goal.loop-run-preserved
loop-run-preserved g c =
    rw c.step-run.ensures (running_more (g.met.G.Ground.lawful c.args.ground.now) c.loop-run.invariant c.if-run.false)
