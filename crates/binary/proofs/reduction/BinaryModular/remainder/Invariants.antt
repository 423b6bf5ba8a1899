use Rattle.std.proofs.Common.{◌≡◌, ◌/◌, ◌^◌}
use Rattle.binary.specs.Remainders.{remainder}
use Rattle.binary.proofs.reduction.BinaryModular.remainder.Given as goal

-- the remainder of the digits of a that were taken up
abbrev pub invariant-loop-place : goal.invariant-loop-place
invariant-loop-place l = l.r ≡ remainder l.self.modulus.value (l.a / 2 ^ l.place)
