use Rattle.std.proofs.Common.{◌≡◌, ◌-◌, ◌/◌, ◌^◌, lt_of_lt_of_le, arith, pow_mono}
use Rattle.std.proofs.Math.Nat.{div-eq_of_lt}
use Rattle.ground.proofs.Bits.{bits_le}
use Rattle.binary.specs.Remainders.{remainder}
use Rattle.ground.proofs.Digits.{digits_above}
use Rattle.binary.specs.Laws.{binary_reduces}
use Rattle.binary.specs.RemaindersLemmas.{remainder_step, remainder_below}
use Rattle.binary.proofs.reduction.BinaryModular.remainder.Goals as goal

pub loop-place-init : goal.loop-place-init
unfolding remainder
loop-place-init c = let none : c.args.a / 2 ^ 64 ≡ 0 = div-eq_of_lt (omega arith) in rw none

pub with_digit-r-requires : goal.with_digit-r-requires
with_digit-r-requires c =
    let m = c.args.self.now.modulus in
    rw c.loop-place.invariant
    (lt_of_lt_of_le (remainder_below m.value (omega (arith, m.is_modulus.least)) (c.args.a / 2 ^ c.loop-place.place))
    (pow_mono {j = 31} (bits_le 31 (m.value / 2) (omega (arith, m.is_modulus.most)))))

pub loop-place-preserved : goal.loop-place-preserved
loop-place-preserved c =
    let a = c.args.a in let place = c.loop-place.place in
    cc (remainder_step c.args.self.now.modulus.value (a / 2 ^ (place - 1)), digits_above a place (omega arith))

pub returns-clause-ring : goal.returns-clause-ring
returns-clause-ring c = let m = c.args.self.now.modulus in binary_reduces m.value m.is_modulus
