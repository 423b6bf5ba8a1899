-- The leading zeros tell the place of the highest digit.
use Rattle.std.proofs.Common.{◌≡◌, suc, ◌-◌, ◌/◌, ◌<◌, ◌≤◌, mod-eq_of_lt, one-mul, lt_of_not-le, arith, pow_mono}
use Rattle.std.specs.Int.Count.{count_leading_zeros}
use Rattle.std.proofs.lemmas.Nat.{leading_top}
use Rattle.ground.proofs.Bits.{bits_half, bits_below, bits_le}
use Rattle.ground.specs.Bits.{bits}
use Rattle.binary.proofs.digits.leading_term.Goals as goal

pub returns : goal.returns
returns c =
    let a = c.args.a in
    let (j, e, low, high) = leading_top 32 a c.requires (omega arith) in
    let above : j < bits a = lt_of_not-le (λ (g : bits a ≤ j). omega (arith, bits_below a, pow_mono g)) in
    let shift : 31 - count_leading_zeros 32 a ≡ j = omega arith in
    let degree : bits (a / 2) ≡ j = omega (arith, bits_half a c.requires, bits_le (suc j) a high) in
    rw (one-mul, shift, degree) (mod-eq_of_lt (omega arith))
