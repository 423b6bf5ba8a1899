use Rattle.std.proofs.Common.{◌≡◌, ◌-◌, ◌/◌, ◌^◌, ◌<◌, div-one, arith}
use Rattle.std.proofs.Math.Nat.{div-eq_of_lt}
use Rattle.std.proofs.lemmas.Nat.{shr_le}
use Rattle.binary.specs.Carryless.{clmul}
use Rattle.binary.specs.CarrylessLemmas.{clmul_step}
use Rattle.binary.specs.Degrees.{product_below, product_bits}
use Rattle.ground.proofs.Digits.{digits_above}
use Rattle.binary.proofs.products.product.Goals as goal

pub loop-place-init : goal.loop-place-init
unfolding clmul
loop-place-init c = let none : c.args.a / 2 ^ 32 ≡ 0 = div-eq_of_lt (omega arith) in rw none

pub with_digit-r-requires : goal.with_digit-r-requires
with_digit-r-requires c =
    let a = c.args.a in let place = c.loop-place.place in
    let short : a / 2 ^ place < 2 ^ 31 = omega (arith, digits_above a place (omega arith), shr_le a (place - 1)) in
    rw c.loop-place.invariant (product_below 31 32 (a / 2 ^ place) c.args.b short (omega arith))

pub loop-place-preserved : goal.loop-place-preserved
loop-place-preserved c =
    let a = c.args.a in let place = c.loop-place.place in
    cc (clmul_step (a / 2 ^ (place - 1)) c.args.b, digits_above a place (omega arith))

pub returns-clause-length : goal.returns-clause-length
returns-clause-length c h k =
    let done : c.loop-place.place ≡ 0 = omega (arith, c.loop-place-test.false) in
    let whole : c.loop-place.r ≡ clmul c.args.a c.args.b = rw (done, div-one) at c.loop-place.invariant in
    rw whole (product_bits c.args.a c.args.b h k)
