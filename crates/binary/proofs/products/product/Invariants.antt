use Rattle.std.proofs.Common.{◌≡◌, ◌/◌, ◌^◌}
use Rattle.binary.specs.Carryless.{clmul}
use Rattle.binary.proofs.products.product.Given as goal

-- the product by the digits of a that were taken up
abbrev pub invariant-loop-place : goal.invariant-loop-place
invariant-loop-place l = l.r ≡ clmul (l.a / 2 ^ l.place) l.b
