-- Even and odd binary polynomials, and what halving does to their binary digits. Assumes nothing.
use Rattle.std.specs.Prelude.{◌≡◌, ℕ, ◌*◌, ◌/◌, ◌%◌, bit_xor}
use Rattle.std.proofs.Common.{◌∙◌, arith, eqb-true, eq-eqb, ne_eqb}
use Rattle.std.proofs.Math.Nat.{mul-mod_left}
use Rattle.std.specs.Int.Bits.{xor_zero_r}
use Rattle.std.proofs.lemmas.Nat.{xor_mod}
use Rattle.ground.proofs.Digits.{odd}
use Rattle.ground.proofs.Bits.{bits_half}
use Rattle.ground.specs.Laws.{Parity, Shrinking}
use Rattle.binary.specs.Binary.{binary_operations}
use Rattle.binary.specs.Carryless.{pick, clmul}
use Rattle.binary.specs.CarrylessLemmas.{clmul_step}
use Rattle.binary.specs.Degrees.{bits_less}

two_clmul : (a : ℕ) → clmul 2 a ≡ a * 2
unfolding clmul
two_clmul a = xor_zero_r (a * 2)

-- the product with an odd a has b's parity
odd_product : (a b : ℕ) → a % 2 ≡ 1 → clmul a b % 2 ≡ b % 2
odd_product a b e = rw (clmul_step, xor_mod (clmul (a / 2) b * 2) (pick (a % 2) b) 1, mul-mod_left, e)

odd_xor : (a b : ℕ) → a % 2 ≡ 1 → b % 2 ≡ 1 → bit_xor a b % 2 ≡ 0
odd_xor a b e f = rw (xor_mod a b 1, e, f)

pub binary_parity : Parity binary_operations
binary_parity = record {
  even_half = λ a e. two_clmul (a / 2) ∙ omega (arith, eqb-true (a % 2) 0 e);
  even_multiple = λ a. eq-eqb (clmul 2 a % 2) 0 (omega (arith, two_clmul a));
  odd_product = λ a b h k. ne_eqb (clmul a b % 2) 0 (λ e. omega (arith, odd_product a b (odd a h), odd b k));
  odd_sum = λ a b h k. eq-eqb (bit_xor a b % 2) 0 (odd_xor a b (odd a h) (odd b k));
  odd_difference = λ a b h k _. eq-eqb (bit_xor a b % 2) 0 (odd_xor a b (odd a h) (odd b k));
}

pub binary_shrinking : Shrinking binary_operations
binary_shrinking = record {
  half_bits = λ a h _. omega (arith, bits_half a h);
  difference_bits = λ a b _ _ less. bits_less a b (omega arith) (omega arith);
}
