-- Even and odd whole numbers, and what halving does to their binary digits. Assumes nothing.
use Rattle.std.specs.Prelude.{◌≡◌, ℕ, ◌+◌, ◌-◌, ◌*◌, ◌/◌, ◌%◌}
use Rattle.std.proofs.Common.{ap, add-mul, mul_assoc, one-mul, arith, leb-true, eqb-true, eq-eqb, ne_eqb}
use Rattle.ground.proofs.Bits.{bits_half, bits_mono}
use Rattle.ground.proofs.Digits.{odd}
use Rattle.ground.specs.Laws.{Parity, Shrinking}
use Rattle.whole.specs.Whole.{whole_operations}

odd_product : (a b : ℕ) → a % 2 ≡ 1 → b % 2 ≡ 1 → a * b % 2 ≡ 1
odd_product a b h k =
    let e : a ≡ 2 * (a / 2) + 1 = omega arith in omega (arith, simp (add-mul, mul_assoc, one-mul) at (ap (λ n. n * b) e))

pub whole_parity : Parity whole_operations
whole_parity = record {
  even_half = λ a e. omega (arith, eqb-true (a % 2) 0 e);
  even_multiple = λ a. eq-eqb (2 * a % 2) 0 (omega arith);
  odd_product = λ a b h k. ne_eqb (a * b % 2) 0 (λ e. omega (arith, odd_product a b (odd a h) (odd b k)));
  odd_sum = λ a b h k. eq-eqb ((a + b) % 2) 0 (omega (arith, odd a h, odd b k));
  odd_difference = λ a b h k e. eq-eqb ((a - b) % 2) 0 (omega (arith, odd a h, odd b k, leb-true b a e));
}

pub whole_shrinking : Shrinking whole_operations
whole_shrinking = record {
  half_bits = λ a h _. omega (arith, bits_half a h);
  difference_bits = λ a b _ _ less. omega (arith, bits_half a (omega arith), bits_mono ((a - b) / 2) (a / 2) (omega arith));
}
