-- The whole numbers are the part from 0 up of a ring. Assumes nothing.
use Rattle.std.specs.Prelude.{◌≡◌, ℕ, zero, suc, ◌+◌, ◌*◌, ◌⊎◌, refl}
use Rattle.std.proofs.Common.{inl, inr, add-zero, add_comm, add_assoc, mul-one, mul_comm, mul_assoc, mul-add, mul-suc, arith, leb-true, le-leb}
use Rattle.std.proofs.Math.Nat.{add_right_cancel}
use Rattle.ground.specs.Laws.{Ring}
use Rattle.whole.specs.Whole.{whole_operations}

no_zero_divisors : (a b : ℕ) → a * b ≡ 0 → (a ≡ 0) ⊎ (b ≡ 0)
no_zero_divisors zero b e = inl refl
no_zero_divisors (suc a) zero e = inr refl
no_zero_divisors (suc a) (suc b) e = absurd (omega (arith, mul-suc (suc a) b))

only_one : (a b : ℕ) → a * b ≡ 1 → a ≡ 1
only_one a zero e = omega arith
only_one zero (suc b) e = omega arith
only_one (suc a) (suc b) e = omega (arith, mul-suc (suc a) b)

pub whole_ring : Ring whole_operations
whole_ring = record {
  sum_zero = add-zero;
  sum_comm = add_comm;
  sum_assoc = add_assoc;
  sum_cancel = λ a b c e. add_right_cancel c e;
  product_one = mul-one;
  product_comm = mul_comm;
  product_assoc = mul_assoc;
  product_sum = mul-add;
  no_zero_divisors = no_zero_divisors;
  only_one = only_one;
  difference_sum = λ a b e. omega (arith, leb-true b a e);
  sum_subtractable = λ a b. le-leb b (a + b) (omega arith);
  subtracts = inr (λ a b. refl);
}
