-- The binary polynomials are a ring. Assumes nothing.
use Rattle.std.specs.Prelude.{◌≡◌, ℕ, zero, suc, ◌⊎◌, refl}
use Rattle.std.proofs.Common.{inl, inr, arith}
use Rattle.std.specs.Int.Bits.{xor_zero_r, xor_assoc}
use Rattle.std.proofs.lemmas.Nat.{xor_comm}
use Rattle.ground.specs.Laws.{Ring}
use Rattle.binary.specs.Binary.{binary_operations}
use Rattle.binary.specs.Carryless.{clmul}
use Rattle.binary.specs.CarrylessLemmas.{xor_off, xor_cancel, clmul_one, clmul_comm, clmul_assoc, clmul_xor}
use Rattle.binary.specs.Degrees.{product_above, only_one}

no_zero_divisors : (a b : ℕ) → clmul a b ≡ 0 → (a ≡ 0) ⊎ (b ≡ 0)
no_zero_divisors zero b e = inl refl
no_zero_divisors (suc a) zero e = inr refl
no_zero_divisors (suc a) (suc b) e = absurd (omega (arith, product_above (suc a) (suc b) (omega arith) (omega arith)))

pub binary_ring : Ring binary_operations
binary_ring = record {
  sum_zero = xor_zero_r;
  sum_comm = xor_comm;
  sum_assoc = xor_assoc;
  sum_cancel = xor_cancel;
  product_one = clmul_one;
  product_comm = clmul_comm;
  product_assoc = clmul_assoc;
  product_sum = clmul_xor;
  no_zero_divisors = no_zero_divisors;
  only_one = only_one;
  difference_sum = λ a b _. xor_off a b;
  sum_subtractable = λ a b. refl;
  subtracts = inl (λ a b. refl);
}
