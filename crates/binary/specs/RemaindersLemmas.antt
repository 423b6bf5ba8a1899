-- The remainder is below the modulus's degree, and congruent to what it is of. Assumes nothing.
use Rattle.std.specs.Prelude.{◌≡◌, ℕ, suc, ◌*◌, ◌/◌, ◌%◌, ◌^◌, ◌<◌, Bool, true, false, cond, bit_xor, nat_lt, refl}
use Rattle.std.proofs.Math.Path.{sym}
use Rattle.std.proofs.Common.{ap, ap₂, ◌∙◌, div-lt_iff_lt-mul, one-mul, arith, ltb-true, ltb-false, lt-ltb, lit<, pow_pos}
use Rattle.std.proofs.Math.Nat.{pow-suc, div-eq_of_lt-le}
use Rattle.std.proofs.Math.Arith.{bin_ind}
use Rattle.std.specs.Int.Bits.{xor_assoc, xor_shifted, xor_zero_r}
use Rattle.std.proofs.lemmas.Nat.{xor_shr}
use Rattle.ground.specs.Bits.{bits}
use Rattle.ground.specs.Operations.{Congruent}
use Rattle.binary.specs.Binary.{binary_operations}
use Rattle.binary.specs.Carryless.{clmul}
use Rattle.binary.specs.Remainders.{cut, remainder}
use Rattle.binary.specs.CarrylessLemmas.{xors, xor_double, xor_digit, one_clmul, clmul_add, clmul_double}
use Rattle.binary.specs.Degrees.{top}
use Rattle.ground.proofs.Digits.{fold_step}

-- the sum of two polynomials of one degree is below it
sum_below : (d a b : ℕ) → a / 2 ^ d ≡ 1 → b / 2 ^ d ≡ 1 → bit_xor a b < 2 ^ d
sum_below d a b e f = let l : bit_xor a b / 2 ^ d < 1 = rw (xor_shr, e, f) (lit< tt) in rw one-mul at ((div-lt_iff_lt-mul (pow_pos d)).0 l)

module _ (m : ℕ) where
  pub remainder_step : (a : ℕ) → remainder m a ≡ cut m (bit_xor (remainder m (a / 2) * 2) (a % 2))
  unfolding remainder
  remainder_step a = fold_step (λ digit r. cut m (bit_xor (r * 2) digit)) (rw (lt-ltb 0 (2 ^ bits (m / 2)) (pow_pos (bits (m / 2))))) a

  module _ (above : 0 < m) where
    cut_below : (v : ℕ) → v < 2 ^ suc (bits (m / 2)) → cut m v < 2 ^ bits (m / 2)
    cut_below v h = by (nat_lt v (2 ^ bits (m / 2))) refl
      where
        by : (t : Bool) → nat_lt v (2 ^ bits (m / 2)) ≡ t → cond t v (bit_xor v m) < 2 ^ bits (m / 2)
        by true e = ltb-true v (2 ^ bits (m / 2)) e
        by false e =
            let d = bits (m / 2) in
            sum_below d v m (div-eq_of_lt-le (2 ^ d) (omega (arith, ltb-false v (2 ^ d) e)) (omega (arith, pow-suc 2 d))) (top m above)

    pub remainder_below : (a : ℕ) → remainder m a < 2 ^ bits (m / 2)
    unfolding remainder
    remainder_below = bin_ind (λ n. remainder m n < 2 ^ bits (m / 2)) (pow_pos (bits (m / 2))) λ n ih.
        let r = remainder m (n / 2) in
        rw (remainder_step n)
        (cut_below (bit_xor (r * 2) (n % 2)) (rw (xor_shifted r 1 (n % 2) (omega arith)) (omega (arith, pow-suc 2 (bits (m / 2))))))

  -- what a cut adds is a multiple of m
  cut_multiple : (v : ℕ) → (k : ℕ) × (bit_xor (cut m v) (clmul k m) ≡ v)
  unfolding clmul
  cut_multiple v = by (nat_lt v (2 ^ bits (m / 2)))
    where
      by : (t : Bool) → (k : ℕ) × (bit_xor (cond t v (bit_xor v m)) (clmul k m) ≡ v)
      by true = (0, xor_zero_r v)
      by false = (1, simp (one_clmul, xors))

  remainder_multiple : (a : ℕ) → (k : ℕ) × (bit_xor (remainder m a) (clmul k m) ≡ a)
  unfolding remainder clmul
  remainder_multiple = bin_ind (λ n. (k : ℕ) × (bit_xor (remainder m n) (clmul k m) ≡ n)) (0, refl) step
    where
      swap : (p q c : ℕ) → bit_xor (bit_xor p q) c ≡ bit_xor (bit_xor p c) q
      swap p q c = simp xors

      step : (n : ℕ) → (k : ℕ) × (bit_xor (remainder m (n / 2)) (clmul k m) ≡ n / 2) → (k : ℕ) × (bit_xor (remainder m n) (clmul k m) ≡ n)
      step n (k, e) =
          let r = remainder m (n / 2) in
          let v = bit_xor (r * 2) (n % 2) in
          let (j, f) = cut_multiple v in (
            bit_xor j (k * 2),
            ap₂ bit_xor (remainder_step n) (clmul_add j (k * 2) m) ∙ sym (xor_assoc (cut m v) (clmul j m) (clmul (k * 2) m))
                ∙ ap₂ bit_xor f (clmul_double k m) ∙ swap (r * 2) (n % 2) (clmul k m * 2)
                ∙ ap (λ x. bit_xor x (n % 2)) (sym (xor_double r (clmul k m)) ∙ ap (λ x. x * 2) e) ∙ xor_digit n,
          )

  pub remainder_congruent : (a : ℕ) → Congruent binary_operations m (remainder m a) a
  unfolding clmul
  remainder_congruent a = let (k, e) = remainder_multiple a in record { left = k; right = 0; same = e ∙ sym (xor_zero_r a) }
