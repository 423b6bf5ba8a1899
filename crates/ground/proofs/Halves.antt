-- Halving on a ground, from the laws of parity: the base has an inverse modulo an odd modulus, and what is odd and divides
-- a double divides its half. Assumes nothing.
use Rattle.std.proofs.Common.{◌≡◌, ℕ, Bool, true, false, sym, refl, ap, ◌∙◌, arith}
use Rattle.std.proofs.lemmas.Bool.{both_ways, false_from_ne_true}
use Rattle.ground.specs.Operations.{Operations, Divides, Congruent}
use Rattle.ground.specs.Laws.{Ring, Parity}
use Rattle.ground.proofs.Rings as rings
use Rattle.ground.proofs.Congruences as congruences

module _ {o : Operations} (R : Ring o) (P : Parity o) where
  infixl 65 ◌⊕◌
  infixl 70 ◌⊗◌
  open o use {sum as ◌⊕◌, product as ◌⊗◌, base, even, half, difference}

  -- 0 is the only multiple of 0, so under a base of 0 both 1 and 2 would be odd, and 1 + 1 and 2 + 1 both 0
  pub base_nonzero : base ≡ 0 → ⊥
  base_nonzero z =
      let none : (a : ℕ) → even a ≡ true → a ≡ 0 = λ a e. sym (P.even_half a e) ∙ ap (λ b. b ⊗ half a) z ∙ rings.zero_product R (half a) in
      let one : even 1 ≡ false = false_from_ne_true (even 1) (λ e. let q = none 1 e in omega arith) in
      let two : even 2 ≡ false = false_from_ne_true (even 2) (λ e. let q = none 2 e in omega arith) in
      let same : ◌≡◌ {A = ℕ} 1 2 = R.sum_cancel 1 2 1 (none (1 ⊕ 1) (P.odd_sum 1 1 one one) ∙ sym (none (2 ⊕ 1) (P.odd_sum 2 1 two one))) in
      omega arith

  -- the divisors of an odd value are odd
  pub odd_divisor : (d a : ℕ) → Divides o d a → even a ≡ false → even d ≡ false
  odd_divisor d a (k, e) h = false_from_ne_true (even d) λ p.
      both_ways (even a) h (ap even (sym e ∙ ap (λ z. z ⊗ k) (sym (P.even_half d p)) ∙ R.product_assoc base (half d) k) ∙ P.even_multiple (half d ⊗ k))

  -- 1 divides every value
  pub one_odd : (a : ℕ) → even a ≡ false → even 1 ≡ false
  one_odd a = odd_divisor 1 a (a, rings.one_product R a)

  pub divides_half : (d a : ℕ) → even d ≡ false → Divides o d (base ⊗ a) → Divides o d a
  divides_half d a h (k, e) = by (even k) refl
    where
      by : (t : Bool) → even k ≡ t → Divides o d a
      by true p = (half k, rings.product_cancel R (d ⊗ half k) a base base_nonzero (rings.product_left_comm R base d (half k) ∙ ap (λ z. d ⊗ z) (P.even_half k p) ∙ e))
      by false p = absurd (both_ways (even (d ⊗ k)) (P.odd_product d k h p) (ap even e ∙ P.even_multiple a))

  -- the half of m + 1 is an inverse of the base
  pub halves_cancel : {m a b : ℕ} → even m ≡ false → Congruent o m (base ⊗ a) (base ⊗ b) → Congruent o m a b
  halves_cancel {m} {a} {b} h p = congruences.join R (congruences.flip R (undo a)) (congruences.join R (congruences.by_product R i p) (undo b))
    where
      i : ℕ
      i = half (m ⊕ 1)

      double : base ⊗ i ≡ m ⊕ 1
      double = P.even_half (m ⊕ 1) (P.odd_sum m 1 h (one_odd m h))

      undo : (a : ℕ) → Congruent o m (base ⊗ a ⊗ i) a
      undo a = record { left = 0; right = a; same = ap (λ z. z ⊕ (0 ⊗ m)) (regroup a ∙ ap (λ z. a ⊗ z) double) ∙ simp (rings.ring, R) }
        where
          regroup : (a : ℕ) → base ⊗ a ⊗ i ≡ a ⊗ (base ⊗ i)
          regroup a = simp (rings.ring, R)
