-- A ground's sums, products and divisors, from the laws of a ring or of its part from 0 up. Assumes nothing.
use Rattle.std.proofs.Common.{◌≡◌, ℕ, ◌≤◌, Bool, true, false, leb, sym, refl, ap, ◌∙◌, ⊎_elim, arith, le-leb, leb-false, leb-true}
use Rattle.std.proofs.Math.Decide.{dec_le}
use Rattle.std.proofs.lemmas.Bool.{both_ways}
use Rattle.ground.specs.Operations.{Operations, Divides}
use Rattle.ground.specs.Laws.{Ring}

module _ {o : Operations} (R : Ring o) where
  infixl 65 ◌⊕◌
  infixl 70 ◌⊗◌
  open o use {sum as ◌⊕◌, product as ◌⊗◌, subtractable, difference}

  -- the laws again as lemmas, which a ruleset takes
  pub sum_zero : (a : ℕ) → a ⊕ 0 ≡ a
  sum_zero = R.sum_zero

  pub sum_comm : (a b : ℕ) → a ⊕ b ≡ b ⊕ a
  sum_comm = R.sum_comm

  pub sum_assoc : (a b c : ℕ) → (a ⊕ b) ⊕ c ≡ a ⊕ (b ⊕ c)
  sum_assoc = R.sum_assoc

  pub product_one : (a : ℕ) → a ⊗ 1 ≡ a
  product_one = R.product_one

  pub product_comm : (a b : ℕ) → a ⊗ b ≡ b ⊗ a
  product_comm = R.product_comm

  pub product_assoc : (a b c : ℕ) → (a ⊗ b) ⊗ c ≡ a ⊗ (b ⊗ c)
  product_assoc = R.product_assoc

  pub product_sum : (a b c : ℕ) → a ⊗ (b ⊕ c) ≡ (a ⊗ b) ⊕ (a ⊗ c)
  product_sum = R.product_sum

  pub sum_left_comm : (a b c : ℕ) → a ⊕ (b ⊕ c) ≡ b ⊕ (a ⊕ c)
  sum_left_comm a b c = sym (sum_assoc a b c) ∙ ap (λ z. z ⊕ c) (sum_comm a b) ∙ sum_assoc b a c

  pub product_left_comm : (a b c : ℕ) → a ⊗ (b ⊗ c) ≡ b ⊗ (a ⊗ c)
  product_left_comm a b c = sym (product_assoc a b c) ∙ ap (λ z. z ⊗ c) (product_comm a b) ∙ product_assoc b a c

  pub zero_sum : (a : ℕ) → 0 ⊕ a ≡ a
  zero_sum a = sum_comm 0 a ∙ sum_zero a

  pub one_product : (a : ℕ) → 1 ⊗ a ≡ a
  one_product a = product_comm 1 a ∙ product_one a

  pub sum_product : (a b c : ℕ) → (a ⊕ b) ⊗ c ≡ (a ⊗ c) ⊕ (b ⊗ c)
  sum_product a b c = rw (product_comm (a ⊕ b) c, product_sum, product_comm c a, product_comm c b)

  pub product_zero : (a : ℕ) → a ⊗ 0 ≡ 0
  product_zero a = R.sum_cancel (a ⊗ 0) 0 (a ⊗ 0) (sym (product_sum a 0 0) ∙ ap (λ z. a ⊗ z) (sum_zero 0) ∙ sym (zero_sum (a ⊗ 0)))

  pub zero_product : (a : ℕ) → 0 ⊗ a ≡ 0
  zero_product a = product_comm 0 a ∙ product_zero a

  -- brings a term to a sorted sum of sorted products
  pub ruleset ring = (sum_assoc, sum_comm, sum_left_comm, product_assoc, product_comm, product_left_comm, product_sum, sum_product, sum_zero, zero_sum, product_zero, zero_product, product_one, one_product)

  pub smaller_subtractable : (a b : ℕ) → b ≤ a → subtractable a b ≡ true
  smaller_subtractable a b h = ⊎_elim (λ every. every a b) (λ smaller. smaller a b ∙ le-leb b a h) R.subtracts

  pub difference_of : (a b : ℕ) → b ≤ a → difference a b ⊕ b ≡ a
  difference_of a b h = R.difference_sum a b (smaller_subtractable a b h)

  -- a value but 0 cancels
  pub product_cancel : (a b c : ℕ) → (c ≡ 0 → ⊥) → c ⊗ a ≡ c ⊗ b → a ≡ b
  product_cancel a b c nonzero e =
      elim (dec_le b a) [ yes h ↦ larger a b h e | no h ↦ sym (larger b a (omega arith) (sym e)) ]
    where
      larger : (a b : ℕ) → b ≤ a → c ⊗ a ≡ c ⊗ b → a ≡ b
      larger a b h e =
          let d = difference a b in
          let none : c ⊗ d ≡ 0 = R.sum_cancel (c ⊗ d) 0 (c ⊗ b) (sym (product_sum c d b) ∙ ap (λ z. c ⊗ z) (difference_of a b h) ∙ e ∙ sym (zero_sum (c ⊗ b))) in
          ⊎_elim (λ z. absurd (nonzero z)) (λ z. sym (difference_of a b h) ∙ ap (λ t. t ⊕ b) z ∙ zero_sum b) (R.no_zero_divisors c d none)

  -- what divides a sum and one of its parts divides the other
  pub divides_part : (d a b c : ℕ) → d ⊗ a ≡ c ⊕ (d ⊗ b) → Divides o d c
  divides_part d a b c e = by (subtractable a b) refl
    where
      by : (t : Bool) → subtractable a b ≡ t → Divides o d c
      by true s =
          let k = difference a b in
          (k, R.sum_cancel (d ⊗ k) c (d ⊗ b) (sym (product_sum d k b) ∙ ap (λ z. d ⊗ z) (R.difference_sum a b s) ∙ e))
      by false s = ⊎_elim (λ every. absurd (both_ways (subtractable a b) s (every a b))) from_zero R.subtracts
        where
          -- from 0 up a is then smaller than b, so that c and a multiple of d make 0, and both are 0
          from_zero : ((a b : ℕ) → subtractable a b ≡ leb b a) → Divides o d c
          from_zero smaller =
              let a<b = leb-false b a (sym (smaller a b) ∙ s) in
              let k = difference b a in
              let none : 0 ≡ c ⊕ (d ⊗ k) = R.sum_cancel 0 (c ⊕ (d ⊗ k)) (d ⊗ a)
              (zero_sum (d ⊗ a) ∙ e ∙ ap (λ z. c ⊕ (d ⊗ z)) (sym (difference_of b a (omega arith))) ∙ simp ring) in
              let few = leb-true (d ⊗ k) 0 (sym (smaller 0 (d ⊗ k)) ∙ ap (λ z. subtractable z (d ⊗ k)) none ∙ R.sum_subtractable c (d ⊗ k)) in
              let zero : d ⊗ k ≡ 0 = omega arith in
              (0, product_zero d ∙ none ∙ ap (λ z. c ⊕ z) zero ∙ sum_zero c)
