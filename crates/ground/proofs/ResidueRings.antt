-- A map to residues that keeps congruence makes the residues of a modulus a commutative ring. Assumes nothing.
use Rattle.std.proofs.Common.{◌≡◌, ℕ, ◌<◌, sym, arith}
use Rattle.rings.specs.Rings.{IsRing}
use Rattle.ground.specs.Operations.{Meaning, Congruent, subtracted}
use Rattle.ground.specs.Laws.{Laws}
use Rattle.ground.specs.Residues.{Reduces, residue_ring}
use Rattle.ground.proofs.Congruences as congruences
use Rattle.ground.proofs.Kept.{subtracted_is}

module _ {m : Meaning} (L : Laws m) (f : ℕ → ℕ) (below : (a : ℕ) → f a < m.size) (is : (a : ℕ) → Congruent m.operations m.modulus (f a) a) where
  infixl 65 ◌⊕◌
  infixl 70 ◌⊗◌
  open m.operations use {sum as ◌⊕◌, product as ◌⊗◌}
  open L use {ring as R, residues as Q}

  infix 30 ◌~◌
  abbrev ◌~◌ : ℕ → ℕ → Type 0
  a ~ b = Congruent m.operations m.modulus a b

  infixr 40 ◌⨾◌
  ◌⨾◌ : {a b c : ℕ} → a ~ b → b ~ c → a ~ c
  p ⨾ q = congruences.join R p q

  same : {a b : ℕ} → a ≡ b → a ~ b
  same = congruences.same R

  flip : {a b : ℕ} → a ~ b → b ~ a
  flip = congruences.flip R

  -- a sum's second part, or its first, may be replaced by what is congruent to it
  sum_right : {b c : ℕ} (a : ℕ) → b ~ c → a ⊕ b ~ a ⊕ c
  sum_right = congruences.by_sum R

  sum_left : {b c : ℕ} (a : ℕ) → b ~ c → b ⊕ a ~ c ⊕ a
  sum_left {b} {c} a p = same (R.sum_comm b a) ⨾ sum_right a p ⨾ same (R.sum_comm a c)

  -- and so with a product's factors
  product_left : {b c : ℕ} (a : ℕ) → b ~ c → b ⊗ a ~ c ⊗ a
  product_left = congruences.by_product R

  product_right : {b c : ℕ} (a : ℕ) → b ~ c → a ⊗ b ~ a ⊗ c
  product_right {b} {c} a p = same (R.product_comm a b) ⨾ product_left a p ⨾ same (R.product_comm c a)

  remainder_only : (a s : ℕ) → s < m.size → s ~ a → s ≡ f a
  remainder_only a s h p = Q.apart s (f a) h (below a) (p ⨾ flip (is a))

  -- congruent values have the same remainder
  by : {a b : ℕ} → a ~ b → f a ≡ f b
  by {a} {b} p = remainder_only b (f a) (below a) (is a ⨾ p)

  -- a residue is its own remainder
  own : {a b : ℕ} → b < m.size → a ~ b → f a ≡ b
  own {a} {b} h p = sym (remainder_only a b h (flip p))

  residues_ring : IsRing (residue_ring m f)
  residues_ring = record {
    one_below = Q.one_residue;
    sum_below = λ a b _ _. below (a ⊕ b);
    negative_below = λ a h. Q.subtracted_residue 0 a zero_residue h;
    product_below = λ a b _ _. below (a ⊗ b);
    sum_zero = λ a h. own h (same (R.sum_zero a));
    sum_comm = λ a b _ _. by (same (R.sum_comm a b));
    sum_assoc = λ a b c _ _ _. by (sum_left c (is (a ⊕ b)) ⨾ same (R.sum_assoc a b c) ⨾ sum_right a (flip (is (b ⊕ c))));
    sum_negative = λ a h. own zero_residue (same (R.sum_comm a (subtracted m 0 a)) ⨾ subtracted_is L 0 a zero_residue h);
    product_one = λ a h. own h (same (R.product_one a));
    product_comm = λ a b _ _. by (same (R.product_comm a b));
    product_assoc = λ a b c _ _ _. by (product_left c (is (a ⊗ b)) ⨾ same (R.product_assoc a b c) ⨾ product_right a (flip (is (b ⊗ c))));
    product_sum = λ a b c _ _ _. by (product_right a (is (b ⊕ c)) ⨾ same (R.product_sum a b c) ⨾ flip (sum_left (f (a ⊗ c)) (is (a ⊗ b)) ⨾ sum_right (a ⊗ b) (is (a ⊗ c))));
  }
    where
      zero_residue : 0 < m.size
      zero_residue = omega (arith, Q.one_residue)

  pub reduces : Reduces m f
  reduces = record {
    laws = L;
    remainder = λ a. record { residue = below a; congruent = is a; only = remainder_only a };
    ring = residues_ring;
  }
