-- Congruence modulo m on a ground. Assumes nothing.
use Rattle.std.proofs.Common.{◌≡◌, ℕ, sym, ap, ◌∙◌}
use Rattle.ground.specs.Operations.{Operations, Congruent}
use Rattle.ground.specs.Laws.{Ring}
use Rattle.ground.proofs.Rings as rings

module _ {o : Operations} (R : Ring o) {m : ℕ} where
  infixl 65 ◌⊕◌
  infixl 70 ◌⊗◌
  open o use {sum as ◌⊕◌, product as ◌⊗◌}

  pub same : {a b : ℕ} → a ≡ b → Congruent o m a b
  same e = record { left = 0; right = 0; same = ap (λ z. z ⊕ (0 ⊗ m)) e }

  pub flip : {a b : ℕ} → Congruent o m a b → Congruent o m b a
  flip p = record { left = p.right; right = p.left; same = sym p.same }

  pub join : {a b c : ℕ} → Congruent o m a b → Congruent o m b c → Congruent o m a c
  join {a} {b} {c} p q = record {
    left = p.left ⊕ q.left;
    right = q.right ⊕ p.right;
    same = regroup a p.left q.left ∙ ap (λ z. z ⊕ (q.left ⊗ m)) p.same ∙ exchange b p.right q.left ∙ ap (λ z. z ⊕ (p.right ⊗ m)) q.same ∙ sym (regroup c q.right p.right);
  }
    where
      regroup : (a k l : ℕ) → a ⊕ ((k ⊕ l) ⊗ m) ≡ a ⊕ (k ⊗ m) ⊕ (l ⊗ m)
      regroup a k l = simp (rings.ring, R)

      exchange : (b k l : ℕ) → b ⊕ (k ⊗ m) ⊕ (l ⊗ m) ≡ b ⊕ (l ⊗ m) ⊕ (k ⊗ m)
      exchange b k l = simp (rings.ring, R)

  -- multiples of m are congruent to 0
  pub plus_modulus : (a : ℕ) → Congruent o m (a ⊕ m) a
  plus_modulus a = record { left = 0; right = 1; same = simp (rings.ring, R) }

  pub by_sum : {a b : ℕ} (c : ℕ) → Congruent o m a b → Congruent o m (c ⊕ a) (c ⊕ b)
  by_sum {a} {b} c p = record {
    left = p.left;
    right = p.right;
    same = rings.sum_assoc R c a (p.left ⊗ m) ∙ ap (λ z. c ⊕ z) p.same ∙ sym (rings.sum_assoc R c b (p.right ⊗ m));
  }

  pub sum_cancel : {a b : ℕ} (c : ℕ) → Congruent o m (a ⊕ c) (b ⊕ c) → Congruent o m a b
  sum_cancel {a} {b} c p = record {
    left = p.left;
    right = p.right;
    same = R.sum_cancel (a ⊕ (p.left ⊗ m)) (b ⊕ (p.right ⊗ m)) c (exchange a p.left ∙ p.same ∙ sym (exchange b p.right));
  }
    where
      exchange : (a k : ℕ) → a ⊕ (k ⊗ m) ⊕ c ≡ a ⊕ c ⊕ (k ⊗ m)
      exchange a k = simp (rings.ring, R)

  pub by_product : {a b : ℕ} (c : ℕ) → Congruent o m a b → Congruent o m (a ⊗ c) (b ⊗ c)
  by_product {a} {b} c p = record {
    left = c ⊗ p.left;
    right = c ⊗ p.right;
    same = gather a p.left ∙ ap (λ z. z ⊗ c) p.same ∙ sym (gather b p.right);
  }
    where
      gather : (a k : ℕ) → (a ⊗ c) ⊕ (c ⊗ k ⊗ m) ≡ (a ⊕ (k ⊗ m)) ⊗ c
      gather a k = simp (rings.ring, R)
