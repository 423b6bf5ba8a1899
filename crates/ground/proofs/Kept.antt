-- What every step of the division loop keeps, and that a step takes bits from the registers A and B. Assumes nothing.
use Rattle.std.proofs.Common.{◌≡◌, ℕ, ◌+◌, ◌<◌, Bool, true, false, cond, ltb, sym, refl, ap, ◌∙◌, ap₂, arith, ltb-false, ltb-true}
use Rattle.std.proofs.Math.Nat.{pos_of_ne-zero}
use Rattle.std.proofs.lemmas.Bool.{both_ways}
use Rattle.ground.specs.Bits.{bits}
use Rattle.ground.specs.Operations.{Meaning, Divides, Congruent, halved, subtracted}
use Rattle.ground.specs.Laws.{Laws}
use Rattle.ground.specs.Loop.{start, halve, lessen, step, chosen}
use Rattle.ground.specs.declared.registers.Register.{Register}
use Rattle.ground.specs.declared.registers.Registers.{Registers}
use Rattle.ground.proofs.Rings as rings
use Rattle.ground.proofs.Congruences as congruences
use Rattle.ground.proofs.Halves as halves

-- In a division of y by x: the residue times x is congruent to the value times y.
pub record Follows (m : Meaning) (y x : ℕ) (r : Register) : Type 0 where
  pub above : 0 < r.value
  pub residue : r.residue < m.size
  pub is : Congruent m.operations m.modulus (m.operations.product r.residue x) (m.operations.product r.value y)

-- Both registers do so, and their values have the common divisors of x and the modulus.
pub record Kept (m : Meaning) (y x : ℕ) (s : Registers) : Type 0 where
  pub a : Follows m y x s.a
  pub b : Follows m y x s.b
  pub up : (d : ℕ) → Divides m.operations d s.a.value → Divides m.operations d s.b.value → Divides m.operations d x × Divides m.operations d m.modulus
  pub down : (d : ℕ) → Divides m.operations d x → Divides m.operations d m.modulus → Divides m.operations d s.a.value × Divides m.operations d s.b.value

-- the registers exchanged
abbrev mirrored : Registers → Registers
mirrored s = record { a = s.b; b = s.a }

pub kept_mirrored : {m : Meaning} {y x : ℕ} {s : Registers} → Kept m y x s → Kept m y x (mirrored s)
kept_mirrored k = record {
  a = k.b;
  b = k.a;
  up = λ d p q. k.up d q p;
  down = λ d p q. let (p', q') = k.down d p q in (q', p');
}

module _ {m : Meaning} (L : Laws m) where
  infixl 65 ◌⊕◌
  infixl 70 ◌⊗◌
  open m.operations use {sum as ◌⊕◌, product as ◌⊗◌, subtractable, difference, base, even, half}
  open L use {ring as R, parity as P, shrinking as S, residues as Q}

  infixr 40 ◌⨾◌
  ◌⨾◌ : {a b c : ℕ} → Congruent m.operations m.modulus a b → Congruent m.operations m.modulus b c → Congruent m.operations m.modulus a c
  p ⨾ q = congruences.join R p q

  -- the base times the half of a residue is congruent to it
  halved_is : (u : ℕ) → Congruent m.operations m.modulus (base ⊗ halved m u) u
  halved_is u = by (even u) refl
    where
      w : ℕ
      w = u ⊕ m.modulus

      by : (t : Bool) → even u ≡ t → Congruent m.operations m.modulus (base ⊗ cond t (half u) (half w)) u
      by true e = congruences.same R (P.even_half u e)
      by false e = congruences.same R (P.even_half w (P.odd_sum u m.modulus e Q.odd_modulus)) ⨾ congruences.plus_modulus R u

  -- what is subtracted makes up the difference again
  pub subtracted_is : (u v : ℕ) → u < m.size → v < m.size → Congruent m.operations m.modulus (subtracted m u v ⊕ v) u
  subtracted_is u v hu hv = by (subtractable u v) refl
    where
      w : ℕ
      w = u ⊕ m.modulus

      by : (t : Bool) → subtractable u v ≡ t → Congruent m.operations m.modulus (cond t (difference u v) (difference w v) ⊕ v) u
      by true e = congruences.same R (R.difference_sum u v e)
      by false e = congruences.same R (R.difference_sum w v (Q.once u v hu hv)) ⨾ congruences.plus_modulus R u

  -- the larger of two odd values less the smaller is even
  odd_less : {a b : ℕ} → even a ≡ false → even b ≡ false → b < a → even (difference a b) ≡ true
  odd_less {a} {b} e f h = P.odd_difference a b e f (rings.smaller_subtractable R a b (omega arith))

  modulus_above : 0 < m.modulus
  modulus_above = pos_of_ne-zero λ z. both_ways (even m.modulus) Q.odd_modulus (ap even (z ∙ sym (rings.product_zero R base)) ∙ P.even_multiple 0)

  module _ {y x : ℕ} where
    pub kept_start : 0 < x → y < m.size → Kept m y x (start m y x)
    kept_start hx hy = record {
      a = record { above = hx; residue = hy; is = congruences.same R (R.product_comm y x) };
      b = record { above = modulus_above; residue = omega (arith, Q.one_residue); is = record { left = y; right = 0; same = simp (rings.ring, R) } };
      up = λ d p q. (p, q);
      down = λ d p q. (p, q);
    }

    -- A even: it is halved
    kept_half : {a b : Register} → Kept m y x (record { a = a; b = b }) → even a.value ≡ true → Kept m y x (record { a = halve m a; b = b })
    kept_half {a} {b} k e = record {
      a = record {
        above = pos_of_ne-zero λ z. let none : a.value ≡ 0 = sym double ∙ ap (λ t. base ⊗ t) z ∙ rings.product_zero R base in omega (arith, k.a.above);
        residue = Q.halved_residue a.residue k.a.residue;
        is = halves.halves_cancel R P Q.odd_modulus
            (congruences.same R (sym (R.product_assoc base (halved m a.residue) x)) ⨾ congruences.by_product R x (halved_is a.residue) ⨾ k.a.is
            ⨾ congruences.same R (ap (λ t. t ⊗ y) (sym double) ∙ R.product_assoc base (half a.value) y));
      };
      b = k.b;
      up = λ d (i, p) q. k.up d (base ⊗ i, rings.product_left_comm R d base i ∙ ap (λ t. base ⊗ t) p ∙ double) q;
      down = λ d p q. let ((i, f), g) = k.down d p q in (halves.divides_half R P d (half a.value) (halves.odd_divisor R P d m.modulus q Q.odd_modulus) (i, f ∙ sym double), g);
    }
      where
        double : base ⊗ half a.value ≡ a.value
        double = P.even_half a.value e

    -- A larger: B is taken from it
    kept_less : {a b : Register} → Kept m y x (record { a = a; b = b }) → b.value < a.value → Kept m y x (record { a = lessen m a b; b = b })
    kept_less {a} {b} k h = record {
      a = record {
        above = pos_of_ne-zero λ z. let level : a.value ≡ b.value = sym whole ∙ ap (λ t. t ⊕ b.value) z ∙ rings.zero_sum R b.value in omega arith;
        residue = Q.subtracted_residue a.residue b.residue k.a.residue k.b.residue;
        is = congruences.sum_cancel R (b.residue ⊗ x)
            (congruences.same R (sym (rings.sum_product R (subtracted m a.residue b.residue) b.residue x)) ⨾ congruences.by_product R x (subtracted_is a.residue b.residue k.a.residue k.b.residue) ⨾ k.a.is
            ⨾ congruences.same R (ap (λ t. t ⊗ y) (sym whole) ∙ rings.sum_product R d b.value y) ⨾ congruences.by_sum R (d ⊗ y) (congruences.flip R k.b.is));
      };
      b = k.b;
      up = λ c (i, p) (j, q). k.up c (i ⊕ j, R.product_sum c i j ∙ ap₂ ◌⊕◌ p q ∙ whole) (j, q);
      down = λ c p q. let ((i, f), (j, g)) = k.down c p q in (rings.divides_part R c i j d (f ∙ sym whole ∙ ap (λ t. d ⊕ t) (sym g)), (j, g));
    }
      where
        d : ℕ
        d = difference a.value b.value

        whole : d ⊕ b.value ≡ a.value
        whole = rings.difference_of R a.value b.value (omega arith)

    pub step_kept : (s : Registers) → Kept m y x s → (s.a.value ≡ s.b.value → ⊥) → Kept m y x (step m s) × (bits (step m s).a.value + bits (step m s).b.value < bits s.a.value + bits s.b.value)
    step_kept s k apart = by (even s.a.value) (even s.b.value) (ltb s.b.value s.a.value) refl refl refl
      where
        by : (p q r : Bool) → even s.a.value ≡ p → even s.b.value ≡ q → ltb s.b.value s.a.value ≡ r
            → Kept m y x (chosen m s p q r) × (bits (chosen m s p q r).a.value + bits (chosen m s p q r).b.value < bits s.a.value + bits s.b.value)
        by true q r e f g = (kept_half k e, omega (arith, S.half_bits s.a.value k.a.above e))
        by false true r e f g = (kept_mirrored (kept_half (kept_mirrored k) f), omega (arith, S.half_bits s.b.value k.b.above f))
        by false false true e f g =
            let h = ltb-true s.b.value s.a.value g in
            (kept_half (kept_less k h) (odd_less e f h), omega (arith, S.difference_bits s.a.value s.b.value e f h))
        by false false false e f g =
            let h : s.a.value < s.b.value = omega (arith, ltb-false s.b.value s.a.value g) in
            (kept_mirrored (kept_half (kept_less (kept_mirrored k) h) (odd_less f e h)), omega (arith, S.difference_bits s.b.value s.a.value f e h))
