-- The laws that a ground has to show. Assumes nothing.
--   Ring        values add and multiply as in an integral domain, or as what is not negative in one
--   Parity      to be even is to be a multiple of the base
--   Shrinking   halving takes binary digits away
--   Residues    the residues of the modulus stay residues, and no two of them are congruent
--   Laws        all of these
use Rattle.std.specs.Prelude.{◌≡◌, ℕ, ◌+◌, ◌<◌, true, false, ◌⊎◌, nat_le}
use Rattle.ground.specs.Bits.{bits}
use Rattle.ground.specs.Operations.{Operations, Meaning, Congruent, halved, subtracted}

pub record Ring (o : Operations) : Type 0 where
  pub sum_zero : (a : ℕ) → o.sum a 0 ≡ a
  pub sum_comm : (a b : ℕ) → o.sum a b ≡ o.sum b a
  pub sum_assoc : (a b c : ℕ) → o.sum (o.sum a b) c ≡ o.sum a (o.sum b c)
  pub sum_cancel : (a b c : ℕ) → o.sum a c ≡ o.sum b c → a ≡ b
  pub product_one : (a : ℕ) → o.product a 1 ≡ a
  pub product_comm : (a b : ℕ) → o.product a b ≡ o.product b a
  pub product_assoc : (a b c : ℕ) → o.product (o.product a b) c ≡ o.product a (o.product b c)
  pub product_sum : (a b c : ℕ) → o.product a (o.sum b c) ≡ o.sum (o.product a b) (o.product a c)
  pub no_zero_divisors : (a b : ℕ) → o.product a b ≡ 0 → (a ≡ 0) ⊎ (b ≡ 0)
  -- only 1 divides 1
  pub only_one : (a b : ℕ) → o.product a b ≡ 1 → a ≡ 1
  -- the difference is what makes a of b, where anything does
  pub difference_sum : (a b : ℕ) → o.subtractable a b ≡ true → o.sum (o.difference a b) b ≡ a
  pub sum_subtractable : (a b : ℕ) → o.subtractable (o.sum a b) b ≡ true
  -- either every difference is a value, or just those of a value and one that is not larger
  pub subtracts : ((a b : ℕ) → o.subtractable a b ≡ true) ⊎ ((a b : ℕ) → o.subtractable a b ≡ nat_le b a)

pub record Parity (o : Operations) : Type 0 where
  pub even_half : (a : ℕ) → o.even a ≡ true → o.product o.base (o.half a) ≡ a
  pub even_multiple : (a : ℕ) → o.even (o.product o.base a) ≡ true
  pub odd_product : (a b : ℕ) → o.even a ≡ false → o.even b ≡ false → o.even (o.product a b) ≡ false
  pub odd_sum : (a b : ℕ) → o.even a ≡ false → o.even b ≡ false → o.even (o.sum a b) ≡ true
  pub odd_difference : (a b : ℕ) → o.even a ≡ false → o.even b ≡ false → o.subtractable a b ≡ true → o.even (o.difference a b) ≡ true

pub record Shrinking (o : Operations) : Type 0 where
  pub half_bits : (a : ℕ) → 0 < a → o.even a ≡ true → bits (o.half a) + 1 ≡ bits a
  -- an odd value less a smaller odd one, halved, is shorter than it was
  pub difference_bits : (a b : ℕ) → o.even a ≡ false → o.even b ≡ false → b < a → bits (o.half (o.difference a b)) < bits a

pub record Residues (m : Meaning) : Type 0 where
  pub odd_modulus : m.operations.even m.modulus ≡ false
  pub one_residue : 1 < m.size
  pub halved_residue : (u : ℕ) → u < m.size → halved m u < m.size
  pub subtracted_residue : (u v : ℕ) → u < m.size → v < m.size → subtracted m u v < m.size
  -- the modulus added once is enough to subtract a residue from another
  pub once : (u v : ℕ) → u < m.size → v < m.size → m.operations.subtractable (m.operations.sum u m.modulus) v ≡ true
  pub apart : (u v : ℕ) → u < m.size → v < m.size → Congruent m.operations m.modulus u v → u ≡ v

-- All of them: what it is to be a ground with a modulus.
pub record Laws (m : Meaning) : Type 0 where
  pub ring : Ring m.operations
  pub parity : Parity m.operations
  pub shrinking : Shrinking m.operations
  pub residues : Residues m
