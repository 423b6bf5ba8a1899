-- What a ground computes, and the words of division on it. Assumes nothing.
--   Operations          a ground's sum, product, difference and halving
--   Meaning             the operations with a modulus and the number of residues
--   halved, subtracted  how the division loop halves a residue and subtracts one from another
--   Divides d a         d divides a
--   Greatest a b g      g is the greatest common divisor of a and b
--   Congruent m a b     a and b are congruent modulo m
--   Solves m y x r      the residue r is a quotient of y by x
--   UnitOf m x          x has an inverse
use Rattle.std.specs.Prelude.{◌≡◌, ℕ, ◌<◌, Bool, cond}

-- A ground's values are the numbers 0, 1, 2, .. under operations of its own; its zero is 0 and its one is 1.
-- Two values compare as the numbers that they are.
pub record Operations : Type 0 where
  pub sum : ℕ → ℕ → ℕ
  pub product : ℕ → ℕ → ℕ
  -- whether a less b is a value, and which
  pub subtractable : ℕ → ℕ → Bool
  pub difference : ℕ → ℕ → ℕ
  -- what halving divides by, which values it divides, and the half of such a value
  pub base : ℕ
  pub even : ℕ → Bool
  pub half : ℕ → ℕ

-- A ground with a modulus. Its residues are the numbers below its size.
pub record Meaning : Type 0 where
  pub operations : Operations
  pub modulus : ℕ
  pub size : ℕ

-- An odd value has the modulus added before it is halved.
abbrev pub halved : Meaning → ℕ → ℕ
halved m u = let o = m.operations in cond (o.even u) (o.half u) (o.half (o.sum u m.modulus))

-- Where u less v is no value, the modulus is added once.
abbrev pub subtracted : Meaning → ℕ → ℕ → ℕ
subtracted m u v =
    let o = m.operations in cond (o.subtractable u v) (o.difference u v) (o.difference (o.sum u m.modulus) v)

abbrev pub Divides : Operations → ℕ → ℕ → Type 0
Divides o d a = (k : ℕ) × (o.product d k ≡ a)

pub record Greatest (o : Operations) (a b g : ℕ) : Type 0 where
  pub first : Divides o g a
  pub second : Divides o g b
  pub greatest : (d : ℕ) → Divides o d a → Divides o d b → Divides o d g

-- a and b with multiples of m added to them are the same
pub record Congruent (o : Operations) (m a b : ℕ) : Type 0 where
  pub left : ℕ
  pub right : ℕ
  pub same : o.sum a (o.product left m) ≡ o.sum b (o.product right m)

pub record Solves (m : Meaning) (y x r : ℕ) : Type 0 where
  pub residue : r < m.size
  pub quotient : Congruent m.operations m.modulus (m.operations.product r x) y

abbrev pub UnitOf : Meaning → ℕ → Type 0
UnitOf m x = (z : ℕ) × Solves m 1 x z
