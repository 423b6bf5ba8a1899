-- The residues of a modulus as a finite ring, on every ground. Assumes nothing.
--   Remainder m a r     r is the remainder of a: the residue that is congruent to a
--   residue_ring m f    the residues, with f bringing the ground's sums and products back to residues
--   Reduces m f         on a ground, f gives every value its remainder, and so makes the residues a commutative ring
use Rattle.std.specs.Prelude.{◌≡◌, ℕ, ◌<◌}
use Rattle.rings.specs.Rings.{FiniteRing, IsRing}
use Rattle.ground.specs.Laws.{Laws}
use Rattle.ground.specs.Operations.{Meaning, Congruent, subtracted}

pub record Remainder (m : Meaning) (a r : ℕ) : Type 0 where
  pub residue : r < m.size
  pub congruent : Congruent m.operations m.modulus r a
  pub only : (s : ℕ) → s < m.size → Congruent m.operations m.modulus s a → s ≡ r

-- The negative of a is 0 less a.
abbrev pub residue_ring : Meaning → (ℕ → ℕ) → FiniteRing
residue_ring m f = record {
  size = m.size;
  sum = λ a b. f (m.operations.sum a b);
  negative = λ a. subtracted m 0 a;
  product = λ a b. f (m.operations.product a b);
}

pub record Reduces (m : Meaning) (f : ℕ → ℕ) : Type 0 where
  pub laws : Laws m
  pub remainder : (a : ℕ) → Remainder m a (f a)
  pub ring : IsRing (residue_ring m f)
