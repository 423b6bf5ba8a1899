-- The binary polynomials show the laws of a ground, and so their residues are a ring. Assumes nothing.
use Rattle.std.specs.Prelude.{ℕ}
use Rattle.std.proofs.Common.{arith}
use Rattle.ground.proofs.ResidueRings.{reduces}
use Rattle.ground.specs.Laws.{Laws}
use Rattle.ground.specs.Modulus.{IsModulus}
use Rattle.ground.specs.Residues.{Reduces}
use Rattle.binary.specs.Binary.{binary}
use Rattle.binary.specs.Remainders.{remainder}
use Rattle.binary.specs.Ring.{binary_ring}
use Rattle.binary.specs.Halves.{binary_parity, binary_shrinking}
use Rattle.binary.specs.Residues.{binary_residues}
use Rattle.binary.specs.RemaindersLemmas.{remainder_below, remainder_congruent}

pub binary_laws : (m : ℕ) → IsModulus m → Laws (binary m)
binary_laws m is = record { ring = binary_ring; parity = binary_parity; shrinking = binary_shrinking; residues = binary_residues m is }

pub binary_reduces : (m : ℕ) → IsModulus m → Reduces (binary m) (remainder m)
binary_reduces m is = reduces (binary_laws m is) (remainder m) (remainder_below m (omega (arith, is.least))) (remainder_congruent m)
