-- The whole numbers show the laws of a ground, and so their residues are a ring. Assumes nothing.
use Rattle.std.specs.Prelude.{ℕ, ◌/◌}
use Rattle.std.proofs.Common.{mod-lt, arith}
use Rattle.std.proofs.Math.Nat.{mod-add-div'}
use Rattle.ground.proofs.ResidueRings.{reduces}
use Rattle.ground.specs.Laws.{Laws}
use Rattle.ground.specs.Modulus.{IsModulus}
use Rattle.ground.specs.Residues.{Reduces}
use Rattle.whole.specs.Whole.{whole, remainder}
use Rattle.whole.specs.Ring.{whole_ring}
use Rattle.whole.specs.Halves.{whole_parity, whole_shrinking}
use Rattle.whole.specs.Residues.{whole_residues}

pub whole_laws : (m : ℕ) → IsModulus m → Laws (whole m)
whole_laws m is = record { ring = whole_ring; parity = whole_parity; shrinking = whole_shrinking; residues = whole_residues m is }

pub whole_reduces : (m : ℕ) → IsModulus m → Reduces (whole m) (remainder m)
whole_reduces m is =
    reduces (whole_laws m is) (remainder m) (λ a. mod-lt a (omega arith)) (λ a. record { left = a / m; right = 0; same = omega (arith, mod-add-div' a m) })
