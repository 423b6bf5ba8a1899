-- The binary polynomials as a ground: their sum is the exclusive or, their product the carry-less one, and they are halved
-- by the polynomial 2, which is t. Assumes nothing.
--   binary_operations    what is computed
--   binary m             the binary polynomials with the modulus m, whose residues are those of a lower degree
use Rattle.std.specs.Prelude.{◌≡◌, ℕ, ◌/◌, ◌%◌, ◌^◌, true, [], ◌∷◌, ◌==◌, bit_xor, refl}
use Rattle.answers.specs.Answers.{served}
use Rattle.ground.specs.Bits.{bits}
use Rattle.ground.specs.Division.{divided}
use Rattle.ground.specs.Loop.{runs}
use Rattle.ground.specs.Operations.{Operations, Meaning}
use Rattle.binary.specs.Carryless.{clmul}

abbrev pub binary_operations : Operations
binary_operations = record {
  sum = λ a b. bit_xor a b;
  product = λ a b. clmul a b;
  subtractable = λ _ _. true;
  difference = λ a b. bit_xor a b;
  base = 2;
  even = λ a. (a % 2 == 0);
  half = λ a. a / 2;
}

-- m has the degree bits (m / 2)
abbrev pub binary : ℕ → Meaning
binary m = record { operations = binary_operations; modulus = m; size = 2 ^ bits (m / 2) }

-- in the field of AES 0x53 and 0xca are inverses
inverses : divided (binary 0x11b) 1 0x53 ≡ served (0xca ∷ 12 ∷ [])
unfolding bits runs
inverses = refl
