-- The residues of an odd modulus stay residues, and no two of them are congruent. Assumes nothing.
use Rattle.std.specs.Prelude.{◌≡◌, ℕ, zero, suc, ◌+◌, ◌/◌, ◌%◌, ◌^◌, ◌<◌, Bool, true, false, cond, ◌==◌, bit_xor, refl}
use Rattle.std.proofs.Common.{sym, ap, ap₂, ◌∙◌, pow-suc, lt_of_lt_of_le, le-add_right, arith, ne_eqb, pow_mono}
use Rattle.std.proofs.Math.Nat.{div-eq_of_lt}
use Rattle.std.proofs.lemmas.Nat.{xor_lt}
use Rattle.std.specs.Int.Bits.{xor_self}
use Rattle.std.proofs.Math.Pow.{pow-lt}
use Rattle.ground.proofs.Bits.{bits_half}
use Rattle.ground.specs.Bits.{bits}
use Rattle.ground.specs.Laws.{Residues}
use Rattle.ground.specs.Modulus.{IsModulus}
use Rattle.binary.specs.Binary.{binary}
use Rattle.binary.specs.Carryless.{clmul}
use Rattle.binary.specs.CarrylessLemmas.{xors, xor_cancel, clmul_xor, clmul_comm, clmul_zero}
use Rattle.binary.specs.Degrees.{top, top_below, top_product}

module _ (m d : ℕ) (degree : m / 2 ^ d ≡ 1) where
  -- polynomials of a lower degree than m that differ by a multiple of m are the same
  unique : (u v k : ℕ) → u < 2 ^ d → v < 2 ^ d → bit_xor u v ≡ clmul m k → u ≡ v
  unique u v zero h l e = xor_cancel u v v (e ∙ clmul_zero m ∙ sym (xor_self v))
  unique u v (suc k) h l e =
      let j = bits (suc k / 2) in
      let z : ◌≡◌ {A = ℕ} 0 1 =
      sym (div-eq_of_lt (lt_of_lt_of_le (xor_lt d u v h l) (pow_mono (le-add_right d j))))
      ∙ ap (λ x. x / 2 ^ (d + j)) e ∙ top_product d j m (suc k) degree (top (suc k) (omega arith)) in
      omega arith

  apart : (u v k l : ℕ) → u < 2 ^ d → v < 2 ^ d → bit_xor u (clmul k m) ≡ bit_xor v (clmul l m) → u ≡ v
  apart u v k l h g e =
      unique u v (bit_xor k l) h g
      (split u v (clmul k m) ∙ ap (λ x. bit_xor x (bit_xor v (clmul k m))) e ∙ join v (clmul k m) (clmul l m) ∙ ap₂ bit_xor (clmul_comm k m) (clmul_comm l m) ∙ sym (clmul_xor m k l))
    where
      split : (u v x : ℕ) → bit_xor u v ≡ bit_xor (bit_xor u x) (bit_xor v x)
      split u v x = simp xors

      join : (v x y : ℕ) → bit_xor (bit_xor v y) (bit_xor v x) ≡ bit_xor x y
      join v x y = simp xors

  halved : (u : ℕ) → u < 2 ^ d → (t : Bool) → cond t (u / 2) (bit_xor u m / 2) < 2 ^ d
  halved u h true = omega arith
  halved u h false = omega (arith, pow-suc 2 d, xor_lt (suc d) u m (omega (arith, pow-suc 2 d)) (top_below d m degree))

pub binary_residues : (m : ℕ) → IsModulus m → Residues (binary m)
binary_residues m is = record {
  odd_modulus = ne_eqb (m % 2) 0 (omega arith);
  one_residue = pow-lt {i = 0} (omega (arith, bits_half (m / 2) (omega arith)));
  halved_residue = λ u h. halved m (bits (m / 2)) degree u h (u % 2 == 0);
  subtracted_residue = λ u v h g. xor_lt (bits (m / 2)) u v h g;
  once = λ u v h g. refl;
  apart = λ u v h g c. apart m (bits (m / 2)) degree u v c.left c.right h g c.same;
}
  where
    degree : m / 2 ^ bits (m / 2) ≡ 1
    degree = top m (omega arith)
