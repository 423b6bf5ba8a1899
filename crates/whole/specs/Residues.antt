-- The residues of an odd modulus stay residues, and no two of them are congruent. Assumes nothing.
use Rattle.std.specs.Prelude.{◌≡◌, ℕ, ◌+◌, ◌-◌, ◌*◌, ◌/◌, ◌%◌, ◌<◌, Bool, true, false, cond, ◌==◌, nat_le}
use Rattle.std.proofs.Common.{refl, sym, ap, ◌∙◌, mod-eq_of_lt, arith, le-leb, ne_eqb}
use Rattle.std.proofs.Math.Nat.{add-mul-mod_self_right}
use Rattle.std.proofs.lemmas.Bool.{leb-false}
use Rattle.ground.specs.Laws.{Residues}
use Rattle.ground.specs.Modulus.{IsModulus}
use Rattle.whole.specs.Whole.{whole}

apart : (m u v k l : ℕ) → u < m → v < m → u + k * m ≡ v + l * m → u ≡ v
apart m u v k l h g e =
    sym (mod-eq_of_lt h) ∙ sym (add-mul-mod_self_right u k m) ∙ ap (λ n. n % m) e ∙ add-mul-mod_self_right v l m ∙ mod-eq_of_lt g

halved_below : (m u : ℕ) → u < m → (t : Bool) → cond t (u / 2) ((u + m) / 2) < m
halved_below m u h true = omega arith
halved_below m u h false = omega arith

subtracted_below : (m u v : ℕ) → u < m → v < m → (t : Bool) → nat_le v u ≡ t → cond t (u - v) (u + m - v) < m
subtracted_below m u v h g true e = omega arith
subtracted_below m u v h g false e = omega (arith, leb-false v u e)

pub whole_residues : (m : ℕ) → IsModulus m → Residues (whole m)
whole_residues m is = record {
  odd_modulus = ne_eqb (m % 2) 0 (omega arith);
  one_residue = omega arith;
  halved_residue = λ u h. halved_below m u h (u % 2 == 0);
  subtracted_residue = λ u v h g. subtracted_below m u v h g (nat_le v u) refl;
  once = λ u v h g. le-leb v (u + m) (omega arith);
  apart = λ u v h g c. apart m u v c.left c.right h g c.same;
}
