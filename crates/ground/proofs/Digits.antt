-- Binary digits: how a fold takes up the next one, and what the lowest tells. Assumes nothing.
use Rattle.std.proofs.Common.{◌≡◌, ℕ, zero, suc, ◌-◌, ◌/◌, ◌%◌, ◌^◌, ◌<◌, ◌≤◌, false, eqb, sym, refl, ap, ◌∙◌, le_refl, not-suc-le-zero, arith, shr-shr}
use Rattle.std.proofs.Math.Decide.{le_ind}
use Rattle.std.proofs.lemmas.Bool.{eqb-false}
use Rattle.std.proofs.Math.Arith.{half_le}
use Rattle.ground.specs.Digits.{folded, fold}

module _ (f : ℕ → ℕ → ℕ) where
  -- digits beyond the number's own change nothing
  folded_more : (most n : ℕ) → n ≤ most → folded f (suc most) n ≡ folded f most n
  folded_more zero zero h = refl
  folded_more zero (suc n) h = absurd (not-suc-le-zero h)
  folded_more (suc most) zero h = refl
  folded_more (suc most) (suc n) h = ap (f (suc n % 2)) (folded_more most (suc n / 2) (half_le h))

  pub fold_suc : (n : ℕ) → fold f (suc n) ≡ f (suc n % 2) (fold f (suc n / 2))
  unfolding fold
  fold_suc n =
      let h = suc n / 2 in
      ap (f (suc n % 2)) (le_ind (λ most. folded f most h ≡ folded f h h) refl (λ most k e. folded_more most h k ∙ e) n (half_le (le_refl (suc n))))

  pub fold_step : f 0 0 ≡ 0 → (n : ℕ) → fold f n ≡ f (n % 2) (fold f (n / 2))
  unfolding fold
  fold_step none zero = sym none
  fold_step none (suc n) = fold_suc n

-- a number whose lowest digit is not 0 is odd
pub odd : (n : ℕ) → eqb (n % 2) 0 ≡ false → n % 2 ≡ 1
odd n e = omega (arith, eqb-false (n % 2) 0 e)

-- the digits from a place on, less the one at it
pub digits_above : (a place : ℕ) → 0 < place → a / 2 ^ (place - 1) / 2 ≡ a / 2 ^ place
digits_above a place h = shr-shr a (place - 1) 1 ∙ ap (λ k. a / 2 ^ k) (omega arith)
