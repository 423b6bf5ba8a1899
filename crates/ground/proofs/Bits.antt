-- Laws of the count of binary digits. Assumes nothing.
use Rattle.std.proofs.Common.{◌≡◌, ℕ, zero, suc, ◌+◌, ◌/◌, ◌^◌, ◌<◌, ◌≤◌, suc-le-suc, zero-le, pow-suc, arith, lit<}
use Rattle.std.proofs.Math.Arith.{bin_ind}
use Rattle.ground.specs.Bits.{bits}
use Rattle.ground.proofs.Digits.{fold_suc}

bits_suc : (n : ℕ) → bits (suc n) ≡ suc (bits (suc n / 2))
unfolding bits
bits_suc = fold_suc (λ _ count. suc count)

pub bits_half : (n : ℕ) → 0 < n → bits n ≡ bits (n / 2) + 1
bits_half zero h = omega arith
bits_half (suc n) h = omega (arith, bits_suc n)

pub bits_below : (n : ℕ) → n < 2 ^ bits n
unfolding bits
bits_below = bin_ind (λ n. n < 2 ^ bits n) (lit< tt) step
  where
    step : (n : ℕ) → n / 2 < 2 ^ bits (n / 2) → n < 2 ^ bits n
    step zero h = lit< tt
    step (suc n) h = rw (bits_suc n, pow-suc) (omega arith)

pub bits_le : (k n : ℕ) → n < 2 ^ k → bits n ≤ k
unfolding bits
bits_le k zero h = zero-le
bits_le zero (suc n) h = omega arith
bits_le (suc k) (suc n) h = rw bits_suc (suc-le-suc (bits_le k (suc n / 2) (omega (arith, pow-suc 2 k))))

pub bits_mono : (m n : ℕ) → m ≤ n → bits m ≤ bits n
bits_mono m n h = bits_le (bits n) m (omega (arith, bits_below n))
