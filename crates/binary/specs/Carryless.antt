-- The product of binary polynomials. Assumes nothing.
--   clmul a b        the carry-less product of a and b
--   Lengths a b r    where neither is 0, r is one digit shorter than a and b together
use Rattle.std.specs.Prelude.{◌≡◌, ℕ, zero, suc, ◌+◌, ◌*◌, ◌<◌, bit_xor, refl}
use Rattle.ground.specs.Bits.{bits}
use Rattle.ground.specs.Digits.{fold}

-- b where the digit is set
abbrev pub pick : ℕ → ℕ → ℕ
pick zero b = 0
pick (suc x) b = b

-- the product by one more digit of a is twice the product by those above it, with b added where the digit is set
unfoldable pub clmul : ℕ → ℕ → ℕ
unfolding fold
clmul a b = fold (λ digit r. bit_xor (r * 2) (pick digit b)) a

abbrev pub Lengths : ℕ → ℕ → ℕ → Type 0
Lengths a b r = 0 < a → 0 < b → bits r + 1 ≡ bits a + bits b

-- a product that the standard of AES works out
example : clmul 0x57 0x83 ≡ 0x2b79
unfolding clmul
example = refl

largest : clmul 0x7fffffff 0x7fffffff ≡ 0x1555555555555555
unfolding clmul
largest = refl
