-- The remainder of a binary polynomial. Assumes nothing.
--   cut m v          v, with m added where v has reached the degree of m
--   remainder m a    the remainder of a modulo m
use Rattle.std.specs.Prelude.{◌≡◌, ℕ, ◌*◌, ◌/◌, ◌^◌, cond, bit_xor, nat_lt, refl}
use Rattle.ground.specs.Bits.{bits}
use Rattle.ground.specs.Digits.{fold}

-- the degree of m is bits (m / 2)
abbrev pub cut : ℕ → ℕ → ℕ
cut m v = cond (nat_lt v (2 ^ bits (m / 2))) v (bit_xor v m)

-- the digits of a are taken up one by one, and the value is cut after each
unfoldable pub remainder : ℕ → ℕ → ℕ
unfolding fold
remainder m a = fold (λ digit r. cut m (bit_xor (r * 2) digit)) a

-- 0x57 by 0x83 in the field of AES
example : remainder 0x11b 0x2b79 ≡ 0xc1
unfolding bits remainder
example = refl

largest : remainder 0x40000009 0xffffffffffffffff ≡ 0x3ffffc08
unfolding bits remainder
largest = refl
