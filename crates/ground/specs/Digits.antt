-- Numbers read by their binary digits. Assumes nothing.
--   fold f n    the digits of n, from the highest to the lowest, taken up by f: from a digit and the value so far it makes
--               the next value; the first is 0
-- The library's `digits_of` would serve, but does not compute on numerals of 31 bits.
use Rattle.std.specs.Prelude.{ℕ, zero, suc, ◌/◌, ◌%◌}

-- of the digits of n at most `most` are looked at, from the lowest
abbrev pub folded : (ℕ → ℕ → ℕ) → ℕ → ℕ → ℕ
folded f zero n = 0
folded f (suc most) zero = 0
folded f (suc most) (suc n) = f (suc n % 2) (folded f most (suc n / 2))

-- a number has no more digits than it counts
unfoldable pub fold : (ℕ → ℕ → ℕ) → ℕ → ℕ
fold f n = folded f n n
