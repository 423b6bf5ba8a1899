-- How many binary digits a number has. Assumes nothing.
--   bits n    how long n is in binary; 0 has length 0
use Rattle.std.specs.Prelude.{◌≡◌, ℕ, suc, refl}
use Rattle.ground.specs.Digits.{fold}

-- one for each digit
unfoldable pub bits : ℕ → ℕ
unfolding fold
bits n = fold (λ _ count. suc count) n

largest : bits 2147483647 ≡ 31
unfolding bits
largest = refl
