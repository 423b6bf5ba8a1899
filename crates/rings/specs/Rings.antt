-- Finite commutative rings whose elements are the numbers below a size. Assumes nothing.
--   FiniteRing    a size, and a sum, a negative and a product
--   IsRing        they make a commutative ring, with the zero 0 and the one 1
use Rattle.std.specs.Prelude.{◌≡◌, ℕ, ◌<◌}

-- What the operations make of a number that is not below the size is not said.
pub record FiniteRing : Type 0 where
  pub size : ℕ
  pub sum : ℕ → ℕ → ℕ
  pub negative : ℕ → ℕ
  pub product : ℕ → ℕ → ℕ

pub record IsRing (r : FiniteRing) : Type 0 where
  -- 0 and 1 are elements
  pub one_below : 1 < r.size
  pub sum_below : (a b : ℕ) → a < r.size → b < r.size → r.sum a b < r.size
  pub negative_below : (a : ℕ) → a < r.size → r.negative a < r.size
  pub product_below : (a b : ℕ) → a < r.size → b < r.size → r.product a b < r.size
  pub sum_zero : (a : ℕ) → a < r.size → r.sum a 0 ≡ a
  pub sum_comm : (a b : ℕ) → a < r.size → b < r.size → r.sum a b ≡ r.sum b a
  pub sum_assoc : (a b c : ℕ) → a < r.size → b < r.size → c < r.size → r.sum (r.sum a b) c ≡ r.sum a (r.sum b c)
  pub sum_negative : (a : ℕ) → a < r.size → r.sum a (r.negative a) ≡ 0
  pub product_one : (a : ℕ) → a < r.size → r.product a 1 ≡ a
  pub product_comm : (a b : ℕ) → a < r.size → b < r.size → r.product a b ≡ r.product b a
  pub product_assoc : (a b c : ℕ) → a < r.size → b < r.size → c < r.size → r.product (r.product a b) c ≡ r.product a (r.product b c)
  pub product_sum : (a b c : ℕ) → a < r.size → b < r.size → c < r.size → r.product a (r.sum b c) ≡ r.sum (r.product a b) (r.product a c)
