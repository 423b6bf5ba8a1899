-- The degree of a binary polynomial n, which is k where n / 2 ^ k is 1, and of a product. Assumes nothing.
use Rattle.std.specs.Prelude.{◌≡◌, ℕ, zero, suc, ◌+◌, ◌*◌, ◌/◌, ◌%◌, ◌^◌, ◌<◌, ◌≤◌, bit_xor}
use Rattle.std.proofs.Common.{sym, ap, ap₂, ◌∙◌, zero-add, suc-add, mul-div_cancel, pow-suc, div-one, div-lt_iff_lt-mul, lt_of_lt_of_le, mul_comm, arith, lit<, pow_pos, pow_mono}
use Rattle.std.proofs.Math.Nat.{zero-div, pos_of_div-pos, div-div-eq-div-mul, div-eq_of_lt}
use Rattle.std.proofs.lemmas.Nat.{xor_lt, xor_shr}
use Rattle.ground.proofs.Bits.{bits_half, bits_below, bits_le}
use Rattle.ground.specs.Bits.{bits}
use Rattle.binary.specs.Carryless.{pick, clmul}
use Rattle.binary.specs.CarrylessLemmas.{clmul_step, clmul_zero, one_clmul}

shr_suc : (n k : ℕ) → n / 2 ^ suc k ≡ n / 2 / 2 ^ k
shr_suc n k = ap (λ x. n / x) (pow-suc 2 k ∙ mul_comm (2 ^ k) 2) ∙ sym (div-div-eq-div-mul n 2 (2 ^ k))

bits_top : (k n : ℕ) → bits n ≡ suc k → n / 2 ^ k ≡ 1
unfolding bits
bits_top k zero e = omega arith
bits_top zero (suc n) e =
    let z : bits (suc n / 2) ≡ 0 = omega (arith, bits_half (suc n) (omega arith)) in
    let l : suc n / 2 < 1 = rw z at (bits_below (suc n / 2)) in div-one (suc n) ∙ omega arith
bits_top (suc k) (suc n) e = shr_suc (suc n) k ∙ bits_top k (suc n / 2) (omega (arith, bits_half (suc n) (omega arith)))

top_bits : (k n : ℕ) → n / 2 ^ k ≡ 1 → bits n ≡ suc k
unfolding bits
top_bits zero n e = ap bits (sym (div-one n) ∙ e)
top_bits (suc k) zero e = omega (arith, zero-div (2 ^ suc k))
top_bits (suc k) (suc n) e = omega (arith, bits_half (suc n) (omega arith), top_bits k (suc n / 2) (sym (shr_suc (suc n) k) ∙ e))

pub top_below : (k n : ℕ) → n / 2 ^ k ≡ 1 → n < 2 ^ suc k
top_below k n e = rw pow-suc (rw mul_comm ((div-lt_iff_lt-mul (pow_pos k)).0 (rw e (lit< tt))))

-- the degree of a product is the sum of the degrees
pub top_product : (i j a b : ℕ) → a / 2 ^ i ≡ 1 → b / 2 ^ j ≡ 1 → clmul a b / 2 ^ (i + j) ≡ 1
top_product zero j a b e f = rw (← div-one a, e, zero-add, one_clmul) f
top_product (suc i) j a b e f =
    rw (clmul_step, suc-add, xor_shr)
    (ap₂ bit_xor (shr_suc (clmul (a / 2) b * 2) (i + j) ∙ ap (λ x. x / 2 ^ (i + j)) (mul-div_cancel (clmul (a / 2) b) (lit< tt)) ∙ top_product i j (a / 2) b (sym (shr_suc a i) ∙ e) f)
    (low (a % 2)))
  where
    low : (x : ℕ) → pick x b / 2 ^ suc (i + j) ≡ 0
    low zero = div-eq_of_lt (pow_pos (suc (i + j)))
    low (suc x) = div-eq_of_lt (lt_of_lt_of_le (top_below j b f) (pow_mono (omega arith)))

pub top : (n : ℕ) → 0 < n → n / 2 ^ bits (n / 2) ≡ 1
top n h = bits_top (bits (n / 2)) n (omega (arith, bits_half n h))

product_top : (a b : ℕ) → 0 < a → 0 < b → clmul a b / 2 ^ (bits (a / 2) + bits (b / 2)) ≡ 1
product_top a b h k = top_product (bits (a / 2)) (bits (b / 2)) a b (top a h) (top b k)

pub product_above : (a b : ℕ) → 0 < a → 0 < b → 0 < clmul a b
product_above a b h k = pos_of_div-pos (2 ^ (bits (a / 2) + bits (b / 2))) (rw (product_top a b h k) (lit< tt))

pub product_bits : (a b : ℕ) → 0 < a → 0 < b → bits (clmul a b) + 1 ≡ bits a + bits b
product_bits a b h k =
    omega (arith, bits_half a h, bits_half b k, top_bits (bits (a / 2) + bits (b / 2)) (clmul a b) (product_top a b h k))

pub product_below : (j k a b : ℕ) → a < 2 ^ j → b < 2 ^ k → clmul a b < 2 ^ (j + k)
unfolding clmul
product_below j k zero b h l = pow_pos (j + k)
product_below j k (suc a) zero h l = rw (clmul_zero (suc a)) (pow_pos (j + k))
product_below j k (suc a) (suc b) h l =
    lt_of_lt_of_le (bits_below (clmul (suc a) (suc b)))
    (pow_mono (omega (arith, product_bits (suc a) (suc b) (omega arith) (omega arith), bits_le j (suc a) h, bits_le k (suc b) l)))

-- 1 alone has an inverse
pub only_one : (a b : ℕ) → clmul a b ≡ 1 → a ≡ 1
unfolding bits clmul
only_one zero b e = e
only_one (suc a) zero e = let z = clmul_zero (suc a) in omega arith
only_one (suc a) (suc b) e =
    let one : bits (clmul (suc a) (suc b)) ≡ 1 = ap bits e in
    let both = product_bits (suc a) (suc b) (omega arith) (omega arith) in
    sym (div-one (suc a)) ∙ bits_top 0 (suc a) (omega (arith, bits_half (suc a) (omega arith), bits_half (suc b) (omega arith)))

-- half the exclusive or with a number that is no larger has fewer bits
pub bits_less : (a b : ℕ) → 0 < a → b ≤ a → bits (bit_xor a b / 2) < bits a
bits_less a b p h =
    let e = bits_half a p in
    let d : 2 ^ bits a ≡ 2 ^ bits (a / 2) * 2 = ap (λ k. 2 ^ k) (omega arith) ∙ pow-suc 2 (bits (a / 2)) in
    let l = xor_lt (bits a) a b (bits_below a) (omega (arith, bits_below a)) in
    omega (arith, bits_le (bits (a / 2)) (bit_xor a b / 2) (omega arith))
