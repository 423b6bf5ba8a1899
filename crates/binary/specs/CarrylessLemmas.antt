-- The exclusive or and the carry-less product make a commutative ring. Assumes nothing.
use Rattle.std.specs.Prelude.{◌≡◌, ℕ, zero, suc, ◌*◌, ◌/◌, ◌%◌, ◌<◌, bit_xor, refl}
use Rattle.std.proofs.Math.Path.{sym, ap, ap₂}
use Rattle.std.proofs.Common.{◌∙◌, add-zero, mul-div_cancel, mod-lt, div-add-mod', arith, lit<}
use Rattle.std.proofs.Math.Nat.{mul-mod_left}
use Rattle.std.proofs.Math.Arith.{bin_ind}
use Rattle.std.specs.Int.Bits.{xor_assoc, xor_self, xor_zero_r, xor_shifted}
use Rattle.std.proofs.lemmas.Nat.{xor_comm, xor_block, xor_shr, xor_mod}
use Rattle.binary.specs.Carryless.{pick, clmul}
use Rattle.ground.proofs.Digits.{fold_step}

pub xor_left : (a b c : ℕ) → bit_xor a (bit_xor b c) ≡ bit_xor b (bit_xor a c)
xor_left a b c = sym (xor_assoc a b c) ∙ ap (λ x. bit_xor x c) (xor_comm a b) ∙ xor_assoc b a c

pub xor_undo : (a b : ℕ) → bit_xor a (bit_xor a b) ≡ b
xor_undo a b = sym (xor_assoc a a b) ∙ ap (λ x. bit_xor x b) (xor_self a)

-- brings a term to a sorted sum without pairs
pub ruleset xors = (xor_assoc, xor_comm, xor_left, xor_self, xor_undo, xor_zero_r)

xor_swap : (a b c d : ℕ) → bit_xor (bit_xor a b) (bit_xor c d) ≡ bit_xor (bit_xor a c) (bit_xor b d)
xor_swap a b c d = simp xors

-- b added to a and taken again
pub xor_off : (a b : ℕ) → bit_xor (bit_xor a b) b ≡ a
xor_off a b = xor_assoc a b b ∙ ap (bit_xor a) (xor_self b) ∙ xor_zero_r a

pub xor_cancel : (a b c : ℕ) → bit_xor a c ≡ bit_xor b c → a ≡ b
xor_cancel a b c e = sym (xor_off a c) ∙ ap (λ x. bit_xor x c) e ∙ xor_off b c

pub xor_double : (a b : ℕ) → bit_xor a b * 2 ≡ bit_xor (a * 2) (b * 2)
xor_double a b = sym (simp add-zero at (xor_block 1 a b 0 0 (lit< tt) (lit< tt)))

pub xor_digit : (n : ℕ) → bit_xor (n / 2 * 2) (n % 2) ≡ n
xor_digit n = xor_shifted (n / 2) 1 (n % 2) (mod-lt n (lit< tt)) ∙ div-add-mod' n 2

pub clmul_step : (a b : ℕ) → clmul a b ≡ bit_xor (clmul (a / 2) b * 2) (pick (a % 2) b)
unfolding clmul
clmul_step a b = fold_step (λ digit r. bit_xor (r * 2) (pick digit b)) refl a

pick_xor : (x y b : ℕ) → x < 2 → y < 2 → pick (bit_xor x y) b ≡ bit_xor (pick x b) (pick y b)
pick_xor zero y b h k = refl
pick_xor (suc zero) zero b h k = sym (xor_zero_r b)
pick_xor (suc zero) (suc zero) b h k = sym (xor_self b)
pick_xor (suc zero) (suc (suc y)) b h k = omega arith
pick_xor (suc (suc x)) y b h k = omega arith

pub clmul_add : (a c b : ℕ) → clmul (bit_xor a c) b ≡ bit_xor (clmul a b) (clmul c b)
unfolding clmul
clmul_add a c b = bin_ind (λ n. (c : ℕ) → clmul (bit_xor n c) b ≡ bit_xor (clmul n b) (clmul c b)) (λ c. refl) step a c
  where
    step : (n : ℕ) → ((c : ℕ) → clmul (bit_xor (n / 2) c) b ≡ bit_xor (clmul (n / 2) b) (clmul c b)) → (c : ℕ) → clmul (bit_xor n c) b ≡ bit_xor (clmul n b) (clmul c b)
    step n ih c =
        clmul_step (bit_xor n c) b
        ∙ ap₂ (λ x y. bit_xor (clmul x b * 2) (pick y b)) (xor_shr n c 1) (xor_mod n c 1)
        ∙ ap₂ bit_xor (ap (λ x. x * 2) (ih (c / 2)) ∙ xor_double (clmul (n / 2) b) (clmul (c / 2) b)) (pick_xor (n % 2) (c % 2) b (omega arith) (omega arith))
        ∙ xor_swap (clmul (n / 2) b * 2) (clmul (c / 2) b * 2) (pick (n % 2) b) (pick (c % 2) b)
        ∙ sym (ap₂ bit_xor (clmul_step n b) (clmul_step c b))

pub clmul_double : (a b : ℕ) → clmul (a * 2) b ≡ clmul a b * 2
clmul_double a b =
    clmul_step (a * 2) b ∙ ap₂ (λ x y. bit_xor (clmul x b * 2) (pick y b)) (mul-div_cancel a (lit< tt)) (mul-mod_left a 2) ∙ xor_zero_r (clmul a b * 2)

record Linear (f : ℕ → ℕ) : Type 0 where
  add : (a b : ℕ) → f (bit_xor a b) ≡ bit_xor (f a) (f b)
  double : (a : ℕ) → f (a * 2) ≡ f a * 2

module _ (f : ℕ → ℕ) (is : Linear f) where
  linear_zero : f 0 ≡ 0
  linear_zero = is.add 0 0 ∙ xor_self (f 0)

  linear_digit : (x : ℕ) → x < 2 → f x ≡ pick x (f 1)
  linear_digit zero h = linear_zero
  linear_digit (suc zero) h = refl
  linear_digit (suc (suc x)) h = omega arith

  -- a linear map is the product with its value at 1
  linear : (n : ℕ) → f n ≡ clmul n (f 1)
  unfolding clmul
  linear = bin_ind (λ n. f n ≡ clmul n (f 1)) linear_zero λ n ih.
      ap f (sym (xor_digit n)) ∙ is.add (n / 2 * 2) (n % 2) ∙ ap₂ bit_xor (is.double (n / 2) ∙ ap (λ x. x * 2) ih) (linear_digit (n % 2) (omega arith)) ∙ sym (clmul_step n (f 1))

pub one_clmul : (a : ℕ) → clmul 1 a ≡ a
unfolding clmul
one_clmul a = refl

pub clmul_one : (a : ℕ) → clmul a 1 ≡ a
clmul_one a = sym (linear (λ x. x) (record { add = λ a b. refl; double = λ a. refl }) a)

pub clmul_xor : (a b c : ℕ) → clmul a (bit_xor b c) ≡ bit_xor (clmul a b) (clmul a c)
unfolding clmul
clmul_xor a b c = sym (linear (λ n. bit_xor (clmul n b) (clmul n c)) (record {
  add = λ x y. ap₂ bit_xor (clmul_add x y b) (clmul_add x y c) ∙ xor_swap (clmul x b) (clmul y b) (clmul x c) (clmul y c);
  double = λ x. ap₂ bit_xor (clmul_double x b) (clmul_double x c) ∙ sym (xor_double (clmul x b) (clmul x c));
}) a)

clmul_twice : (a b : ℕ) → clmul a (b * 2) ≡ clmul a b * 2
unfolding clmul
clmul_twice a b = sym (linear (λ n. clmul n b * 2) (record {
  add = λ x y. ap (λ z. z * 2) (clmul_add x y b) ∙ xor_double (clmul x b) (clmul y b);
  double = λ x. ap (λ z. z * 2) (clmul_double x b);
}) a)

pub clmul_comm : (a b : ℕ) → clmul a b ≡ clmul b a
clmul_comm a b = linear (clmul a) (record { add = clmul_xor a; double = clmul_twice a }) b ∙ ap (clmul b) (clmul_one a)

pub clmul_zero : (a : ℕ) → clmul a 0 ≡ 0
unfolding clmul
clmul_zero a = clmul_comm a 0

pub clmul_assoc : (a b c : ℕ) → clmul (clmul a b) c ≡ clmul a (clmul b c)
unfolding clmul
clmul_assoc a b c = linear (λ n. clmul (clmul n b) c) (record {
  add = λ x y. ap (λ z. clmul z c) (clmul_add x y b) ∙ clmul_add (clmul x b) (clmul y b) c;
  double = λ x. ap (λ z. clmul z c) (clmul_double x b) ∙ clmul_double (clmul x b) c;
}) a
