-- A line with a fault asks no question. Assumes nothing.
use Rattle.std.proofs.Common.{◌≡◌, ℕ, zero, suc, ◌-◌, ◌<◌, ◌≤◌, List, [], ◌∷◌, length, get_or, IsErrAnd, Ok, Err, Result, sym, ap, ◌∙◌, subst, arith, Bor, ◌≢◌, refl}
use Rattle.divide.specs.declared.question.Fault.{Fault}
use Rattle.divide.specs.declared.question.Fault.TheVariants.{NotText, Blank, Words as WordsFault, NoGround, NoNumber}
use Rattle.divide.specs.declared.question.Question.{Question}
use Rattle.divide.specs.Questions.{Words, NotWords, Writes, WritesNone, Asks, AsksNone, Wrong, Read}
use Rattle.divide.specs.Text.{code_text}
use Rattle.divide.proofs.Encoded.{white_utf8, asks_utf8}
use Rattle.divide.proofs.Words.{words_same}

abbrev four : {line : List ℕ} {q : Question} → Asks line q → List (List ℕ)
four {q = q} a = code_text q.code ∷ a.m ∷ a.y ∷ a.x ∷ []

-- each word of a question after the first is a number
asks_number : {line : List ℕ} {q : Question} (a : Asks line q) (k : ℕ) → 1 < k → k ≤ 4 → (n : ℕ) × Writes (get_or (four a) (k - 1) []) n
asks_number a zero l h = absurd (omega arith)
asks_number a (suc zero) l h = absurd (omega arith)
asks_number {q = q} a (suc (suc zero)) l h = (q.modulus, a.modulus)
asks_number {q = q} a (suc (suc (suc zero))) l h = (q.dividend, a.dividend)
asks_number {q = q} a (suc (suc (suc (suc zero)))) l h = (q.divisor, a.divisor)
asks_number a (suc (suc (suc (suc (suc k))))) l h = absurd (omega arith)

pub wrong_asks_none : (line : List ℕ) (f : Fault) → Wrong line f → AsksNone line
wrong_asks_none line NotText wrong q a = wrong (asks_utf8 line q a)
wrong_asks_none line Blank is q a = omega (arith, ap length (words_same line [] (four a) is a.words))
wrong_asks_none line (WordsFault n) (ws, is, e, some, not) q a = let same = words_same line ws (four a) is a.words in not (sym e ∙ ap length same)
wrong_asks_none line (NoGround w) (ns, is, e, not) q a =
    let same = words_same line (w.now ∷ ns) (four a) is a.words in not q.code (ap (λ l. get_or l 0 []) same)
wrong_asks_none line (NoNumber k w) (ws, is, e, low, high, at, not) q a =
    let same = words_same line ws (four a) is a.words in
    let n = asks_number a k low high in
    not n.0 (subst (λ v. Writes v n.0) (sym (ap (λ l. get_or l (k - 1) []) same) ∙ at) n.1)

-- what a reader returns that ends with the fault f
pub read_wrong : (line : List ℕ) (r : Result Question Fault) (e f : Fault) → IsErrAnd r (λ y. y ≡ e) → e ≡ f → Wrong line f → Read line r
read_wrong line (Ok q) e f b s wrong = absurd b
read_wrong line (Err y) e f b s wrong = rw (b ∙ s) (wrong, wrong_asks_none line f wrong)

-- one that ends since word k of four is no number
pub read_no_number : (line : List ℕ) (ws : List (List ℕ)) (r : Result Question Fault) (e : Fault) (k : ℕ) (w : Bor (List ℕ))
    → Words line ws → length ws ≡ 4 → 1 < k → k ≤ 4 → get_or ws (k - 1) [] ≡ w.now → IsErrAnd r (λ y. y ≡ e)
    → (e ≡ NoNumber k w) × WritesNone w.now → Read line r
read_no_number line ws r e k w is long low high at b (named, not) = read_wrong line r e (NoNumber k w) b named (ws, is, long, low, high, at, not)

pub wrong_not_blank : (line : List ℕ) (f : Fault) → Wrong line f → f ≢ Blank → NotWords line 0
wrong_not_blank line NotText wrong e [] is len = wrong (white_utf8 is)
wrong_not_blank line NotText wrong e (w ∷ ws) is len = omega arith
wrong_not_blank line Blank wrong e vs is len = absurd (e refl)
wrong_not_blank line (WordsFault n) (ws, has, long, some, not) e vs is len = omega (arith, some, ap length (words_same line ws vs has is))
wrong_not_blank line (NoGround w) (ns, has, long, not) e vs is len = omega (arith, ap length (words_same line (w.now ∷ ns) vs has is))
wrong_not_blank line (NoNumber k w) (ws, has, long, low, high, at, not) e vs is len = omega (arith, ap length (words_same line ws vs has is))
