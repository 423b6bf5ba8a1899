-- What question a line asks. Assumes nothing.
--   First, Words   a text's words, apart by white space
--   Asks           the line's four words are the question's code and numerals of its numbers
--   Wrong          what a fault says of the line
--   Read           what reading the line answers: its question, or a fault of it
use Rattle.std.specs.Prelude.{◌≡◌, ℕ, ◌-◌, ◌^◌, ◌<◌, ◌≤◌, List, [], ◌∷◌, ◌++◌, length, IsUtf8, ◌≢◌, slice_index_or, Result, MatchResult}
use Rattle.std.specs.Str.Parse.{IsNumeral, digits_value}
use Rattle.std.specs.Char.{is_whitespace, is_not_whitespace}
use Rattle.std.specs.Str.{NoCharPasses, EmptyOrStartsWithPassing}
use Rattle.divide.specs.declared.question.Code.{Code}
use Rattle.divide.specs.declared.question.Fault.{Fault}
use Rattle.divide.specs.declared.question.Fault.TheVariants.{NotText, Blank, Words as WordsFault, NoGround, NoNumber}
use Rattle.divide.specs.declared.question.Question.{Question}
use Rattle.divide.specs.Text.{code_text}

-- bs is white space, the word w, and rest, which is empty or begins with white space
abbrev pub First : List ℕ → List ℕ → List ℕ → Type 0
First bs w rest = (gap : List ℕ) × (bs ≡ gap ++ (w ++ rest)) × (0 < length w) × NoCharPasses is_not_whitespace gap × NoCharPasses is_whitespace w × ((more : List ℕ) × EmptyOrStartsWithPassing is_whitespace rest more)

-- ws are the words of bs
abbrev pub Words : List ℕ → List (List ℕ) → Type 0
Words bs [] = NoCharPasses is_not_whitespace bs
Words bs (w ∷ ws) = (rest : List ℕ) × First bs w rest × Words rest ws

-- bs has not n words
abbrev pub NotWords : List ℕ → ℕ → Type 0
NotWords bs n = (ws : List (List ℕ)) → Words bs ws → length ws ≢ n

-- w is no ground's code
abbrev pub NoCode : List ℕ → Type 0
NoCode w = (c : Code) → w ≢ code_text c

-- w writes n, which is below 2 ^ 32, in decimal digits
abbrev pub Writes : List ℕ → ℕ → Type 0
Writes w n = (IsNumeral 10 w × (digits_value 10 w < 2 ^ 32)) × (n ≡ digits_value 10 w)

-- w writes no such number
abbrev pub WritesNone : List ℕ → Type 0
WritesNone w = (n : ℕ) → Writes w n → ⊥

pub record Asks (line : List ℕ) (q : Question) : Type 0 where
  pub m : List ℕ
  pub y : List ℕ
  pub x : List ℕ
  pub words : Words line (code_text q.code ∷ m ∷ y ∷ x ∷ [])
  pub modulus : Writes m q.modulus
  pub dividend : Writes y q.dividend
  pub divisor : Writes x q.divisor

abbrev pub AsksNone : List ℕ → Type 0
AsksNone line = (q : Question) → Asks line q → ⊥

-- f is true of the line
abbrev pub Wrong : List ℕ → Fault → Type 0
Wrong line NotText = IsUtf8 line → ⊥
Wrong line Blank = Words line []
Wrong line (WordsFault n) = (ws : List (List ℕ)) × Words line ws × (length ws ≡ n) × (n ≢ 0) × (n ≢ 4)
Wrong line (NoGround w) = (ns : List (List ℕ)) × Words line (w.now ∷ ns) × (length ns ≡ 3) × NoCode w.now
Wrong line (NoNumber k w) = (ws : List (List ℕ)) × Words line ws × (length ws ≡ 4) × (1 < k) × (k ≤ 4) × (slice_index_or ws (k - 1) [] ≡ w.now) × WritesNone w.now

-- what reading the line answers
abbrev pub Read : List ℕ → Result Question Fault → Type 0
Read line r = MatchResult r (Asks line) (λ f. Wrong line f × AsksNone line)
