-- A line that asks a question is UTF-8. Assumes nothing.
use Rattle.std.proofs.Common.{◌≡◌, ℕ, ◌<◌, true, false, List, [], ◌∷◌, ◌++◌, IsUtf8, refl, arith}
use Rattle.std.proofs.Math.Utf8.{scalars, encode, low_scalar}
use Rattle.std.proofs.lemmas.Fmt.{IsAscii-from_digits}
use Rattle.std.proofs.lemmas.Str.{IsUtf8-append, IsUtf8-from_ascii}
use Rattle.std.proofs.lemmas.Bool.Decides.{nat_tests}
use Rattle.std.specs.Str.Parse.{IsNumeral}
use Rattle.std.specs.Char.{is_not_whitespace}
use Rattle.std.specs.Str.{NonePass, NoCharPasses}
use Rattle.std.specs.List.{AllByRecursion as All}
use Rattle.divide.specs.declared.question.Code.{Code}
use Rattle.divide.specs.declared.question.Code.TheVariants.{Whole, Binary}
use Rattle.divide.specs.declared.question.Question.{Question}
use Rattle.divide.specs.Questions.{Words, Asks}
use Rattle.divide.specs.Text.{code_text}

white_low : (c : ℕ) → is_not_whitespace c ≡ false → c < 55296
white_low c e = grind (arith, nat_tests)

white_scalars : (cs : List ℕ) → NonePass is_not_whitespace cs → scalars cs ≡ true
white_scalars [] f = refl
white_scalars (c ∷ cs) f = rw (low_scalar c (white_low c f.0), white_scalars cs f.1)

pub white_utf8 : {bs : List ℕ} → NoCharPasses is_not_whitespace bs → IsUtf8 bs
white_utf8 u = (u.0, (white_scalars u.0 u.2, u.1))

number_utf8 : (w : List ℕ) → IsNumeral 10 w → IsUtf8 w
number_utf8 w d = IsUtf8-from_ascii w (IsAscii-from_digits w d.1)

code_utf8 : (c : Code) → IsUtf8 (code_text c)
unfolding encode
code_utf8 Whole = (code_text Whole, (refl, refl))
code_utf8 Binary = (code_text Binary, (refl, refl))

words_utf8 : (bs : List ℕ) (ws : List (List ℕ)) → All IsUtf8 ws → Words bs ws → IsUtf8 bs
words_utf8 bs [] all a = white_utf8 a
words_utf8 bs (w ∷ ws) all a =
    let f = a.1 in
    rw f.1 (IsUtf8-append f.0 (w ++ a.0) (white_utf8 f.3) (IsUtf8-append w a.0 all.0 (words_utf8 a.0 ws all.1 a.2)))

pub asks_utf8 : (line : List ℕ) (q : Question) → Asks line q → IsUtf8 line
asks_utf8 line q a = words_utf8 line (code_text q.code ∷ a.m ∷ a.y ∷ a.x ∷ [])
    (code_utf8 q.code, (number_utf8 a.m a.modulus.0.0, (number_utf8 a.y a.dividend.0.0, (number_utf8 a.x a.divisor.0.0, tt))))
    a.words
