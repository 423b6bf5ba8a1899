-- A text has one list of words. Assumes nothing.
use Rattle.std.proofs.Common.{◌≡◌, ℕ, suc, ◌<◌, Bool, true, false, not, List, [], ◌∷◌, ◌++◌, map, length, sym, refl, ap, ◌∙◌, true≢false, append_assoc, append-nil, arith, length-append, Bor}
use Rattle.std.proofs.Math.Utf8.{encode, encodes}
use Rattle.std.specs.Iterator.{Yields, Drains}
use Rattle.std.specs.Str.Iter.{split_whitespace_rest, split_whitespace_steps}
use Rattle.std.specs.Char.{is_whitespace, is_not_whitespace}
use Rattle.std.specs.Str.{NonePass, NoCharPasses, EmptyOrStartsWithPassing}
use Rattle.std.proofs.lemmas.Str.{encode_same, length-encode, len_utf8_bounds}
use Rattle.divide.specs.Questions.{First, Words, NotWords}

-- bs is empty, or begins with a character that passes p
abbrev Starts : (ℕ → Bool) → List ℕ → Type 0
Starts p bs = 0 < length bs → (c : ℕ) × (more : List ℕ) × (p c ≡ true) × (bs ≡ encode c ++ more)

not_starts : (p : ℕ → Bool) (c : ℕ) (bs more : List ℕ) → p c ≡ false → bs ≡ encode c ++ more → Starts p bs → ⊥
not_starts p c bs more f e starts =
    let (d, rest, t, split) = starts (omega (arith, simp length-append at (ap length e), length-encode c, len_utf8_bounds c)) in
    true≢false (sym t ∙ ap p (encode_same d c rest more (sym split ∙ e)).0 ∙ f)

-- the longest front in which no character passes p
front_same : (p : ℕ → Bool) (cs ds r t : List ℕ) → NonePass p cs → NonePass p ds → Starts p r → Starts p t → encodes cs ++ r ≡ encodes ds ++ t → (cs ≡ ds) × (r ≡ t)
front_same p [] [] r t f g h k e = (refl, e)
front_same p [] (d ∷ ds) r t f g h k e = absurd (not_starts p d r (encodes ds ++ t) g.0 (e ∙ append_assoc (encode d) (encodes ds) t) h)
front_same p (c ∷ cs) [] r t f g h k e = absurd (not_starts p c t (encodes cs ++ r) f.0 (sym e ∙ append_assoc (encode c) (encodes cs) r) k)
front_same p (c ∷ cs) (d ∷ ds) r t f g h k e =
    let heads = encode_same c d (encodes cs ++ r) (encodes ds ++ t) (simp append_assoc at e) in
    let tails = front_same p cs ds r t f.1 g.1 h k heads.1 in
    (cc, tails.1)

without_same : (p : ℕ → Bool) (a b r t : List ℕ) → NoCharPasses p a → NoCharPasses p b → Starts p r → Starts p t → a ++ r ≡ b ++ t → (a ≡ b) × (r ≡ t)
without_same p a b r t (cs, is, f) (ds, js, g) h k e =
    let s = front_same p cs ds r t f g h k (ap (λ l. l ++ r) is ∙ e ∙ ap (λ l. l ++ t) (sym js)) in
    (sym is ∙ ap encodes s.0 ∙ js, s.1)

word_starts : (w rest : List ℕ) → NoCharPasses is_whitespace w → 0 < length w → Starts is_not_whitespace (w ++ rest)
word_starts w rest ([], e, f) some h = absurd (omega (arith, ap length e))
word_starts w rest (c ∷ cs, e, f) some h = (c, encodes cs ++ rest, ap not f.0, ap (λ l. l ++ rest) (sym e) ∙ append_assoc (encode c) (encodes cs) rest)

rest_starts : (rest more : List ℕ) → EmptyOrStartsWithPassing is_whitespace rest more → Starts is_whitespace rest
rest_starts rest more o l = let (c, t, split, _) = o l in (c, more, t, split)

first_same : (bs w v rest left : List ℕ) → First bs w rest → First bs v left → (w ≡ v) × (rest ≡ left)
first_same bs w v rest left (gap, e, some, clear, word, (more, opens)) (gap₂, e₂, some₂, clear₂, word₂, (more₂, opens₂)) =
    let after = (without_same is_not_whitespace gap gap₂ (w ++ rest) (v ++ left) clear clear₂ (word_starts w rest word some) (word_starts v left word₂ some₂) (sym e ∙ e₂)).1 in
    without_same is_whitespace w v rest left word word₂ (rest_starts rest more opens) (rest_starts left more₂ opens₂) after

no_first : (bs w rest : List ℕ) → NoCharPasses is_not_whitespace bs → First bs w rest → ⊥
no_first bs w rest clear (gap, e, some, clear₂, word, _) =
    let none = (without_same is_not_whitespace bs gap [] (w ++ rest) clear clear₂ (λ h. absurd (omega arith)) (word_starts w rest word some) (append-nil bs ∙ e)).1 in
    omega (arith, simp length-append at (ap length none))

pub words_same : (bs : List ℕ) (ws vs : List (List ℕ)) → Words bs ws → Words bs vs → ws ≡ vs
words_same bs [] [] a b = refl
words_same bs [] (v ∷ vs) a b = absurd (no_first bs v b.0 a b.1)
words_same bs (w ∷ ws) [] a b = absurd (no_first bs w a.0 b a.1)
words_same bs (w ∷ ws) (v ∷ vs) a b =
    let s = first_same bs w v a.0 b.0 a.1 b.1 in
    let i = words_same b.0 ws vs (rw s.1 at a.2) b.2 in
    cc

pub not_words_end : {bs : List ℕ} {n : ℕ} → NoCharPasses is_not_whitespace bs → NotWords bs (suc n)
not_words_end {bs} u ws a e = omega (arith, ap length (words_same bs ws [] a u))

pub not_words_more : {bs w rest : List ℕ} {n : ℕ} → First bs w rest → NotWords rest n → NotWords bs (suc n)
not_words_more f h [] a e = omega arith
not_words_more {bs} {w} {rest} f h (v ∷ vs) a e = h vs (rw (first_same bs v w a.0 rest a.1 f).1 at a.2) (omega arith)

pub not_words_some : {bs w rest : List ℕ} → First bs w rest → NotWords bs 0
not_words_some {bs} {w} {rest} f [] a e = no_first bs w rest a f
not_words_some f (v ∷ vs) a e = omega arith

yielded : (xs : List (Bor (List ℕ))) (s t : _) → Yields split_whitespace_steps s xs t → NoCharPasses is_not_whitespace (split_whitespace_rest t) → Words (split_whitespace_rest s) (map (λ x. x.now) xs)
yielded [] s t e d = rw e d
yielded (x ∷ xs) s t y d = (split_whitespace_rest y.0, y.1, yielded xs y.0 t y.2 d)

pub words_from_drains : (s : _) (xs : List (Bor (List ℕ))) → Drains split_whitespace_steps s xs → Words (split_whitespace_rest s) (map (λ x. x.now) xs)
words_from_drains s xs d = yielded xs s d.1.0 d.1.1 d.1.2.1
