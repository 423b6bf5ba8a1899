-- The worked examples, with answers that were found by hand. Assumes nothing.
--   answers    what the worked examples come to
--   Worked     the definitions give those answers
use Rattle.std.specs.Prelude.{◌≡◌, List, [], ◌∷◌}
use Rattle.answers.specs.Answers.{Answer, served, refused}
use Rattle.ground.specs.Division.{divided}
use Rattle.whole.specs.Whole.{whole}

-- 1 by 3 modulo 7 is 5 in 3 steps; modulo 15, 1 by 6 is refused with 3 in 3 steps, and 1 by 0 with 15 in none
abbrev pub answers : List Answer
answers = served (5 ∷ 3 ∷ []) ∷ refused 3 (3 ∷ 3 ∷ []) ∷ refused 3 (15 ∷ 0 ∷ []) ∷ []

abbrev pub Worked : Type 0
Worked = divided (whole 7) 1 3 ∷ divided (whole 15) 1 6 ∷ divided (whole 15) 1 0 ∷ [] ≡ answers
