-- What each line adds to the tally. Assumes nothing.
--   up              a count that rises, and stops at the largest
--   after_line      the tally after a line came
--   kind_of         of which kind a line is that had an answer
--   counted         the tally after that line proved to be of a kind
use Rattle.std.specs.Prelude.{ℕ, ◌+◌, ◌-◌, ◌^◌, min, Ok, Err, Result}
use Rattle.answers.specs.declared.quotient.Quotient.{Quotient}
use Rattle.answers.specs.declared.refusal.Refusal.{Refusal as Reason}
use Rattle.answers.specs.declared.refusal.Refusal.TheVariants.{Modulus, Operand, NotUnit}
use Rattle.divide.specs.declared.answer.Unanswered.{Unanswered}
use Rattle.divide.specs.declared.answer.Unanswered.TheVariants.{Refused as RefusedBy, NoGround}
use Rattle.divide.specs.declared.tally.Kind.{Kind}
use Rattle.divide.specs.declared.tally.Kind.TheVariants.{Served, Refused, Unreadable, Groundless, Blank}
use Rattle.divide.specs.declared.tally.Tally.{Tally}

-- n and k together, or the largest count
abbrev pub up : ℕ → ℕ → ℕ
up n k = min (n + k) (2 ^ 64 - 1)

abbrev pub none_yet : Tally
none_yet = record { lines = 0; served = 0; refused = 0; unreadable = 0; groundless = 0; blank = 0; steps = 0 }

abbrev pub after_line : Tally → Tally
after_line t = record t { lines = up t.lines 1 }

-- the steps that a refusal names
abbrev pub refusal_steps : Reason → ℕ
refusal_steps Modulus = 0
refusal_steps (Operand which) = 0
refusal_steps (NotUnit witness steps) = steps

abbrev pub kind_of : Result Quotient Unanswered → Kind
kind_of (Ok q) = Served q.steps
kind_of (Err (RefusedBy e)) = Refused (refusal_steps e)
kind_of (Err NoGround) = Groundless

abbrev pub counted : Tally → Kind → Tally
counted t (Served n) = record t { served = up t.served 1; steps = up t.steps n }
counted t (Refused n) = record t { refused = up t.refused 1; steps = up t.steps n }
counted t Unreadable = record t { unreadable = up t.unreadable 1 }
counted t Groundless = record t { groundless = up t.groundless 1 }
counted t Blank = record t { blank = up t.blank 1 }
