use Rattle.std.proofs.Common.{sym, ◌∙◌}
use Rattle.std.proofs.lemmas.List.{length-map}
use Rattle.divide.proofs.Words.{words_from_drains}
use Rattle.divide.proofs.question.miscounted.Goals as goal

pub returns-else-count-eq0 : goal.returns-else-count-eq0
returns-else-count-eq0 c =
    let ran = c.count-count.ensures.ran in
    let is = rw c.split_whitespace.ensures.rest at (words_from_drains c.split_whitespace.result ran.0 ran.1) in
    let n = sym (ran.2 ∙ sym (length-map ran.0 (λ x. x.now))) in
    (_, is, n, c.if-count-eq0.false, λ e. c.requires _ is (n ∙ e))
