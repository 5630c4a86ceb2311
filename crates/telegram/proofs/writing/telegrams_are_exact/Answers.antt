-- Each telegram and its text.
use Rattle.telegram.proofs.Exact.{read_again, text-of_telegram}
use Rattle.telegram.proofs.writing.telegrams_are_exact.Goals as goal

pub returns-clause-own_text : goal.returns-clause-own_text
returns-clause-own_text c = read_again

pub returns-clause-no_other : goal.returns-clause-no_other
returns-clause-no_other c = λ body t is. (text-of_telegram body t is).0

pub returns-clause-within : goal.returns-clause-within
returns-clause-within c = λ body t is. (text-of_telegram body t is).1
