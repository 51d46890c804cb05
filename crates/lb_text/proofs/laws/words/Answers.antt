use Rattle.lb_text.proofs.WordLaws.{word-characters, word-fewer, word-more}
use Rattle.lb_text.proofs.WordLetters.{word-letters}
use Rattle.lb_text.proofs.laws.words.Goals as goal

pub returns-clause-characters : goal.returns-clause-characters
returns-clause-characters c = word-characters

pub returns-clause-more_steps : goal.returns-clause-more_steps
returns-clause-more_steps c = word-more

pub returns-clause-fewer_left : goal.returns-clause-fewer_left
returns-clause-fewer_left c = word-fewer

pub returns-clause-letters : goal.returns-clause-letters
returns-clause-letters c = word-letters
