use Rattle.lb_model_grammar.proofs.WordReading.{word-goes_back, word-goes_on, word-missing, word-not_wrong, word-read}
use Rattle.lb_model_grammar.proofs.laws.keywords_read.Goals as goal

pub returns-clause-found : goal.returns-clause-found
returns-clause-found c = word-read

pub returns-clause-goes_on : goal.returns-clause-goes_on
returns-clause-goes_on c = word-goes_on

pub returns-clause-not_found : goal.returns-clause-not_found
returns-clause-not_found c = word-missing

pub returns-clause-goes_back : goal.returns-clause-goes_back
returns-clause-goes_back c = word-goes_back

pub returns-clause-never_wrong : goal.returns-clause-never_wrong
returns-clause-never_wrong c = word-not_wrong
