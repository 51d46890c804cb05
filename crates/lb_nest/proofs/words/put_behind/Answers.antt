use Rattle.lb_model_nest.specs.Words.{space_of, word_ended}
use Rattle.lb_nest.proofs.WorksLemmas.{works-ended, works-then}
use Rattle.lb_nest.proofs.words.put_behind.Goals as goal

pub returns-in-On : goal.returns-in-On
returns-in-On c =
    record {
      works =
          works-then word_ended (space_of c.args.factor c.args.font.now) c.add_space_of.result c.in-On.is c.in_ok-went.ensures.works (c.add_space_of.ensures.works c.end_word.new.left);
    }

pub returns-in_default : goal.returns-in_default
returns-in_default c =
    record {
      works =
          works-ended word_ended (space_of c.args.factor c.args.font.now) c.in_ok-went.went c.in_default.not-On c.in_ok-went.ensures.works;
    }
