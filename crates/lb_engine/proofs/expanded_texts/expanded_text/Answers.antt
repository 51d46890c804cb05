use Rattle.lb_model_engine.specs.Reads.{put_closed}
use Rattle.lb_model_engine.specs.Texts.{text_rest}
use Rattle.lb_engine.proofs.LeadsLemmas.{leads-then}
use Rattle.lb_engine.proofs.expanded_texts.expanded_text.Goals as goal

pub returns-in-On : goal.returns-in-On
returns-in-On g c =
    record { leads = λ row. leads-then (put_closed c.args.toks) (text_rest row) c.text_rest.result c.in-On.is c.in_ok-went.ensures.goes (c.text_rest.ensures.leads row) }
