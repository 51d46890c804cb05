use Rattle.std.proofs.Common.{rules, ℤ}
use Rattle.lb_model_paper.specs.declared.pages.PageLengths.{PageLengths}
use Rattle.lb_nest.proofs.LookLemmas.{looks-as, looks-made, looks-more}
use Rattle.lb_nest.proofs.WordLemmas.{tells-looks}
use Rattle.lb_nest.proofs.numbering.page_lengths.Goals as goal

-- the lengths in the order in which they are looked at
abbrev Told : Type 0
Told = ((((((ℤ × ℤ) × ℤ) × ℤ) × ℤ) × ℤ) × ℤ) × ℤ

abbrev lengths_of : Told → PageLengths
lengths_of t =
    record {
      textwidth = t.0.0.0.0.1;
      textheight = t.0.0.0.1;
      headheight = t.0.0.1;
      headsep = t.0.1;
      footskip = t.1;
      topmargin = t.0.0.0.0.0.0.0;
      oddsidemargin = t.0.0.0.0.0.0.1;
      evensidemargin = t.0.0.0.0.0.1;
    }

pub returns : goal.returns
returns g c =
    record {
      looks =
          looks-as
          (looks-made lengths_of
          (looks-more
          (looks-more
          (looks-more
          (looks-more
          (looks-more
          (looks-more
          (looks-more (tells-looks c.in_ok-topmargin.ensures.tells) c.in_ok-oddsidemargin.ensures.tells)
          c.in_ok-evensidemargin.ensures.tells)
          c.in_ok-textwidth.ensures.tells)
          c.in_ok-textheight.ensures.tells)
          c.in_ok-headheight.ensures.tells)
          c.in_ok-headsep.ensures.tells)
          c.in_ok-footskip.ensures.tells))
          (search rules);
    }
