use Rattle.script.proofs.lines.Lines.{whole, on_none, on-open}
use mathlib.Core.Path.{refl, sym, ◌∙◌}
use Rattle.script.proofs.load.ended_line.Goals as goal

-- By the line found: none, one without byte 10, and one with it.
pub returns-in-Nothing : goal.returns-in-Nothing
returns-in-Nothing c = record {
  line = record { is = on_none _ _ _ _ _ (sym c.next_line.ensures ∙ c.in-Nothing.is); config = refl };
  within = tt;
}

pub returns-in-Open : goal.returns-in-Open
returns-in-Open c = record {
  line = record { is = on-open _ _ _ _ _ (sym c.next_line.ensures ∙ c.in-Open.is); config = refl };
  within = tt;
}

pub returns-in-Ended : goal.returns-in-Ended
returns-in-Ended c =
    let h = sym c.next_line.ensures ∙ c.in-Ended.is in
    let w = whole _ _ _ h in
    record { line = h; within = (w.from, w.within) }
