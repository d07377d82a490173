-- Each arm is its event's own answer, with the event known from the match.
use mathlib.Core.Path.{sym, ap, ◌∙◌}
use Rattle.machine.specs.Layout.{store, site_in}
use Rattle.site.specs.Answers.{event_answer}
use Rattle.machine.proofs.answers.answer.Goals as goal

pub returns-in-Send : goal.returns-in-Send
returns-in-Send c =
    let a = c.args in
    let s = store a.m.words.now a.m.bytes.now in
    c.send_answer.ensures ∙ sym (ap (event_answer (site_in s) a.area.now) c.in-Send.is)

pub returns-in-Hear : goal.returns-in-Hear
returns-in-Hear c =
    let a = c.args in
    let s = store a.m.words.now a.m.bytes.now in
    c.hear_answer.ensures ∙ sym (ap (event_answer (site_in s) a.area.now) c.in-Hear.is)

pub returns-in-Close : goal.returns-in-Close
returns-in-Close c =
    let a = c.args in
    let s = store a.m.words.now a.m.bytes.now in
    c.close_answer.ensures ∙ sym (ap (event_answer (site_in s) a.area.now) c.in-Close.is)

pub returns-in-Take : goal.returns-in-Take
returns-in-Take c =
    let a = c.args in
    let s = store a.m.words.now a.m.bytes.now in
    c.take_answer.ensures ∙ sym (ap (event_answer (site_in s) a.area.now) c.in-Take.is)

pub returns-in-End : goal.returns-in-End
returns-in-End c =
    let a = c.args in
    let s = store a.m.words.now a.m.bytes.now in
    c.end_answer.ensures ∙ sym (ap (event_answer (site_in s) a.area.now) c.in-End.is)

pub returns-in-Want : goal.returns-in-Want
returns-in-Want c =
    let a = c.args in
    let s = store a.m.words.now a.m.bytes.now in
    c.want_answer.ensures ∙ sym (ap (event_answer (site_in s) a.area.now) c.in-Want.is)

pub returns-in-Crash : goal.returns-in-Crash
returns-in-Crash c =
    let a = c.args in
    let s = store a.m.words.now a.m.bytes.now in
    c.crash_answer.ensures ∙ sym (ap (event_answer (site_in s) a.area.now) c.in-Crash.is)

pub returns-in-Restart : goal.returns-in-Restart
returns-in-Restart c =
    let a = c.args in
    let s = store a.m.words.now a.m.bytes.now in
    c.restart_answer.ensures ∙ sym (ap (event_answer (site_in s) a.area.now) c.in-Restart.is)
