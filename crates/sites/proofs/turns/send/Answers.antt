-- The answer decides first, then the windows and the shares; an accepted send writes into the lowest free place.
use mathlib.Core.Path.{◌≡◌, sym, ap, ap₂, ◌∙◌}
use mathlib.Core.Bool.{◌&&◌}
use Prim.Native.Nat.{ℕ, ◌+◌}
use lib.Dec.{leb}
use lib.ListN.{set}
use Rattle.node.specs.Answers.{is_done}
use Rattle.node.specs.Negotiation.{packet_of}
use Rattle.node.proofs.Answers.{done-is}
use Rattle.site.specs.Members.{member_at}
use Rattle.site.specs.Answers.{site_send}
use Rattle.site.specs.Steps.{stored}
use Rattle.machine.specs.Layout.{store, site_in}
use Rattle.machine.proofs.Refused.{handed}
use Rattle.group.specs.Places.{entry}
use Rattle.group.specs.Group.{own_share}
use Rattle.sites.proofs.many.Sends.{plain-send, site-refuses, list-refuses, neither-refuses, send-crowded, send-done, bytes-sent, area-sent}
use Rattle.sites.proofs.turns.send.Goals as goal

pub returns-in_err-answer_to : goal.returns-in_err-answer_to
returns-in_err-answer_to c =
    let a = c.args in
    let p = c.requires in
    let s = store a.words.now a.bytes.now in
    let r = handed _ c.from_residual.ensures.1 in
    let e = r ∙ sym c.in_err-answer_to.was ∙ c.answer_to.ensures ∙ plain-send s a.area.now a.j p.0 p.1 p.3 in
    let whole = site-refuses s a.o a.full a.j a.a a.list.now a.area.now e (ap is_done r) in record {
      value = whole.0;
      bytes_after = whole.1.0;
      list_after = whole.1.1.0;
      area_after = whole.1.1.1;
    }

pub returns-in_err-o : goal.returns-in_err-o
returns-in_err-o c =
    let a = c.args in
    let p = c.requires in
    let s = store a.words.now a.bytes.now in
    let e : c.answer_to.result ≡ site_send (site_in s) a.j = c.answer_to.ensures ∙ plain-send s a.area.now a.j p.0 p.1 p.3 in
    let d = ap is_done (sym e ∙ c.in_ok-answer_to.was) in
    let whole = list-refuses s a.o a.full a.j a.a a.list.now a.area.now d (ap is_done c.in_err-o.was) in record {
      value = handed _ c.from_residual-in_err-o.ensures.1 ∙ sym c.in_err-o.was ∙ whole.0;
      bytes_after = whole.1.0;
      list_after = whole.1.1.0;
      area_after = whole.1.1.1;
    }

pub returns-then-n-full : goal.returns-then-n-full
returns-then-n-full c =
    let a = c.args in
    let p = c.requires in
    let s = store a.words.now a.bytes.now in
    let e : c.answer_to.result ≡ site_send (site_in s) a.j = c.answer_to.ensures ∙ plain-send s a.area.now a.j p.0 p.1 p.3 in
    let d = ap is_done (sym e ∙ c.in_ok-answer_to.was) in
    let whole = send-crowded s a.o a.full a.j a.a a.list.now a.area.now
    (neither-refuses s a.o a.full a.j a.a a.list.now a.area.now d (ap is_done c.in_ok-o.was))
    (ap (λ (n : ℕ). leb own_share n && a.full) (sym c.packets-n.ensures.value) ∙ c.if-n-full.true) in record {
      value = whole.0;
      bytes_after = whole.1.0;
      list_after = whole.1.1.0;
      area_after = whole.1.1.1;
    }

pub returns : goal.returns
returns c =
    let a = c.args in
    let p = c.requires in
    let s = store a.words.now a.bytes.now in
    let e : c.answer_to.result ≡ site_send (site_in s) a.j = c.answer_to.ensures ∙ plain-send s a.area.now a.j p.0 p.1 p.3 in
    let d = ap is_done (sym e ∙ c.in_ok-answer_to.was) in
    let n = c.packets-n.ensures.value in
    let at = c.place_of-at.ensures.value in
    let done = ap is_done (sym c.answer_to.ensures ∙ c.in_ok-answer_to.was) in
    let i = c.send_into.ensures in
    let whole = send-done s a.o a.full a.j a.a a.list.now a.area.now
    (neither-refuses s a.o a.full a.j a.a a.list.now a.area.now d (ap is_done c.in_ok-o.was))
    (ap (λ (n : ℕ). leb own_share n && a.full) (sym n) ∙ c.if-n-full.false)
    (i.bytes_after ∙ bytes-sent s a.area.now a.j done)
    (c.put_entry.ensures ∙ ap₂ (λ (k m : ℕ). set a.list.now k (entry a.a (m + 1))) at n)
    (i.area_after ∙ area-sent s a.area.now _ a.j done
    ∙ ap (λ (k : ℕ). stored a.area.now k (packet_of (member_at (site_in s) a.j).node)) at) in record {
      value = i.value ∙ done-is _ done ∙ whole.0;
      bytes_after = whole.1.0;
      list_after = whole.1.1.0;
      area_after = whole.1.1.1;
    }
