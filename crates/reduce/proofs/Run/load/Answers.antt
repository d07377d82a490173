use Rattle.std.proofs.Common.{◌≡◌, refl, sym, ap, ◌∙◌, List, ℕ, [], Result, Ok, IsOk, replicate, subst}
use Rattle.node.specs.declared.Refusal.{Refusal}
use Rattle.machine.specs.Layout.{store, site_in}
use Rattle.machine.specs.declared.Day.{Day}
use Rattle.machine.specs.timed.Timed.{first_epoch}
use Rattle.machine.specs.timed.Stored.{stored_load, timed_loaded_site}
use Rattle.reduce.specs.declared.Run.{Run}
use Rattle.reduce.proofs.Start.{zeros, day-is, begins}
use Rattle.reduce.proofs.Run.load.Goals as goal
use Rattle.reduce.proofs.Run.load.Goals.{After-load}

-- the load is one of zeros
loaded : (c : After-load) → c.load.result ≡ Ok (first_epoch 1)
loaded c =
    let o = c.args.o in
    c.load.ensures.value ∙ ap (λ (r : Run). stored_load (store r.words r.bytes) o.config o.table 1 []) c.requires.1 ∙ day-is o c.requires.0

pub unwrap-self-requires : goal.unwrap-self-requires
unwrap-self-requires c = subst (λ (r : Result Day Refusal). IsOk r) (sym (loaded c)) refl

pub returns-clause-state : goal.returns-clause-state
returns-clause-state c =
    let o = c.args.o in
    let n = c.load.new in
    let k : Ok c.unwrap-self.result ≡ Ok (first_epoch 1) = sym c.unwrap-self.ensures ∙ loaded c.before.before in
    let e : c.unwrap-self.result ≡ first_epoch 1 = cc in
    let s : site_in (store n.words n.bytes) ≡ timed_loaded_site zeros o.config o.table 1 [] = c.load.ensures.bytes_after_2
    ∙ ap (λ (r : Run). timed_loaded_site (store r.words r.bytes) o.config o.table 1 []) c.requires.1 in
    let t = begins o c.requires.0 (store n.words n.bytes) c.unwrap-self.result e s in
    let a : c.args.self.now.area ≡ replicate 11520 0 = ap (λ (r : Run). r.area) c.requires.1 in
    λ i. record { timed = t i; area = a i }
