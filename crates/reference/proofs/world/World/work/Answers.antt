use Rattle.std.proofs.Common.{◌≡◌, ℕ, [], ◌∷◌, None, rules, sym, ap, ◌∙◌}
use Rattle.cpu.specs.Rv32i.{rv32i}
use Rattle.model.specs.World.{turn}
use Rattle.model.specs.Tick.{work}
use Rattle.reference.specs.Own.{said}
use Rattle.reference.specs.View.{plan_in, after, showing}
use Rattle.reference.specs.Whole.{plan_of, view_of}
use Rattle.reference.proofs.Worlds.{showing_none}
use Rattle.reference.proofs.world.World.work.Goals as goal

pub returns-in_err-partition-clause-value : goal.returns-in_err-partition-clause-value
unfolding after work turn plan_in
returns-in_err-partition-clause-value c =
    let w = c.args.self.now in
    let none : c.from_residual.result ≡ None = search rules in
    λ s. ap (λ b. view_of w (after s b)) none ∙ sym (ap (work rv32i (plan_of w) (view_of w s)) (sym c.turn_at.ensures.value ∙ c.in_err-partition.was))

pub returns-in_err-byte-clause-value : goal.returns-in_err-byte-clause-value
unfolding after turn plan_in
returns-in_err-byte-clause-value c =
    let w = c.args.self.now in
    let v = c.turn_of.new.self in
    let q = c.in_ok-partition.partition in
    let none : c.from_residual-in_err-byte.result ≡ None = search rules in
    λ s.
    ap (λ b. view_of v (after s b)) none
    ∙ ap (view_of v) (sym (ap (λ r. showing s q (said w.time r)) c.in_err-byte.was ∙ showing_none s q w.time))
    ∙ c.turn_of.ensures.value s
    ∙ ap (work rv32i (plan_of w) (view_of w s)) (sym (sym c.turn_at.ensures.value ∙ c.in_ok-partition.was))

pub returns-clause-value : goal.returns-clause-value
unfolding after said turn plan_in
returns-clause-value c =
    let w = c.args.self.now in
    let v = c.turn_of.new.self in
    let q = c.in_ok-partition.partition in
    λ s.
    ap (λ (t : ℕ). view_of v (showing s q ((t, c.in_ok-byte.byte) ∷ []))) c.turn_of.ensures.time
    ∙ ap (λ r. view_of v (showing s q (said w.time r))) (sym c.in_ok-byte.was)
    ∙ c.turn_of.ensures.value s
    ∙ ap (work rv32i (plan_of w) (view_of w s)) (sym (sym c.turn_at.ensures.value ∙ c.in_ok-partition.was))
