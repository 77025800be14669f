use Rattle.std.proofs.Common.{rules, ◌≡◌, ◌+◌, ℕ, ap, Some, None, sym, subst, arith, ◌∙◌}
use Rattle.judge.specs.Makers.{SlotsMade, slots_made}
use Rattle.search.specs.Held.{held_outside}
use Rattle.units.specs.Units.{periods_of}
use Rattle.search.specs.Terms.{stall_at, held_with}
use Rattle.search.specs.Walked.{stall_with}
use Rattle.search.proofs.next_term.Goals as goal

pub returns-in_err-stall : goal.returns-in_err-stall
unfolding stall_with
returns-in_err-stall c =
    let t = c.args.terms in
    let w = t.workload in
    let stall = stall_at t c.args.shares.now in
    let none : c.from_residual.result ≡ None = search rules in
    let long : SlotsMade stall None = subst (SlotsMade stall) (sym c.greatest.ensures ∙ c.in_err-stall.was) (slots_made stall) in
    none ∙ sym (held_outside t.per_period.0 (w.computing.0 + w.requests.0 + stall) t.some t.few (omega (arith, long)))

pub returns : goal.returns
unfolding stall_with
returns c =
    let t = c.args.terms in
    let stall = stall_at t c.args.shares.now in
    let made : SlotsMade stall (Some c.in_ok-stall.stall) = subst (SlotsMade stall) (sym c.greatest.ensures ∙ c.in_ok-stall.was) (slots_made stall) in
    c.term_for.ensures ∙ ap (λ (n : ℕ). periods_of (held_with t n)) made.1
