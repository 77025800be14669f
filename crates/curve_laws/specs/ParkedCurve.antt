-- A parked core: with budget 0 the raw stall at 0 requests is the whole Q, the curve is one corner there, and a run may stall as much.
use Rattle.std.specs.Prelude.{◌≡◌, refl, ◌↔◌, List, ℕ, ◌*◌, ◌≤◌}
use Rattle.std.proofs.Common.{sym, ap, ◌∙◌, subst, le_of_eq, arith}
use Rattle.meaning.specs.Fraction.{whole}
use Rattle.meaning.specs.Plan.{budget_of}
use Rattle.meaning.specs.Curve.{Curve, raw, Envelope, EnvelopeOf, interval_stall}
use Rattle.meaning.specs.Run.{Period, Allowed}
use Rattle.curve_laws.specs.EnvelopeConcave.{one_corner, envelope_single, single_stall}
use Rattle.curve_laws.specs.RawStall.{raw_full}

module _ (per_period core : ℕ) (budgets : List ℕ) (parked : budget_of core budgets ≡ 0) where
  -- at 0 requests the raw stall is the whole Q
  pub parked_raw : raw per_period budgets core 0 ≡ per_period
  parked_raw = raw_full per_period budgets core 0 (le_of_eq parked) ∙ omega (arith, parked)

  -- the one corner is the curve
  pub parked_envelope : EnvelopeOf per_period core budgets (one_corner per_period)
  parked_envelope =
      record { starts = refl; ends = sym parked; on_raw = sym parked_raw; rising = tt; falling = tt; covering = tt }

  over_none : (c : Curve) → EnvelopeOf per_period core budgets c → Envelope (raw per_period budgets core) 0 c
  over_none c = subst (λ (q : ℕ). Envelope (raw per_period budgets core) q c) parked

  -- and there is no other
  pub parked_curve : (c : Curve) → EnvelopeOf per_period core budgets c → c ≡ one_corner per_period
  parked_curve c e = envelope_single (raw per_period budgets core) c (over_none c e) ∙ ap one_corner parked_raw

  -- so an interval of parked periods adds Q for each of its share, whatever is asked of it
  pub parked_adds : (c : Curve) → EnvelopeOf per_period core budgets c → (w x : ℕ) → interval_stall c w x ≡ whole (w * per_period)
  parked_adds c e w x =
      single_stall (raw per_period budgets core) c (over_none c e) w x ∙ ap (λ (n : ℕ). whole (w * n)) parked_raw

  -- a parked period of a run has no requests, and a stall of at most Q; what it computes is not asked
  pub parked_allowed : (d : Period) → Allowed per_period core budgets d ↔ ((d.requests ≡ 0) × (d.stall ≤ per_period))
  parked_allowed d = (
    λ allowed.
        let none : d.requests ≡ 0 = omega (arith, allowed.budget, parked) in
        (none, subst (λ (n : ℕ). d.stall ≤ n) (ap (raw per_period budgets core) none ∙ parked_raw) allowed.stalled),
    λ (none, few).
        record {
          budget = omega (arith, none);
          stalled = subst (λ (n : ℕ). d.stall ≤ n) (sym (ap (raw per_period budgets core) none ∙ parked_raw)) few;
        },
  )
