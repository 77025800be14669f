-- From filling to the answered placement of a list of parts, and the value of its stall.
use Rattle.std.specs.Prelude.{◌≡◌, refl, List, [], ℕ, zero, suc, ◌+◌, ◌*◌, ◌≤◌}
use Rattle.std.proofs.Common.{sym, ap, ◌∙◌, subst, inl, inr, ⊎_elim, zero-add, mul-zero, arith}
use Rattle.meaning.specs.Fraction.{Fraction, Proper, ◌=ᶠ◌}
use Rattle.meaning.specs.Plan.{sum_of}
use Rattle.meaning.specs.Curve.{Curve, Concave}
use Rattle.meaning.specs.Placement.{Part, total, Answered}
use Rattle.number_laws.specs.Lists.{list_from, sum_from, list_length, sum_list, sum_none}
use Rattle.curve_laws.specs.Price.{here}
use Rattle.curve_laws.specs.Certificate.{Certificate}
use Rattle.placement_laws.specs.CertifiedPlacement.{Certified, excesses, total_touch, total_proper, certified_answered}
use Rattle.placement_laws.specs.Filling.{base_stall, Pick, Order, Walk, raised, walk, fill}
use Rattle.placement_laws.specs.FillingCertified.{Outcome, stall_of, filled}

-- certificates for each index certify the lists
certified_from : (p d k : ℕ) (excess : ℕ → ℕ) (s : ℕ → Part) (x : ℕ → ℕ) (i n : ℕ)
    → ((j : ℕ) → Certificate p d k j (s j) (excess j) (x j))
    → Certified p d k excess i (list_from i n s) (list_from i n x)
unfolding list_from
certified_from p d k excess s x i zero each = tt
certified_from p d k excess s x i (suc n) each = (each i, certified_from p d k excess s x (suc i) n each)

excesses_from : (excess share : ℕ → ℕ) (curve : ℕ → Curve) (i n : ℕ)
    → excesses excess i (list_from i n (λ j. record { share = share j; curve = curve j }))
    ≡ sum_from i n (λ j. share j * excess j)
unfolding list_from sum_from excesses
excesses_from excess share curve i zero = refl
excesses_from excess share curve i (suc n) =
    ap (λ (m : ℕ). share i * excess i + m) (excesses_from excess share curve (suc i) n)

-- the stall that a walk finds: what was filled whole, and a part of the segment where the requests ran out
abbrev pub walk_stall : Walk → Fraction
walk_stall w = record { num = w.whole * w.run + w.left * w.rise; den = w.run }

-- the stall of n intervals: that of the bases, and what filling by the order adds
abbrev pub filled_stall : ℕ → (ℕ → ℕ) → (ℕ → ℕ) → List Pick → ℕ → Fraction
filled_stall n share base o requests = walk_stall (raised (base_stall n share base) (walk share o requests))

module _ (n : ℕ) (share : ℕ → ℕ) (curve : ℕ → Curve) (sound : (i : ℕ) → Concave (curve i)) (o : List Pick) (requests : ℕ)
    (order : Order curve o) (ends : (i : ℕ) → n ≤ i → (curve i).rest ≡ []) where
  -- the parts
  abbrev part_list : List Part
  part_list = list_from 0 n (λ j. record { share = share j; curve = curve j })

  -- what is filled
  abbrev filled_list : List ℕ
  filled_list = list_from 0 n (fill share o requests (λ j. 0))

  outcome : Outcome n share curve sound (sum_from 0 n (λ j. 0) + requests) (stall_of n share curve sound curve) (fill share o requests (λ j. 0)) (walk share o requests)
  outcome =
      filled n share curve sound o curve requests (λ j. 0) (λ i. here) order ends
      (λ i. sym (ap (λ (m : ℕ). share i * m) (sound i).starts ∙ mul-zero (share i)))

  all_requests : sum_from 0 n (λ j. 0) + requests ≡ requests
  all_requests = ap (λ (m : ℕ). m + requests) (sum_none 0 n (λ j. 0) (λ j from. refl)) ∙ zero-add requests

  certified : Certified (walk share o requests).rise (walk share o requests).run outcome.last outcome.excess 0 part_list filled_list
  certified =
      certified_from
      (walk share o requests).rise
      (walk share o requests).run
      outcome.last
      outcome.excess
      (λ j. record { share = share j; curve = curve j })
      (fill share o requests (λ j. 0))
      0
      n
      outcome.certificates

  sum_filled : sum_of filled_list ≡ sum_from 0 n (fill share o requests (λ j. 0))
  sum_filled = sum_list 0 n (fill share o requests (λ j. 0))

  -- filling by an order of all segments gives the answered placement
  pub filled_answered : Answered part_list requests filled_list
  filled_answered =
      certified_answered
      (walk share o requests).rise
      (walk share o requests).run
      outcome.last
      requests
      outcome.excess
      part_list
      filled_list
      outcome.positive
      certified
      (omega (arith, sum_filled, outcome.within, all_requests))
      (⊎_elim
      (λ e. inl (sum_filled ∙ e ∙ all_requests))
      (λ h. inr (h.0, subst (λ (m : ℕ). m ≤ outcome.last) (sym (list_length 0 n (λ j. record { share = share j; curve = curve j }))) h.1))
      outcome.spent)

  -- the run where the requests ran out is at least 1
  pub walk_proper : 1 ≤ (walk share o requests).run
  walk_proper = outcome.positive

  -- the total stall of the placement has the value that the walk finds
  pub filled_stall_lem : total part_list filled_list =ᶠ filled_stall n share (λ i. (curve i).first.stall) o requests
  filled_stall_lem =
      let w = walk share o requests in
      let touch = total_touch w.rise w.run outcome.last outcome.excess 0 part_list filled_list certified in
      let cost = excesses_from outcome.excess share curve 0 n in
      let worth : w.rise * sum_of filled_list + excesses outcome.excess 0 part_list ≡ w.run * (stall_of n share curve sound curve + w.whole) + w.rise * w.left =
      omega (arith, ap (λ (m : ℕ). w.rise * m) sum_filled, cost, outcome.worth) in
      let met = touch ∙ ap (λ (m : ℕ). m * (total part_list filled_list).den) worth in
      omega (arith, met)

  -- and its divisor is at least 1
  pub filled_proper : Proper (total part_list filled_list)
  filled_proper =
      total_proper (walk share o requests).rise (walk share o requests).run outcome.last outcome.excess 0 part_list filled_list filled_list certified
