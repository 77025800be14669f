-- The filled placement is certified: the price is the slope of the segment where the requests run out, 0 where all is full.
use Rattle.std.specs.Prelude.{◌≡◌, refl, ◌⊎◌, ℕ, ◌+◌, ◌-◌, ◌*◌, ◌≤◌, ◌<◌}
use Rattle.std.proofs.Common.{sym, ap, ◌∙◌, subst, inl, inr, zero-le, le_refl, le_of_eq, le-add_right, arith, eq-eqb, ne_eqb, le-leb}
use Rattle.std.proofs.Math.Logic.{⊎_elim}
use mathlib.Core.List.{List, [], ◌∷◌}
use Rattle.std.proofs.lemmas.Bool.{lt-leb}
use Rattle.meaning.specs.Curve.{Corner, Curve, Rising, Falling, Concave}
use Rattle.meaning.specs.Placement.{Part}
use Rattle.number_laws.specs.Order.{le_or_lt, eq_or_ne}
use Rattle.number_laws.specs.Lists.{sum_from, sum_change, sum_linear}
use Rattle.curve_laws.specs.Price.{Along, Tight}
use Rattle.curve_laws.specs.PassedCorners.{passed_rising, passed_map, passed_falling}
use Rattle.curve_laws.specs.Certificate.{Certificate}
use Rattle.curve_laws.specs.FilledToCorner.{Stage, At, Ahead, excess_at, stage_tight, corner_certificate, segment_certificate, Follows, beyond_follows, along_heads}
use Rattle.placement_laws.specs.Filling.{base_stall, Pick, stepped_from, advance, Nothing, next_below, advance_nothing, Picked, Next, Order, level_rise, level_run, level_at, Reached, Walk, walk, raised, more, fill, picked_run, picked_steep, pass, follows, follows_end, advance_same, advance_other, gained}

-- a segment where the requests run out: filled past its lower end
stop_certificate : (s : Pick) (w left : ℕ) (c : Curve) (t : Corner) (rest : List Corner)
    → At
    s.rise
    s.run
    s.interval
    s.interval
    (record { share = w; curve = c; now = record { first = t; rest = rest } })
    → Picked s t rest
    → left ≤ w * s.run
    → Certificate
    s.rise
    s.run
    s.interval
    s.interval
    (record { share = w; curve = c })
    (excess_at s.rise s.run t)
    (w * t.rate + left)
stop_certificate s w left c t [] at picked fits = absurd picked
stop_certificate s w left c t (b ∷ bs) at picked fits =
    segment_certificate
    s.rise
    s.run
    s.interval
    w
    left
    c
    t
    b
    bs
    at
    (picked_steep s t b picked.0 picked.1)
    (subst (λ (n : ℕ). left ≤ w * n) (sym (gained t.rate b.rate s.run picked.0)) fits)

-- the corner after a picked segment
picked_rate : (s : Pick) (w : ℕ) (t : Corner) (rest : List Corner)
    → Picked s t rest
    → w * t.rate + w * s.run ≡ w * (stepped_from t rest).first.rate
picked_rate s w t [] picked = absurd picked
picked_rate s w t (b ∷ bs) picked = omega (arith, ap (λ (n : ℕ). w * n) picked.0)

picked_stall : (s : Pick) (w : ℕ) (t : Corner) (rest : List Corner)
    → Picked s t rest
    → w * (stepped_from t rest).first.stall ≡ w * t.stall + w * s.rise
picked_stall s w t [] picked = absurd picked
picked_stall s w t (b ∷ bs) picked = omega (arith, ap (λ (n : ℕ). w * n) picked.1)

module _ (n : ℕ) (share : ℕ → ℕ) (curve : ℕ → Curve) (sound : (i : ℕ) → Concave (curve i)) where
  -- interval i as a part of the plan
  abbrev part_at : ℕ → Part
  part_at i = record { share = share i; curve = curve i }

  -- interval i filled up to a corner
  abbrev stage_at : (ℕ → Curve) → ℕ → Stage
  stage_at now i = record { share = share i; curve = curve i; now = now i }

  -- the stall of all intervals filled up to these corners
  abbrev pub stall_of : (ℕ → Curve) → ℕ
  stall_of now = base_stall n share (λ i. (now i).first.stall)

  -- a walk and the placement that it fills, with the certificates, for so many requests, from a stall on
  pub record Outcome (requests stall : ℕ) (x : ℕ → ℕ) (w : Walk) : Type 0 where
    pub last : ℕ
    pub excess : ℕ → ℕ
    pub positive : 1 ≤ w.run
    pub certificates : (i : ℕ) → Certificate w.rise w.run last i (part_at i) (excess i) (x i)
    pub within : sum_from 0 n x ≤ requests
    pub spent : (sum_from 0 n x ≡ requests) ⊎ ((w.rise ≡ 0) × (n ≤ last))
    pub worth :
        w.rise * sum_from 0 n x + sum_from 0 n (λ i. share i * excess i)
        ≡ w.run * (stall + w.whole) + w.rise * w.left

  -- at a price whose line goes through the corners, stall and requests are worth the same but for the excesses
  worth_now : (p d : ℕ) (now : ℕ → Curve) (x : ℕ → ℕ)
      → ((i : ℕ) → Tight p d (excess_at p d (now i).first) (now i).first)
      → ((i : ℕ) → x i ≡ share i * (now i).first.rate)
      → d * stall_of now ≡ p * sum_from 0 n x + sum_from 0 n (λ i. share i * excess_at p d (now i).first)
  worth_now p d now x tight placed =
      sum_linear
      0
      n
      p
      d
      (λ i. share i * (now i).first.stall)
      x
      (λ i. share i * excess_at p d (now i).first)
      (λ i. omega (arith, ap (λ (m : ℕ). share i * m) (tight i), ap (λ (m : ℕ). p * m) (placed i)))

  along_none : (R : Corner → Corner → Type 0) (a : Corner) (cs : List Corner) → cs ≡ [] → Along R a cs
  along_none R a cs none = subst (λ (bs : List Corner). Along R a bs) (sym none) tt

  at_end : (now : ℕ → Curve) → Reached 0 1 n curve now → Order now [] → (i : ℕ) → At 0 1 n i (stage_at now i)
  at_end now reached done i =
      record {
        sound = sound i;
        reached = reached i;
        remaining = along_none (Ahead 0 1 n i) (now i).first (now i).rest (done i);
      }

  -- nothing is left to fill
  end : (now : ℕ → Curve) (requests : ℕ) (x : ℕ → ℕ)
      → Reached 0 1 n curve now
      → Order now []
      → ((i : ℕ) → x i ≡ share i * (now i).first.rate)
      → Outcome (sum_from 0 n x + requests) (stall_of now) x (record { whole = 0; left = requests; rise = 0; run = 1 })
  end now requests x reached done placed =
      let at = at_end now reached done in
      let tight : (i : ℕ) → Tight 0 1 (excess_at 0 1 (now i).first) (now i).first =
      λ i. stage_tight 0 1 n i (stage_at now i) (at i) in
      record {
        last = n;
        excess = λ i. excess_at 0 1 (now i).first;
        positive = le_refl 1;
        certificates =
            λ i.
            subst
            (λ (m : ℕ). Certificate 0 1 n i (part_at i) (excess_at 0 1 (now i).first) m)
            (sym (placed i))
            (corner_certificate 0 1 n i (stage_at now i) (at i));
        within = le-add_right (sum_from 0 n x) requests;
        spent = inr (refl, le_refl n);
        worth = omega (arith, worth_now 0 1 now x tight placed);
      }

  -- the rates of what is left rise
  now_up : (p d k : ℕ) (now : ℕ → Curve) → Reached p d k curve now → (i : ℕ) → Rising (now i).first (now i).rest
  now_up p d k now reached i = passed_rising _ _ _ _ (sound i).rising (reached i)

  -- and the slopes of what is left fall
  now_falls : (p d k : ℕ) (now : ℕ → Curve) → Reached p d k curve now → (i : ℕ) → Falling (now i).first (now i).rest
  now_falls p d k now reached i = passed_falling _ _ _ _ (sound i).falling (reached i)

  -- the run of the next segment is at least 1
  next_run : (now : ℕ → Curve) (s : Pick) → Reached s.rise s.run s.interval curve now → Next now s → 1 ≤ s.run
  next_run now s reached next =
      picked_run
      s
      (now s.interval).first
      (now s.interval).rest
      (now_up s.rise s.run s.interval now reached s.interval)
      next.picked

  at_stop : (now : ℕ → Curve) (s : Pick)
      → Reached s.rise s.run s.interval curve now
      → Next now s
      → (i : ℕ)
      → At s.rise s.run s.interval i (stage_at now i)
  at_stop now s reached next i =
      record {
        sound = sound i;
        reached = reached i;
        remaining =
            along_heads
            s.rise
            s.run
            s.interval
            i
            (now i).first
            (now i).rest
            (next_run now s reached next)
            (now_up s.rise s.run s.interval now reached i)
            (now_falls s.rise s.run s.interval now reached i)
            (next.heads i);
      }

  -- beyond the last interval nothing is left to fill
  abbrev Ends : (ℕ → Curve) → Type 0
  Ends now = Nothing (λ i. n ≤ i) now

  more_same : (k c : ℕ) (x : ℕ → ℕ) → more k c x k ≡ x k + c
  more_same k c x = rw (eq-eqb k k refl)

  more_other : (k c i : ℕ) (x : ℕ → ℕ) → (i ≡ k → ⊥) → more k c x i ≡ x i
  more_other k c i x other = rw (ne_eqb i k other)

  more_sum : (k c : ℕ) (x : ℕ → ℕ) → k < n → sum_from 0 n (more k c x) ≡ sum_from 0 n x + c
  more_sum k c x inside =
      sum_change 0 n k c x (more k c x) zero-le (omega (arith, inside)) (more_same k c x) (λ j other. more_other k c j x other)

  stop_certificates : (now : ℕ → Curve) (s : Pick) (requests : ℕ) (x : ℕ → ℕ)
      → (at : (i : ℕ) → At s.rise s.run s.interval i (stage_at now i))
      → Next now s
      → ((i : ℕ) → x i ≡ share i * (now i).first.rate)
      → requests ≤ share s.interval * s.run
      → (i : ℕ)
      → Certificate s.rise s.run s.interval i (part_at i) (excess_at s.rise s.run (now i).first) (more s.interval requests x i)
  stop_certificates now s requests x at next placed fits i =
      let k = s.interval in
      let Shown : ℕ → ℕ → Type 0 =
      λ j m. Certificate s.rise s.run k j (part_at j) (excess_at s.rise s.run (now j).first) m in
      ⊎_elim
      (λ e.
      subst
      (λ (j : ℕ). Shown j (more k requests x j))
      (sym e)
      (subst
      (λ (m : ℕ). Shown k m)
      (sym (more_same k requests x ∙ ap (λ (m : ℕ). m + requests) (placed k)))
      (stop_certificate s (share k) requests (curve k) (now k).first (now k).rest (at k) next.picked fits)))
      (λ other.
      subst
      (λ (m : ℕ). Shown i m)
      (sym (more_other k requests i x other ∙ placed i))
      (corner_certificate s.rise s.run k i (stage_at now i) (at i)))
      (eq_or_ne i k)

  -- the requests run out in the next segment
  stop : (now : ℕ → Curve) (s : Pick) (requests : ℕ) (x : ℕ → ℕ)
      → Reached s.rise s.run s.interval curve now
      → Next now s
      → Ends now
      → ((i : ℕ) → x i ≡ share i * (now i).first.rate)
      → requests ≤ share s.interval * s.run
      → Outcome
      (sum_from 0 n x + requests)
      (stall_of now)
      (more s.interval requests x)
      (record { whole = 0; left = requests; rise = s.rise; run = s.run })
  stop now s requests x reached next ends placed fits =
      let at = at_stop now s reached next in
      let tight : (i : ℕ) → Tight s.rise s.run (excess_at s.rise s.run (now i).first) (now i).first =
      λ i. stage_tight s.rise s.run s.interval i (stage_at now i) (at i) in
      let sums = more_sum s.interval requests x (next_below n now s ends next) in
      record {
        last = s.interval;
        excess = λ i. excess_at s.rise s.run (now i).first;
        positive = next_run now s reached next;
        certificates = stop_certificates now s requests x at next placed fits;
        within = le_of_eq sums;
        spent = inl sums;
        worth =
            omega (
              arith,
              worth_now s.rise s.run now x tight placed,
              ap (λ (m : ℕ). s.rise * m) sums,
            );
      }

  -- what is reached at one level is reached at the next
  reached_follows : (p d k p' d' k' : ℕ) (now : ℕ → Curve)
      → 1 ≤ d
      → 1 ≤ d'
      → Follows p d k p' d' k'
      → Reached p d k curve now
      → Reached p' d' k' curve now
  reached_follows p d k p' d' k' now positive positive' after reached i =
      passed_map
      (curve i).first
      (now i).first
      (curve i).rest
      (now i).rest
      (sound i).rising
      (λ a b up h. beyond_follows p d k p' d' k' i a b positive positive' after up h)
      (reached i)

  -- the level of the order after its first segment is reached once that is filled
  reached_next : (now : ℕ → Curve) (s : Pick) (o : List Pick)
      → Reached s.rise s.run s.interval curve now
      → Next now s
      → Ends now
      → Order (advance s.interval now) o
      → Reached (level_rise o) (level_run o) (level_at n o) curve (advance s.interval now)
  reached_next now s [] reached next ends order =
      reached_follows
      s.rise
      s.run
      s.interval
      0
      1
      n
      (advance s.interval now)
      (next_run now s reached next)
      (le_refl 1)
      (follows_end s n (next_below n now s ends next))
      (pass curve now s reached next)
  reached_next now s (s' ∷ o) reached next ends order =
      let falls = now_falls s.rise s.run s.interval now reached s.interval in
      let passed = pass curve now s reached next in
      let later = advance s.interval now in
      let up = now_up s.rise s.run s.interval later passed s'.interval in
      reached_follows
      s.rise
      s.run
      s.interval
      s'.rise
      s'.run
      s'.interval
      later
      (next_run now s reached next)
      (picked_run s' (later s'.interval).first (later s'.interval).rest up order.0.picked)
      (follows now s s' falls next order.0)
      passed

  -- what is placed after a segment is filled whole
  placed_next : (now : ℕ → Curve) (s : Pick) (x : ℕ → ℕ)
      → Next now s
      → ((i : ℕ) → x i ≡ share i * (now i).first.rate)
      → (i : ℕ)
      → more s.interval (share s.interval * s.run) x i ≡ share i * (advance s.interval now i).first.rate
  placed_next now s x next placed i =
      let k = s.interval in
      ⊎_elim
      (λ e.
      subst
      (λ (j : ℕ). more k (share k * s.run) x j ≡ share j * (advance k now j).first.rate)
      (sym e)
      (more_same k (share k * s.run) x
      ∙ ap (λ (m : ℕ). m + share k * s.run) (placed k)
      ∙ picked_rate s (share k) (now k).first (now k).rest next.picked
      ∙ ap (λ (c : Curve). share k * c.first.rate) (sym (advance_same k now))))
      (λ other.
      more_other k (share k * s.run) i x other
      ∙ placed i
      ∙ ap (λ (c : Curve). share i * c.first.rate) (sym (advance_other k i now other)))
      (eq_or_ne i k)

  -- and its stall
  stall_next : (now : ℕ → Curve) (s : Pick)
      → Next now s
      → s.interval < n
      → stall_of (advance s.interval now) ≡ stall_of now + share s.interval * s.rise
  stall_next now s next inside =
      let k = s.interval in
      sum_change
      0
      n
      k
      (share k * s.rise)
      (λ i. share i * (now i).first.stall)
      (λ i. share i * (advance k now i).first.stall)
      zero-le
      (omega (arith, inside))
      (ap (λ (c : Curve). share k * c.first.stall) (advance_same k now)
      ∙ picked_stall s (share k) (now k).first (now k).rest next.picked)
      (λ j other. ap (λ (c : Curve). share j * c.first.stall) (advance_other k j now other))

  -- a segment is filled whole, and the filling goes on
  further : (now : ℕ → Curve) (s : Pick) (requests : ℕ) (x y : ℕ → ℕ) (w : Walk)
      → Next now s
      → s.interval < n
      → share s.interval * s.run < requests
      → Outcome
      (sum_from 0 n (more s.interval (share s.interval * s.run) x)
      + (requests - share s.interval * s.run))
      (stall_of (advance s.interval now))
      y
      w
      → Outcome (sum_from 0 n x + requests) (stall_of now) y (raised (share s.interval * s.rise) w)
  further now s requests x y w next inside enough later =
      let sums = more_sum s.interval (share s.interval * s.run) x inside in
      let all :
      sum_from 0 n (more s.interval (share s.interval * s.run) x)
      + (requests - share s.interval * s.run)
      ≡ sum_from 0 n x + requests = omega (arith, sums, enough) in
      record {
        last = later.last;
        excess = later.excess;
        positive = later.positive;
        certificates = later.certificates;
        within = subst (λ (m : ℕ). sum_from 0 n y ≤ m) all later.within;
        spent = ⊎_elim (λ e. inl (e ∙ all)) (λ h. inr h) later.spent;
        worth =
            omega (
              arith,
              later.worth,
              ap (λ (m : ℕ). w.run * m) (stall_next now s next inside),
            );
      }

  -- filling by an order of all segments that are left gives a certified placement
  pub filled : (o : List Pick) (now : ℕ → Curve) (requests : ℕ) (x : ℕ → ℕ)
      → Reached (level_rise o) (level_run o) (level_at n o) curve now
      → Order now o
      → Ends now
      → ((i : ℕ) → x i ≡ share i * (now i).first.rate)
      → Outcome (sum_from 0 n x + requests) (stall_of now) (fill share o requests x) (walk share o requests)
  unfolding fill walk
  filled [] now requests x reached order ends placed = end now requests x reached order placed
  filled (s ∷ o) now requests x reached order ends placed =
      let k = s.interval in
      let cap = share k * s.run in
      let inside = next_below n now s ends order.0 in
      ⊎_elim
      (λ fits. rw (le-leb requests cap fits) (stop now s requests x reached order.0 ends placed fits))
      (λ enough.
      rw
      (lt-leb requests cap enough)
      (further
      now
      s
      requests
      x
      (fill share o (requests - cap) (more k cap x))
      (walk share o (requests - cap))
      order.0
      inside
      enough
      (filled
      o
      (advance k now)
      (requests - cap)
      (more k cap x)
      (reached_next now s o reached order.0 ends order.1)
      order.1
      (advance_nothing (λ i. n ≤ i) s.interval now ends)
      (placed_next now s x order.0 placed))))
      (le_or_lt requests cap)
