-- A session ends: its undurable operations are lost, and the log facts and the images of the others go on agreeing.
use Rattle.std.proofs.Common.{◌≡◌, ◌≢◌, refl, sym, ap, subst, ◌∙◌, inl, inr, ◌⊎◌, arith, ℕ, suc, zero, Bool, true, false, not, ◌&&◌, cond, T, ◌≤◌, ◌<◌, List, [], ◌∷◌, ◌++◌}
use Rattle.std.specs.Prelude.{◌==◌, Option, None, Some, is_some}
use Rattle.std.specs.List.{filter}
use Rattle.std.specs.Ordering.{nat_cmp}
use Rattle.std.specs.FinMap.{is_sorted}
use Rattle.std.specs.FinMap.Entries.{below_all}
use Rattle.std.proofs.lemmas.Bool.{cases_eq}
use Rattle.ec_base.specs.Tables.{at}
use Rattle.ec_base.specs.declared.ids.Hold.{Hold}
use Rattle.ec_base.specs.declared.ids.Hold.TheVariants.{Free, Read, Write}
use Rattle.ec_volume.specs.Image.{is_gone}
use Rattle.ec_volume.specs.Update.{operands, has_operand, is_sound, effect}
use Rattle.ec_volume.specs.Volume.{images, image_next, image_after, after}
use Rattle.ec_volume.specs.declared.image.Image.{Image}
use Rattle.ec_history.specs.History.{Each, Op, updates, of_start}
use Rattle.ec_history.specs.OfLaws.Needs.{holds_needed}
use Rattle.ec_history.proofs.OfLaws.ForPlacing.Parts.{needs-part}
use Rattle.ec_history.proofs.OfLaws.ForPlacing.Pulled.{pulled-fit_alone}
use Rattle.ec_sessions.specs.declared.slot.Slot.{Slot}
use Rattle.ec_base.specs.Holds.{rank, clash}
use Rattle.ec_wire.specs.Messages.{is_held_mode}
use Rattle.ec_wire.specs.declared.msg.Msg.{Msg}
use Rattle.ec_wire.specs.declared.msg.Msg.TheVariants.{Flush, Room}
use Rattle.ec_durable.specs.Durable.{slot}
use Rattle.ec_durable.specs.declared.state.Durable.{Durable}
use Rattle.ec_cache.specs.Cache.{last}
use Rattle.ec_cache.specs.declared.state.Held.{Held}
use Rattle.ec_protocol.specs.declared.clerk.Clerk.{Clerk}
use Rattle.ec_protocol.specs.declared.server.Server.{Server}
use Rattle.ec_coherence.specs.System.{System, Ghost, Eff, clerk_in, is_open, is_of, seen, seen_ops}
use Rattle.ec_coherence.specs.Sessions.{SessionsAgree}
use Rattle.ec_coherence.specs.Tokens.{TokensAgree, view, eff, eff_hold, side, side_in, Below, IsWrite}
use Rattle.ec_coherence.specs.Log as log
use Rattle.ec_coherence.specs.Log.{Knows, LogAgrees, LogsAgree, HasWrites, IdsAgree, IsNumbered, OfOpen, InSession, mine, numbered, next_of}
use Rattle.ec_coherence.specs.Images.{ImagesAgree}
use Rattle.ec_coherence.specs.Steps.{end_session}
use Rattle.ec_coherence.proofs.ForBatches.ClerkIn.{owned}
use Rattle.ec_coherence.proofs.ForServer.Lists.{either_way, filter-two, filter-alike, filter-no, filter-yes, each-turn, each-more, each-part, each-fewer, each-at, each-always, Needed, needed-pairs, pairs-needed, pairs-turn, pairs-both, pairs-each}
use Rattle.ec_coherence.proofs.ForBatches.OneSession.{write-eff, one-session, needs-shares}
use Rattle.ec_coherence.proofs.ForBatches.OpenSlots.{open-at, at-open, one-owner}
use Rattle.ec_coherence.proofs.ForServer.Tables.{same_some, differ}
use Rattle.ec_base.proofs.Bools.{left as and_first, not-both as no_both, and-both as and_both, same_tests, right as and_next, no-longer as is-false}
use Rattle.ec_base.proofs.Numbers.{same-self as same}
use Rattle.ec_base.proofs.Options.{none_some}

-- Parts of rising operations rise.

part-below : (p : Op → Bool) (n : ℕ) (os : List Op) → T (below_all nat_cmp n (numbered os)) → T (below_all nat_cmp n (numbered (filter p os)))
part-below p n [] h = tt
part-below p n (o ∷ os) h = go (p o) (part-below p n os (and_next (Rattle.std.specs.Ordering.is_lt (nat_cmp n o.number)) (below_all nat_cmp n (numbered os)) h))
  where
    go : (b : Bool) → T (below_all nat_cmp n (numbered (filter p os))) → T (below_all nat_cmp n (numbered (cond b (o ∷ filter p os) (filter p os))))
    go true r = and_both (Rattle.std.specs.Ordering.is_lt (nat_cmp n o.number)) (below_all nat_cmp n (numbered (filter p os))) (and_first (Rattle.std.specs.Ordering.is_lt (nat_cmp n o.number)) _ h) r
    go false r = r

pub part-rises : (p : Op → Bool) (os : List Op) → T (is_sorted nat_cmp (numbered os)) → T (is_sorted nat_cmp (numbered (filter p os)))
part-rises p [] h = tt
part-rises p (o ∷ os) h = go (p o) (part-rises p os (and_next (below_all nat_cmp o.number (numbered os)) (is_sorted nat_cmp (numbered os)) h))
  where
    go : (b : Bool) → T (is_sorted nat_cmp (numbered (filter p os))) → T (is_sorted nat_cmp (numbered (cond b (o ∷ filter p os) (filter p os))))
    go true r = and_both (below_all nat_cmp o.number (numbered (filter p os))) (is_sorted nat_cmp (numbered (filter p os))) (part-below p o.number os (and_first (below_all nat_cmp o.number (numbered os)) _ h)) r
    go false r = r

-- What is left without operations that don't touch an object.

pub untouched-after : (keep : Op → Bool) (x : ℕ) (i : Image) (os : List Op) → Each (λ o. T (not (keep o)) → T (not (has_operand x o.update))) os → image_after x i (updates (filter keep os)) ≡ image_after x i (updates os)
untouched-after keep x i [] h = refl
untouched-after keep x i (o ∷ os) h = go (keep o) refl (λ j. untouched-after keep x j os h.1)
  where
    go : (b : Bool) → keep o ≡ b → ((j : Image) → image_after x j (updates (filter keep os)) ≡ image_after x j (updates os)) → image_after x i (updates (filter keep (o ∷ os))) ≡ image_after x (image_next x i o.update) (updates os)
    go true e r = ap (λ z. image_after x i (updates z)) (filter-yes keep o os e) ∙ r (image_next x i o.update)
    go false e r = ap (λ z. image_after x i (updates z)) (filter-no keep o os e) ∙ r i
        ∙ ap (λ j. image_after x j (updates os)) (sym (ap (λ b. cond b (effect o.update x i) i) (is-false (has_operand x o.update) (h.0 (subst (λ b. T (not b)) (sym e) tt)))))

-- none of these touches it, or one does
touched-or : (lost : Op → Bool) (x : ℕ) (P : Op → Type 0) (os : List Op) → Each P os → Each (λ o. T (lost o) → T (not (has_operand x o.update))) os ⊎ ((o : Op) × P o × T (lost o) × T (has_operand x o.update))
touched-or lost x P [] h = inl tt
touched-or lost x P (o ∷ os) h = elim (either_way (lost o)) [
  | inr n ↦ elim (touched-or lost x P os h.1) [ inl f ↦ inl ((λ t. absurd (no_both (lost o) t n)), f) | inr q ↦ inr q ]
  | inl l ↦ elim (either_way (has_operand x o.update)) [
    | inl m ↦ inr (o, h.0, l, m)
    | inr n ↦ elim (touched-or lost x P os h.1) [ inl f ↦ inl ((λ t. n), f) | inr q ↦ inr q ]
  ]
]

-- Where one session has a Write token, another one holds nothing.
module _ (g : System) (ta : TokensAgree (view g)) where
  pub holds-none : (s t x : ℕ) (k m : Clerk) (o : Held) → s ≢ t → T (is_open g s) → T (is_open g t) → clerk_in g s ≡ Some k → clerk_in g t ≡ Some m → IsWrite (at x k.cache.held) → at x m.cache.held ≡ Some o → ⊥
  holds-none s t x k m o d so to is it w p =
      clashes o.hold (eff_hold (eff (view g) s x)) (eff_hold (eff (view g) t x)) (ta.holds t x (side m) (ap side_in it) o p) (reach (at x m.cache.held) (eff (view g) t x) p (ta.below t x (side m) (ap side_in it))) (write-eff g ta s x k is w) (ta.exclusive s t x d so to)
    where
      reach : (z : Option Held) (f : Option Eff) → z ≡ Some o → Below (m.epoch) (last x m.cache) z f → rank o.hold ≤ rank (eff_hold f)
      reach None f e b = absurd (none_some e)
      reach (Some z) None e b = absurd b
      reach (Some z) (Some f) e b = subst (λ w. rank w.hold ≤ rank f.hold) (same_some e) b.0

      clashes : (a e f : Hold) → T (is_held_mode a) → rank a ≤ rank f → 2 ≤ rank e → T (not (clash e f)) → ⊥
      clashes Free e f t l w n = absurd t
      clashes a Free f t l w n = absurd (omega arith)
      clashes a Read f t l w n = absurd (omega arith)
      clashes Read Write Free t l w n = absurd (omega arith)
      clashes Write Write Free t l w n = absurd (omega arith)
      clashes a Write Read t l w n = n
      clashes a Write Write t l w n = n

module _ (g : System) (sa : SessionsAgree g) (ta : TokensAgree (view g)) (lo : LogsAgree g) (im : ImagesAgree g) (c s : ℕ) (sl : Slot) (here : slot g.durable c ≡ Some sl) (of : sl.session ≡ s) (opened : T sl.is_open)
    -- the durable state behind it, and what is sent
    (d : Durable) (v : Option Server) (ms : List (ℕ × Msg)) (volume : d.volume ≡ (g.durable).volume) (next_id : d.next_id ≡ (g.durable).next_id) (others : (j : ℕ) → j ≢ c → slot d j ≡ slot g.durable j)
    (ended : (sm : Slot) → slot d c ≡ Some sm → T sm.is_open → ⊥) where
  abbrev pub ghost : Ghost
  ghost = end_session g s g.ghost

  abbrev pub h : System
  h = record g { durable = d; server = v; pool = g.pool ++ ms; ghost = ghost }

  abbrev ks : List Op
  ks = g.ghost.kept

  abbrev dur : Op → Bool
  dur = g.ghost.is_durable

  abbrev own : Op → Bool
  own = is_of (g.ghost.owner s)

  abbrev lost : Op → Bool
  lost o = own o && not (dur o)

  abbrev keep : Op → Bool
  keep o = not (lost o)

  session-open : T (is_open g s)
  session-open = at-open s (g.durable).sessions c sl (here, of, opened)

  -- sessions that are open then
  was : (t j : ℕ) (sm : Slot) → slot d j ≡ Some sm → sm.session ≡ t → T sm.is_open → (slot g.durable j ≡ Some sm) × (t ≢ s)
  was t j sm p q r = elim (cases_eq j c) [
    | inl e ↦ absurd (ended sm (ap (slot d) (sym e) ∙ p) r)
    | inr n ↦
        let p' : slot g.durable j ≡ Some sm = sym (others j n) ∙ p in
        (p', λ e. absurd (n (ap (λ w. w.0) (same_some (sym (ap g.ghost.owner (sym q) ∙ (sa.slots j sm p').2) ∙ ap g.ghost.owner e ∙ ap g.ghost.owner (sym of) ∙ (sa.slots c sl here).2)))))
  ]

  still-open : (t : ℕ) → t ≢ s → T (is_open g t) → T (is_open h t)
  still-open t n o =
      let q = open-at t (g.durable).sessions o in
      at-open t d.sessions q.0 q.1 (others q.0 (λ e. absurd (n (sym (q.2).1 ∙ ap (λ z. z.session) (same_some (sym (q.2).0 ∙ ap (slot g.durable) e ∙ here)) ∙ of))) ∙ (q.2).0, (q.2).1, (q.2).2)

  was-open : (t : ℕ) → T (is_open h t) → T (is_open g t) × (t ≢ s)
  was-open t o = let q = open-at t d.sessions o in let f = was t q.0 q.1 (q.2).0 (q.2).1 (q.2).2 in (at-open t (g.durable).sessions q.0 q.1 (f.0, (q.2).1, (q.2).2), f.1)

  -- an undurable operation of another session stays
  not-own : (o : Op) (w : HasWrites g o) → w.session ≢ s → T (own o) → ⊥
  not-own o w n t = absurd (n (one-owner g sa w.session s o w.is_open session-open w.own t))

  own-session : (o : Op) (w : HasWrites g o) → T (own o) → w.session ≡ s
  own-session o w t = one-owner g sa w.session s o w.is_open session-open w.own t

  writes' : Each (λ o. T (not (dur o)) → HasWrites h o) (filter keep ks)
  writes' = each-part (λ o. T (not (dur o)) → HasWrites h o) keep ks (each-turn (λ o. T (not (dur o)) → HasWrites g o) (λ o. T (keep o) → T (not (dur o)) → HasWrites h o) ks
      (λ o f t n.
      let w = f n in
      let other : w.session ≢ s = λ e. absurd (no_both (lost o) (and_both (own o) (not (dur o)) (subst (λ z. T (is_of (g.ghost.owner z) o)) e w.own) n) t) in
      record { session = w.session; clerk = w.clerk; in_place = w.in_place; is_open = still-open w.session other w.is_open; own = w.own; writes = w.writes }) lo.writes)

  -- of the other open sessions nothing is lost
  stays : (t j : ℕ) (sm : Slot) → slot g.durable j ≡ Some sm → sm.session ≡ t → T sm.is_open → t ≢ s → (o : Op) → T (is_of (g.ghost.owner t) o) → T (keep o)
  stays t j sm p q r n o f = elim (either_way (lost o)) [
    | inr z ↦ z
    | inl z ↦ absurd (n (one-owner g sa t s o (at-open t (g.durable).sessions j sm (p, q, r)) session-open f (and_first (own o) _ z)))
  ]

  part-same : (q : Op → Bool) → ((o : Op) → T (q o) → T (keep o)) → filter q (filter keep ks) ≡ filter q ks
  part-same q f = filter-two q keep ks ∙ filter-alike (λ o. keep o && q o) q ks (each-always (λ o. (keep o && q o) ≡ q o) ks (λ o. same_tests (keep o && q o) (q o) (λ t. and_next (keep o) (q o) t) (λ t. and_both (keep o) (q o) (f o t) t)))

  logs' : (t : ℕ) → OfOpen h t (λ sm. InSession h t (LogAgrees h t sm))
  logs' t j sm p q r m i =
      let z = was t j sm p q r in
      let f : LogAgrees g t sm m = lo.logs t j sm z.0 q r m i in
      record {
        knows = subst (λ os. Knows m.log sm.window os dur) (sym (part-same (is_of (g.ghost.owner t)) (stays t j sm z.0 q r z.1))) f.knows;
        ids = subst (IdsAgree m sm (g.ghost.grants t) (g.ghost.first t)) (sym (part-same (λ o. is_of (g.ghost.owner t) o && not (dur o)) (λ o y. stays t j sm z.0 q r z.1 o (and_first (is_of (g.ghost.owner t) o) _ y)))) f.ids;
      }

  starts' : (e a : ℕ) → IsNumbered ghost e a (next_of (g.clerks e a))
  starts' e a = let f = lo.starts e a in record {
    from_one = f.from_one;
    sorted = subst (λ os. T (is_sorted nat_cmp (numbered os))) (filter-two keep (of_start e a) ks ∙ filter-alike (λ o. of_start e a o && keep o) (λ o. keep o && of_start e a o) ks (each-always (λ o. (of_start e a o && keep o) ≡ (keep o && of_start e a o)) ks (λ o. turn (of_start e a o) (keep o))) ∙ sym (filter-two (of_start e a) keep ks))
        (part-rises keep (filter (of_start e a) ks) f.sorted);
    numbers = each-fewer (λ o. T (of_start e a o) → (suc zero ≤ o.number) × (o.number < next_of (g.clerks e a))) keep ks f.numbers;
    none_later = f.none_later;
  }
    where
      turn : (a b : Bool) → (a && b) ≡ (b && a)
      turn true true = refl
      turn true false = refl
      turn false true = refl
      turn false false = refl

  fit-kept : (m : Msg) → log.Fits g m → log.Fits h m
  fit-kept (Flush t a b os) f = λ j sm p q r. f j sm (was t j sm p q r).0 q r
  fit-kept (Room t a got ask) f = λ j sm p q r. f j sm (was t j sm p q r).0 q r
  fit-kept _ f = f

  pub end-logs : Each (λ m. log.Fits h m.1) ms → LogsAgree h
  end-logs new = record {
    writes = writes';
    logs = logs';
    starts = starts';
    closed = needs-part (λ o. o.update) dur keep ks lo.closed;
    unopened = lo.unopened;
    untaken = λ t j sm p q r. lo.untaken t j sm (was t j sm p q r).0 q r;
    messages = each-more (λ m. log.Fits h m.1) g.pool ms (each-turn (λ m. log.Fits g m.1) (λ m. log.Fits h m.1) g.pool (λ m f. fit-kept m.1 f) lo.messages) new;
    unspent = λ t x j sm p q r m. let f = lo.unspent t x j sm (was t j sm p q r).0 q r m in (subst (λ y. x < y) (sym next_id) f.0, subst (λ y. T (is_gone (images y x))) (sym volume) f.1);
    once = λ t j sm p q r. lo.once t j sm (was t j sm p q r).0 q r;
    apart = λ t u x n j sm p q r i sn p' q' r'. lo.apart t u x n j sm (was t j sm p q r).0 q r i sn (was u i sn p' q' r').0 q' r';
    whole = λ t x j sm p q r. lo.whole t x j sm (was t j sm p q r).0 q r;
  }

  -- Images.

  abbrev Writes : Op → Type 0
  Writes o = T (not (dur o)) → HasWrites g o

  -- what is kept needs nothing of what is lost
  left-needed : T (holds_needed (λ o. o.update) keep ks)
  left-needed = pairs-needed (λ o. o.update) keep ks (pairs-turn (λ x y. Needed (λ o. o.update) dur x y × (Writes x × Writes y)) (Needed (λ o. o.update) keep) ks one
      (pairs-both (Needed (λ o. o.update) dur) (λ x y. Writes x × Writes y) ks (needed-pairs (λ o. o.update) dur ks lo.closed) (pairs-each Writes ks lo.writes)))
    where
      one : (x y : Op) → Needed (λ o. o.update) dur x y × (Writes x × Writes y) → Needed (λ o. o.update) keep x y
      one x y (r, (wx, wy)) t u = elim (either_way (lost x)) [
        | inr n ↦ n
        | inl l ↦
            let nx = and_next (own x) (not (dur x)) l in
            elim (either_way (dur y)) [
              | inl e ↦ absurd (no_both (dur x) (r e u) nx)
              | inr e ↦
                  let es : (wy e).session ≡ s = sym (one-session g ta x y (wx nx) (wy e) (needs-shares x.update y.update u)) ∙ own-session x (wx nx) (and_first (own x) _ l) in
                  absurd (no_both (lost y) (and_both (own y) (not (dur y)) (subst (λ z. T (is_of (g.ghost.owner z) y)) es (wy e).own) e) t)
            ]
      ]

  -- what another open session holds was touched by nothing that is lost
  untouched : (t x : ℕ) (m : Clerk) (o : Held) → t ≢ s → T (is_open g t) → clerk_in g t ≡ Some m → at x (m.cache).held ≡ Some o → Each (λ p. T (not (keep p)) → T (not (has_operand x p.update))) ks
  untouched t x m o n to i p = each-turn Writes (λ p. T (not (keep p)) → T (not (has_operand x p.update))) ks (λ a f z. elim (either_way (has_operand x a.update)) [
    | inr y ↦ y
    | inl y ↦
        let l = twice (lost a) z in
        let w = f (and_next (own a) (not (dur a)) l) in
        let es = own-session a w (and_first (own a) _ l) in
        absurd (holds-none g ta w.session t x w.clerk m o (λ e. absurd (n (sym e ∙ es))) w.is_open to w.in_place i (each-at (λ y. IsWrite (at y ((w.clerk).cache).held)) x (operands a.update) w.writes y) p)
  ]) lo.writes
    where
      twice : (b : Bool) → T (not (not b)) → T b
      twice true t = tt
      twice false t = absurd t

  seen-other : (t x : ℕ) (m : Clerk) (o : Held) → t ≢ s → clerk_in g t ≡ Some m → at x (m.cache).held ≡ Some o → seen g t x ≡ seen h t x
  seen-other t x m o n i p = go (g.ghost.frozen t) refl (im.cut_off t (owned t (g.ghost.owner t) g.clerks m i)) ∙ sym (ap (λ b. after g.origin (updates (seen_ops (elim b as (λ z. Option (List Op)) [ true ↦ Some ks | false ↦ g.ghost.frozen t ]) (filter keep ks))) x) (differ t s n))
    where
      go : (z : Option (List Op)) → g.ghost.frozen t ≡ z → T (is_open g t) ⊎ T (is_some (g.ghost.frozen t)) → after g.origin (updates (seen_ops z ks)) x ≡ after g.origin (updates (seen_ops z (filter keep ks))) x
      go (Some z) e f = refl
      go None e (inr f) = absurd (subst (λ w. T (is_some w)) e f)
      go None e (inl f) = sym (untouched-after keep x (g.origin x) ks (untouched t x m o n f i p))

  seen-own : (x : ℕ) → seen g s x ≡ seen h s x
  seen-own x = ap (λ z. after g.origin (updates (seen_ops z ks)) x) (im.unfrozen s session-open)
      ∙ sym (ap (λ b. after g.origin (updates (seen_ops (elim b as (λ z. Option (List Op)) [ true ↦ Some ks | false ↦ g.ghost.frozen s ]) (filter keep ks))) x) (same s))

  frozen-other : (t : ℕ) → t ≢ s → ghost.frozen t ≡ g.ghost.frozen t
  frozen-other t n = ap (λ b. elim b as (λ z. Option (List Op)) [ true ↦ Some ks | false ↦ g.ghost.frozen t ]) (differ t s n)

  cut' : (t : ℕ) → T (is_some (g.ghost.owner t)) → T (is_open h t) ⊎ T (is_some (ghost.frozen t))
  cut' t i = elim (cases_eq t s) [
    | inl e ↦ inr (subst (λ b. T (is_some (elim b as (λ z. Option (List Op)) [ true ↦ Some ks | false ↦ g.ghost.frozen t ]))) (sym (ap (λ z. z == s) e ∙ same s)) tt)
    | inr n ↦ elim (im.cut_off t i) [ inl o ↦ inl (still-open t n o) | inr f ↦ inr (subst (λ z. T (is_some z)) (sym (frozen-other t n)) f) ]
  ]

  pub end-images : ImagesAgree h
  end-images = record {
    server = λ x. ap (λ z. images z x) volume ∙ im.server x ∙ ap (λ os. after g.origin (updates os) x) (sym (part-same dur (λ o t. elim (either_way (lost o)) [ inr z ↦ z | inl z ↦ absurd (no_both (dur o) t (and_next (own o) _ z)) ])));
    fits = pulled-fit_alone (λ o. o.update) g.origin keep ks left-needed im.fits;
    sound = each-fewer (λ o. T (is_sound o.update)) keep ks im.sound;
    origin = im.origin;
    origin_held = im.origin_held;
    licences = λ t x m i o p. im.licences t x m i o p ∙ elim (cases_eq t s) [ inl e ↦ subst (λ w. seen g w x ≡ seen h w x) (sym e) (seen-own x) | inr n ↦ seen-other t x m o n i p ];
    unfrozen = λ t o. let f = was-open t o in frozen-other t f.1 ∙ im.unfrozen t f.0;
    unopened = λ t e. frozen-other t (λ q. absurd (none_some (sym e ∙ ap g.ghost.owner q ∙ ap g.ghost.owner (sym of) ∙ (sa.slots c sl here).2))) ∙ im.unopened t e;
    cut_off = cut';
    known = λ x t. subst (λ y. x < y) (sym next_id) (elim (touched-or lost x (λ o. Each (λ x. x < (g.durable).next_id) (operands o.update)) ks im.operands) [
      | inl f ↦ im.known x (subst (λ z. T (not (is_gone z))) (untouched-after keep x (g.origin x) ks (each-turn (λ o. T (lost o) → T (not (has_operand x o.update))) (λ o. T (not (keep o)) → T (not (has_operand x o.update))) ks (λ o k z. k (twice (lost o) z)) f)) t)
      | inr q ↦ each-at (λ y. y < (g.durable).next_id) x (operands (q.0).update) q.1 q.3
    ]);
    operands = subst (λ y. Each (λ o. Each (λ x. x < y) (operands o.update)) (filter keep ks)) (sym next_id) (each-fewer (λ o. Each (λ x. x < (g.durable).next_id) (operands o.update)) keep ks im.operands);
  }
    where
      twice : (b : Bool) → T (not (not b)) → T b
      twice true t = tt
      twice false t = absurd t
