-- A batch of an open session that isn't marked steps on the durable state, and what it leaves.
use Rattle.std.proofs.Common.{◌≡◌, ◌≢◌, refl, sym, ap, subst, ◌∙◌, arith, ℕ, Bool, true, false, not, ◌&&◌, ◌||◌, T, ◌≤◌, ◌<◌, ◌+◌, ◌^◌, nat_lt, List, [], ◌∷◌, ◌++◌}
use Rattle.std.specs.Prelude.{◌==◌, nat_le, Some, Result, Ok, Err}
use Rattle.std.specs.List.{filter}
use Rattle.ec_base.specs.Tables.{at, keys}
use Rattle.ec_volume.specs.Update.{member, distinct, is_sound}
use Rattle.ec_volume.specs.Volume.{images, image_after, after, fits_in_turn, Fits}
use Rattle.ec_volume.specs.declared.update.Update.{Update}
use Rattle.ec_order.specs.Order.{share}
use Rattle.ec_history.specs.History.{Each, Op, updates}
use Rattle.ec_history.specs.OfLaws.Needs.{holds_needed}
use Rattle.ec_history.proofs.OfLaws.ForPlacing.Pulled.{next-after, next-fits}
use Rattle.ec_machine_laws.proofs.Logging.{within-window}
use Rattle.ec_sessions.specs.WindowLaws.{low_is_last}
use Rattle.ec_sessions.specs.Windows.{has, after_mark}
use Rattle.ec_sessions.specs.declared.window.Window.{Window}
use Rattle.ec_sessions.specs.declared.slot.Slot.{Slot}
use Rattle.ec_durable.specs.Durable.{slot, step, marked, operations, is_session, has_batch, is_beyond, low}
use Rattle.ec_durable.specs.declared.state.Durable.{Durable}
use Rattle.ec_durable.specs.declared.record.Record.TheVariants as record_of
use Rattle.ec_durable.specs.declared.record.RecordFault.{RecordFault}
use Rattle.ec_durable.specs.declared.record.RecordFault.TheVariants as fault
use Rattle.ec_log.specs.Log.{batch}
use Rattle.ec_log.specs.declared.state.LogState.{LogState}
use Rattle.ec_protocol.specs.declared.clerk.Clerk.{Clerk}
use Rattle.ec_coherence.specs.System.{System, clerk_in, is_of, is_open, undurable}
use Rattle.ec_coherence.specs.Sessions.{SessionsAgree}
use Rattle.ec_coherence.specs.Tokens.{TokensAgree, view}
use Rattle.ec_coherence.specs.Log.{Knows, LogAgrees, LogsAgree, HasWrites, mine, made_by}
use Rattle.ec_coherence.specs.Images.{ImagesAgree}
use Rattle.ec_coherence.proofs.ForBatches.Batched.{next, sent-next, sent-needed}
use Rattle.ec_coherence.proofs.ForBatches.Carried.{Carries, all-carry, all_carried, updates_in, less, slot-same, slot-other}
use Rattle.ec_coherence.proofs.ForBatches.Ids.{distinct-back, part-distinct, part-member, in-back}
use Rattle.ec_coherence.proofs.ForServer.Lists.{filter-two, filter-alike, each-always, each-at, each-member, each-fewer}
use Rattle.ec_coherence.proofs.ForBatches.OneSession.{one-session}
use Rattle.ec_coherence.proofs.ForBatches.OpenSlots.{at-open, one-owner}
use Rattle.ec_base.proofs.Numbers.{same-self as same}
use Rattle.ec_base.proofs.Bools.{first-false, and-both as and_both, right as and_next, no-longer as is-false, is-true, holds-true as holds}
use Rattle.ec_volume.proofs.Fitting.{image_joined as after-append, turns_joined as fits-append}

-- The window.

not-beyond : (low b next top : ℕ) → b ≤ low + 8 → (nat_le b low) ≡ false → b < next → next ≤ top + 1 → (nat_lt (low + 8) b || nat_le top low) ≡ false
not-beyond low b next top near above below limit = grind arith

module _ (l : LogState) (w : Window) (os : List Op) (is_durable : Op → Bool) (kn : Knows l w os is_durable) (b : ℕ) (ns : List ℕ) (under : at b l.batches ≡ Some ns) (unmarked : T (not (has w b))) where
  low-last : has w (w.low + 1) ≡ false
  low-last = let m = kn.marks in subst (λ v. has v (v.low + 1) ≡ false) (sym m.1) (low_is_last m.0)

  pub within : (nat_lt (w.low + 8) b || nat_le (2 ^ 62) w.low) ≡ false
  within = not-beyond w.low b l.next_batch (2 ^ 62) (within-window l kn.log w kn.window low-last b ns under) (first-false (nat_le b w.low) _ (is-false (has w b) unmarked)) (kn.log.below b ns under) kn.limit

step-batch : (c s b : ℕ) (ops : List (ℕ × Update)) (d e : Durable) → is_session s (slot d c) ≡ true → has_batch b (slot d c) ≡ false → is_beyond b (slot d c) ≡ false → operations c ops d ≡ Ok e
    → step (record_of.Batch c s b ops) d ≡ Ok (marked c b e)
step-batch c s b ops d e p q r o = go (is_session s (slot d c)) (has_batch b (slot d c)) (is_beyond b (slot d c)) (operations c ops d) p q r o
  where
    go : (x y z : Bool) (u : Result Durable RecordFault) → x ≡ true → y ≡ false → z ≡ false → u ≡ Ok e
        → elim x as (λ t. Result Durable RecordFault) [
          | false ↦ Err fault.NoSession
          | true ↦ elim y as (λ t. Result Durable RecordFault) [
            | true ↦ Err (fault.Done b)
            | false ↦ elim z as (λ t. Result Durable RecordFault) [ true ↦ Err (fault.Beyond (low (slot d c))) | false ↦ elim u as (λ t. Result Durable RecordFault) [ Err f ↦ Err f | Ok v ↦ Ok (marked c b v) ] ]
          ]
        ] ≡ Ok (marked c b e)
    go true false false u p q r o = ap (λ t. elim t as (λ t. Result Durable RecordFault) [ Err f ↦ Err f | Ok v ↦ Ok (marked c b v) ]) o
    go false y z u p q r o = absurd (cc)
    go true true z u p q r o = absurd (cc)
    go true false true u p q r o = absurd (cc)

pub record Commits (g : System) (c s b : ℕ) (ops : List (ℕ × Update)) (sl : Slot) (mine : Op → Bool) (d : Durable) : Type 0 where
  pub steps : step (record_of.Batch c s b ops) g.durable ≡ Ok d
  pub volume : (x : ℕ) → images d.volume x ≡ after g.origin (updates (filter (λ o. g.ghost.is_durable o || (mine o && member o.number (keys ops))) g.ghost.kept)) x
  pub images_next : (x : ℕ) → images d.volume x ≡ image_after x (images (g.durable).volume x) (updates_in ops)
  pub closed : T (holds_needed (λ o. o.update) (λ o. g.ghost.is_durable o || (mine o && member o.number (keys ops))) g.ghost.kept)
  pub own : slot d c ≡ Some (record sl { window = after_mark sl.window b; unspent = less (made_by (updates_in ops)) sl.unspent })
  pub others : (j : ℕ) → j ≢ c → slot d j ≡ slot g.durable j
  pub next_id : d.next_id ≡ (g.durable).next_id
  pub next_session : d.next_session ≡ (g.durable).next_session
  pub epoch : d.epoch ≡ (g.durable).epoch
  pub most : d.max_objects ≡ (g.durable).max_objects

module _ (g : System) (sa : SessionsAgree g) (ta : TokensAgree (view g)) (lo : LogsAgree g) (im : ImagesAgree g) (c s : ℕ) (sl : Slot) (k : Clerk)
    (here : slot g.durable c ≡ Some sl) (of : sl.session ≡ s) (opened : T sl.is_open) (there : clerk_in g s ≡ Some k)
    (b : ℕ) (ns : List ℕ) (under : at b k.log.batches ≡ Some ns) (unmarked : T (not (has sl.window b))) where
  abbrev ag : LogAgrees g s sl k
  ag = lo.logs s c sl here of opened k there

  abbrev pub own : Op → Bool
  own = is_of (g.ghost.owner s)

  abbrev ks : List Op
  ks = g.ghost.kept

  abbrev dur : Op → Bool
  dur = g.ghost.is_durable

  abbrev pub ops : List (ℕ × Update)
  ops = batch b k.log

  abbrev new : Op → Bool
  new o = own o && member o.number (keys ops)

  pub session-open : T (is_open g s)
  session-open = at-open s (g.durable).sessions c sl (here, of, opened)

  -- an undurable operation that shares an operand with one of the session is the session's
  pub alone : (x y : Op) → (T (not (dur x)) → HasWrites g x) → (T (not (dur y)) → HasWrites g y) → T (not (dur x)) → T (not (dur y)) → T (share x.update y.update) → T (own y) → T (own x)
  alone x y hx hy ux uy sh oy =
      let wx = hx ux in
      let wy = hy uy in
      let e : wx.session ≡ s = one-session g ta x y wx wy sh ∙ one-owner g sa wy.session s y wy.is_open session-open wy.own oy in
      subst (λ t. T (is_of (g.ghost.owner t) x)) e wx.own

  pub batch-needed : T (holds_needed (λ o. o.update) (λ o. dur o || new o) ks)
  batch-needed = sent-needed ks own dur k.log sl.window b ns ag.knows under unmarked (λ o. T (not (dur o)) → HasWrites g o) lo.writes alone lo.closed

  pub batch-updates : updates_in ops ≡ updates (filter (λ o. not (dur o) && new o) ks)
  batch-updates = sent-next ks own dur k.log sl.window b ns ag.knows under unmarked

  both-fit : Fits g.origin (updates (filter dur ks) ++ updates (filter (λ o. not (dur o) && new o) ks))
  both-fit = next-fits (λ o. o.update) g.origin dur new ks lo.closed batch-needed im.fits

  batch-fits : Fits (images (g.durable).volume) (updates_in ops)
  batch-fits x = subst (λ us. T (fits_in_turn x (images (g.durable).volume x) us)) (sym batch-updates) (subst (λ i. T (fits_in_turn x i (updates (filter (λ o. not (dur o) && new o) ks)))) (sym (im.server x))
      (and_next (fits_in_turn x (g.origin x) (updates (filter dur ks))) _ (subst T (fits-append x (g.origin x) (updates (filter dur ks)) (updates (filter (λ o. not (dur o) && new o) ks))) (both-fit x))))

  -- the batch's operations are among the undurable ones of the session
  still-part : filter (λ o. not (dur o) && new o) ks ≡ filter (λ o. member o.number (keys ops)) (undurable g.ghost s)
  still-part = sym (filter-two (λ o. member o.number (keys ops)) (λ o. own o && not (dur o)) ks
      ∙ filter-alike (λ o. (own o && not (dur o)) && member o.number (keys ops)) (λ o. not (dur o) && new o) ks (each-always (λ o. ((own o && not (dur o)) && member o.number (keys ops)) ≡ (not (dur o) && new o)) ks (λ o. turn (own o) (not (dur o)) (member o.number (keys ops)))))
    where
      turn : (a b c : Bool) → ((a && b) && c) ≡ (b && (a && c))
      turn true true c = refl
      turn true false c = refl
      turn false true c = refl
      turn false false c = refl

  pub batch-makes : made_by (updates_in ops) ≡ made_by (updates (filter (λ o. member o.number (keys ops)) (undurable g.ghost s)))
  batch-makes = ap made_by (batch-updates ∙ ap updates still-part)

  ids-distinct : T (distinct (made_by (updates_in ops)))
  ids-distinct = subst (λ xs. T (distinct xs)) (sym batch-makes) (part-distinct (λ o. member o.number (keys ops)) (undurable g.ghost s) (distinct-back k.ids (made_by (updates (undurable g.ghost s))) ag.ids.distinct_ids))

  ids-free : Each (λ x. T (member x sl.unspent)) (made_by (updates_in ops))
  ids-free = subst (Each (λ x. T (member x sl.unspent))) (sym batch-makes) (each-member (λ x. T (member x sl.unspent)) (made_by (updates (filter (λ o. member o.number (keys ops)) (undurable g.ghost s))))
      (λ x m. each-at (λ y. T (member y sl.unspent)) x (k.ids ++ made_by (updates (undurable g.ghost s))) ag.ids.free (in-back x k.ids (made_by (updates (undurable g.ghost s))) (part-member (λ o. member o.number (keys ops)) x (undurable g.ghost s) m))))

  sound-in : (xs : List (ℕ × Update)) (os : List Op) → updates_in xs ≡ updates os → Each (λ o. T (is_sound o.update)) os → Each (λ op. T (is_sound op.1)) xs
  sound-in [] os e h = tt
  sound-in (x ∷ xs) [] e h = absurd (cc)
  sound-in (x ∷ xs) (o ∷ os) e h = (subst (λ u. T (is_sound u)) (sym (head e)) h.0, sound-in xs os (tail e) h.1)
    where
      head : ◌≡◌ {A = List Update} (x.1 ∷ updates_in xs) (o.update ∷ updates os) → x.1 ≡ o.update
      head e = cc

      tail : ◌≡◌ {A = List Update} (x.1 ∷ updates_in xs) (o.update ∷ updates os) → updates_in xs ≡ updates os
      tail e = cc

  carries : Carries c ops g.durable sl
  carries = all-carry c ops g.durable sl here opened batch-fits (sound-in ops (filter (λ o. not (dur o) && new o) ks) batch-updates (each-fewer (λ o. T (is_sound o.update)) (λ o. not (dur o) && new o) ks im.sound)) ids-distinct ids-free

  abbrev pub committed : Durable
  committed = marked c b (all_carried c ops g.durable)

  pub commits : Commits g c s b ops sl own committed
  commits =
      let r = carries in
      record {
        steps = step-batch c s b ops g.durable (all_carried c ops g.durable)
            (ap (is_session s) here ∙ is-true (sl.is_open && (sl.session == s)) (and_both sl.is_open (sl.session == s) opened (holds (sl.session == s) (ap (λ t. t == s) of ∙ same s))))
            (ap (has_batch b) here ∙ is-false (has sl.window b) unmarked)
            (ap (is_beyond b) here ∙ within k.log sl.window (mine g.ghost s) dur ag.knows b ns under unmarked) r.taken;
        volume = λ x. r.volume x ∙ ap (λ us. image_after x (images (g.durable).volume x) us) batch-updates ∙ ap (λ i. image_after x i (updates (filter (λ o. not (dur o) && new o) ks))) (im.server x)
            ∙ sym (after-append x (g.origin x) (updates (filter dur ks)) (updates (filter (λ o. not (dur o) && new o) ks))) ∙ ap (λ v. v x) (next-after (λ o. o.update) g.origin dur new ks lo.closed);
        images_next = r.volume;
        closed = batch-needed;
        own = slot-same (all_carried c ops g.durable) c (record sl { unspent = less (made_by (updates_in ops)) sl.unspent }) (Rattle.ec_sessions.specs.Slots.batch_marked b (slot (all_carried c ops g.durable) c)) r.own ∙ ap (Rattle.ec_sessions.specs.Slots.batch_marked b) r.own;
        others = λ j n. slot-other (all_carried c ops g.durable) c j (Rattle.ec_sessions.specs.Slots.batch_marked b (slot (all_carried c ops g.durable) c)) n ∙ r.others j n;
        next_id = r.next_id;
        next_session = r.next_session;
        epoch = r.epoch;
        most = r.most;
      }
