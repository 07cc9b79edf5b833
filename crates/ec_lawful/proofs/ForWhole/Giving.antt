-- All facts behind sixteen ids that a session is given by a record that a restart finds.
use Rattle.std.proofs.Common.{◌≡◌, ◌≢◌, refl, sym, ap, subst, ◌∙◌, inl, arith, ℕ, Bool, true, false, not, cond, T, ◌+◌, ◌≤◌, [], Option, Some, None, append-nil}
use Rattle.std.specs.Prelude.{nat_le}
use Rattle.std.proofs.lemmas.Bool.{ne_eqb}
use Rattle.ec_sessions.specs.Limits.{last_first_id}
use Rattle.ec_sessions.specs.Slots.{with_ids, with_slot}
use Rattle.ec_sessions.specs.declared.slot.Slot.{Slot}
use Rattle.ec_volume.specs.Image.{is_gone}
use Rattle.ec_volume.specs.Volume.{after}
use Rattle.ec_volume.specs.declared.image.Image.TheVariants.{Gone}
use Rattle.ec_history.specs.History.{updates}
use Rattle.ec_durable.specs.Durable.{slot}
use Rattle.ec_durable.specs.declared.state.Durable.{Durable}
use Rattle.ec_durable.specs.declared.record.Record.TheVariants as record_of
use Rattle.ec_protocol.specs.declared.clerk.Clerk.{Clerk}
use Rattle.ec_coherence.specs.System.{System, Ghost, clerk_in, is_open, seen_ops}
use Rattle.ec_coherence.specs.Sessions.{SessionsAgree}
use Rattle.ec_coherence.specs.Tokens.{InSession, Side, TokensAgree, side, side_in, view}
use Rattle.ec_coherence.specs.Log.{LogsAgree}
use Rattle.ec_coherence.specs.Images.{ImagesAgree}
use Rattle.ec_coherence.specs.Events.{EventsAgree}
use Rattle.ec_coherence.specs.Invariant.{Invariant}
use Rattle.ec_coherence.specs.Steps.{give_ids}
use Rattle.ec_coherence.proofs.ForBatches.Carried.{gone-is}
use Rattle.ec_coherence.proofs.ForBatches.GivenIds.{given-images, given-logs}
use Rattle.ec_coherence.proofs.ForBatches.Marked.{marked-sessions, open-same}
use Rattle.ec_coherence.proofs.ForBatches.OpenSlots.{at-open}
use Rattle.ec_coherence.proofs.ForServer.SlotLaws.{in-range, slot-changed}
use Rattle.ec_coherence.proofs.ForServer.Tables.{same_some}
use Rattle.ec_coherence.specs.CommitLaws.{AllAgree}
use Rattle.ec_coherence.specs.Starts.{StartsAgree}
use Rattle.ec_coherence.specs.Watches.{WatchesAgree, still_in}
use Rattle.ec_coherence.proofs.ForCommits.Framed.{framed-events}
use Rattle.ec_coherence.proofs.ForCommits.Given.{give-firsts}
use Rattle.ec_coherence.proofs.ForCommits.Watched.{reslotted-watches}
use Rattle.ec_lawful.proofs.ForWhole.Bares.{idle, idle-sessions, owned-sessions, stops-of}
use Rattle.ec_lawful.proofs.ForWhole.NewIds as ids
use Rattle.ec_lawful.specs.Founds.{bare}
use Rattle.ec_base.proofs.Numbers.{same-self as same}

some-side : (o : Option Clerk) (k : Side) → side_in o ≡ Some k → (m : Clerk) × (o ≡ Some m) × (side m ≡ k)
some-side None k p = absurd (Rattle.ec_base.proofs.Options.none_some p)
some-side (Some m) k p = (m, refl, same_some p)

module _ (g : System) (all : AllAgree (bare g)) (c : ℕ) (sl : Slot) (in_slot : slot g.durable c ≡ Some sl) (opened : T sl.is_open) (taken : T (g.ghost.taken sl.session))
    (current : (k : Clerk) → clerk_in (bare g) sl.session ≡ Some k → k.got ≡ sl.grants) (small : T (nat_le g.durable.next_id last_first_id)) where
  abbrev i : Invariant (bare g)
  i = all.0

  abbrev s : ℕ
  s = sl.session

  abbrev first : ℕ
  first = g.durable.next_id

  abbrev pub newslot : Slot
  newslot = record sl { grants = sl.grants + 1; last_first = Some first; unspent = with_ids first sl.unspent }

  abbrev d : Durable
  d = record (g.durable) { next_id = first + 16; sessions = with_slot c (Some newslot) g.durable.sessions }

  abbrev γ' : Ghost
  γ' = give_ids s first g.ghost

  -- the ids were given
  abbrev pub given : System
  given = record (bare g) { durable = d; ghost = γ' }

  own : slot d c ≡ Some newslot
  own = slot-changed g.durable.sessions c c (Some newslot) (in-range g.durable.sessions c sl in_slot) ∙ ap (λ z. cond z (Some newslot) (slot g.durable c)) (same c)

  others : (j : ℕ) → j ≢ c → slot d j ≡ slot g.durable j
  others j n = slot-changed g.durable.sessions c j (Some newslot) (in-range g.durable.sessions c sl in_slot) ∙ ap (λ z. cond z (Some newslot) (slot g.durable j)) (ne_eqb j c n)

  -- Sessions and tokens.

  abbrev r : Rattle.ec_durable.specs.declared.record.Record.Record
  r = record_of.Ids c s sl.grants first

  given-sessions : SessionsAgree given
  given-sessions = owned-sessions _ None g.pool (append-nil g.pool) γ'
      (marked-sessions (bare g) g.ghost (idle g) (idle-sessions g i.sessions) c sl in_slot opened newslot refl refl opened (λ b h. h) g.durable.volume (first + 16) r)

  its-open : T (is_open (bare g) s)
  its-open = at-open s g.durable.sessions c sl (in_slot, refl, opened)

  granted : (k : Clerk) → clerk_in (bare g) s ≡ Some k → sl.grants ≡ g.ghost.grants s
  granted k p = ((i.logs.logs s c sl in_slot refl opened k p).ids).granted

  full : InSession (view (bare g)) s (λ k. k.got ≡ g.ghost.grants s)
  full k p = let m = some-side (clerk_in (bare g) s) k p in ap (λ z. z.got) (sym m.2) ∙ current m.0 m.1 ∙ granted m.0 m.1

  gone : (x : ℕ) → first ≤ x → (view (bare g)).seen s x ≡ Gone
  gone x l = ap (λ z. after g.origin (updates (seen_ops z g.ghost.kept)) x) (i.images.unfrozen s its-open) ∙ gone-is (after g.origin (updates g.ghost.kept) x) (dead (is_gone (after g.origin (updates g.ghost.kept) x)) refl)
    where
      dead : (z : Bool) → is_gone (after g.origin (updates g.ghost.kept) x) ≡ z → is_gone (after g.origin (updates g.ghost.kept) x) ≡ true
      dead true e = e
      dead false e = absurd (let z = i.images.known x (subst (λ o. T (not o)) (sym e) tt) in omega (arith, z, l))

  same-open : (t : ℕ) → is_open given t ≡ is_open (bare g) t
  same-open t = open-same (bare g) g.ghost (idle g) (idle-sessions g i.sessions) c sl in_slot opened newslot refl refl opened (λ b h. h) g.durable.volume (first + 16) r t

  given-tokens : TokensAgree (view given)
  given-tokens = subst (λ f. TokensAgree (record (view given) { is_open = f })) (λ j t. sym (same-open t) j) (ids.given-agrees (view (bare g)) s i.tokens taken refl full gone)

  -- Logs and images.

  logs-now : LogsAgree given
  logs-now = subst (λ p. LogsAgree (record given { pool = p })) (append-nil g.pool) (given-logs (bare g) i.sessions i.tokens i.logs i.images c s sl in_slot refl opened taken current d None [] refl refl others own tt)

  images-now : ImagesAgree given
  images-now = subst (λ p. ImagesAgree (record given { pool = p })) (append-nil g.pool) (given-images (bare g) i.sessions i.tokens i.logs i.images c s sl in_slot refl opened taken current d None [] refl refl others own)

  -- What was shown.

  events-now : EventsAgree given
  events-now = framed-events (bare g) d None g.pool g.ghost.owner g.ghost.taken γ'.grants γ'.first i.events refl (λ t o. inl (subst T (same-open t) o, refl)) (λ t ks f x. refl) (λ t o p. p) i.images.unopened

  watches-now : WatchesAgree given
  watches-now = reslotted-watches (bare g) d None g.pool g.ghost.owner g.ghost.taken γ'.grants γ'.first all.1 c (λ j n. let e = others j n in (e, ap (still_in γ') e)) (ap (still_in γ') own ∙ sym (ap (still_in g.ghost) in_slot))
      (λ b so p o. (newslot, own, opened, ap (λ w. w.age) (same_some (sym in_slot ∙ p))))

  starts-now : StartsAgree given
  starts-now = let a = all.3 in record { owned = a.owned; started = a.started; greets = a.greets; above = a.above; alike = a.alike }

  pub given-all : AllAgree given
  given-all = (
    record { sessions = given-sessions; tokens = given-tokens; logs = logs-now; images = images-now; events = events-now; stops = stops-of given tt tt images-now },
    watches-now,
    give-firsts g.ghost s first small all.2,
    starts-now,
  )
