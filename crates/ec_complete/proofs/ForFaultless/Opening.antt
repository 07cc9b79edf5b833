-- A world that is opened is ready for the first line.
use Rattle.std.proofs.Common.{◌≡◌, refl, sym, ap, ◌∙◌, subst, arith, ◌≤◌, ◌<◌, ◌==◌, ◌&&◌, ◌||◌, not, cond, ℕ, zero, suc, T, Bool, true, false, List, [], ◌∷◌, ◌++◌, append_assoc, length, replicate}
use Rattle.std.specs.Prelude.{Option, None, Some, Result, Ok, Err, is_some}
use Rattle.std.specs.List.Sorted.{IsStrictlyIncreasing}
use Rattle.std.proofs.lemmas.Bool.{true≢false}
use Rattle.ec_base.specs.Tables.{at}
use Rattle.ec_base.specs.declared.counter.Counter.{Counter}
use Rattle.ec_base.specs.declared.ids.Age.{Age}
use Rattle.ec_volume.specs.Volume.{images}
use Rattle.ec_volume.specs.declared.image.Image.TheVariants.{Gone}
use Rattle.ec_history.specs.History.{Each}
use Rattle.ec_history.specs.Placing.{EachLine}
use Rattle.ec_sessions.specs.Slots.{Slots, ended, slot_at, with_slot}
use Rattle.ec_sessions.specs.declared.slot.Slot.{Slot}
use Rattle.ec_sessions.specs.OfTokens.Laws.{sound_none}
use Rattle.ec_durable.specs.Durable.{formatted, is_session, slot, step}
use Rattle.ec_durable.specs.WellFormed.{IsInOrder, WellFormed}
use Rattle.ec_durable.specs.declared.record.Record.TheVariants.{End, Epoch}
use Rattle.ec_durable.specs.declared.record.RecordFault.{RecordFault}
use Rattle.ec_durable.specs.declared.record.RecordFault.TheVariants.{NoSession}
use Rattle.ec_durable.specs.declared.state.Durable.{Durable}
use Rattle.ec_durable.proofs.Kept.{step_kept}
use Rattle.ec_protocol.specs.Server as server
use Rattle.ec_protocol.specs.Server.{all_claimed, has_claimed, is_claimed, new_server}
use Rattle.ec_protocol.specs.World.{boot, clerks, end_each, new_world, open_world}
use Rattle.ec_protocol.specs.declared.server.Server.{Server}
use Rattle.ec_protocol.specs.declared.world.Sent.{Sent}
use Rattle.ec_protocol.specs.declared.world.World.{World}
use Rattle.ec_coherence.proofs.ForServer.Tables.{same_some}
use Rattle.ec_coherence.specs.Sessions.{SessionsAgree}
use Rattle.ec_coherence.specs.Steps.{Stands}
use Rattle.ec_lawful.specs.Calls.{IsOf}
use Rattle.ec_lawful.specs.Steps as steps
use Rattle.ec_lawful.specs.Olds.{all_ended, opened_in, opened_state}
use Rattle.ec_lawful.specs.Runs.{OfRun}
use Rattle.ec_lawful.proofs.ForWhole.EndedSlots.{length-ended, was}
use Rattle.ec_lawful.proofs.ForWhole.Opens.{world-stands, at-middle, set-middle}
use Rattle.ec_lawful.proofs.ForWhole.OpensWhole.{opened-whole}
use Rattle.ec_quiet.proofs.OfDeliveries.Ordering.{AreApart, at-all, own-from}
use Rattle.ec_quiet.specs.Facts.{IsOrderly}
use Rattle.ec_quiet.specs.Measure.{sum}
use Rattle.ec_quiet.specs.Quiet.{IsIdle}
use Rattle.ec_quiet.specs.Scenes.{IsScene, Scene, mail_of}
use Rattle.ec_quiet.proofs.Ending.{none-rise}
use Rattle.ec_complete.specs.Worlds.{IsCounted, IsEarly, Outset, new_outset, outset_of}
use Rattle.ec_complete.proofs.ForFaultless.Laws.{openings-hold, openings-tell}
use Rattle.ec_complete.specs.Ready.{IsReady, NewDisksAreReady, OpeningsAreReady, calls_of}
use Rattle.ec_base.proofs.Numbers.{same-self as same}
use Rattle.ec_base.proofs.Options.{none_some}

-- no clerk runs yet, and nothing was sent
record IsNew (w : World) : Type 0 where
  clerks : w.clerks ≡ []
  sent : w.sent ≡ 0
  pool : w.pool ≡ []
  pending : w.pending ≡ []
  cut : w.cut ≡ []

opens-new : (d : Durable) (w : World) → open_world d ≡ Ok w → IsNew w
opens-new d w e = go (server.start d).spent e
  where
    alike : (a b : World) → ◌≡◌ {A = Result World Counter} (Ok a) (Ok b) → a ≡ b
    alike a b p = cc

    apart : {A : Type 0} (n : Counter) → ◌≡◌ {A = Result World Counter} (Err n) (Ok w) → A
    apart {A} n p = absurd (no n p)
      where
        no : (n : Counter) → ◌≡◌ {A = Result World Counter} (Err n) (Ok w) → ⊥
        no n p = grind (arith, p)

    go : (s : Option Counter) → (elim s as (λ z. Result World Counter) [
      | Some n ↦ Err n
      | None ↦ Ok (new_world ((end_each clerks (server.start d) (Epoch (server.start d).server.durable.epoch ∷ [])).0).server (end_each clerks (server.start d) (Epoch (server.start d).server.durable.epoch ∷ [])).1)
    ]) ≡ Ok w → IsNew w
    go (Some n) p = apart n p
    go None p = subst IsNew (alike (new_world ((end_each clerks (server.start d) (Epoch (server.start d).server.durable.epoch ∷ [])).0).server (end_each clerks (server.start d) (Epoch (server.start d).server.durable.epoch ∷ [])).1) w p) (record { clerks = refl; sent = refl; pool = refl; pending = refl; cut = refl })

-- An opened world where all is idle, with low counters.
pub idle-ready : (outset : Outset) (d : Durable) → WellFormed d → length d.sessions ≡ 16 → images d.volume 0 ≡ Gone → (names : List ℕ) (w : World) (sc : Scene) → open_world d ≡ Ok w → IsScene w sc → IsIdle sc → IsInOrder sc.server.durable
    → IsCounted outset 0 w sc → ((c : ℕ) → boot c w ≤ outset.boots c) → IsReady outset (images d.volume) d.max_objects names 1 w
idle-ready outset d formed sixteen gone names w sc opened i idle order counted boots = record {
  scene = sc;
  stands = i;
  idle = idle;
  system = holds.0;
  facts = holds.1;
  in_system = holds.2;
  order = order;
  counted = counted;
  shown = subst (EachLine (IsOf (λ l c cl. l < 1))) (sym (openings-tell d formed sixteen gone w opened)) tt;
  sent = omega (arith, new.sent);
  calls = subst (λ cs. sum calls_of cs ≤ 0) (sym none) (omega arith);
  named = λ c k e. absurd (none_some (ap (at c) (sym none) ∙ e));
  boots = λ c. omega (arith, boots c);
}
  where
    holds : steps.HoldsIn (OfRun (images d.volume) d.max_objects) w
    holds = openings-hold d formed sixteen gone w opened

    new : IsNew w
    new = opens-new d w opened

    none : sc.clerks ≡ []
    none = sym i.clerks ∙ new.clerks

-- The sessions of a state that is opened.

module _ (d : Durable) where
  abbrev over : Slots → Durable
  over slots = record d { sessions = slots }

  -- a state stays in order while its sessions end
  ends-in-order : (pre rest : Slots) → IsInOrder (over (pre ++ rest)) → IsInOrder (over (pre ++ all_ended rest))
  ends-in-order pre [] o = o
  ends-in-order pre (s ∷ rest) o = subst (λ slots. IsInOrder (over slots)) (append_assoc pre (ended s ∷ []) (all_ended rest)) (ends-in-order (pre ++ ended s ∷ []) rest (by s o))
    where
      by : (s : Option Slot) → IsInOrder (over (pre ++ s ∷ rest)) → IsInOrder (over ((pre ++ ended s ∷ []) ++ rest))
      by None o = subst (λ slots. IsInOrder (over slots)) (sym (append_assoc pre (None ∷ []) rest)) o
      by (Some sl) o = go sl.is_open refl
        where
          go : (b : Bool) → sl.is_open ≡ b → IsInOrder (over ((pre ++ ended (Some sl) ∷ []) ++ rest))
          go false e =
              let stays : ended (Some sl) ≡ Some sl = ap (λ b. Some (cond b (record sl { is_open = false; unspent = [] }) sl)) e in
              subst (λ slots. IsInOrder (over slots)) (sym (append_assoc pre (Some sl ∷ []) rest) ∙ ap (λ p. (pre ++ p ∷ []) ++ rest) (sym stays)) o
          go true e = subst (λ slots. IsInOrder (over slots)) (set-middle pre rest (Some sl) (ended (Some sl))) (step_kept (End (length pre) sl.session) (over (pre ++ Some sl ∷ rest)) (over (with_slot (length pre) (ended (Some sl)) (pre ++ Some sl ∷ rest))) o tt steps)
            where
              steps : step (End (length pre) sl.session) (over (pre ++ Some sl ∷ rest)) ≡ Ok (over (with_slot (length pre) (ended (Some sl)) (pre ++ Some sl ∷ rest)))
              steps = ap (λ o. elim (is_session sl.session o) as (λ z. Result Durable RecordFault) [ false ↦ Err NoSession | true ↦ Ok (over (with_slot (length pre) (ended o) (pre ++ Some sl ∷ rest))) ]) (at-middle pre rest (Some sl))
                  ∙ ap (λ b. elim b as (λ z. Result Durable RecordFault) [ false ↦ Err NoSession | true ↦ Ok (over (with_slot (length pre) (ended (Some sl)) (pre ++ Some sl ∷ rest))) ]) (ap (λ b. b && (sl.session == sl.session)) e ∙ same sl.session)

module _ (d : Durable) (formed : WellFormed d) (sixteen : length d.sessions ≡ 16) (gone : images d.volume 0 ≡ Gone) (w : World) (opened : open_world d ≡ Ok w) where
  abbrev new : Server
  new = new_server (opened_state d)

  abbrev first-scene : Scene
  first-scene = record { server = new; clerks = []; mail = [] }

  sessions : SessionsAgree (opened_in d)
  sessions = ((opened-whole d formed sixteen gone).all.0).sessions

  in-world : Stands w (opened_in d)
  in-world = world-stands d sixteen w opened

  same-state : w.durable ≡ opened_state d
  same-state = in-world.up tt

  fresh : IsNew w
  fresh = opens-new d w opened

  shut : (c : ℕ) (sl : Slot) → slot new.durable c ≡ Some sl → sl.is_open ≡ false
  shut c sl e = off sl.is_open (was d.sessions c sl e).shut
    where
      off : (b : Bool) → T (not b) → b ≡ false
      off false t = refl
      off true t = absurd t

  apart : AreApart new.durable.sessions
  apart i j sl sm a b e = ap (λ (o : ℕ × Age). o.0) (same_some (sym (sessions.slots i sl a).2 ∙ ap owner_of e ∙ (sessions.slots j sm b).2))
    where
      owner_of : ℕ → Option (ℕ × Age)
      owner_of s = ((opened_in d).ghost).owner s

  claimed : all_claimed new ≡ true
  claimed = at-all (is_claimed new) new.durable.sessions (λ c. by c (slot_at new.durable.sessions c) refl)
    where
      by : (c : ℕ) (o : Option Slot) → slot_at new.durable.sessions c ≡ o → is_claimed new o ≡ true
      by c None e = refl
      by c (Some sl) e = ap (λ b. not b || has_claimed sl.session new) (shut c sl e)

  first-orderly : IsOrderly new []
  first-orderly = record {
    sixteen = length-ended d.sessions ∙ sixteen;
    rising = tt;
    sound = sound_none;
    claimed = claimed;
    run = λ c sl e f. absurd (true≢false (sym f ∙ shut c sl e));
    own = own-from new apart;
    earlier = λ c sl e. (sessions.slots c sl e).1;
    holders = λ s x t e. absurd (none_some e);
  }

  first-stands : IsScene w first-scene
  first-stands = record {
    server = in-world.server;
    durable = same-state;
    sure = in-world.unshown;
    linked = fresh.cut;
    clerks = fresh.clerks;
    mail = ap (mail_of w.pool) fresh.pending;
    kept = subst (λ ns. Each (λ n. T (is_some (at n w.pool))) ns) (sym fresh.pending) tt;
    rising = subst IsStrictlyIncreasing (sym fresh.pending) none-rise;
    pending = subst (λ ns. Each (λ n. n ≤ w.sent) ns) (sym fresh.pending) tt;
    pool = subst (λ es. Each {A = ℕ × Sent} (λ e. e.0 ≤ w.sent) es) (sym fresh.pool) tt;
  }

  first-idle : IsIdle first-scene
  first-idle = record { mail = refl; wants = refl; orderly = first-orderly; clerks = λ c k e. absurd (none_some e) }

  first-order : IsInOrder new.durable
  first-order = let o = ends-in-order d [] d.sessions formed.order in record { images = o.images; most = o.most; ids = o.ids; below = o.below; few = o.few; slots = o.slots; numbers = o.numbers; numbered = o.numbered; next = o.next }

  is-counted : IsCounted (outset_of w) 0 w first-scene
  is-counted = record {
    server = λ s e.
        (let same : new ≡ s = same_some (sym in-world.server ∙ e) in (
          omega (arith, ap (λ (x : Server). x.number) same),
          omega (arith, ap (λ (x : Server). x.durable.next_session) same, ap (λ (x : Durable). x.next_session) same-state),
        ));
    clerks = λ c k e. absurd (none_some (ap (at c) (sym fresh.clerks) ∙ e));
    ids = omega (arith, ap (λ (x : Durable). x.next_id) same-state);
  }

  pub opened-ready : (names : List ℕ) → IsReady (outset_of w) (images d.volume) d.max_objects names 1 w
  opened-ready names = idle-ready (outset_of w) d formed sixteen gone names w first-scene opened first-stands first-idle first-order is-counted (λ c. omega arith)

pub openings-ready : OpeningsAreReady
openings-ready d formed sixteen gone names w opened = opened-ready d formed sixteen gone w opened names

-- A new disk.

no-slot : (n c : ℕ) (sl : Slot) → slot_at (replicate n None) c ≡ Some sl → ⊥
no-slot zero c sl e = none_some e
no-slot (suc n) zero sl e = none_some e
no-slot (suc n) (suc c) sl e = no-slot n c sl e

module _ (most : ℕ) (formed : WellFormed (formatted most)) where
  abbrev v : Server
  v = record { durable = record (formatted most) { epoch = 1 }; tokens = []; recalls = []; claimed = []; number = 0; recorded = [] }

  abbrev new-one : World
  new-one = new_world v (Epoch 1 ∷ [])

  opened-is : open_world (formatted most) ≡ Ok new-one
  opened-is = refl

  none : (c : ℕ) (sl : Slot) → slot v.durable c ≡ Some sl → ⊥
  none c sl e = no-slot 16 c sl e

  orderly : IsOrderly v []
  orderly = record {
    sixteen = refl;
    rising = tt;
    sound = sound_none;
    claimed = refl;
    run = λ c sl e f. absurd (none c sl e);
    own = λ c sl e. absurd (none c sl e);
    earlier = λ c sl e. absurd (none c sl e);
    holders = λ s x t e. absurd (none_some e);
  }

  abbrev sc : Scene
  sc = record { server = v; clerks = []; mail = [] }

  stands : IsScene new-one sc
  stands = record { server = refl; durable = refl; sure = refl; linked = refl; clerks = refl; mail = refl; kept = tt; rising = none-rise; pending = tt; pool = tt }

  idle : IsIdle sc
  idle = record { mail = refl; wants = refl; orderly = orderly; clerks = λ c k e. absurd (none_some e) }

  order : IsInOrder v.durable
  order = let o = formed.order in record { images = o.images; most = o.most; ids = o.ids; below = o.below; few = o.few; slots = o.slots; numbers = o.numbers; numbered = o.numbered; next = o.next }

  counted : IsCounted new_outset 0 new-one sc
  counted = record {
    server = λ s e. (let same : v ≡ s = same_some e in (omega (arith, ap (λ (x : Server). x.number) same), omega (arith, ap (λ (x : Server). x.durable.next_session) same)));
    clerks = λ c k e. absurd (none_some e);
    ids = omega arith;
  }

  is-ready : (names : List ℕ) → IsReady new_outset (images (formatted most).volume) most names 1 new-one
  is-ready names = idle-ready new_outset (formatted most) formed refl refl names new-one sc opened-is stands idle order counted (λ c. omega arith)

  pub at-opening : (names : List ℕ) (w : World) → open_world (formatted most) ≡ Ok w → IsReady new_outset (images (formatted most).volume) most names 1 w
  at-opening names w e = subst (IsReady new_outset (images (formatted most).volume) most names 1) (alike new-one w (sym opened-is ∙ e)) (is-ready names)
    where
      alike : (a b : World) → ◌≡◌ {A = Result World Counter} (Ok a) (Ok b) → a ≡ b
      alike a b p = cc

pub new-ready : NewDisksAreReady
new-ready most formed names w e = at-opening most formed names w e

-- its counters began low
pub new-early : IsEarly new_outset
new-early = record { sessions = omega arith; ids = omega arith; boots = λ c. omega arith }
