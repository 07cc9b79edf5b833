-- The world behind an opening: the server has started, and each session that was open has ended.
use Rattle.std.proofs.Common.{◌≡◌, refl, sym, ap, subst, ◌∙◌, arith, ℕ, suc, Bool, true, false, ◌&&◌, ◌+◌, ◌^◌, cond, T, List, [], ◌∷◌, ◌++◌, length, Option, None, Some}
use Rattle.std.specs.Prelude.{◌==◌, is_some, nat_le, Result, Ok, Err}
use Rattle.std.proofs.lemmas.List.{append_assoc}
use Rattle.ec_base.specs.Tables.{at_or}
use Rattle.ec_base.specs.declared.counter.Counter.{Counter}
use Rattle.ec_base.specs.declared.counter.Counter.TheVariants as counter
use Rattle.ec_sessions.specs.Slots.{Slots, ended, run, slot_at, with_slot}
use Rattle.ec_sessions.specs.declared.slot.Slot.{Slot}
use Rattle.ec_wire.specs.declared.msg.Msg.{Msg}
use Rattle.ec_wire.specs.declared.msg.Msg.TheVariants.{Ended, Restarted}
use Rattle.ec_durable.specs.Durable.{is_session, slot, step}
use Rattle.ec_durable.specs.declared.state.Durable.{Durable}
use Rattle.ec_durable.specs.declared.record.Record.{Record}
use Rattle.ec_durable.specs.declared.record.Record.TheVariants as record_of
use Rattle.ec_durable.specs.declared.record.RecordFault.{RecordFault}
use Rattle.ec_durable.specs.declared.record.RecordFault.TheVariants.{BadNumber, NoSession}
use Rattle.ec_protocol.specs.Server.{Serving, all_claimed, end, end_open, epoch, finish, forget, new_server, serve, serve_rounds, serving, start, tell, tell_all, tell_ended, tell_start, with_server}
use Rattle.ec_protocol.specs.World.{clerks, end_each, new_world, open_world, opened}
use Rattle.ec_protocol.specs.declared.server.Server.{Server}
use Rattle.ec_protocol.specs.declared.world.World.{World}
use Rattle.ec_coherence.specs.Steps.{Stands}
use Rattle.ec_coherence.proofs.ForServer.Tables.{same_some}
use Rattle.ec_lawful.specs.Olds.{all_ended, opened_in, opened_state}
use Rattle.ec_lawful.proofs.ForWhole.EndedSlots.{boots-at}
use Rattle.ec_base.proofs.Numbers.{same-self as same}
use Rattle.ec_base.proofs.Options.{none_some}

-- What a start says leaves the rest of the step.

one-same : {A : Type 0} (F : Serving → A) → ((t : Serving) (c : ℕ) (m : Msg) → F (tell c m t) ≡ F t) → (c : ℕ) (t : Serving) (o : Option Slot) → F (tell_start c t o) ≡ F t
one-same F f c t None = f t c (Restarted 0 (epoch t))
one-same F f c t (Some sl) = go sl.is_open
  where
    go : (b : Bool) → F (elim b as (λ z. Serving) [ true ↦ tell c (Restarted sl.session (epoch t)) t | false ↦ tell_ended c sl t ]) ≡ F t
    go true = f t c (Restarted sl.session (epoch t))
    go false = f t c (Ended sl.session sl.window.low sl.window.mask)

pub all-same : {A : Type 0} (F : Serving → A) → ((t : Serving) (c : ℕ) (m : Msg) → F (tell c m t) ≡ F t) → (c : ℕ) (slots : Slots) (t : Serving) → F (tell_all c slots t) ≡ F t
all-same F f c [] t = refl
all-same F f c (o ∷ slots) t = all-same F f (c + 1) slots (tell_start c t o) ∙ one-same F f c t o

-- The administrator's end, on a server that has only started.

module _ (d : Durable) (ms : List (ℕ × Msg)) (r : Option Record) where
  abbrev idle : Serving
  idle = record { server = new_server d; sent = ms; rec = r; spent = None }

  -- no want waits
  serves-none : serve idle ≡ idle
  serves-none = go (all_claimed (new_server d))
    where
      go : (b : Bool) → elim b as (λ z. Serving) [ true ↦ serve_rounds 1 idle | false ↦ idle ] ≡ idle
      go true = refl
      go false = refl

module _ (d : Durable) (c : ℕ) where
  abbrev v : Server
  v = new_server d

  shut-ends : ((sl : Slot) → slot d c ≡ Some sl → sl.is_open ≡ false) → (end c v).rec ≡ None
  shut-ends f = ap (λ t. (serve t).rec) (go (slot d c) refl) ∙ ap (λ t. t.rec) (serves-none d [] None)
    where
      go : (o : Option Slot) → slot d c ≡ o → end_open c o (serving v) ≡ serving v
      go None p = refl
      go (Some sl) p = ap (λ b. elim b as (λ z. Serving) [ true ↦ finish c sl (serving v) | false ↦ serving v ]) (f sl p)

  module _ (sl : Slot) (in_slot : slot d c ≡ Some sl) (opened : sl.is_open ≡ true) where
    abbrev now : Durable
    now = record d { sessions = with_slot c (ended (Some sl)) d.sessions }

    steps : step (record_of.End c sl.session) d ≡ Ok now
    steps = ap (λ o. elim (is_session sl.session o) as (λ z. Result Durable RecordFault) [ false ↦ Err NoSession | true ↦ Ok (record d { sessions = with_slot c (ended o) d.sessions }) ]) in_slot
        ∙ ap (λ b. elim b as (λ z. Result Durable RecordFault) [ false ↦ Err NoSession | true ↦ Ok now ]) (ap (λ b. b && (sl.session == sl.session)) opened ∙ same sl.session)

    abbrev ended_step : Serving
    ended_step = record { server = new_server now; sent = (c, Ended sl.session sl.window.low sl.window.mask) ∷ []; rec = Some (record_of.End c sl.session); spent = None }

    finish-is : finish c sl (serving v) ≡ ended_step
    finish-is = ap (λ r. elim r as (λ z. Serving) [
      | Ok e ↦ tell_ended c sl (with_server (forget sl.session) (record (serving v) { server = record v { durable = e }; rec = Some (record_of.End c sl.session) }))
      | Err f ↦ serving v
    ]) steps

    open-ends : end c v ≡ ended_step
    open-ends = ap (λ o. serve (end_open c o (serving v))) in_slot ∙ ap (λ b. serve (elim b as (λ z. Serving) [ true ↦ finish c sl (serving v) | false ↦ serving v ])) opened
        ∙ ap serve finish-is ∙ serves-none now ((c, Ended sl.session sl.window.low sl.window.mask) ∷ []) (Some (record_of.End c sl.session))

-- All of them, in the order of the clerks.

pub at-middle : (pre rest : Slots) (o : Option Slot) → slot_at (pre ++ o ∷ rest) (length pre) ≡ o
at-middle [] rest o = refl
at-middle (x ∷ pre) rest o = at-middle pre rest o

pub set-middle : (pre rest : Slots) (o p : Option Slot) → with_slot (length pre) p (pre ++ o ∷ rest) ≡ (pre ++ p ∷ []) ++ rest
set-middle [] rest o p = refl
set-middle (x ∷ pre) rest o p = ap (λ l. x ∷ l) (set-middle pre rest o p)

one-longer : (pre : Slots) (o : Option Slot) → length (pre ++ o ∷ []) ≡ length pre + 1
one-longer [] o = refl
one-longer (x ∷ pre) o = ap suc (one-longer pre o) ∙ next (length pre)
  where
    next : (n : ℕ) → suc (n + 1) ≡ suc n + 1
    next n = omega arith

module _ (d : Durable) where
  abbrev over : Slots → Server
  over slots = new_server (record d { sessions = slots })

  abbrev EndsAll : Slots → Slots → ℕ → Serving → List Record → Type 0
  EndsAll pre rest n t rs = (end_each (run n (length rest)) t rs).0.server ≡ over (pre ++ all_ended rest)

  pub ends-all : (pre rest : Slots) (n : ℕ) → n ≡ length pre → (t : Serving) (rs : List Record) → t.server ≡ over (pre ++ rest) → EndsAll pre rest n t rs
  ends-all pre [] n l t rs e = e
  ends-all pre (o ∷ rest) n l t rs e = by-slot o e (λ t rs f. ends-all (pre ++ ended o ∷ []) rest (n + 1) (ap (λ k. k + 1) l ∙ sym (one-longer pre (ended o))) t rs f ∙ ap over (append_assoc pre (ended o ∷ []) (all_ended rest)))
    where
      there : (p : Option Slot) → slot_at (pre ++ p ∷ rest) n ≡ p
      there p = ap (slot_at (pre ++ p ∷ rest)) l ∙ at-middle pre rest p

      by-slot : (p : Option Slot) → t.server ≡ over (pre ++ p ∷ rest) → ((u : Serving) (us : List Record) → u.server ≡ over ((pre ++ ended p ∷ []) ++ rest) → (end_each (run (n + 1) (length rest)) u us).0.server ≡ over (pre ++ ended p ∷ all_ended rest))
          → (elim (end n t.server).rec as (λ z. Serving × List Record) [ None ↦ end_each (run (n + 1) (length rest)) t rs | Some q ↦ end_each (run (n + 1) (length rest)) (end n t.server) (rs ++ q ∷ []) ]).0.server ≡ over (pre ++ ended p ∷ all_ended rest)
      by-slot None e f = ap (λ r. (elim r as (λ z. Serving × List Record) [ None ↦ end_each (run (n + 1) (length rest)) t rs | Some q ↦ end_each (run (n + 1) (length rest)) (end n t.server) (rs ++ q ∷ []) ]).0.server)
          (ap (λ w. (end n w).rec) e ∙ shut-ends (record d { sessions = pre ++ None ∷ rest }) n (λ sl p. absurd (none_some (sym (there None) ∙ p)))) ∙ f t rs (e ∙ ap over (sym (append_assoc pre (None ∷ []) rest)))
      by-slot (Some sl) e f = go sl.is_open refl
        where
          go : (b : Bool) → sl.is_open ≡ b → (elim (end n t.server).rec as (λ z. Serving × List Record) [ None ↦ end_each (run (n + 1) (length rest)) t rs | Some q ↦ end_each (run (n + 1) (length rest)) (end n t.server) (rs ++ q ∷ []) ]).0.server ≡ over (pre ++ ended (Some sl) ∷ all_ended rest)
          go false q =
              let stays : ended (Some sl) ≡ Some sl = ap (λ b. Some (cond b (record sl { is_open = false; unspent = [] }) sl)) q in
              ap (λ r. (elim r as (λ z. Serving × List Record) [ None ↦ end_each (run (n + 1) (length rest)) t rs | Some q ↦ end_each (run (n + 1) (length rest)) (end n t.server) (rs ++ q ∷ []) ]).0.server)
              (ap (λ w. (end n w).rec) e ∙ shut-ends (record d { sessions = pre ++ Some sl ∷ rest }) n (λ so p. ap (λ z. z.is_open) (sym (same_some (sym (there (Some sl)) ∙ p))) ∙ q))
              ∙ f t rs (e ∙ ap over (sym (append_assoc pre (Some sl ∷ []) rest)) ∙ ap (λ p. over ((pre ++ p ∷ []) ++ rest)) (sym stays))
          go true q =
              let ends = ap (end n) e ∙ open-ends (record d { sessions = pre ++ Some sl ∷ rest }) n sl (there (Some sl)) q in
              ap (λ r. (elim r as (λ z. Serving × List Record) [ None ↦ end_each (run (n + 1) (length rest)) t rs | Some q ↦ end_each (run (n + 1) (length rest)) (end n t.server) (rs ++ q ∷ []) ]).0.server) (ap (λ u. u.rec) ends)
              ∙ f (end n t.server) (rs ++ record_of.End n sl.session ∷ []) (ap (λ u. u.server) ends ∙ ap over (ap (λ k. with_slot k (ended (Some sl)) (pre ++ Some sl ∷ rest)) l ∙ set-middle pre rest (Some sl) (ended (Some sl))))

-- The opening.

module _ (d : Durable) (sixteen : length d.sessions ≡ 16) where
  abbrev raised : Durable
  raised = record d { epoch = d.epoch + 1 }

  abbrev begun : Serving
  begun = record { server = new_server raised; sent = []; rec = Some (record_of.Epoch (d.epoch + 1)); spent = None }

  abbrev told : Serving
  told = tell_all 0 d.sessions begun

  told-server : told.server ≡ new_server raised
  told-server = all-same (λ t. t.server) (λ t c m. refl) 0 d.sessions begun

  told-spent : told.spent ≡ None
  told-spent = all-same (λ t. t.spent) (λ t c m. refl) 0 d.sessions begun

  abbrev records : List Record
  records = record_of.Epoch told.server.durable.epoch ∷ []

  behind : (end_each clerks told records).0.server ≡ new_server (opened_state d)
  behind = ap (λ n. (end_each (run 0 n) told records).0.server) (sym sixteen) ∙ ends-all raised [] d.sessions 0 refl told records told-server

  stands-in : (rs : List Record) → Stands (new_world (new_server (opened_state d)) rs) (opened_in d)
  stands-in rs = record {
    server = refl;
    durable = refl;
    epoch = omega arith;
    up = λ t. refl;
    unshown = refl;
    clerks = λ c. refl;
    boots = λ c. ap (λ n. at_or 0 n (Rattle.ec_protocol.specs.World.boots_from 0 (all_ended d.sessions))) (none c) ∙ boots-at d.sessions 0 c;
    calls = refl;
    pool = λ n c i m p. absurd (none_some p);
    shown = refl;
  }
    where
      none : (c : ℕ) → c ≡ 0 + c
      none c = omega arith

  same-ok : {A B : Type 0} {x y : A} → ◌≡◌ {A = Result A B} (Ok x) (Ok y) → x ≡ y
  same-ok {A} {B} {x} {y} e = ap (λ r. elim r [ Ok z ↦ z | Err f ↦ x ]) e

  not-ok : {A B : Type 0} {x : A} {y : B} → ◌≡◌ {A = Result A B} (Err y) (Ok x) → ⊥
  not-ok e = absurd (cc)

  abbrev by_record : Result Durable RecordFault → Serving
  by_record r = elim r as (λ z. Serving) [
    | Ok e ↦ tell_all 0 e.sessions (record (serving (new_server d)) { server = record (new_server d) { durable = e }; rec = Some (record_of.Epoch (d.epoch + 1)) })
    | Err f ↦ serving (new_server d)
  ]

  abbrev by_epoch : Bool → Serving
  by_epoch b = elim b as (λ z. Serving) [
    | true ↦ record (serving (new_server d)) { spent = Some counter.Epoch }
    | false ↦ by_record (elim (d.epoch + 1 == d.epoch + 1) as (λ z. Result Durable RecordFault) [ false ↦ Err BadNumber | true ↦ Ok raised ])
  ]

  pub start-is : nat_le (2 ^ 62) d.epoch ≡ false → start d ≡ told
  start-is e = ap by_epoch e ∙ ap (λ b. by_record (elim b as (λ z. Result Durable RecordFault) [ false ↦ Err BadNumber | true ↦ Ok raised ])) (same (d.epoch + 1))

  pub start-spent : nat_le (2 ^ 62) d.epoch ≡ true → T (is_some (start d).spent)
  start-spent e = subst (λ b. T (is_some (by_epoch b).spent)) (sym e) tt

  pub world-stands : (w : World) → open_world d ≡ Ok w → Stands w (opened_in d)
  world-stands w o = go (nat_le (2 ^ 62) d.epoch) refl
    where
      go : (b : Bool) → nat_le (2 ^ 62) d.epoch ≡ b → Stands w (opened_in d)
      go true e = absurd (not-ok (sym (ap (λ b. opened (by_epoch b)) e) ∙ o))
      go false e =
          let q = end_each clerks told records in
          let opens : opened told ≡ Ok (new_world (q.0).server q.1) = ap (λ s. elim s as (λ z. Result World Counter) [ Some n ↦ Err n | None ↦ Ok (new_world (q.0).server q.1) ]) told-spent in
          subst (λ z. Stands z (opened_in d)) (same-ok (sym (ap (λ s. Ok (new_world s q.1)) behind) ∙ sym opens ∙ sym (ap opened (start-is e)) ∙ o)) (stands-in q.1)
