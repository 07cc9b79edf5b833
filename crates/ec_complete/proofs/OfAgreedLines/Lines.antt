-- Which lines the steps of a line of a script show: a durable one stands alone in its step.
use Rattle.std.proofs.Common.{◌≡◌, refl, sym, ap, ◌∙◌, subst, ℕ, Bool, true, false, List, [], ◌∷◌, ◌++◌, ◌⊎◌, inl, inr, append-nil, append_assoc}
use Rattle.std.specs.Prelude.{◌+◌, Option, None, Some, ⊤}
use Rattle.std.specs.List.{list_any}
use Rattle.ec_base.specs.Tables.{at, put}
use Rattle.ec_base.specs.declared.counter.Counter.{Counter}
use Rattle.ec_volume.specs.Volume.{Images}
use Rattle.ec_plain.specs.declared.call.Call.{Call}
use Rattle.ec_history.specs.History.{Base, Each}
use Rattle.ec_history.specs.declared.entry.Answer.{Answer}
use Rattle.ec_history.specs.declared.shown.Shown.{Shown}
use Rattle.ec_history.specs.declared.shown.Shown.TheVariants as show
use Rattle.ec_wire.specs.declared.msg.Msg.{Msg}
use Rattle.ec_durable.specs.declared.record.Record.{Record}
use Rattle.ec_protocol.specs.Clerk.{Doing}
use Rattle.ec_protocol.specs.Clerk as clerk
use Rattle.ec_protocol.specs.Server.{Serving}
use Rattle.ec_protocol.specs.Server as server
use Rattle.ec_protocol.specs.World.{Moving, call, call_of, call_on, clerk_does, come_out, deliver, deliver_to, fails, go_on, is_answer_to, is_for_server, is_undurable, less_call, moving, noted, nothing, push, runs, send, send_all, served_record, settled, show_answer, show_ended, show_line, show_noted, show_waits, start_and_call, to_clerk, to_server, with_world}
use Rattle.ec_protocol.specs.World as world
use Rattle.ec_protocol.specs.declared.clerk.Clerk.{Clerk}
use Rattle.ec_protocol.specs.declared.clerk.Out.{Out}
use Rattle.ec_protocol.specs.declared.clerk.Out.TheVariants as out
use Rattle.ec_protocol.specs.declared.server.Server.{Server}
use Rattle.ec_protocol.specs.declared.world.Noted.{Noted}
use Rattle.ec_protocol.specs.declared.world.Noted.TheVariants as noted_of
use Rattle.ec_protocol.specs.declared.world.Sent.{Sent}
use Rattle.ec_protocol.specs.declared.world.World.{World}
use Rattle.ec_protocol.specs.declared.world.WorldFault.{WorldFault}
use Rattle.ec_protocol.specs.declared.world.WorldFault.TheVariants as fault
use Rattle.ec_quiet.specs.Works.{Work}
use Rattle.ec_quiet.specs.OfDeliveries.WithinClosures.{AreWithin, IsWithin}

abbrev pub IsOther : Shown → Type 0
IsOther (show.Durable c ns) = ⊥
IsOther _ = ⊤

-- Lines that a step shows stand behind those before it.
abbrev pub Adds : World → Moving → Type 0
Adds w m = m.world.shown ≡ w.shown ++ m.shown

others-more : (xs : List Shown) (x : Shown) → Each IsOther xs → IsOther x → Each IsOther (xs ++ x ∷ [])
others-more [] x e p = (p, tt)
others-more (y ∷ xs) x e p = (e.0, others-more xs x e.1 p)

-- Clerks tell no operation durable.

answer-others : (c n : ℕ) (a : Answer) (op : Option ℕ) (m : Moving) → Each IsOther m.shown → Each IsOther (show_answer c n a op m).shown
answer-others c n a op m e = go (call_of c n m.world)
  where
    go : (o : Option (ℕ × Call)) → Each IsOther (elim o as (λ z. Moving) [ None ↦ m | Some l ↦ with_world (less_call c n) (show_line (show.Answered l.0 c l.1 a op) m) ]).shown
    go None = e
    go (Some l) = others-more m.shown (show.Answered l.0 c l.1 a op) e tt

outs-others : (c : ℕ) (os : List Out) (m : Moving) → Each IsOther m.shown → Each IsOther (come_out c os m).shown
outs-others c [] m e = e
outs-others c (out.Send x ∷ os) m e = outs-others c os (with_world (send c x) m) e
outs-others c (out.Told ns ∷ os) m e = outs-others c os (show_line (show.Told c ns) m) (others-more m.shown (show.Told c ns) e tt)
outs-others c (out.Answer n a op ∷ os) m e = outs-others c os (show_answer c n a op m) (answer-others c n a op m e)
outs-others c (out.OldBoot a ∷ os) m e = outs-others c os m e

does-others : (c : ℕ) (d : Doing) (m : Moving) → Each IsOther m.shown → Each IsOther (clerk_does c d m).shown
does-others c d m e = go d.spent
  where
    go : (o : Option Counter) → Each IsOther (elim o as (λ z. Moving) [ Some n ↦ fails (fault.Spent n) m.world | None ↦ come_out c d.outs (with_world (λ w. record w { clerks = put c d.clerk w.clerks }) m) ]).shown
    go (Some n) = tt
    go None = outs-others c d.outs (with_world (λ w. record w { clerks = put c d.clerk w.clerks }) m) e

adds-one : (w : World) (m : Moving) (s : Shown) → Adds w m → Adds w (show_line s m)
adds-one w m s e = ap (λ l. l ++ s ∷ []) e ∙ append_assoc w.shown m.shown (s ∷ [])

answer-adds : (w : World) (c n : ℕ) (a : Answer) (op : Option ℕ) (m : Moving) → Adds w m → Adds w (show_answer c n a op m)
answer-adds w c n a op m e = go (call_of c n m.world)
  where
    go : (o : Option (ℕ × Call)) → Adds w (elim o as (λ z. Moving) [ None ↦ m | Some l ↦ with_world (less_call c n) (show_line (show.Answered l.0 c l.1 a op) m) ])
    go None = e
    go (Some l) = adds-one w m (show.Answered l.0 c l.1 a op) e

outs-adds : (w : World) (c : ℕ) (os : List Out) (m : Moving) → Adds w m → Adds w (come_out c os m)
outs-adds w c [] m e = e
outs-adds w c (out.Send x ∷ os) m e = outs-adds w c os (with_world (send c x) m) e
outs-adds w c (out.Told ns ∷ os) m e = outs-adds w c os (show_line (show.Told c ns) m) (adds-one w m (show.Told c ns) e)
outs-adds w c (out.Answer n a op ∷ os) m e = outs-adds w c os (show_answer c n a op m) (answer-adds w c n a op m e)
outs-adds w c (out.OldBoot a ∷ os) m e = outs-adds w c os m e

-- One delivery.

-- its lines stand behind those before it, and none of them is durable, or there is one
pub record IsStep (w : World) (m : Moving) : Type 0 where
  pub adds : Adds w m
  pub alone : Each IsOther m.shown ⊎ ((l : Shown) × (m.shown ≡ l ∷ []))

sent-shown : (ms : List (ℕ × Msg)) (u : World) → (send_all ms u).shown ≡ u.shown
sent-shown [] u = refl
sent-shown (m ∷ ms) u = sent-shown ms (send m.0 m.1 u)

module _ (w u : World) (same : u.shown ≡ w.shown) where
  none : (v : World) → v.shown ≡ u.shown → (f : Option WorldFault) → IsStep w (record (moving v) { fault = f })
  none v e f = record { adds = e ∙ same ∙ sym (append-nil w.shown); alone = inl tt }

  clerk-step : (c : ℕ) (m : Msg) (o : Option Clerk) → IsStep w (to_clerk c m o u)
  clerk-step c m None = none u refl None
  clerk-step c m (Some k) = record { adds = go (clerk.take m k).spent; alone = inl (does-others c (clerk.take m k) (moving u) tt) }
    where
      go : (o : Option Counter) → Adds w (elim o as (λ z. Moving) [ Some n ↦ fails (fault.Spent n) u | None ↦ come_out c (clerk.take m k).outs (with_world (λ w. record w { clerks = put c (clerk.take m k).clerk w.clerks }) (moving u)) ])
      go (Some n) = (none u refl None).adds
      go None = outs-adds w c (clerk.take m k).outs (with_world (λ w. record w { clerks = put c (clerk.take m k).clerk w.clerks }) (moving u)) (none u refl None).adds

  one : (t : Serving) (v : World) (l : Shown) → v.shown ≡ u.shown → IsStep w (with_world (go_on t) (show_line l (moving v)))
  one t v l e = record { adds = sent-shown t.sent _ ∙ ap (λ ls. ls ++ l ∷ []) (e ∙ same); alone = inr (l, refl) }

  record-step : (t : Serving) (r : Option Record) → IsStep w (served_record runs r t u)
  record-step t None = none (go_on t u) (sent-shown t.sent _) None
  record-step t (Some r) = go (noted u.durable r)
    where
      go : (o : Option Noted) → IsStep w (with_world (go_on t) (show_noted o (moving (record u { records = u.records ++ r ∷ [] }))))
      go None = none (go_on t (record u { records = u.records ++ r ∷ [] })) (sent-shown t.sent _) None
      go (Some (noted_of.Durable c ns)) = one t (record u { records = u.records ++ r ∷ [] }) (show.Durable c ns) refl
      go (Some (noted_of.Ended c b)) = one t (record u { records = u.records ++ r ∷ [] }) (show_ended c b (record u { records = u.records ++ r ∷ [] })) refl

  served-step : (t : Serving) → IsStep w (world.served runs t u)
  served-step t = go t.spent
    where
      go : (o : Option Counter) → IsStep w (elim o as (λ z. Moving) [ Some n ↦ fails (fault.Spent n) u | None ↦ served_record runs t.rec t u ])
      go (Some n) = none u refl (Some (fault.Spent n))
      go None = record-step t t.rec

pub delivery-step : (w : World) (i : ℕ) → IsStep w (deliver runs i w)
delivery-step w i = go (at i w.pool)
  where
    to : (s : Sent) (o : Option Server) → IsStep w (to_server runs i s o w)
    to s None = record { adds = refl; alone = inr (show.Nothing, refl) }
    to s (Some v) = served-step w (settled i w) refl (server.take s.clerk s.msg v)

    side : (s : Sent) (b : Bool) → IsStep w (elim b as (λ z. Moving) [ true ↦ to_server runs i s w.server w | false ↦ to_clerk s.clerk s.msg (at s.clerk w.clerks) (settled i w) ])
    side s true = to s w.server
    side s false = clerk-step w (settled i w) refl s.clerk s.msg (at s.clerk w.clerks)

    go : (o : Option Sent) → IsStep w (elim o as (λ z. Moving) [ None ↦ fails fault.NoSuchMsg w | Some s ↦ deliver_to runs i s w ])
    go None = none w w refl w refl (Some fault.NoSuchMsg)
    go (Some s) = side s (is_for_server s)

-- Lists of lines.

-- P holds of each of these lines and of those above it, which stand behind the past ones
abbrev pub Along : (List Shown → Shown → Type 0) → List Shown → List Shown → Type 0
Along P past [] = ⊤
Along P past (l ∷ ls) = P past l × Along P (past ++ l ∷ []) ls

module _ (P : List Shown → Shown → Type 0) (other : (past : List Shown) (l : Shown) → IsOther l → P past l) where
  pub others-along : (past ls : List Shown) → Each IsOther ls → Along P past ls
  others-along past [] e = tt
  others-along past (l ∷ ls) e = (other past l e.0, others-along (past ++ l ∷ []) ls e.1)

  pub step-along : (past ls : List Shown) → Each (P past) ls → Each IsOther ls ⊎ ((l : Shown) × (ls ≡ l ∷ [])) → Along P past ls
  step-along past ls e (inl o) = others-along past ls o
  step-along past ls e (inr (l, is)) = subst (Along P past) (sym is) ((subst (Each (P past)) is e).0, tt)

pub both-along : (P : List Shown → Shown → Type 0) (past xs ys : List Shown) → Along P past xs → Along P (past ++ xs) ys → Along P past (xs ++ ys)
both-along P past [] ys p q = subst (λ l. Along P l ys) (append-nil past) q
both-along P past (x ∷ xs) ys p q = (p.0, both-along P (past ++ x ∷ []) xs ys p.1 (subst (λ l. Along P l ys) (sym (append_assoc past (x ∷ []) xs)) q))

module _ (base : Base) (v : Images) (j : Work) where
  pub other-within : (past : List Shown) (l : Shown) → IsOther l → IsWithin base v j past l
  other-within past (show.Durable c ns) o = absurd o
  other-within past (show.Waits l c cl) o = tt
  other-within past (show.Answered l c cl a op) o = tt
  other-within past (show.Ended c ns) o = tt
  other-within past (show.Unseen c) o = tt
  other-within past (show.Told c ns) o = tt
  other-within past (show.Crashed c) o = tt
  other-within past show.Stopped o = tt
  other-within past show.Started o = tt
  other-within past show.Nothing o = tt
  other-within past show.Unsettled o = tt
  other-within past (show.Bad l k) o = tt
  other-within past (show.DiskBad k) o = tt
  other-within past (show.Limit n k) o = tt
  other-within past (show.Spent n) o = tt

  pub along-within : (past ls : List Shown) → Along (IsWithin base v j) past ls → AreWithin base v j past ls
  along-within past [] a = tt
  along-within past (l ∷ ls) a = (a.0, along-within (past ++ l ∷ []) ls a.1)

  others-within : (past ls : List Shown) → Each IsOther ls → AreWithin base v j past ls
  others-within past ls e = along-within past ls (others-along (IsWithin base v j) other-within past ls e)

  -- The first step of a line.
  module _ (w : World) (past : List Shown) where
    begun-others : (c line : ℕ) (cl : Call) (before : List Out) (k : Clerk) (u : World) → Each IsOther (call_on c line cl before k u).shown
    begun-others c line cl before k u = go (clerk.begin cl k).spent
      where
        waits : (b : Bool) → Each IsOther (elim b as (λ z. Moving) [ true ↦ moving (world.add_call c (k.calls + 1) line cl u) | false ↦ show_line (show.Waits line c cl) (moving (world.add_call c (k.calls + 1) line cl u)) ]).shown
        waits true = tt
        waits false = (tt, tt)

        go : (o : Option Counter) → Each IsOther (elim o as (λ z. Moving) [
          | Some s ↦ fails (fault.Spent s) u
          | None ↦ clerk_does c (record (clerk.begin cl k) { outs = before ++ (clerk.begin cl k).outs }) (show_waits c (k.calls + 1) line cl (clerk.begin cl k).outs (moving (world.add_call c (k.calls + 1) line cl u)))
        ]).shown
        go (Some s) = tt
        go None = does-others c (record (clerk.begin cl k) { outs = before ++ (clerk.begin cl k).outs }) _ (waits (list_any (is_answer_to (k.calls + 1)) (clerk.begin cl k).outs))

    pub call-within : (c line : ℕ) (cl : Call) → AreWithin base v j past (call c line cl w).shown
    call-within c line cl = others-within past (call c line cl w).shown (go (at c w.clerks))
      where
        starts : (o : Option Counter) → Each IsOther (elim o as (λ z. Moving) [
          | Some n ↦ fails (fault.Spent n) w
          | None ↦ call_on c line cl (clerk.start c (world.boot c w + 1)).outs (clerk.start c (world.boot c w + 1)).clerk (record w { boots = put c (world.boot c w + 1) w.boots })
        ]).shown
        starts (Some n) = tt
        starts None = begun-others c line cl (clerk.start c (world.boot c w + 1)).outs (clerk.start c (world.boot c w + 1)).clerk (record w { boots = put c (world.boot c w + 1) w.boots })

        go : (o : Option Clerk) → Each IsOther (elim o as (λ z. Moving) [ Some k ↦ call_on c line cl [] k w | None ↦ start_and_call c line cl w ]).shown
        go (Some k) = begun-others c line cl [] k w
        go None = starts (clerk.start c (world.boot c w + 1)).spent

    pub push-within : (c n : ℕ) (k : Option Clerk) → AreWithin base v j past (push c n k w).shown
    push-within c n k = others-within past (push c n k w).shown (go k)
      where
        is-undurable : (k : Clerk) (b : Bool) → Each IsOther (elim b as (λ z. Moving) [ true ↦ clerk_does c (clerk.push n k) (moving w) | false ↦ nothing w ]).shown
        is-undurable k true = does-others c (clerk.push n k) (moving w) tt
        is-undurable k false = (tt, tt)

        issued : (k : Clerk) (b : Bool) → Each IsOther (elim b as (λ z. Moving) [ false ↦ fails fault.NoSuchOp w | true ↦ elim (is_undurable c n w) as (λ z. Moving) [ true ↦ clerk_does c (clerk.push n k) (moving w) | false ↦ nothing w ] ]).shown
        issued k false = tt
        issued k true = is-undurable k (is_undurable c n w)

        go : (k : Option Clerk) → Each IsOther (push c n k w).shown
        go None = tt
        go (Some k) = issued k (clerk.has_issued n k)
