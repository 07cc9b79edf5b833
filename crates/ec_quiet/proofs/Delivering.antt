-- A delivery in the world and in its scene.
use Rattle.std.proofs.Common.{◌≡◌, refl, sym, ap, ◌∙◌, subst, arith, ℕ, Bool, true, false, not, ◌&&◌, ◌||◌, List, [], ◌∷◌, ◌++◌}
use Rattle.std.specs.Prelude.{Option, None, Some, ◌==◌, is_some}
use Rattle.ec_base.specs.Tables.{at, put}
use Rattle.ec_volume.specs.Update.{member}
use Rattle.ec_plain.specs.declared.call.Call.{Call}
use Rattle.ec_history.specs.declared.entry.Answer.{Answer}
use Rattle.ec_history.specs.declared.shown.Shown.{Shown}
use Rattle.ec_history.specs.declared.shown.Shown.TheVariants as show
use Rattle.ec_wire.specs.declared.msg.Msg.{Msg}
use Rattle.ec_durable.specs.declared.record.Record.{Record}
use Rattle.ec_protocol.specs.Clerk as clerk
use Rattle.ec_protocol.specs.Clerk.{Doing}
use Rattle.ec_protocol.specs.Server as server
use Rattle.ec_protocol.specs.Server.{Serving}
use Rattle.ec_protocol.specs.World.{Moving, call_of, clerk_does, come_out, committed, deliver, deliver_to, due, fails, go_on, is_deliverable, less_call, moving, noted, runs, send, send_all, served, served_record, settled, show_answer, show_line, show_noted, to_clerk, to_server, with_world}
use Rattle.ec_protocol.specs.declared.clerk.Clerk.{Clerk}
use Rattle.ec_protocol.specs.declared.clerk.Out.{Out}
use Rattle.ec_protocol.specs.declared.clerk.Out.TheVariants as out
use Rattle.ec_protocol.specs.declared.server.Server.{Server}
use Rattle.ec_protocol.specs.declared.world.Noted.{Noted}
use Rattle.ec_protocol.specs.declared.world.Noted.TheVariants as noted_of
use Rattle.ec_protocol.specs.declared.world.Sent.{Sent}
use Rattle.ec_protocol.specs.declared.world.World.{World}
use Rattle.ec_protocol.specs.declared.world.WorldFault.TheVariants as fault
use Rattle.ec_quiet.specs.Scenes as scenes
use Rattle.ec_quiet.specs.Scenes.{IsScene, Mail, Scene, delivered, done_by, is_for_server, sends, taken_by}
use Rattle.ec_quiet.proofs.Sending.{IsFirst, all-sent, first-is, first-leaves, sends-on}
use Rattle.ec_base.proofs.Lists.{regroup, no-more}

-- What is shown and which calls are under way isn't read.

pub shown-alike : (w : World) (sc : Scene) (ss : List Shown) → IsScene w sc → IsScene (record w { shown = ss }) sc
shown-alike w sc ss i = record { server = i.server; durable = i.durable; sure = i.sure; linked = i.linked; clerks = i.clerks; mail = i.mail; kept = i.kept; rising = i.rising; pending = i.pending; pool = i.pool }

records-alike : (w : World) (sc : Scene) (rs : List Record) → IsScene w sc → IsScene (record w { records = rs }) sc
records-alike w sc rs i = record { server = i.server; durable = i.durable; sure = i.sure; linked = i.linked; clerks = i.clerks; mail = i.mail; kept = i.kept; rising = i.rising; pending = i.pending; pool = i.pool }

fewer-calls : (w : World) (sc : Scene) (c n : ℕ) → IsScene w sc → IsScene (less_call c n w) sc
fewer-calls w sc c n i = record { server = i.server; durable = i.durable; sure = i.sure; linked = i.linked; clerks = i.clerks; mail = i.mail; kept = i.kept; rising = i.rising; pending = i.pending; pool = i.pool }

pub with-clerks : (w : World) (sc : Scene) (c : ℕ) (k : Clerk) → IsScene w sc → IsScene (record w { clerks = put c k w.clerks }) (record sc { clerks = put c k sc.clerks })
with-clerks w sc c k i = record { server = i.server; durable = i.durable; sure = i.sure; linked = i.linked; clerks = ap (put c k) i.clerks; mail = i.mail; kept = i.kept; rising = i.rising; pending = i.pending; pool = i.pool }

with-server : (w : World) (sc : Scene) (v : Server) → IsScene w sc → IsScene (record w { server = Some v; durable = v.durable }) (record sc { server = v })
with-server w sc v i = record { server = refl; durable = refl; sure = i.sure; linked = i.linked; clerks = i.clerks; mail = i.mail; kept = i.kept; rising = i.rising; pending = i.pending; pool = i.pool }

-- The server's step.

notes : (o : Option Noted) (m : Moving) (sc : Scene) → IsScene m.world sc → IsScene (show_noted o m).world sc
notes None m sc i = i
notes (Some (noted_of.Durable c ns)) m sc i = shown-alike m.world sc _ i
notes (Some (noted_of.Ended c b)) m sc i = shown-alike m.world sc _ i

goes-on : (t : Serving) (w : World) (sc : Scene) → IsScene w sc → IsScene (go_on t w) (record sc { server = t.server; mail = sc.mail ++ t.sent })
goes-on t w sc i = all-sent t.sent (record w { server = Some t.server; durable = t.server.durable }) (record sc { server = t.server }) (with-server w sc t.server i)

serves : (t : Serving) (w : World) (sc : Scene) → IsScene w sc → (served runs t w).fault ≡ None → IsScene (served runs t w).world (record sc { server = t.server; mail = sc.mail ++ t.sent })
serves t w sc i f = go t.spent f
  where
    records : (r : Option Record) → IsScene (served_record runs r t w).world (record sc { server = t.server; mail = sc.mail ++ t.sent })
    records None = goes-on t w sc i
    records (Some r) = goes-on t (show_noted (noted w.durable r) (moving (record w { records = w.records ++ r ∷ [] }))).world sc (notes (noted w.durable r) (moving (record w { records = w.records ++ r ∷ [] })) sc (records-alike w sc _ i))

    go : (s : Option Rattle.ec_base.specs.declared.counter.Counter.Counter) → (elim s as (λ z. Moving) [ Some n ↦ fails (fault.Spent n) w | None ↦ served_record runs t.rec t w ]).fault ≡ None
        → IsScene (elim s as (λ z. Moving) [ Some n ↦ fails (fault.Spent n) w | None ↦ served_record runs t.rec t w ]).world (record sc { server = t.server; mail = sc.mail ++ t.sent })
    go (Some n) f = absurd (grind (arith, f))
    go None f = records t.rec

-- A clerk's step.

answers : (c n : ℕ) (a : Answer) (op : Option ℕ) (m : Moving) (sc : Scene) → IsScene m.world sc → IsScene (show_answer c n a op m).world sc
answers c n a op m sc i = go (call_of c n m.world)
  where
    go : (o : Option (ℕ × Call)) → IsScene (elim o as (λ z. Moving) [ None ↦ m | Some l ↦ with_world (less_call c n) (show_line (show.Answered l.0 c l.1 a op) m) ]).world sc
    go None = i
    go (Some l) = fewer-calls (show_line (show.Answered l.0 c l.1 a op) m).world sc c n (shown-alike m.world sc _ i)

pub comes-out : (c : ℕ) (os : List Out) (m : Moving) (sc : Scene) → IsScene m.world sc → IsScene (come_out c os m).world (record sc { mail = sc.mail ++ sends c os })
comes-out c [] m sc i = subst (λ l. IsScene m.world (record sc { mail = l })) (sym (no-more sc.mail)) i
comes-out c (out.Send x ∷ os) m sc i =
    subst (λ l. IsScene (come_out c os (with_world (send c x) m)).world (record sc { mail = l })) (regroup sc.mail ((c, x) ∷ []) (sends c os))
    (comes-out c os (with_world (send c x) m) (record sc { mail = sc.mail ++ (c, x) ∷ [] }) (sends-on m.world sc i c x))
comes-out c (out.Told ns ∷ os) m sc i = comes-out c os (show_line (show.Told c ns) m) sc (shown-alike m.world sc _ i)
comes-out c (out.Answer n a op ∷ os) m sc i = comes-out c os (show_answer c n a op m) sc (answers c n a op m sc i)
comes-out c (out.OldBoot a ∷ os) m sc i = comes-out c os m sc i

does : (c : ℕ) (d : Doing) (w : World) (sc : Scene) → IsScene w sc → (clerk_does c d (moving w)).fault ≡ None → IsScene (clerk_does c d (moving w)).world (record sc { clerks = put c d.clerk sc.clerks; mail = sc.mail ++ sends c d.outs })
does c d w sc i f = go d.spent f
  where
    go : (s : Option Rattle.ec_base.specs.declared.counter.Counter.Counter) → (elim s as (λ z. Moving) [ Some n ↦ fails (fault.Spent n) w | None ↦ come_out c d.outs (with_world (λ w. record w { clerks = put c d.clerk w.clerks }) (moving w)) ]).fault ≡ None
        → IsScene (elim s as (λ z. Moving) [ Some n ↦ fails (fault.Spent n) w | None ↦ come_out c d.outs (with_world (λ w. record w { clerks = put c d.clerk w.clerks }) (moving w)) ]).world (record sc { clerks = put c d.clerk sc.clerks; mail = sc.mail ++ sends c d.outs })
    go (Some n) f = absurd (grind (arith, f))
    go None f = comes-out c d.outs (with_world (λ w. record w { clerks = put c d.clerk w.clerks }) (moving w)) (record sc { clerks = put c d.clerk sc.clerks }) (with-clerks w sc c d.clerk i)

-- The first message is delivered.

module _ (w : World) (sc : Scene) (i : IsScene w sc) (c : ℕ) (m : Msg) (rest : Mail) (head : sc.mail ≡ (c, m) ∷ rest) where
  pub first : IsFirst w c m rest
  first = first-is w sc i c m rest head

  abbrev pub n : ℕ
  n = first.number

  abbrev s : Sent
  s = first.sent

  abbrev left : World
  left = settled n w

  at-left : IsScene left (record sc { mail = rest })
  at-left = first-leaves w sc i c m rest first

  pub due-is : due w ≡ Some n
  due-is = ap (Rattle.ec_base.specs.Tables.first (λ k. is_deliverable w (at k w.pool))) first.pending
      ∙ ap (λ b. elim b as (λ z. Option ℕ) [ true ↦ Some n | false ↦ Rattle.ec_base.specs.Tables.first (λ k. is_deliverable w (at k w.pool)) first.later ]) deliverable
    where
      always : (b : Bool) → (b || true) ≡ true
      always true = refl
      always false = refl

      deliverable : is_deliverable w (at n w.pool) ≡ true
      deliverable = ap (is_deliverable w) first.there ∙ ap (λ cs. not (member s.clerk cs) && (not (Rattle.ec_protocol.specs.World.is_for_server s) || is_some w.server)) i.linked
          ∙ ap (λ o. not (Rattle.ec_protocol.specs.World.is_for_server s) || is_some o) i.server ∙ always (not (Rattle.ec_protocol.specs.World.is_for_server s))

  delivers : deliver runs n w ≡ deliver_to runs n s w
  delivers = ap (λ o. elim o as (λ z. Moving) [ None ↦ fails fault.NoSuchMsg w | Some s ↦ deliver_to runs n s w ]) first.there

  abbrev Comes : Moving → Scene → Type 0
  Comes r z = r.fault ≡ None → IsScene r.world z

  to-server : Comes (to_server runs n s w.server w) (scenes.served s.clerk s.msg rest sc)
  to-server = subst (λ o. Comes (to_server runs n s o w) (scenes.served s.clerk s.msg rest sc)) (sym i.server) (serves (server.take s.clerk s.msg sc.server) left (record sc { mail = rest }) at-left)

  to-clerk : Comes (to_clerk s.clerk s.msg (at s.clerk w.clerks) left) (taken_by s.clerk s.msg rest (at s.clerk sc.clerks) sc)
  to-clerk = subst (λ cs. Comes (to_clerk s.clerk s.msg (at s.clerk cs) left) (taken_by s.clerk s.msg rest (at s.clerk sc.clerks) sc)) (sym i.clerks) (go (at s.clerk sc.clerks))
    where
      go : (o : Option Clerk) → Comes (to_clerk s.clerk s.msg o left) (taken_by s.clerk s.msg rest o sc)
      go None f = at-left
      go (Some k) f = does s.clerk (clerk.take s.msg k) left (record sc { mail = rest }) at-left f

  by-side : (b : Bool) → Comes (elim b as (λ z. Moving) [ true ↦ to_server runs n s w.server w | false ↦ to_clerk s.clerk s.msg (at s.clerk w.clerks) left ])
      (elim b as (λ z. Scene) [ true ↦ scenes.served s.clerk s.msg rest sc | false ↦ taken_by s.clerk s.msg rest (at s.clerk sc.clerks) sc ])
  by-side true = to-server
  by-side false = to-clerk

  pub scene-then : Comes (deliver runs n w) (delivered c m rest sc)
  scene-then = subst (λ r. Comes r (delivered c m rest sc)) (sym delivers)
      (subst (λ (z : ℕ × Msg). Comes (deliver_to runs n s w) (delivered z.0 z.1 rest sc)) (λ z. (first.clerk z, first.message z)) (by-side (is_for_server s.msg)))

pub none-due : (w : World) (sc : Scene) → IsScene w sc → sc.mail ≡ [] → due w ≡ None
none-due w sc i e = go w.pending (i.mail ∙ e) i.kept
  where
    some-letter : (o : Option Sent) (ms : Mail) → Rattle.std.specs.Prelude.T (is_some o) → scenes.letter o ++ ms ≡ [] → ⊥
    some-letter None ms t f = absurd t
    some-letter (Some s) ms t f = grind (arith, f)

    go : (ns : List ℕ) → scenes.mail_of w.pool ns ≡ [] → Rattle.ec_history.specs.History.Each (λ n. Rattle.std.specs.Prelude.T (is_some (at n w.pool))) ns → Rattle.ec_base.specs.Tables.first (λ k. is_deliverable w (at k w.pool)) ns ≡ None
    go [] f k = refl
    go (n ∷ ns) f k = absurd (some-letter (at n w.pool) (scenes.mail_of w.pool ns) k.0 f)
