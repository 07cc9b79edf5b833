-- A delivery meets no fault.
use Rattle.std.proofs.Common.{◌≡◌, refl, sym, ap, ◌∙◌, subst, arith, ◌<◌, ℕ, Bool, true, false, List, [], ◌∷◌, ◌++◌, length, length-append}
use Rattle.std.specs.Prelude.{Option, None, Some}
use Rattle.std.proofs.lemmas.Bool.{true≢false}
use Rattle.ec_base.specs.Limits.{last_counter}
use Rattle.ec_base.specs.Tables.{at, put}
use Rattle.ec_wire.specs.declared.msg.Msg.{Msg}
use Rattle.ec_durable.specs.Durable.{is_full}
use Rattle.ec_durable.specs.declared.record.Record.{Record}
use Rattle.ec_protocol.specs.Clerk as clerk
use Rattle.ec_protocol.specs.Clerk.{Doing}
use Rattle.ec_protocol.specs.Server as server
use Rattle.ec_protocol.specs.Server.{Serving}
use Rattle.ec_protocol.specs.World.{Moving, clerk_does, come_out, deliver, deliver_to, due, fails, moving, noted, runs, served, served_record, settled, show_noted, to_clerk, to_server, with_world}
use Rattle.ec_protocol.specs.declared.clerk.Clerk.{Clerk}
use Rattle.ec_protocol.specs.declared.clerk.Out.{Out}
use Rattle.ec_protocol.specs.declared.clerk.Out.TheVariants as out
use Rattle.ec_protocol.specs.declared.world.Noted.{Noted}
use Rattle.ec_protocol.specs.declared.world.Noted.TheVariants as noted_of
use Rattle.ec_protocol.specs.declared.world.Sent.{Sent}
use Rattle.ec_protocol.specs.declared.world.World.{World}
use Rattle.ec_protocol.specs.declared.world.WorldFault.TheVariants as fault
use Rattle.ec_quiet.specs.Phases.{InPhase, Phase}
use Rattle.ec_quiet.specs.Scenes.{IsScene, Mail, Scene, delivered, is_for_server, sends, taken_by}
use Rattle.ec_quiet.specs.Scenes as scenes
use Rattle.ec_quiet.specs.Works.{Work}
use Rattle.ec_quiet.proofs.Delivering as delivering
use Rattle.ec_quiet.proofs.Sending.{IsFirst}
use Rattle.ec_quiet.proofs.Stepping.{nothing-fails}
use Rattle.ec_quiet.specs.OfDeliveries.Leading.{CanTake}
use Rattle.ec_machine_laws.proofs.Taken.{counters-rise}
use Rattle.ec_machine_laws.specs.Unspent.{sent}
use Rattle.ec_machine_laws.proofs.Serving as serving
use Rattle.ec_machine_laws.proofs.Taking as taking
use Rattle.ec_quiet.specs.OfDeliveries.Runs.{IsFar}
use Rattle.ec_quiet.proofs.OfDeliveries.Getting.{first-gets, may-count}
use Rattle.ec_quiet.proofs.OfDeliveries.Spending.{is_room, refused-unspent}

notes : (o : Option Noted) (m : Moving) → (show_noted o m).fault ≡ m.fault
notes None m = refl
notes (Some (noted_of.Durable c ns)) m = refl
notes (Some (noted_of.Ended c b)) m = refl

records : (t : Serving) (w : World) (r : Option Record) → (served_record runs r t w).fault ≡ None
records t w None = refl
records t w (Some r) = notes (noted w.durable r) (moving (record w { records = w.records ++ r ∷ [] }))

serves : (t : Serving) (w : World) → t.spent ≡ None → (served runs t w).fault ≡ None
serves t w e = ap (λ o. (elim o as (λ z. Moving) [ Some n ↦ fails (fault.Spent n) w | None ↦ served_record runs t.rec t w ]).fault) e ∙ records t w t.rec

does : (c : ℕ) (d : Doing) (w : World) → d.spent ≡ None → (clerk_does c d (moving w)).fault ≡ None
does c d w e = ap (λ o. (elim o as (λ z. Moving) [ Some n ↦ fails (fault.Spent n) w | None ↦ come_out c d.outs (with_world (λ w. record w { clerks = put c d.clerk w.clerks }) (moving w)) ]).fault) e
    ∙ nothing-fails c d.outs (with_world (λ w. record w { clerks = put c d.clerk w.clerks }) (moving w))

as-many : (c : ℕ) (os : List Out) → length (sends c os) ≡ sent os
as-many c [] = refl
as-many c (out.Send m ∷ os) = omega (arith, as-many c os)
as-many c (out.Told ns ∷ os) = as-many c os
as-many c (out.Answer n a op ∷ os) = as-many c os
as-many c (out.OldBoot a ∷ os) = as-many c os

module _ (j : Work) (w : World) (sc : Scene) (p : Phase) (t : ℕ × Msg) (rest : Mail) (i : IsScene w sc) (q : InPhase j sc p) (can : CanTake j sc p t) (head : sc.mail ≡ t ∷ rest)
    (far : IsFar (length (delivered t.0 t.1 rest sc).mail) sc) where
  abbrev first : IsFirst w t.0 t.1 rest
  first = delivering.first w sc i t.0 t.1 rest head

  abbrev n : ℕ
  n = first.number

  abbrev s : Sent
  s = first.sent

  abbrev left : World
  left = settled n w

  -- the server's step
  server-spends : is_for_server t.1 ≡ true → (server.take t.0 t.1 sc.server).spent ≡ None
  server-spends e =
      let mail-is : (delivered t.0 t.1 rest sc).mail ≡ rest ++ (server.take t.0 t.1 sc.server).sent = ap (λ b. (elim b as (λ z. Scene) [ true ↦ scenes.served t.0 t.1 rest sc | false ↦ taken_by t.0 t.1 rest (at t.0 sc.clerks) sc ]).mail) e in
      let low : (server.take t.0 t.1 sc.server).server.number < last_counter = omega (arith, far.number, (counters-rise t.0 t.1 sc.server).0, ap length mail-is, length-append rest (server.take t.0 t.1 sc.server).sent) in
      go (is_full sc.server.durable) refl (is_room t.1) refl (λ room. serving.takes t.0 t.1 sc.server (may-count t.0 t.1 sc.server (can.suits e) room) low)
    where
      go : (a : Bool) → is_full sc.server.durable ≡ a → (b : Bool) → is_room t.1 ≡ b → ((is_room t.1 ≡ true → is_full sc.server.durable ≡ false) → (server.take t.0 t.1 sc.server).spent ≡ None) → (server.take t.0 t.1 sc.server).spent ≡ None
      go false full b room counted = counted (λ z. full)
      go true full true room counted = refused-unspent j sc p t rest q head room full
      go true full false room counted = counted (λ z. absurd (true≢false (sym z ∙ room)))

  -- the clerk's step
  clerk-spends : is_for_server t.1 ≡ false → (k : Clerk) → at t.0 sc.clerks ≡ Some k → (clerk.take t.1 k).spent ≡ None
  clerk-spends e k f =
      let mail-is : (delivered t.0 t.1 rest sc).mail ≡ rest ++ sends t.0 (clerk.take t.1 k).outs =
      ap (λ b. (elim b as (λ z. Scene) [ true ↦ scenes.served t.0 t.1 rest sc | false ↦ taken_by t.0 t.1 rest (at t.0 sc.clerks) sc ]).mail) e ∙ ap (λ o. (taken_by t.0 t.1 rest o sc).mail) f in
      taking.takes t.1 k (first-gets j sc p t rest q (can.may e) head) (record {
        messages = omega (arith, far.sends t.0 k f, ap length mail-is, length-append rest (sends t.0 (clerk.take t.1 k).outs), as-many t.0 (clerk.take t.1 k).outs);
        calls = omega (arith, far.calls t.0 k f);
      })

  abbrev Fine : Moving → Type 0
  Fine m = m.fault ≡ None

  delivers : deliver runs n w ≡ deliver_to runs n s w
  delivers = ap (λ o. elim o as (λ z. Moving) [ None ↦ fails fault.NoSuchMsg w | Some s ↦ deliver_to runs n s w ]) first.there

  to-server : is_for_server t.1 ≡ true → Fine (to_server runs n s w.server w)
  to-server e = subst (λ o. Fine (to_server runs n s o w)) (sym i.server) (serves (server.take s.clerk s.msg sc.server) left
      (subst (λ (z : ℕ × Msg). (server.take z.0 z.1 sc.server).spent ≡ None) (λ z. (sym first.clerk z, sym first.message z)) (server-spends e)))

  to-clerk : is_for_server t.1 ≡ false → Fine (to_clerk s.clerk s.msg (at s.clerk w.clerks) left)
  to-clerk e = subst (λ (z : ℕ × Msg). Fine (to_clerk z.0 z.1 (at z.0 w.clerks) left)) (λ z. (sym first.clerk z, sym first.message z)) (subst (λ cs. Fine (to_clerk t.0 t.1 (at t.0 cs) left)) (sym i.clerks) (go (at t.0 sc.clerks) refl))
    where
      go : (o : Option Clerk) → at t.0 sc.clerks ≡ o → Fine (to_clerk t.0 t.1 o left)
      go None f = refl
      go (Some k) f = does t.0 (clerk.take t.1 k) left (clerk-spends e k f)

  by-side : (b : Bool) → is_for_server t.1 ≡ b → Fine (elim b as (λ z. Moving) [ true ↦ to_server runs n s w.server w | false ↦ to_clerk s.clerk s.msg (at s.clerk w.clerks) left ])
  by-side true e = to-server e
  by-side false e = to-clerk e

  fine-first : Fine (deliver runs n w)
  fine-first = subst Fine (sym delivers) (by-side (is_for_server s.msg) (ap is_for_server (sym first.message)))

  pub fine : (k : ℕ) → due w ≡ Some k → Fine (deliver runs k w)
  fine k e = subst (λ z. Fine (deliver runs z w)) (same n k (sym (delivering.due-is w sc i t.0 t.1 rest head) ∙ e)) fine-first
    where
      same : (a b : ℕ) → ◌≡◌ {A = Option ℕ} (Some a) (Some b) → a ≡ b
      same a b z = cc
