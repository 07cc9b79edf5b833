-- What is in store behind one step of a node.
use Rattle.std.proofs.Common.{◌≡◌, refl, sym, ◌∙◌, subst, arith, ◌≤◌, ℕ, T, Bool, true, false, ◌==◌, ◌||◌, cond, List, [], ◌∷◌}
use Rattle.std.specs.Prelude.{Option, None, Some, is_some}
use Rattle.std.proofs.lemmas.Bool.{eqb-true}
use Rattle.ec_base.specs.Tables.{at}
use Rattle.ec_history.specs.History.{Each}
use Rattle.ec_volume.specs.Update.{member}
use Rattle.ec_wire.specs.declared.msg.Msg.{Msg}
use Rattle.ec_protocol.specs.Clerk as clerk
use Rattle.ec_protocol.specs.Clerk.{Doing}
use Rattle.ec_protocol.specs.Server as server
use Rattle.ec_protocol.specs.declared.clerk.Clerk.{Clerk}
use Rattle.ec_protocol.specs.declared.clerk.Out.{Out}
use Rattle.ec_protocol.specs.declared.clerk.Out.TheVariants as out
use Rattle.ec_coherence.proofs.ForServer.Lists.{each-more}
use Rattle.ec_coherence.proofs.ForServer.Tables.{at-put, same_some}
use Rattle.ec_quiet.specs.Scenes.{Mail, Scene, delivered, done_by, is_for_server, sends, served, taken_by}
use Rattle.ec_complete.specs.Rooms.{ComesWell, GrantsRoom, HasRoomIn, IsStocked, IsWellAsked}
use Rattle.ec_complete.proofs.Steps.{messages-keep}
use Rattle.ec_complete.proofs.RoomsServe.{servers-grant-room}
use Rattle.ec_complete.specs.ScriptRooms.{HasStock}

abbrev Grants : Mail → Type 0
Grants ms = Each {A = ℕ × Msg} (λ m. GrantsRoom m.1) ms

-- a clerk refuses no ids
sends-grant : (c : ℕ) (os : List Out) → Each HasRoomIn os → Grants (sends c os)
sends-grant c [] h = tt
sends-grant c (out.Send m ∷ os) h = (h.0, sends-grant c os h.1)
sends-grant c (out.Told ns ∷ os) h = sends-grant c os h.1
sends-grant c (out.Answer n a op ∷ os) h = sends-grant c os h.1
sends-grant c (out.OldBoot a ∷ os) h = sends-grant c os h.1

-- more objects were asked for
pub more-stock : (a b : ℕ) (k : Clerk) → a ≤ b → IsStocked a k → IsStocked b k
more-stock a b k l h = record { one = h.one; waits = omega (arith, h.waits, l); ids = omega (arith, h.ids, l); few = h.few; asks = h.asks }

module _ (names callers : List ℕ) (makes : ℕ → ℕ) (sc : Scene) (s : HasStock names callers makes sc) where
  -- the clerk did a step; perhaps it's asked for more
  pub done : (more : ℕ → ℕ) (c : ℕ) (d : Doing) (rest : Mail) → ((a : ℕ) → makes a ≤ more a) → IsStocked (more c) d.clerk → T (member c names) → Each HasRoomIn d.outs → Grants rest → HasStock names (c ∷ callers) more (done_by c d rest sc)
  done more c d rest l now name h g = record {
    clerks = λ a k e. each a k (a == c) refl (sym (at-put a c d.clerk sc.clerks) ∙ e);
    named = λ a k e. name-of a k (a == c) refl (sym (at-put a c d.clerk sc.clerks) ∙ e);
    run = λ a m. subst (λ o. T (is_some o)) (sym (at-put a c d.clerk sc.clerks)) (runs a (a == c) m);
    mail = each-more (λ m. GrantsRoom m.1) rest (sends c d.outs) g (sends-grant c d.outs h);
  }
    where
      each : (a : ℕ) (k : Clerk) (z : Bool) → (a == c) ≡ z → cond z (Some d.clerk) (at a sc.clerks) ≡ Some k → IsStocked (more a) k
      each a k true e q = subst (λ b. IsStocked (more b) k) (sym (eqb-true a c e)) (subst (IsStocked (more c)) (same_some q) now)
      each a k false e q = more-stock (makes a) (more a) k (l a) (s.clerks a k q)

      name-of : (a : ℕ) (k : Clerk) (z : Bool) → (a == c) ≡ z → cond z (Some d.clerk) (at a sc.clerks) ≡ Some k → T (member a names)
      name-of a k true e q = subst (λ b. T (member b names)) (sym (eqb-true a c e)) name
      name-of a k false e q = s.named a k q

      runs : (a : ℕ) (z : Bool) → T (z || member a callers) → T (is_some (cond z (Some d.clerk) (at a sc.clerks)))
      runs a true m = tt
      runs a false m = s.run a m

  -- a clerk that ran did, and was asked for no more
  pub done-again : (c : ℕ) (k : Clerk) (d : Doing) (rest : Mail) → at c sc.clerks ≡ Some k → IsStocked (makes c) d.clerk → Each HasRoomIn d.outs → Grants rest → HasStock names callers makes (done_by c d rest sc)
  done-again c k d rest there now h g =
      let q = done makes c d rest (λ a. omega arith) now (s.named c k there) h g in
      record { clerks = q.clerks; named = q.named; run = λ a m. q.run a (later (a == c) (member a callers) m); mail = q.mail }
    where
      later : (a b : Bool) → T b → T (a || b)
      later true b m = tt
      later false b m = m

  -- the message is delivered
  module _ (c : ℕ) (m : Msg) (rest : Mail) (head : sc.mail ≡ (c, m) ∷ rest) (asked : IsWellAsked m sc.server) (well : (k : Clerk) → is_for_server m ≡ false → at c sc.clerks ≡ Some k → ComesWell m k) where
    left : Grants rest
    left = (subst Grants head s.mail).1

    at-server : HasStock names callers makes (served c m rest sc)
    at-server = record {
      clerks = s.clerks;
      named = s.named;
      run = s.run;
      mail = each-more (λ m. GrantsRoom m.1) rest (server.take c m sc.server).sent left (servers-grant-room c m sc.server asked);
    }

    at-clerk : is_for_server m ≡ false → (o : Option Clerk) → at c sc.clerks ≡ o → HasStock names callers makes (taken_by c m rest o sc)
    at-clerk f None e = record { clerks = s.clerks; named = s.named; run = s.run; mail = left }
    at-clerk f (Some k) e =
        let q = messages-keep (makes c) m k (well k f e) (s.clerks c k e) in
        done-again c k (clerk.take m k) rest e q.0 q.1 left

    pub stock-then : HasStock names callers makes (delivered c m rest sc)
    stock-then = go (is_for_server m) refl
      where
        go : (b : Bool) → is_for_server m ≡ b → HasStock names callers makes (elim b as (λ z. Scene) [ true ↦ served c m rest sc | false ↦ taken_by c m rest (at c sc.clerks) sc ])
        go true e = at-server
        go false e = at-clerk e (at c sc.clerks) refl

    -- what comes out of the clerk's step
    pub outs-room : is_for_server m ≡ false → (k : Clerk) → at c sc.clerks ≡ Some k → Each HasRoomIn (clerk.take m k).outs
    outs-room f k e = (messages-keep (makes c) m k (well k f e) (s.clerks c k e)).1
