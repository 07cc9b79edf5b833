-- What the invariant says of the server and the clerks of a scene.
use Rattle.std.proofs.Common.{◌≡◌, refl, sym, ap, subst, ◌∙◌, arith, ◌≤◌, ◌+◌, ℕ, zero, suc, T, Bool, true, false, not, ◌==◌, ◌||◌, cond, List, [], ◌∷◌, Option, Some, None}
use Rattle.std.specs.Prelude.{is_some}
use Rattle.std.specs.Ordering.{nat_cmp, eq_by_cmp}
use Rattle.std.proofs.lemmas.Bool.{eqb-true}
use Rattle.std.proofs.lemmas.Bool.Decides.{nat_tests}
use Rattle.ec_base.specs.Tables.{at}
use Rattle.ec_volume.specs.Update.{member}
use Rattle.ec_order.specs.Order.{Issued}
use Rattle.ec_sessions.specs.Limits.{ids_per_grant}
use Rattle.ec_sessions.specs.Slots.{run}
use Rattle.ec_sessions.specs.Windows.{has}
use Rattle.ec_sessions.specs.declared.slot.Slot.{Slot}
use Rattle.ec_sessions.specs.OfTokens.Tokens.{token}
use Rattle.ec_sessions.specs.declared.tokens.token.Token.{Token}
use Rattle.ec_durable.specs.Durable.{slot, step}
use Rattle.ec_durable.specs.declared.record.Record.TheVariants.{Batch}
use Rattle.ec_log.specs.Log.{batch}
use Rattle.ec_protocol.specs.Server.{serving, has_claimed, may_write}
use Rattle.ec_protocol.specs.declared.clerk.Clerk.{Clerk}
use Rattle.ec_protocol.specs.declared.server.Server.{Server}
use Rattle.ec_protocol.specs.declared.world.World.{World}
use Rattle.ec_coherence.specs.Invariant.{Invariant}
use Rattle.ec_coherence.specs.Sessions.{SessionsAgree}
use Rattle.ec_coherence.specs.Steps.{Stands, running_clerk}
use Rattle.ec_coherence.specs.System.{Eff, System, clerk_in, eff_from, if_in, recorded}
use Rattle.ec_coherence.specs.System as system
use Rattle.ec_coherence.specs.Tokens.{TablesAgree, WhileUp, eff, eff_of, tables_in, tables_of, view}
use Rattle.ec_coherence.proofs.ForBatches.Committing.{commits, committed}
use Rattle.ec_coherence.proofs.ForBatches.Flushed.{may}
use Rattle.ec_quiet.specs.Scenes.{IsScene, Scene}
use Rattle.ec_machine_laws.specs.Holding.{AreOwn}
use Rattle.ec_quiet.specs.OfDeliveries.Coming.{IsTaken}
use Rattle.ec_complete.specs.OfAgreedLines.Worlds.{IsSeen}
use Rattle.ec_protocol.specs.Clerk.{is_session}
use Rattle.ec_base.proofs.Numbers.{same-self}
use Rattle.ec_base.proofs.Bools.{is-true}

pub scenes-seen : (w : World) (g : System) (sc : Scene) → Stands w g → IsScene w sc → IsSeen g sc
scenes-seen w g sc st s = record {
  server = server;
  durable = sym (st.up (subst (λ o. T (is_some o)) (sym server) tt)) ∙ s.durable;
  clerks = λ c k e. runs c k (g.running c) refl (sym (st.clerks c) ∙ ap (at c) s.clerks ∙ e);
}
  where
    server : g.server ≡ Some sc.server
    server = sym st.server ∙ s.server

    none : (k : Clerk) → ◌≡◌ {A = Option Clerk} None (Some k) → ⊥
    none k e = cc

    runs : (c : ℕ) (k : Clerk) (o : Option ℕ) → g.running c ≡ o → running_clerk g c ≡ Some k → (b : ℕ) × (g.clerks c b ≡ Some k)
    runs c k None q e = absurd (none k (sym (ap (λ o. elim o as (λ z. Option Clerk) [ None ↦ None | Some b ↦ g.clerks c b ]) q) ∙ e))
    runs c k (Some b) q e = (b, sym (ap (λ o. elim o as (λ z. Option Clerk) [ None ↦ None | Some b ↦ g.clerks c b ]) q) ∙ e)

-- a clerk's start in a session is the clerk of the session
pub clerk-there : (g : System) → SessionsAgree g → (c b s : ℕ) (k : Clerk) → g.clerks c b ≡ Some k → k.session ≡ Some s → clerk_in g s ≡ Some k
clerk-there g sa c b s k here inside =
    ap (λ o. system.clerk_of s o g.clerks) (sa.in_session c b s k here inside).0
    ∙ ap (λ z. if_in s (g.clerks c z)) (sa.starts c b k here).1 ∙ ap (if_in s) here
    ∙ ap (λ o. elim (is_session s o) as (λ z. Option Clerk) [ true ↦ Some k | false ↦ None ]) inside
    ∙ ap (λ t. elim t as (λ z. Option Clerk) [ true ↦ Some k | false ↦ None ]) (same-self s)

module _ (g : System) (v : Server) (inv : Invariant g) (server : g.server ≡ Some v) (durable : g.durable ≡ v.durable) where
  -- the token of a session that has claimed counts
  counts : (s x : ℕ) → has_claimed s v ≡ true → eff (view g) s x ≡ recorded (token v.tokens s x) g.durable.epoch
  counts s x claimed =
      ap (λ o. eff_of (tables_in o) g.durable.epoch g.ghost.old s x) server
      ∙ ap (λ b. eff_from b (token v.tokens s x) g.durable.epoch (g.ghost.old s x)) claimed

  -- A batch of a session is taken.
  pub batch-taken : (c s b : ℕ) (ops : Issued) (sl : Slot) (k : Clerk) (ns : List ℕ) → slot v.durable c ≡ Some sl → sl.session ≡ s → sl.is_open ≡ true → has_claimed s v ≡ true → clerk_in g s ≡ Some k
      → at b k.log.batches ≡ Some ns → has sl.window b ≡ false → ops ≡ batch b k.log → IsTaken c s b ops v
  batch-taken c s b ops sl k ns here own opened claimed there under new is =
      let place : slot g.durable c ≡ Some sl = ap (λ d. slot d c) durable ∙ here in
      let live : T sl.is_open = subst T (sym opened) tt in
      let unmarked : T (not (has sl.window b)) = subst (λ t. T (not t)) (sym new) tt in
      let done = commits g inv.sessions inv.tokens inv.logs inv.images c s sl k place own live there b ns under unmarked in (
        ap (may_write v.tokens s) is
            ∙ is-true (may_write v.tokens s (batch b k.log)) (may g inv.sessions inv.tokens inv.logs inv.images c s sl k place own live there b ns under unmarked (serving v) (sym durable) (λ x. counts s x claimed)),
        committed g inv.sessions inv.tokens inv.logs inv.images c s sl k place own live there b ns under unmarked,
        ap (step (Batch c s b ops)) (sym durable) ∙ ap (λ os. step (Batch c s b os) g.durable) is ∙ done.steps,
      )

  -- The next ids are nobody's.

  in-run : (first n x : ℕ) → T (member x (run first n)) → first ≤ x
  in-run first zero x m = absurd m
  in-run first (suc n) x m = go (x == first) refl m (in-run (first + 1) n x)
    where
      go : (b : Bool) → (x == first) ≡ b → T (b || member x (run (first + 1) n)) → (T (member x (run (first + 1) n)) → first + 1 ≤ x) → first ≤ x
      go true e m more = omega (arith, eqb-true x first e)
      go false e m more = omega (arith, more m)

  pub tables : TablesAgree (view g) (tables_of v)
  tables = subst (λ o. WhileUp (tables_in o) (TablesAgree (view g))) server inv.tokens.tables

  no-token : (t x : ℕ) → v.durable.next_id ≤ x → token v.tokens t x ≡ None
  no-token t x later = go (member t v.claimed) refl (token v.tokens t x) refl
    where
      go : (b : Bool) → member t v.claimed ≡ b → (o : Option Token) → token v.tokens t x ≡ o → token v.tokens t x ≡ None
      go false e o q = (tables.others t x (subst (λ z. T (not z)) (sym e) tt)).0
      go true e None q = q
      go true e (Some k) q =
          let f = inv.tokens.known t x (record { hold = k.hold; number = k.number; epoch = g.durable.epoch }) (counts t x e ∙ ap (λ o. recorded o g.durable.epoch) q) in
          absurd (omega (arith, f.0, later, ap (λ d. d.next_id) durable))

  pub ids-own : (s : ℕ) → AreOwn s (run v.durable.next_id ids_per_grant) v.tokens
  ids-own s x m t apart = no-token t x (in-run v.durable.next_id ids_per_grant x m)

-- the only one of a table
pub at-only : {A : Type 0} (b : ℕ) (x : A) → at b ((b, x) ∷ []) ≡ Some x
at-only {A} b x = ap (λ t. cond {A = Option A} t (Some x) None) (ties b)
  where
    ties : (b : ℕ) → eq_by_cmp nat_cmp b b ≡ true
    ties b = grind (arith, nat_tests)
