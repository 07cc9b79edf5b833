-- A world stands in a system, by the parts that changed.
use Rattle.std.proofs.Common.{◌≡◌, refl, sym, ap, subst, ◌∙◌, ◌≤◌, ◌+◌, ℕ, T, Bool, true, false, ◌==◌, ◌&&◌, cond, List, [], ◌∷◌, ◌++◌, Option, Some, None}
use Rattle.std.specs.Prelude.{is_some, Contains}
use Rattle.std.proofs.lemmas.Bool.{cases_Bool}
use Rattle.ec_base.specs.Tables.{Table, at, at_or, put, without}
use Rattle.ec_wire.specs.declared.msg.Msg.{Msg}
use Rattle.ec_history.specs.declared.shown.Shown.{Shown}
use Rattle.ec_durable.specs.declared.state.Durable.{Durable}
use Rattle.ec_protocol.specs.Clerk.{Doing}
use Rattle.ec_protocol.specs.World.{Moving, boot, clerk_does, come_out, fails, with_world}
use Rattle.ec_protocol.specs.declared.clerk.Clerk.{Clerk}
use Rattle.ec_protocol.specs.declared.world.World.{World}
use Rattle.ec_protocol.specs.declared.world.WorldFault.TheVariants as fault
use Rattle.ec_coherence.specs.System.{System, Ghost, with_start}
use Rattle.ec_coherence.specs.Steps.{Stands, calls_after, doing_in, found, out_lines, running_clerk, sends, to_show}
use Rattle.ec_coherence.proofs.ForServer.Tables.{at-put}
use Rattle.ec_lawful.proofs.ForWhole.Pool.{Pooled}
use Rattle.ec_lawful.proofs.ForWhole.Outs.{Came, came-out}
use Rattle.ec_base.proofs.Numbers.{same-self as same, equal}

pub pooled-of : (w : World) (g : System) → Stands w g → Pooled w g.pool
pooled-of w g st n c i m q = st.pool n c i m q

-- what the disk stands for is the same
pub same-durable : (w v : World) (g h : System) → Stands w g → v.durable ≡ w.durable → h.durable ≡ g.durable → h.unshown ≡ g.unshown → v.durable ≡ record (found h.unshown h.durable) { epoch = v.durable.epoch }
same-durable w v g h st q r u = q ∙ st.durable ∙ ap (λ e. record (found g.unshown g.durable) { epoch = e }) (ap (λ d. d.epoch) (sym q))
    ∙ ap (λ x. record (found x g.durable) { epoch = v.durable.epoch }) (sym u) ∙ ap (λ x. record (found h.unshown x) { epoch = v.durable.epoch }) (sym r)

-- A running clerk does a step.
module _ (m : Moving) (g : System) (st : Stands m.world g) (c b : ℕ) (run : g.running c ≡ Some b) (d : Doing) (γ : Ghost) (unspent : d.spent ≡ None) (shown : γ.shown ≡ g.ghost.shown ++ out_lines c d.outs g.calls) where
  abbrev first : Moving
  first = with_world (λ w. record w { clerks = put c d.clerk w.clerks }) m

  abbrev h : System
  h = doing_in c b d γ g

  does : clerk_does c d m ≡ come_out c d.outs first
  does = ap (λ o. elim o as (λ z. Moving) [ Some n ↦ fails (fault.Spent n) m.world | None ↦ come_out c d.outs (with_world (λ w. record w { clerks = put c d.clerk w.clerks }) m) ]) unspent

  r : Came c d.outs first (come_out c d.outs first)
  r = came-out c d.outs first

  put-in : (e : ℕ) → at e (put c d.clerk m.world.clerks) ≡ running_clerk h e
  put-in e = at-put e c d.clerk m.world.clerks ∙ go (e == c) refl
    where
      others : (o : Option ℕ) (z : Bool) → z ≡ false → elim o as (λ y. Option Clerk) [ None ↦ None | Some a ↦ g.clerks e a ]
          ≡ elim o as (λ y. Option Clerk) [ None ↦ None | Some a ↦ elim (z && (a == b)) as (λ y. Option Clerk) [ true ↦ Some d.clerk | false ↦ g.clerks e a ] ]
      others None z q = refl
      others (Some a) z q = sym (ap (λ y. elim (y && (a == b)) as (λ x. Option Clerk) [ true ↦ Some d.clerk | false ↦ g.clerks e a ]) q)

      own : (o : Option ℕ) (z : Bool) → o ≡ Some b → z ≡ true → Some d.clerk ≡ elim o as (λ y. Option Clerk) [ None ↦ None | Some a ↦ elim (z && (a == b)) as (λ y. Option Clerk) [ true ↦ Some d.clerk | false ↦ g.clerks e a ] ]
      own o z q p = sym (ap (λ y. elim y as (λ x. Option Clerk) [ None ↦ None | Some a ↦ elim (z && (a == b)) as (λ x. Option Clerk) [ true ↦ Some d.clerk | false ↦ g.clerks e a ] ]) q
          ∙ ap (λ y. elim (y && (b == b)) as (λ x. Option Clerk) [ true ↦ Some d.clerk | false ↦ g.clerks e b ]) p ∙ ap (λ y. elim y as (λ x. Option Clerk) [ true ↦ Some d.clerk | false ↦ g.clerks e b ]) (same b))

      go : (z : Bool) → (e == c) ≡ z → cond z (Some d.clerk) (at e m.world.clerks) ≡ running_clerk h e
      go true q = own (g.running e) (e == c) (ap g.running (equal e c q) ∙ run) q
      go false q = st.clerks e ∙ others (g.running e) (e == c) q

  came-stands : Stands (come_out c d.outs first).world h
  came-stands = record {
    server = r.server ∙ st.server;
    durable = same-durable m.world (come_out c d.outs first).world g h st r.durable refl refl;
    epoch = subst (λ x. g.durable.epoch ≤ x.epoch) (sym r.durable) st.epoch;
    up = λ t. r.durable ∙ st.up t;
    unshown = r.unshown ∙ st.unshown;
    clerks = λ e. ap (at e) r.clerks ∙ put-in e;
    boots = λ e. ap (at_or 0 e) r.boots ∙ st.boots e;
    calls = r.calls ∙ ap (calls_after c d.outs) st.calls;
    pool = r.pool g.pool (pooled-of m.world g st);
    shown = r.lines ∙ ap (λ x. x ++ out_lines c d.outs m.world.calls) st.shown ∙ ap (λ x. g.ghost.shown ++ out_lines c d.outs x) st.calls ∙ sym shown;
  }

  pub done-stands : Stands (clerk_does c d m).world h
  done-stands = subst (λ x. Stands x.world h) (sym does) came-stands
