-- A stopped system with no record in doubt, as another epoch, or a server that only starts, would have it.
use Rattle.std.proofs.Common.{◌≡◌, refl, sym, ap, subst, ◌∙◌, arith, ℕ, Bool, true, false, ◌≤◌, ◌<◌, [], Option, Some, None, append-nil}
use Rattle.ec_base.specs.declared.ids.Age.{Age}
use Rattle.ec_history.specs.History.{Each}
use Rattle.ec_protocol.specs.Server.{new_server, serving}
use Rattle.ec_protocol.specs.declared.clerk.Clerk.{Clerk}
use Rattle.ec_protocol.specs.declared.server.Server.{Server}
use Rattle.ec_coherence.specs.System.{System, Eff, clerk_of, if_in}
use Rattle.ec_coherence.specs.Tokens.{Fits, Side, TokensAgree, eff, eff_of, side, side_in, tables_in, view}
use Rattle.ec_coherence.proofs.ForServer.Lists.{each-turn}
use Rattle.ec_coherence.proofs.ForServer.Restart.{down, started-agrees}
use Rattle.ec_coherence.proofs.ForServer.Tables.{same_some}
use Rattle.ec_coherence.specs.CommitLaws.{AllAgree, StepStands}
use Rattle.ec_coherence.proofs.ForCommits.Taking.{begins}
use Rattle.ec_lawful.specs.Founds.{bare}
use Rattle.ec_lawful.proofs.ForWhole.Downs.{InEpoch, in-epoch, moved-agrees}
use Rattle.ec_lawful.proofs.ForWhole.Dressed.{dressed, dressed-all}
use Rattle.ec_protocol.specs.Clerk.{is_session}
use Rattle.ec_base.proofs.Numbers.{same-self as same, equal}
use Rattle.ec_base.proofs.Options.{none_some}

module _ (g : System) (all : AllAgree g) (stop : g.server ≡ None) where
  pub down-tokens : TokensAgree (down (view g))
  down-tokens = subst (λ z. TokensAgree (record (view g) { tables = tables_in z })) stop (all.0).tokens

  pub eff-old : (s x : ℕ) → eff (view g) s x ≡ g.ghost.old s x
  eff-old s x = ap (λ z. eff_of (tables_in z) g.durable.epoch g.ghost.old s x) stop

  -- its tables are none, and no record is in doubt
  pub bare-all : AllAgree (bare g)
  bare-all = dressed-all g all g.durable.epoch None None g.ghost.old g.pool [] (sym (append-nil g.pool)) down-tokens (λ s x. sym (eff-old s x)) tt tt

-- Of a bare one.
module _ (g : System) (all : AllAgree (bare g)) where
  pub known-old : (s x : ℕ) (f : Eff) → g.ghost.old s x ≡ Some f → f.epoch ≤ g.durable.epoch
  known-old s x f p = ((all.0).tokens.known s x f p).2

  pub all-said : (e : ℕ) → g.durable.epoch ≤ e → Each (λ m. InEpoch e m.1) g.pool
  all-said e l = each-turn (λ m. Fits (view (bare g)) m.1) (λ m. InEpoch e m.1) g.pool (λ m f. in-epoch (view (bare g)) e l m.1 f) (all.0).tokens.messages

  -- no clerk in any session has reached a later epoch
  pub reached-by : (o : Option (ℕ × Age)) (s : ℕ) (k : Side) → side_in (clerk_of s o g.clerks) ≡ Some k → k.epoch ≤ g.durable.epoch
  reached-by None s k p = absurd (none_some p)
  reached-by (Some o) s k p = go (g.clerks o.0 (o.1).boot) refl p
    where
      there : (m : Clerk) → g.clerks o.0 (o.1).boot ≡ Some m → m.session ≡ Some s → clerk_of s (g.ghost.owner s) g.clerks ≡ Some m
      there m q e =
          ap (λ z. clerk_of s z g.clerks) ((all.0).sessions.in_session o.0 (o.1).boot s m q e).0
          ∙ ap (λ b. if_in s (g.clerks o.0 b)) ((all.0).sessions.starts o.0 (o.1).boot m q).1
          ∙ ap (if_in s) q ∙ ap (λ z. elim (is_session s z) as (λ y. Option Clerk) [ true ↦ Some m | false ↦ None ]) e ∙ ap (λ b. elim b as (λ y. Option Clerk) [ true ↦ Some m | false ↦ None ]) (same s)

      in-it : (z : Option ℕ) → is_session s z ≡ true → z ≡ Some s
      in-it None e = absurd (cc)
      in-it (Some t) e = ap Some (sym (equal s t e))

      inner : (m : Clerk) → g.clerks o.0 (o.1).boot ≡ Some m → (b : Bool) → is_session s m.session ≡ b → side_in (elim b as (λ y. Option Clerk) [ true ↦ Some m | false ↦ None ]) ≡ Some k → k.epoch ≤ g.durable.epoch
      inner m q true e p = subst (λ z. z.epoch ≤ g.durable.epoch) (same_some p) (((all.0).tokens.got s (side m) (ap side_in (there m q (in-it m.session e)))).0)
      inner m q false e p = absurd (none_some p)

      go : (z : Option Clerk) → g.clerks o.0 (o.1).boot ≡ z → side_in (if_in s z) ≡ Some k → k.epoch ≤ g.durable.epoch
      go None q p = absurd (none_some p)
      go (Some m) q p = inner m q (is_session s m.session) refl p

  -- in an epoch that isn't earlier
  pub raised-all : (e : ℕ) → g.durable.epoch ≤ e → AllAgree (dressed (bare g) e None None g.ghost.old g.pool)
  raised-all e l = dressed-all (bare g) all e None None g.ghost.old g.pool [] (sym (append-nil g.pool))
      (moved-agrees (view (bare g)) (all.0).tokens e g.pool [] (sym (append-nil g.pool)) (λ s x f p. low (known-old s x f p)) (λ s k p. low (reached-by (g.ghost.owner s) s k p)) (all-said e l)) (λ s x. refl) tt tt
    where
      low : {a : ℕ} → a ≤ g.durable.epoch → a ≤ e
      low b = omega (arith, b, l)

  -- a server has just started in a later epoch, and said nothing yet
  module _ (n : ℕ) (later : g.durable.epoch < n) where
    abbrev pub first : Server
    first = new_server (record (g.durable) { epoch = n })

    abbrev pub up : System
    up = dressed (bare g) n (Some first) None g.ghost.old g.pool

    pub up-all : AllAgree up
    up-all = dressed-all (bare g) all n (Some first) None g.ghost.old g.pool [] (sym (append-nil g.pool)) (started-agrees (view (bare g)) n (all.0).tokens later) (λ s x. refl) (refl, refl) tt

    pub up-begins : StepStands up (serving first) g.ghost
    up-begins = begins up first up-all refl
