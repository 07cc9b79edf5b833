-- All facts behind the end of a session on a stopped system: a server that only starts would end it, and stop again.
use Rattle.std.proofs.Common.{◌≡◌, refl, sym, ◌∙◌, arith, ℕ, Bool, true, false, ◌==◌, ◌+◌, ◌<◌, T, [], Option, Some, None}
use Rattle.ec_sessions.specs.Slots.{with_slot}
use Rattle.ec_sessions.specs.declared.slot.Slot.{Slot}
use Rattle.ec_durable.specs.Durable.{slot}
use Rattle.ec_protocol.specs.Server.{Serving, serving}
use Rattle.ec_coherence.specs.System.{System, Eff}
use Rattle.ec_coherence.specs.Steps.{serving_in}
use Rattle.ec_coherence.specs.Tokens.{View, eff, tables_of, view}
use Rattle.ec_coherence.proofs.ForServer.Restart.{stopped-agrees}
use Rattle.ec_coherence.specs.CommitLaws.{AllAgree}
use Rattle.ec_coherence.specs.Ends.{show_end}
use Rattle.ec_coherence.proofs.Finishes as finishes
use Rattle.ec_lawful.proofs.ForWhole.Downs.{moved-agrees}
use Rattle.ec_lawful.proofs.ForWhole.Dressed.{dressed-all}
use Rattle.ec_lawful.proofs.ForWhole.Ups as ups
use Rattle.ec_lawful.specs.Founds.{bare}

module _ (g : System) (all : AllAgree (bare g)) (c : ℕ) (sl : Slot) (in_slot : slot g.durable c ≡ Some sl) (opened : T sl.is_open) where
  abbrev e : ℕ
  e = g.durable.epoch

  later : e < e + 1
  later = omega arith

  abbrev pub sm : Slot
  sm = record sl { is_open = false; unspent = [] }

  -- the session has ended, and a line says so
  abbrev pub ended : System
  ended = record (bare g) { durable = record (g.durable) { sessions = with_slot c (Some sm) g.durable.sessions }; ghost = show_end (bare g) c sl }

  abbrev up : System
  up = ups.up g all (e + 1) later

  abbrev done : Serving
  done = finishes.sending up g.ghost (serving (ups.first g all (e + 1) later)) (ups.up-begins g all (e + 1) later) refl c sl in_slot opened []

  abbrev behind : System
  behind = serving_in done (show_end up c sl) up

  behind-all : AllAgree behind
  behind-all = finishes.between-all up g.ghost (serving (ups.first g all (e + 1) later)) (ups.up-begins g all (e + 1) later) refl c sl in_slot opened

  abbrev olds : ℕ → ℕ → Option Eff
  olds = (show_end (bare g) c sl).old

  same-old : (t x : ℕ) → eff (view behind) t x ≡ olds t x
  same-old t x = refl

  was-old : (t x : ℕ) → olds t x ≡ g.ghost.old t x
  was-old t x = go (t == sl.session)
    where
      go : (b : Bool) → elim b as (λ z. Option Eff) [ true ↦ g.ghost.old t x | false ↦ g.ghost.old t x ] ≡ g.ghost.old t x
      go true = refl
      go false = refl

  abbrev halted : View
  halted = record (view behind) { tables = None; old = λ t x. eff (view behind) t x }

  pub ended-all : AllAgree ended
  ended-all = dressed-all behind behind-all e None None olds g.pool [] refl
      (moved-agrees halted (stopped-agrees (view behind) (tables_of done.server) (behind-all.0).tokens) e g.pool [] refl (λ s x f p. ups.known-old g all s x f (sym (was-old s x) ∙ p)) (λ s k p. ups.reached-by g all (g.ghost.owner s) s k p) (ups.all-said g all e (omega arith)))
      (λ s x. refl) tt tt
