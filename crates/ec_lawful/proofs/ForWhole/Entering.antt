-- All facts behind a new session on a stopped system, of a clerk without an open one: a server that only starts would open it, and stop again.
use Rattle.std.proofs.Common.{◌≡◌, refl, sym, ap, subst, ◌∙◌, arith, ℕ, false, not, ◌||◌, ◌+◌, ◌<◌, T, [], ◌∷◌, Option, Some, None}
use Rattle.std.specs.Prelude.{is_some, nat_le}
use Rattle.ec_base.specs.Ages.{is_older}
use Rattle.ec_base.specs.Limits.{last_counter}
use Rattle.ec_base.specs.declared.ids.Age.{Age}
use Rattle.ec_sessions.specs.Slots.{new_slot, with_slot}
use Rattle.ec_sessions.specs.declared.slot.Slot.{Slot}
use Rattle.ec_wire.specs.declared.msg.Msg.TheVariants.{Opened}
use Rattle.ec_durable.specs.Durable.{slot}
use Rattle.ec_protocol.specs.Server.{Serving, open_new, serving}
use Rattle.ec_coherence.specs.System.{System, Ghost, Eff, eff_from}
use Rattle.ec_coherence.specs.Sessions.{IsReached}
use Rattle.ec_coherence.specs.Steps.{open_session, serving_in}
use Rattle.ec_coherence.specs.Tokens.{TokensAgree, View, eff, tables_of, view}
use Rattle.ec_coherence.proofs.ForBatches.OpenAgrees as opening
use Rattle.ec_coherence.proofs.ForServer.Restart.{down, stopped-agrees}
use Rattle.ec_coherence.proofs.ForServer.Tables.{by-session}
use Rattle.ec_coherence.specs.CommitLaws.{AllAgree, StepStands}
use Rattle.ec_coherence.proofs.ForCommits.SessionCommits.{open-stands, open-starts, open-watches}
use Rattle.ec_lawful.proofs.ForWhole.Downs.{moved-agrees}
use Rattle.ec_lawful.proofs.ForWhole.Dressed.{dressed-all}
use Rattle.ec_lawful.proofs.ForWhole.Ups as ups
use Rattle.ec_lawful.specs.Founds.{bare}
use Rattle.ec_base.proofs.Numbers.{same-self as same}

module _ (g : System) (all : AllAgree (bare g)) (c : ℕ) (age : Age) (within : c < 16) (idle : (sl : Slot) → slot g.durable c ≡ Some sl → T (not sl.is_open))
    (greater : (sl : Slot) → slot g.durable c ≡ Some sl → T (is_older sl.age age)) (reached : IsReached (bare g) c age) (above : g.first_boot c < age.boot) (small : nat_le last_counter g.durable.next_session ≡ false) where
  abbrev e : ℕ
  e = g.durable.epoch

  abbrev s : ℕ
  s = g.durable.next_session

  later : e < e + 1
  later = omega arith

  abbrev γ' : Ghost
  γ' = open_session c age s g.ghost

  -- the session was opened
  abbrev pub entered : System
  entered = record (bare g) { durable = record (g.durable) { next_session = s + 1; sessions = with_slot c (Some (new_slot age s)) g.durable.sessions }; ghost = γ' }

  abbrev up : System
  up = ups.up g all (e + 1) later

  abbrev t : Serving
  t = serving (ups.first g all (e + 1) later)

  st : StepStands up t g.ghost
  st = ups.up-begins g all (e + 1) later

  opens : StepStands up (open_new c age None t) γ'
  opens = (
    open-stands up g.ghost t st.0 refl c age within idle greater reached small,
    open-watches up g.ghost t st.0 refl c age within idle greater reached small st.1,
    st.2,
    open-starts up g.ghost t st.0 refl c age within idle greater reached small above st.3,
  )

  abbrev done : Serving
  done = opening.opened up g.ghost t st.0 c age within idle greater reached small

  abbrev behind : System
  behind = serving_in done γ' up

  opens-all : AllAgree (serving_in (open_new c age None t) γ' up)
  opens-all = ((opens.0).invariant, opens.1, opens.2, opens.3)

  behind-all : AllAgree behind
  behind-all = subst (λ z. AllAgree (serving_in z γ' up)) (opening.open-is up g.ghost t st.0 c age within idle greater reached small) opens-all

  -- nothing was effective of the new session
  none-old : (x : ℕ) → g.ghost.old s x ≡ None
  none-old x = go (g.ghost.old s x) refl
    where
      go : (o : Option Eff) → g.ghost.old s x ≡ o → o ≡ None
      go None p = refl
      go (Some f) p = absurd (subst (λ o. T (is_some o)) (opening.fresh up g.ghost t st.0 c age within idle greater reached small) ((all.0).sessions.taken s (((all.0).tokens.known s x f p).1)))

  same-old : (r x : ℕ) → eff (view behind) r x ≡ g.ghost.old r x
  same-old r x = by-session s r (λ z. eff (view behind) z x ≡ g.ghost.old z x)
      (ap (λ b. eff_from (b || false) None (e + 1) (g.ghost.old s x)) (same s) ∙ sym (none-old x)) (λ d. ap (λ b. eff_from (b || false) None (e + 1) (g.ghost.old r x)) d)

  abbrev halted : View
  halted = record (view behind) { tables = None; old = λ r x. eff (view behind) r x }

  pub entered-all : AllAgree entered
  entered-all = dressed-all behind behind-all e None None g.ghost.old g.pool ((c, Opened age s (e + 1)) ∷ []) refl
      (subst (λ f. TokensAgree (record (down halted) { epoch = e; pool = g.pool; old = f })) (λ i r x. same-old r x i)
      (moved-agrees halted (stopped-agrees (view behind) (tables_of done.server) (behind-all.0).tokens) e g.pool ((c, Opened age s (e + 1)) ∷ []) refl (λ r x f p. ups.known-old g all r x f (sym (same-old r x) ∙ p))
      (λ r k p. ups.reached-by g all (γ'.owner r) r k p) (ups.all-said g all e (omega arith))))
      (λ r x. sym (same-old r x)) tt tt
