-- A start greets, and its session is opened.
use Rattle.std.proofs.Common.{◌≡◌, refl, sym, ap, subst, ◌∙◌, arith, ◌≤◌, ◌+◌, ℕ, T, Bool, true, false, ◌==◌, ◌&&◌, ◌||◌, cond, [], ◌∷◌, ◌++◌, length, Option, Some, None, Ok}
use Rattle.std.specs.Prelude.{nat_lt, nat_le, is_some, Result, Err}
use Rattle.std.proofs.lemmas.Bool.Decides.{nat_tests}
use Rattle.ec_base.specs.Ages.{is_older}
use Rattle.ec_base.specs.Limits.{last_counter}
use Rattle.ec_base.specs.Tables.{at}
use Rattle.ec_base.specs.declared.ids.Age.{Age}
use Rattle.ec_volume.specs.Update.{member}
use Rattle.ec_sessions.specs.Slots.{greeting, is_greater, is_open, session_if_open, new_slot}
use Rattle.ec_sessions.specs.declared.slot.Greeting.TheVariants.{Greater, Same, Ended, OldBoot}
use Rattle.ec_sessions.specs.declared.slot.Slot.{Slot}
use Rattle.ec_wire.specs.declared.msg.Msg.{Msg}
use Rattle.ec_wire.specs.declared.msg.Msg.TheVariants as msg
use Rattle.ec_durable.specs.Durable.{step, slot, with_slot, is_next_session}
use Rattle.ec_durable.specs.declared.record.Record.TheVariants.{Open}
use Rattle.ec_durable.specs.declared.record.RecordFault.{RecordFault}
use Rattle.ec_durable.specs.declared.record.RecordFault.TheVariants.{BadAge, BadNumber}
use Rattle.ec_durable.specs.declared.state.Durable.{Durable}
use Rattle.ec_protocol.specs.Server.{Serving, take, has_claimed, add_claimed}
use Rattle.ec_protocol.specs.declared.server.Server.{Server}
use Rattle.ec_quiet.specs.Measure.{measure}
use Rattle.ec_quiet.specs.Phases.{Greets, Opens, InPhase, IsStarting, main, is_back}
use Rattle.ec_quiet.specs.Scenes.{Mail, Scene, delivered}
use Rattle.ec_quiet.specs.Works.{Work}
use Rattle.ec_machine_laws.specs.Records.{IsRestOf}
use Rattle.ec_machine_laws.proofs.Recording.{open-own, open-rest}
use Rattle.ec_machine_laws.proofs.Stepping.{greeting-opens}
use Rattle.ec_quiet.specs.OfDeliveries.Orderly.{IsLike, KeepsBacks}
use Rattle.ec_quiet.proofs.OfDeliveries.Idling.{idle-stays}
use Rattle.ec_quiet.proofs.OfDeliveries.Ordering.{open-orderly}
use Rattle.ec_quiet.proofs.OfDeliveries.Working.{keeps-backs, main-joins, main-front}
use Rattle.ec_quiet.specs.OfDeliveries.Coming.{MayOpen, IsNext}
use Rattle.ec_quiet.proofs.OfDeliveries.Frames.{no-back}
use Rattle.ec_base.proofs.Numbers.{same-self}
use Rattle.ec_quiet.proofs.OfDeliveries.Claimed.{behind}
use Rattle.ec_base.proofs.Bools.{or_right}

-- The slot's session, if it had one, ended; so there is none to end.
pub greeted-new : (o : Option Slot) (age : Age) → is_open o ≡ false → is_greater o age ≡ true → greeting o age ≡ Greater None
greeted-new None age closed newer = refl
greeted-new (Some sl) age closed newer =
    ap (λ b. cond b (Greater (session_if_open sl)) (cond (is_older age sl.age) (OldBoot sl.age) (cond sl.is_open (Same sl.session) (Ended sl.session sl.window)))) newer
    ∙ ap (λ b. Greater (cond {A = Option ℕ} b (Some sl.session) None)) closed

abbrev opened-state : ℕ → Age → Durable → Durable
opened-state c age d = with_slot c (Some (new_slot age d.next_session)) (record d { next_session = d.next_session + 1 })

below : (n m : ℕ) → nat_le m n ≡ false → nat_lt n m ≡ true
below n m e = grind (arith, nat_tests, e)

open-step : (c : ℕ) (age : Age) (d : Durable) → is_greater (slot d c) age ≡ true → nat_le last_counter d.next_session ≡ false → step (Open c age d.next_session) d ≡ Ok (opened-state c age d)
open-step c age d newer few = ap age-or newer ∙ ap number-or (ap (λ b. b && nat_lt d.next_session last_counter) (same-self d.next_session) ∙ below d.next_session last_counter few)
  where
    number-or : Bool → Result Durable RecordFault
    number-or b = elim b as (λ z. Result Durable RecordFault) [ false ↦ Err BadNumber | true ↦ Ok (opened-state c age d) ]

    age-or : Bool → Result Durable RecordFault
    age-or b = elim b as (λ z. Result Durable RecordFault) [ false ↦ Err BadAge | true ↦ number-or (is_next_session d.next_session d) ]

module _ (j : Work) (sc : Scene) (age : Age) (rest : Mail) (ip : InPhase j sc (Greets age)) (few : MayOpen sc.server) (mail : sc.mail ≡ (j.clerk, msg.Hello j.clerk age) ∷ rest) where
  abbrev starting : IsStarting j sc age
  starting = ip.facts.1

  abbrev next : ℕ
  next = sc.server.durable.next_session

  abbrev hello : ℕ × Msg
  hello = (j.clerk, msg.Hello j.clerk age)

  abbrev opened : ℕ × Msg
  opened = (j.clerk, msg.Opened age next sc.server.durable.epoch)

  abbrev d : Durable
  d = opened-state j.clerk age sc.server.durable

  abbrev now : Server
  now = add_claimed next (record sc.server { durable = d })

  abbrev answer : Serving
  answer = record { server = now; sent = opened ∷ []; rec = Some (Open j.clerk age next); spent = None }

  ok : step (Open j.clerk age next) sc.server.durable ≡ Ok d
  ok = open-step j.clerk age sc.server.durable ip.facts.3 few

  hello-taken : take j.clerk hello.1 sc.server ≡ answer
  hello-taken = greeting-opens j.clerk age sc.server d None ip.facts.0 (greeted-new (slot sc.server.durable j.clerk) age ip.facts.2 ip.facts.3) few ok

  rest-is : IsRestOf j.clerk sc.server.durable d
  rest-is = open-rest j.clerk next age sc.server.durable d ok

  not-own : is_back j hello ≡ false
  not-own = no-back j j.clerk hello.1 refl

  keeps : KeepsBacks j sc.mail (rest ++ opened ∷ [])
  keeps = subst (λ ms. KeepsBacks j ms (rest ++ opened ∷ [])) (sym mail) (keeps-backs j hello rest (opened ∷ []) not-own refl)

  alone : main j rest ≡ []
  alone =
      let both : hello ∷ main j rest ≡ hello ∷ [] = sym (main-front j hello rest not-own) ∙ ap (main j) (sym mail) ∙ ip.main_is in
      cc

  like-others : (c s : ℕ) → (c == j.clerk) ≡ false → IsLike sc.server now c s
  like-others c s away = record { slot = rest-is.others c away; epoch = rest-is.epoch; claimed = or_right (s == next) (has_claimed s sc.server); number = omega arith; tokens = λ x. refl }

  -- the next session is this work's
  own : j.session ≡ next
  own = ip.facts.4

  claimed : has_claimed j.session now ≡ true
  claimed = ap (λ s. has_claimed s now) own ∙ ap (λ b. b || member next sc.server.claimed) (same-self next)

  runs : T (is_some (at j.clerk sc.clerks))
  runs = subst (λ o. T (is_some o)) (sym starting.there) tt

  opens-phase : InPhase j (behind sc rest answer) (Opens age)
  opens-phase = record {
    clerk = ip.clerk;
    number = ip.number;
    main_is = main-joins j rest (opened ∷ []) refl ∙ ap (λ ms. ms ++ opened ∷ []) alone ∙ ap (λ s. (j.clerk, msg.Opened age s sc.server.durable.epoch) ∷ []) (sym own);
    orderly = open-orderly sc.server sc.clerks j.clerk age d ip.orderly ip.clerk runs (λ sl e. sym (ap is_open e) ∙ ip.facts.2) ok;
    others = λ c k away busy there.
        let i = ip.others c k away refl there in
        (i.0, idle-stays [] sc.server now c i.0 k (like-others c (i.0).session away) i.1);
    facts = (
      ip.facts.0,
      record {
        clerk = starting.clerk;
        there = starting.there;
        new = starting.new;
        age_is = starting.age_is;
        task = starting.task;
        tokenless = starting.tokenless;
        none_back = keeps.same ∙ starting.none_back;
        aged = starting.aged;
      },
      new_slot age next,
      open-own j.clerk next age sc.server.durable d (omega (arith, ip.clerk, ip.orderly.sixteen)) ok,
      refl,
      sym own,
      refl,
      (refl, refl),
      claimed,
    );
  }

  opens-less : measure j (behind sc rest answer) (Opens age) + 32 ≤ measure j sc (Greets age)
  opens-less = omega (arith, ap length keeps.same)

pub greetings-open : (j : Work) (sc : Scene) (age : Age) (rest : Mail) → InPhase j sc (Greets age) → MayOpen sc.server → sc.mail ≡ (j.clerk, msg.Hello j.clerk age) ∷ rest
    → IsNext j sc (Greets age) (delivered j.clerk (msg.Hello j.clerk age) rest sc) (Opens age)
greetings-open j sc age rest ip few mail = (
  subst (λ u. InPhase j (behind sc rest u) (Opens age)) (sym (hello-taken j sc age rest ip few mail)) (opens-phase j sc age rest ip few mail),
  subst (λ u. measure j (behind sc rest u) (Opens age) + 32 ≤ measure j sc (Greets age)) (sym (hello-taken j sc age rest ip few mail)) (opens-less j sc age rest ip few mail),
)
