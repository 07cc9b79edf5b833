-- All facts behind any message that a running server takes, and behind the administrator's end.
use Rattle.std.proofs.Common.{◌≡◌, refl, sym, ap, subst, ◌∙◌, inl, inr, ◌⊎◌, ℕ, Bool, true, false, ◌==◌, ◌<◌, cond, T, Option, Some, None, append-nil}
use Rattle.std.specs.Prelude.{Contains, is_some, nat_le}
use Rattle.std.proofs.lemmas.Bool.{true≢false}
use Rattle.ec_base.specs.Ages.{is_older}
use Rattle.ec_base.specs.Limits.{last_counter}
use Rattle.ec_base.specs.declared.counter.Counter.TheVariants as counter
use Rattle.ec_base.specs.declared.ids.Age.{Age}
use Rattle.ec_sessions.specs.Slots.{greeting}
use Rattle.ec_sessions.specs.declared.slot.Greeting.TheVariants as greeted_of
use Rattle.ec_sessions.specs.declared.slot.Slot.{Slot}
use Rattle.ec_wire.specs.declared.msg.Msg.{Msg}
use Rattle.ec_wire.specs.declared.msg.Msg.TheVariants.{Hello, Want, Back, Flush, Room, Claim, Bye}
use Rattle.ec_durable.specs.Durable.{slot}
use Rattle.ec_durable.specs.declared.record.Record.TheVariants as record_of
use Rattle.ec_protocol.specs.Server.{Serving, commit, end, end_open, finish, greet, open_new, serving, spend, stay, take, taken, tell_opened}
use Rattle.ec_protocol.specs.declared.server.Server.{Server}
use Rattle.ec_coherence.specs.System.{System, Ghost}
use Rattle.ec_coherence.specs.Sessions as sessions
use Rattle.ec_coherence.specs.Steps.{open_session, serving_in}
use Rattle.ec_coherence.proofs.ForCommits.Needs.{each-of}
use Rattle.ec_coherence.proofs.ForServer.Tables.{same_some}
use Rattle.ec_coherence.specs.CommitLaws.{AllAgree, StepStands}
use Rattle.ec_coherence.proofs.ForBatches.Finish.{finish-is}
use Rattle.ec_coherence.specs.Starts.{Greets}
use Rattle.ec_coherence.proofs.ForCommits.Taking.{begins}
use Rattle.ec_coherence.specs.Ends.{show_end}
use Rattle.ec_coherence.proofs.Finishes.{finish-spends, finish-stands}
use Rattle.ec_coherence.proofs.Over.{over-spends, over-stands}
use Rattle.ec_coherence.specs.Makes.{Makes, IsMade}
use Rattle.ec_coherence.proofs.Recorded.{open-record}
use Rattle.ec_coherence.proofs.TakingMakes.{Going, as-it-is, served, takes-back, takes-claim, takes-flush, takes-hello, takes-room, takes-want, within}
use Rattle.ec_base.proofs.Options.{none_some}
use Rattle.ec_base.proofs.Bools.{is-true, holds-true as holds}

module _ (g : System) (v : Server) (whole : AllAgree g) (up : g.server ≡ Some v) (c : ℕ) where
  abbrev t : Serving
  t = serving v

  abbrev here : System
  here = serving_in t g.ghost g

  st : StepStands g t g.ghost
  st = begins g v whole up

  finishes : (sl : Slot) → slot v.durable c ≡ Some sl → T sl.is_open → Going g v (finish c sl t)
  finishes sl q o = inr (
    show_end here c sl,
    finish-stands g g.ghost t st refl c sl q o,
    finish-spends g g.ghost t st refl c sl q o,
    subst (λ x. Makes g v x (show_end here c sl)) (sym (ap (λ z. z.rec) (finish-is g g.ghost t st.0 c sl q o))) (sl, q, o, refl, refl),
  )

  takes-bye : (s e : ℕ) → IsMade g v (take c (Bye s e) v)
  takes-bye s e = served g v (taken c (Bye s e) t) (within g v g.ghost t st refl refl c s e true (finish c) (λ sl q r o now claimed. finishes sl q o))

  pub end-stands : IsMade g v (end c v)
  end-stands = served g v (end_open c (slot v.durable c) t) (go (slot v.durable c) refl)
    where
      opened : (sl : Slot) → slot v.durable c ≡ Some sl → (b : Bool) → sl.is_open ≡ b → Going g v (elim b as (λ z. Serving) [ true ↦ finish c sl t | false ↦ t ])
      opened sl q true o = finishes sl q (holds sl.is_open o)
      opened sl q false o = as-it-is g v g.ghost t st refl refl c 0 0

      go : (o : Option Slot) → slot v.durable c ≡ o → Going g v (end_open c o t)
      go None q = as-it-is g v g.ghost t st refl refl c 0 0
      go (Some sl) q = opened sl q sl.is_open refl

  -- a greeting, in whose place a session may be open
  pub takes-greeting : (from : ℕ) (age : Age) → Contains g.pool (c, Hello from age) → IsMade g v (take c (Hello from age) v)
  takes-greeting from age p = go (slot v.durable c) refl
    where
      in-pool : Contains here.pool (c, Hello from age)
      in-pool = subst (λ ms. Contains ms (c, Hello from age)) (sym (append-nil g.pool)) p

      fits : sessions.Fits here c (Hello from age)
      fits = each-of (λ z. sessions.Fits here z.0 z.1) here.pool (c, Hello from age) ((st.0).invariant.sessions.messages) in-pool

      above : g.first_boot c < age.boot
      above = each-of (λ z. Greets g z.0 z.1) here.pool (c, Hello from age) ((st.3).greets) in-pool

      over : (sl : Slot) → slot v.durable c ≡ Some sl → T sl.is_open → T (is_older sl.age age) → (b : Bool) → nat_le last_counter v.durable.next_session ≡ b → Going g v (open_new c age (Some sl.session) t)
      over sl q o m true z = subst (λ b. Going g v (elim b as (λ y. Serving) [ true ↦ spend counter.Session t | false ↦ commit (record_of.Open c age v.durable.next_session) (tell_opened c age v.durable.next_session (Some sl.session)) stay t ])) (sym z) (inl tt)
      over sl q o m false z = inr (
        open_session c age v.durable.next_session (show_end here c sl),
        over-stands g g.ghost t st refl c sl q o age fits.1 m fits.2 above z,
        over-spends g g.ghost t st refl c sl q o age fits.1 m fits.2 above z,
        subst (λ x. Makes g v x (open_session c age v.durable.next_session (show_end here c sl))) (sym (open-record v c age sl q m z)) (inr (sl, q, o, refl)),
      )

      greets : (sl : Slot) → slot v.durable c ≡ Some sl → T sl.is_open → T (is_older sl.age age) → Going g v (greet c age (greeting (Some sl) age) t)
      greets sl q o m = subst (λ b. Going g v (greet c age (cond b (greeted_of.Greater (cond sl.is_open (Some sl.session) None)) (cond (is_older age sl.age) (greeted_of.OldBoot sl.age) (cond sl.is_open (greeted_of.Same sl.session) (greeted_of.Ended sl.session sl.window)))) t))
          (sym (is-true (is_older sl.age age) m)) (subst (λ b. Going g v (greet c age (greeted_of.Greater (cond b (Some sl.session) None)) t)) (sym (is-true sl.is_open o)) (over sl q o m (nat_le last_counter v.durable.next_session) refl))

      mine : (sl : Slot) → slot v.durable c ≡ Some sl → T sl.is_open → T (is_older sl.age age) → (b : Bool) → (c == from) ≡ b → Going g v (elim b as (λ z. Serving) [ true ↦ greet c age (greeting (slot v.durable c) age) t | false ↦ t ])
      mine sl q o m true e = subst (λ z. Going g v (greet c age (greeting z age) t)) (sym q) (greets sl q o m)
      mine sl q o m false e = as-it-is g v g.ghost t st refl refl c 0 0

      older : (sl : Slot) → slot v.durable c ≡ Some sl → T sl.is_open → (b : Bool) → is_older sl.age age ≡ b → IsMade g v (take c (Hello from age) v)
      older sl q o true m = served g v (taken c (Hello from age) t) (mine sl q o (holds (is_older sl.age age) m) (c == from) refl)
      older sl q o false m = takes-hello g v whole up c from age (λ so r x. ap (λ z. is_older z.age age) (same_some (sym r ∙ q)) ∙ m) p

      opened : (sl : Slot) → slot v.durable c ≡ Some sl → (b : Bool) → sl.is_open ≡ b → IsMade g v (take c (Hello from age) v)
      opened sl q true o = older sl q (holds sl.is_open o) (is_older sl.age age) refl
      opened sl q false o = takes-hello g v whole up c from age (λ so r x. absurd (true≢false (sym (is-true so.is_open x) ∙ ap (λ z. z.is_open) (same_some (sym r ∙ q)) ∙ o))) p

      go : (o : Option Slot) → slot v.durable c ≡ o → IsMade g v (take c (Hello from age) v)
      go None q = takes-hello g v whole up c from age (λ so r x. absurd (none_some (sym q ∙ r))) p
      go (Some sl) q = opened sl q sl.is_open refl

  pub takes-any : (m : Msg) → Contains g.pool (c, m) → IsMade g v (take c m v)
  takes-any (Hello from age) p = takes-greeting from age p
  takes-any (Want s e x h l) p = takes-want g v whole up c s e x l h p
  takes-any (Back s e x n h) p = takes-back g v whole up c s e x n h p
  takes-any (Flush s e b ops) p = takes-flush g v whole up c s e b ops p
  takes-any (Room s e got ask) p = takes-room g v whole up c s e got ask p
  takes-any (Claim s e l) p = takes-claim g v whole up c s e l p
  takes-any (Bye s e) p = takes-bye s e
  takes-any m p = served g v (taken c m t) (as-it-is g v g.ghost t st refl refl c 0 0)
