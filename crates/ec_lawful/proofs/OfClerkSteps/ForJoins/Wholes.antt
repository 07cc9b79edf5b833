-- A clerk takes whole messages: any without a session, and in one any that isn't of it.
use Rattle.std.proofs.Common.{◌≡◌, refl, sym, ap, subst, ◌∙◌, inl, inr, ◌⊎◌, ℕ, Bool, true, false, ◌==◌, ◌&&◌, T, [], Option, Some, None, append-nil}
use Rattle.std.specs.Prelude.{Contains, is_some, nat_le}
use Rattle.std.proofs.lemmas.Bool.{and_parts}
use Rattle.ec_base.specs.Tables.{keys}
use Rattle.ec_base.specs.declared.counter.Counter.TheVariants as counter
use Rattle.ec_base.specs.declared.ids.Age.{Age}
use Rattle.ec_sessions.specs.Limits.{last_round}
use Rattle.ec_sessions.specs.declared.window.Window.{Window}
use Rattle.ec_wire.specs.declared.msg.Msg.{Msg}
use Rattle.ec_wire.specs.declared.msg.Msg.TheVariants.{Claim, Opened, Ended}
use Rattle.ec_log.specs.Log as log
use Rattle.ec_protocol.specs.declared.clerk.Out.TheVariants as out
use Rattle.ec_protocol.specs.declared.clerk.Clerk.{Clerk}
use Rattle.ec_protocol.specs.Clerk.{Doing, doing, emit, hello, lose, send, spend, take_ended, with_clerk}
use Rattle.ec_coherence.specs.System.{System, Ghost, if_in, with_start}
use Rattle.ec_coherence.specs.Clerks.{take_session}
use Rattle.ec_coherence.specs.Sessions as sessions
use Rattle.ec_coherence.specs.Sessions.{HasNone}
use Rattle.ec_coherence.specs.Tokens.{Fits, view}
use Rattle.ec_coherence.specs.Steps.{calls_after, doing_in}
use Rattle.ec_coherence.proofs.ForCommits.Needs.{each-of}
use Rattle.ec_coherence.specs.CommitLaws.{AllAgree}
use Rattle.ec_coherence.specs.StandLaws.{ClerkStands, IsUnderWay}
use Rattle.ec_coherence.proofs.Doings.{begins-stand}
use Rattle.ec_lawful.specs.OfClerkSteps.Cuts.{CutKnows, CutsAgree}
use Rattle.ec_lawful.specs.OfClerkSteps.JoinLaws.{GoesThrough, IsBeside, IsGoing, IsOfSession, SameCalls, tell_loss}
use Rattle.ec_lawful.proofs.OfClerkSteps.ForJoins.Cases as cases
use Rattle.ec_lawful.proofs.OfClerkSteps.ForJoins.Hellos.{hello-cuts, hello-stands, old-boot-cuts, old-boot-stands}
use Rattle.ec_lawful.proofs.OfClerkSteps.ForJoins.Joined.{joins-cuts, joins-go}
use Rattle.ec_lawful.proofs.OfClerkSteps.ForJoins.Leaving.{ended-stands}
use Rattle.ec_base.proofs.Numbers.{equal}

-- what is lost takes no call away
ended-calls : (w : Window) (d : Doing) → SameCalls d.clerk (take_ended w d).clerk
ended-calls w d = go (nat_le last_round d.clerk.age.round)
  where
    go : (z : Bool) → SameCalls d.clerk (elim z as (λ y. Doing) [ true ↦ spend counter.Round d | false ↦ hello (emit (out.Told (keys (log.lost w d.clerk.log))) (with_clerk (lose (log.lost w d.clerk.log)) d)) ]).clerk
    go true = record { waiting = refl; calls = refl; next = refl }
    go false = record { waiting = refl; calls = refl; next = refl }

module _ (g : System) (all : AllAgree g) (cuts : CutsAgree g) (c b : ℕ) (k : Clerk) (runs : g.running c ≡ Some b) (at-start : g.clerks c b ≡ Some k) where
  abbrev d : Doing
  d = doing k

  abbrev here : System
  here = doing_in c b d g.ghost g

  pub ended-out : (w : Window) → calls_after c (take_ended w d).outs g.calls ≡ g.calls
  ended-out w = go (nat_le last_round k.age.round)
    where
      go : (z : Bool) → calls_after c (elim z as (λ y. Doing) [ true ↦ spend counter.Round d | false ↦ hello (emit (out.Told (keys (log.lost w k.log))) (with_clerk (lose (log.lost w k.log)) d)) ]).outs g.calls ≡ g.calls
      go true = refl
      go false = refl

  -- A step begins.

  pub st : ClerkStands g c b d g.ghost
  st = begins-stand g all c b k runs at-start

  cuts-here : CutsAgree here
  cuts-here f a s m ks r p o z = was ((f == c) && (a == b)) refl p
    where
      was : (y : Bool) → ((f == c) && (a == b)) ≡ y → elim y as (λ x. Option Clerk) [ true ↦ Some k | false ↦ g.clerks f a ] ≡ Some m → CutKnows here f s m ks
      was true e p =
          let two = and_parts (f == c) (a == b) e in
          let q = cuts f a s m ks r (ap (λ x. g.clerks x a) (equal f c two.0) ∙ ap (g.clerks c) (equal a b two.1) ∙ at-start ∙ p) o z in record { knows = q.knows; untold = q.untold }
      was false e p = let q = cuts f a s m ks r p o z in record { knows = q.knows; untold = q.untold }

  in-it : (s : ℕ) → k.session ≡ Some s → IsUnderWay g c b s d g.ghost
  in-it s p = record {
    stands = st;
    age = k.age;
    owns = ((all.0).sessions.in_session c b s k at-start p).0;
    boot = ((all.0).sessions.starts c b k at-start).1;
    session = p;
    before = λ t n. ap (if_in t) at-start ∙ ap (λ o. elim (Rattle.ec_protocol.specs.Clerk.is_session t o) as (λ z. Option Clerk) [ true ↦ Some k | false ↦ None ]) p ∙ ap (λ z. elim z as (λ z. Option Clerk) [ true ↦ Some k | false ↦ None ]) n;
  }

  pub begins : IsGoing g c b k d g.ghost
  begins = record { stands = st; cuts = cuts-here; place = go k.session refl; calls = record { waiting = refl; calls = refl; next = refl }; same_calls = refl }
    where
      go : (o : Option ℕ) → k.session ≡ o → (k.session ≡ None) ⊎ ((s : ℕ) × IsUnderWay g c b s d g.ghost)
      go None e = inl e
      go (Some s) e = inr (s, in-it s e)

  pub shows-old : (a : Age) → IsGoing g c b k (emit (out.OldBoot a) d) g.ghost
  shows-old a = record { stands = old-boot-stands g c b d g.ghost st a; cuts = old-boot-cuts g c b d g.ghost st a cuts-here; place = place begins.place; calls = begins.calls; same_calls = refl }
    where
      place : (k.session ≡ None) ⊎ ((s : ℕ) × IsUnderWay g c b s d g.ghost) → (k.session ≡ None) ⊎ ((s : ℕ) × IsUnderWay g c b s (emit (out.OldBoot a) d) g.ghost)
      place (inl e) = inl e
      place (inr u) = inr (u.0, record { stands = old-boot-stands g c b d g.ghost st a; age = u.1.age; owns = u.1.owns; boot = u.1.boot; session = u.1.session; before = u.1.before })

  -- The message was sent.

  in-pool : (m : Msg) → Contains g.pool (c, m) → Contains here.pool (c, m)
  in-pool m p = subst (λ ms. Contains ms (c, m)) (sym (append-nil g.pool)) p

  pub of-sessions : (m : Msg) → Contains g.pool (c, m) → sessions.Fits here c m
  of-sessions m p = each-of (λ z. sessions.Fits here z.0 z.1) here.pool (c, m) ((st.0).invariant.sessions.messages) (in-pool m p)

  pub of-tokens : (m : Msg) → Contains g.pool (c, m) → Fits (view here) m
  of-tokens m p = each-of (λ z. Fits (view here) z.1) here.pool (c, m) ((st.0).invariant.tokens.messages) (in-pool m p)

  pub greeted : IsGoing g c b k (hello d) g.ghost
  greeted = record { stands = hello-stands g c b d g.ghost st; cuts = hello-cuts g c b d g.ghost st cuts-here; place = place begins.place; calls = begins.calls; same_calls = refl }
    where
      place : (k.session ≡ None) ⊎ ((s : ℕ) × IsUnderWay g c b s d g.ghost) → (k.session ≡ None) ⊎ ((s : ℕ) × IsUnderWay g c b s (hello d) g.ghost)
      place (inl e) = inl e
      place (inr u) = inr (u.0, record { stands = hello-stands g c b d g.ghost st; age = u.1.age; owns = u.1.owns; boot = u.1.boot; session = u.1.session; before = u.1.before })

  -- Without a session.
  module _ (without : k.session ≡ None) where
    none : HasNone k
    none = (all.0).sessions.without c b k at-start without

    outside : (t : ℕ) → if_in t (g.clerks c b) ≡ None
    outside t = ap (if_in t) at-start ∙ ap (λ o. elim (Rattle.ec_protocol.specs.Clerk.is_session t o) as (λ z. Option Clerk) [ true ↦ Some k | false ↦ None ]) without

    pub opens : (age : Age) (s e : ℕ) → Contains g.pool (c, Opened age s e) → age ≡ k.age → IsGoing g c b k (send (Claim s e []) (with_clerk (λ k. record k { session = Some s; epoch = e }) d)) (take_session s g.ghost)
    opens age s e p own =
        let u = joins-go g c b d g.ghost st without outside age s e (of-sessions (Opened age s e) p) (of-tokens (Opened age s e) p) own in
        record { stands = u.stands; cuts = joins-cuts g c b d g.ghost st without outside age s e (of-sessions (Opened age s e) p) (of-tokens (Opened age s e) p) own cuts-here; place = inr (s, u); calls = record { waiting = refl; calls = refl; next = refl }; same_calls = refl }

    pub takes-outside : (m : Msg) → Contains g.pool (c, m) → GoesThrough g c b k m
    takes-outside = cases.outside c g.pool k g.ghost (IsGoing g c b k) begins greeted shows-old without none.asking opens

  -- In one.
  module _ (s : ℕ) (within : k.session ≡ Some s) where
    pub own-end : (low mask : ℕ) → Contains g.pool (c, Ended s low mask) → let w : Window = record { low = low; mask = mask } in T (is_some (take_ended w d).spent) ⊎ IsGoing g c b k (take_ended w d) (tell_loss c (keys (log.lost w k.log)) g.ghost)
    own-end low mask p = elim (ended-stands g c b s d g.ghost (in-it s within) cuts-here (record { low = low; mask = mask }) (of-sessions (Ended s low mask) p)) [
      | inl n ↦ inl n
      | inr q ↦ inr (record { stands = q.0; cuts = q.1; place = inl q.2; calls = ended-calls (record { low = low; mask = mask }) d; same_calls = ended-out (record { low = low; mask = mask }) })
    ]

    pub takes-beside : (m : Msg) → Contains g.pool (c, m) → IsBeside s k m → GoesThrough g c b k m
    takes-beside = cases.inside c g.pool k g.ghost (IsGoing g c b k) begins greeted shows-old s within own-end

    pub takes-others : (m : Msg) → Contains g.pool (c, m) → (IsOfSession s m → ⊥) → GoesThrough g c b k m
    takes-others m p n = takes-beside m p (cases.is-beside s k m n)
