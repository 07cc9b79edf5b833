-- A clerk without a session takes the one that was opened with its age.
use Rattle.std.proofs.Common.{◌≡◌, refl, sym, ap, subst, ◌∙◌, inl, inr, ◌⊎◌, arith, ◌<◌, ◌≤◌, ℕ, Bool, true, false, not, ◌==◌, ◌&&◌, T, List, [], ◌∷◌, ◌++◌, Option, Some, None, append-nil}
use Rattle.std.specs.Prelude.{is_some}
use Rattle.std.proofs.lemmas.Bool.{and_parts, true≢false}
use Rattle.ec_base.specs.Ages.{is_older}
use Rattle.ec_base.specs.declared.ids.Age.{Age}
use Rattle.ec_sessions.specs.declared.slot.Slot.{Slot}
use Rattle.ec_wire.specs.Messages.{is_sound}
use Rattle.ec_wire.specs.declared.msg.Msg.{Msg}
use Rattle.ec_wire.specs.declared.msg.Msg.TheVariants.{Claim, Opened}
use Rattle.ec_durable.specs.Durable.{slot}
use Rattle.ec_protocol.specs.Clerk.{Doing, has_session, same_age, send, take_opened, with_clerk}
use Rattle.ec_protocol.specs.declared.clerk.Clerk.{Clerk}
use Rattle.ec_protocol.specs.declared.clerk.Out.TheVariants as out
use Rattle.ec_coherence.specs.System.{System, Ghost, at_session, if_in, with_start}
use Rattle.ec_coherence.specs.Clerks.{take_session}
use Rattle.ec_coherence.specs.Sessions as sessions
use Rattle.ec_coherence.specs.Sessions.{HasNone, SessionsAgree}
use Rattle.ec_coherence.specs.Tokens.{Fits, TokensAgree, view}
use Rattle.ec_coherence.specs.Log.{LogsAgree}
use Rattle.ec_coherence.specs.Images.{ImagesAgree}
use Rattle.ec_coherence.specs.Steps.{doing_in, out_lines}
use Rattle.ec_coherence.proofs.ForBatches.ClerkIn.{start-same}
use Rattle.ec_coherence.proofs.ForServer.Lists.{each-more, each-turn}
use Rattle.ec_coherence.proofs.ForClerk.OnSystem.{takes-session}
use Rattle.ec_coherence.proofs.ForBatches.OpenedSession.{opened-images, opened-logs}
use Rattle.ec_coherence.proofs.ForServer.Tables.{by-session, same_some}
use Rattle.ec_coherence.specs.CommitLaws.{AllAgree}
use Rattle.ec_coherence.specs.StandLaws.{ClerkStands, IsUnderWay}
use Rattle.ec_lawful.specs.OfClerkSteps.Cuts.{CutsAgree}
use Rattle.ec_lawful.proofs.OfClerkSteps.ForJoins.Kept as kept
use Rattle.ec_lawful.proofs.OfClerkSteps.ForJoins.Outs.{goes-on, lines-on}
use Rattle.ec_lawful.proofs.OfClerkSteps.ForJoins.Slots.{its-slot}
use Rattle.ec_base.proofs.Numbers.{same-self as same, equal}
use Rattle.ec_base.proofs.Options.{none_some}

-- The system in which its clerk took it and claimed nothing.
module _ (g : System) (all : AllAgree g) (c b : ℕ) (k : Clerk) (runs : g.running c ≡ Some b) (at-start : g.clerks c b ≡ Some k) (without : k.session ≡ None) (s e : ℕ) (owns : g.ghost.owner s ≡ Some (c, k.age)) where
  abbrev pub now : Clerk
  now = record k { session = Some s; epoch = e }

  abbrev pub tk : ℕ → Bool
  tk = at_session s true g.ghost.taken

  abbrev pub claims : List (ℕ × Msg)
  claims = (c, Claim s e []) ∷ []

  abbrev pub h : System
  h = record g { clerks = with_start c b now g.clerks; pool = g.pool ++ claims; ghost = record (g.ghost) { taken = tk } }

  boot : k.age.boot ≡ b
  boot = ((all.0).sessions.starts c b k at-start).1

  taken-own : T (tk s)
  taken-own = subst T (sym (ap (λ z. elim z as (λ y. Bool) [ true ↦ true | false ↦ g.ghost.taken s ]) (same s))) tt

  taken-more : (r : ℕ) → T (g.ghost.taken r) → T (tk r)
  taken-more r t = by-session s r (λ r. T (g.ghost.taken r) → T (tk r)) (λ t. taken-own) (λ n t. subst T (sym (other r n)) t) t
    where
      other : (r : ℕ) → (r == s) ≡ false → tk r ≡ g.ghost.taken r
      other r n = ap (λ z. elim z as (λ y. Bool) [ true ↦ true | false ↦ g.ghost.taken r ]) n

  taken-other : (r : ℕ) → (r == s) ≡ false → tk r ≡ g.ghost.taken r
  taken-other r n = ap (λ z. elim z as (λ y. Bool) [ true ↦ true | false ↦ g.ghost.taken r ]) n

  none : HasNone k
  none = (all.0).sessions.without c b k at-start without

  pub untaken : T (not (g.ghost.taken s))
  untaken = off (g.ghost.taken s) (λ t. elim (((all.0).sessions.told s (c, k.age) k owns (ap (g.clerks c) boot ∙ at-start)).0 t) [
    | inl q ↦ none_some (sym without ∙ q)
    | inr q ↦ not-older k.age q
  ])
    where
      not-older : (a : Age) → T (is_older a a) → ⊥
      not-older a y = absurd (grind arith)

      off : (z : Bool) → (T z → ⊥) → T (not z)
      off true f = absurd (f tt)
      off false f = tt

  abbrev Tells : (ℕ → Bool) → ℕ → Age → Option ℕ → Age → Type 0
  Tells f r a o x = (T (f r) → (o ≡ Some r) ⊎ T (is_older a x)) × (T (not (f r)) → (a ≡ x → o ≡ None) × T (not (is_older a x)))

  -- what is said of a session and of a start's place, for this start
  tells-own : (r : ℕ) (a : Age) → g.ghost.owner r ≡ Some (c, a) → Tells g.ghost.taken r a k.session k.age → Tells tk r a (Some s) k.age
  tells-own r a o f = by-session s r (λ r. g.ghost.owner r ≡ Some (c, a) → Tells g.ghost.taken r a k.session k.age → Tells tk r a (Some s) k.age) (λ o f. ((λ t. inl refl), λ n. absurd (no (tk s) taken-own n)))
      (λ n o f. (
        (λ t. elim (f.0 (subst T (taken-other r n) t)) [ inl q ↦ absurd (none_some (sym without ∙ q)) | inr q ↦ inr q ]),
        λ t. let q = f.1 (subst (λ z. T (not z)) (taken-other r n) t) in ((λ p. absurd (apart r n ((all.0).sessions.once r s (c, a) o (owns ∙ ap (λ z. Some (c, z)) (sym p))))), q.1),
      )) o f
    where
      no : (z : Bool) → T z → T (not z) → ⊥
      no true t n = n
      no false t n = t

      apart : (r : ℕ) → (r == s) ≡ false → r ≡ s → ⊥
      apart r n p = absurd (grind arith)

  told' : (r : ℕ) (o : ℕ × Age) (m : Clerk) → g.ghost.owner r ≡ Some o → h.clerks o.0 (o.1).boot ≡ Some m → Tells tk r o.1 m.session m.age
  told' r o m p q = go ((o.0 == c) && ((o.1).boot == b)) refl q
    where
      go : (z : Bool) → ((o.0 == c) && ((o.1).boot == b)) ≡ z → elim z as (λ y. Option Clerk) [ true ↦ Some now | false ↦ g.clerks o.0 (o.1).boot ] ≡ Some m → Tells tk r o.1 m.session m.age
      go true e q =
          let two = and_parts (o.0 == c) ((o.1).boot == b) e in
          let is-c = equal o.0 c two.0 in
          let own : g.ghost.owner r ≡ Some (c, o.1) = p ∙ ap (λ z. Some (z, o.1)) is-c in
          subst (λ n. Tells tk r o.1 n.session n.age) (same_some q) (tells-own r o.1 own ((all.0).sessions.told r o k p (ap (λ z. g.clerks z (o.1).boot) is-c ∙ ap (g.clerks c) (equal (o.1).boot b two.1) ∙ at-start)))
      go false e q = by-session s r (λ r. g.ghost.owner r ≡ Some o → Tells tk r o.1 m.session m.age) (λ p. absurd (true≢false (sym (its p) ∙ e)))
          (λ n p. let f = (all.0).sessions.told r o m p q in ((λ t. f.0 (subst T (taken-other r n) t)), λ t. f.1 (subst (λ y. T (not y)) (taken-other r n) t))) p
        where
          its : g.ghost.owner s ≡ Some o → ((o.0 == c) && ((o.1).boot == b)) ≡ true
          its p =
              let w = same_some (sym p ∙ owns) in
              ap (λ y. (y.0 == c) && ((y.1).boot == b)) w ∙ ap (λ y. y && (k.age.boot == b)) (same c) ∙ ap (λ y. y == b) boot ∙ same b

  by-start : (P : ℕ → ℕ → Clerk → Type 0) → (P c b k → P c b now) → ((d a : ℕ) (m : Clerk) → g.clerks d a ≡ Some m → P d a m) → (d a : ℕ) (m : Clerk) → h.clerks d a ≡ Some m → P d a m
  by-start = kept.by-start g all c b k now at-start refl refl refl tk g.calls claims

  sessions-stay : SessionsAgree h
  sessions-stay = let a = (all.0).sessions in record {
    sixteen = a.sixteen;
    next = a.next;
    slots = a.slots;
    owned = a.owned;
    once = a.once;
    taken = λ r t. by-session s r (λ r. T (tk r) → T (is_some (g.ghost.owner r))) (λ t. subst (λ o. T (is_some o)) (sym owns) tt) (λ n t. a.taken r (subst T (taken-other r n) t)) t;
    told = told';
    starts = by-start (λ d x m. (m.id ≡ d) × (m.age.boot ≡ x) × (x ≤ g.boots d) × (d < 16)) (λ f. f) a.starts;
    rounds = λ d x n m q. by-start (λ d x m. n < m.age.round → (r : ℕ) × (g.ghost.owner r ≡ Some (d, record { boot = x; round = n }))) (λ f. f) (λ d x m q. a.rounds d x n m q) d x m q;
    running = λ d x q. let f = a.running d x q in (f.0, kept.there g all c b k now at-start refl refl refl tk g.calls claims d x f.1);
    in_session = λ d x r m q. by-start (λ d x m. m.session ≡ Some r → (g.ghost.owner r ≡ Some (d, m.age)) × T (tk r))
        (λ f y. let z = same_some y in (ap g.ghost.owner (sym z) ∙ owns, subst (λ n. T (tk n)) z taken-own)) (λ d x m q y. let f = a.in_session d x r m q y in (f.0, taken-more r f.1)) d x m q;
    without = by-start (λ d x m. m.session ≡ None → HasNone m) (λ f y. absurd (none_some (sym y))) a.without;
    current = λ d x r m p q. by-start (λ d x m. g.running d ≡ Some x → m.session ≡ Some r → (sl : Slot) × (slot g.durable d ≡ Some sl) × (sl.session ≡ r))
        (λ f y z. let w = its-slot g all c b k runs at-start s owns in (w.0, w.1, w.2 ∙ same_some z)) (λ d x m q p. a.current d x r m p q) d x m q p;
    sound = each-more (λ m. T (is_sound m.1)) g.pool claims a.sound (tt, tt);
    messages = each-more (λ m. sessions.Fits h m.0 m.1) g.pool claims (each-turn (λ m. sessions.Fits g m.0 m.1) (λ m. sessions.Fits h m.0 m.1) g.pool (λ m f. kept.message-kept g all c b k now at-start refl refl refl tk g.calls claims m.0 m.1 f) a.messages)
        ((k.age, owns), tt);
  }

  logs-stay : LogsAgree h
  logs-stay = logs-of (ap (g.clerks c) boot ∙ at-start)
    where
      logs-of : g.clerks c k.age.boot ≡ Some k → LogsAgree h
      logs-of q = subst (λ z. LogsAgree (record h { clerks = with_start c z now g.clerks })) boot
          (opened-logs g (all.0).sessions (all.0).tokens (all.0).logs (all.0).images c s k.age k owns q without untaken e g.calls claims (tt, tt))

  images-stay : ImagesAgree h
  images-stay = subst (λ z. ImagesAgree (record h { clerks = with_start c z now g.clerks })) boot
      (opened-images g (all.0).sessions (all.0).tokens (all.0).logs (all.0).images c s k.age k owns (ap (g.clerks c) boot ∙ at-start) without untaken e g.calls claims)

  pub joined-all : TokensAgree (view h) → AllAgree h
  joined-all tokens = (
    record { sessions = sessions-stay; tokens = tokens; logs = logs-stay; images = images-stay; events = kept.events-stay g all c b k now at-start refl refl refl tk g.calls claims; stops = kept.stops-stay g all c b k now at-start refl refl refl tk g.calls claims },
    kept.watches-stay g all c b k now at-start refl refl refl tk g.calls claims,
    all.2,
    kept.starts-stay g all c b k now at-start refl refl refl tk g.calls claims (tt, tt),
  )

-- The step under way.
module _ (g : System) (c b : ℕ) (d : Doing) (γ : Ghost) (st : ClerkStands g c b d γ) (without : d.clerk.session ≡ None) (outside : (t : ℕ) → if_in t (g.clerks c b) ≡ None)
    (age : Age) (s e : ℕ) (owns : γ.owner s ≡ Some (c, age)) (fits : Fits (view (doing_in c b d γ g)) (Opened age s e)) (its-age : age ≡ d.clerk.age) where
  abbrev here : System
  here = doing_in c b d γ g

  abbrev joins : Doing
  joins = send (Claim s e []) (with_clerk (λ k. record k { session = Some s; epoch = e }) d)

  abbrev δ : Ghost
  δ = take_session s γ

  all-here : AllAgree here
  all-here = ((st.0).invariant, st.1, st.2, st.3)

  there : here.clerks c b ≡ Some d.clerk
  there = start-same c b d.clerk g.clerks

  owns-now : γ.owner s ≡ Some (c, d.clerk.age)
  owns-now = owns ∙ ap (λ a. Some (c, a)) its-age

  its-boot : age.boot ≡ b
  its-boot = ap (λ a. a.boot) its-age ∙ ((all-here.0).sessions.starts c b d.clerk there).1

  joins-is : h here all-here c b d.clerk (st.0).runs there without s e owns-now ≡ doing_in c b joins δ g
  joins-is = goes-on g c d.outs (out.Send (Claim s e []) ∷ []) δ b d.clerk (now here all-here c b d.clerk (st.0).runs there without s e owns-now)

  tokens-now : TokensAgree (view (doing_in c b joins δ g))
  tokens-now = takes-session g c b s e age d γ owns its-boot without ((all-here.0).sessions.without c b d.clerk there without) (all-here.0).tokens
      (untaken here all-here c b d.clerk (st.0).runs there without s e owns-now) fits

  joined : AllAgree (doing_in c b joins δ g)
  joined = subst AllAgree joins-is (joined-all here all-here c b d.clerk (st.0).runs there without s e owns-now (subst (λ z. TokensAgree (view z)) (sym joins-is) tokens-now))

  joins-stand : ClerkStands g c b joins δ
  joins-stand = (
    record { runs = (st.0).runs; shown = (st.0).shown ∙ ap (λ z. g.ghost.shown ++ z) (sym (append-nil (out_lines c d.outs g.calls)) ∙ sym (lines-on c d.outs (out.Send (Claim s e []) ∷ []) g.calls)); invariant = joined.0 },
    joined.1,
    joined.2,
    joined.3,
  )

  pub joins-go : IsUnderWay g c b s joins δ
  joins-go = record { stands = joins-stand; age = age; owns = owns; boot = its-boot; session = refl; before = λ t n. outside t }

  pub joins-cuts : CutsAgree here → CutsAgree (doing_in c b joins δ g)
  joins-cuts f = subst CutsAgree joins-is (kept.cuts-stay here all-here c b d.clerk (now here all-here c b d.clerk (st.0).runs there without s e owns-now) there refl refl refl
      (tk here all-here c b d.clerk (st.0).runs there without s e owns-now) here.calls (claims here all-here c b d.clerk (st.0).runs there without s e owns-now) refl f)

  pub same-age-is : (a b : Age) → a ≡ b → same_age a b ≡ true
  same-age-is a b e = ap (λ z. same_age z b) e ∙ ap (λ z. z && (b.round == b.round)) (same b.boot) ∙ same b.round

  test : (not (has_session d.clerk) && same_age age d.clerk.age) ≡ true
  test = ap (λ o. not (is_some o) && same_age age d.clerk.age) without ∙ same-age-is age d.clerk.age its-age

  pub opened-go : IsUnderWay g c b s (take_opened age s e d) δ
  opened-go = subst (λ z. IsUnderWay g c b s (elim z as (λ y. Doing) [ true ↦ joins | false ↦ d ]) δ) (sym test) joins-go

  pub opened-cuts : CutsAgree here → CutsAgree (doing_in c b (take_opened age s e d) δ g)
  opened-cuts f = subst (λ z. CutsAgree (doing_in c b (elim z as (λ y. Doing) [ true ↦ joins | false ↦ d ]) δ g)) (sym test) (joins-cuts f)
