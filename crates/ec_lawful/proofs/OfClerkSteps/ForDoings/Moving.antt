-- One change of a clerk in its session, or one message that it sends, with all facts.
use Rattle.std.proofs.Common.{◌≡◌, refl, sym, ap, subst, ◌∙◌, ℕ, T, map, List, [], ◌∷◌, Some, append-nil}
use Rattle.ec_base.specs.Tables.{or_else}
use Rattle.ec_base.specs.declared.counter.Counter.{Counter}
use Rattle.ec_history.specs.History.{Each}
use Rattle.ec_wire.specs.Messages.{is_sound}
use Rattle.ec_wire.specs.declared.msg.Msg.{Msg}
use Rattle.ec_protocol.specs.Clerk.{Doing, send, session, spend}
use Rattle.ec_protocol.specs.declared.clerk.Clerk.{Clerk}
use Rattle.ec_coherence.specs.System.{System, Ghost, clerk_in}
use Rattle.ec_coherence.specs.Clerks.{acting}
use Rattle.ec_coherence.specs.Sessions as sessions
use Rattle.ec_coherence.specs.Sessions.{IsOf}
use Rattle.ec_coherence.specs.Tokens.{TokensAgree, View, view}
use Rattle.ec_coherence.specs.Log as log
use Rattle.ec_coherence.specs.Steps.{doing_in}
use Rattle.ec_coherence.specs.ChangeLaws.{IsInIt, LogsAndImages, with_clerk}
use Rattle.ec_coherence.proofs.ForClerk.Acting.{IsIn, view-is}
use Rattle.ec_coherence.proofs.ForBatches.ClerkIn.{was-in}
use Rattle.ec_coherence.proofs.ForClerk.Goes as steps
use Rattle.ec_coherence.proofs.ForClerk.OnSystem.{begins}
use Rattle.ec_coherence.specs.CommitLaws.{AllAgree}
use Rattle.ec_coherence.specs.Starts.{Greets}
use Rattle.ec_coherence.specs.StandLaws.{AreSent, ClerkStands, SessionGoesOn, IsUnderWay, sending}
use Rattle.ec_coherence.proofs.Doings as going
use Rattle.ec_coherence.proofs.Doings.{goes-on-stand}
use Rattle.ec_coherence.proofs.Rests.{rests-both}

module _ (g : System) (c b s : ℕ) (d : Doing) (γ : Ghost) (u : IsUnderWay g c b s d γ) where
  abbrev pub here : System
  here = doing_in c b d γ g

  pub all : AllAgree here
  all = (((u.stands).0).invariant, (u.stands).1, (u.stands).2, (u.stands).3)

  pub own : IsIn g γ c b s d.clerk
  own = record { session = u.session; age = u.age; owner = u.owns; boot = u.boot; before = u.before }

  pub on-same : SessionGoesOn d.clerk d.clerk
  on-same = record { id = refl; age = refl; session = refl; owed = refl; next = refl }

  pub its : IsInIt here c s u.age d.clerk
  its = going.in-it g c b s d γ u.stands u.age u.owns u.boot u.session d.clerk on-same []

  pub there : clerk_in here s ≡ Some d.clerk
  there = was-in γ.owner here.clerks c s u.age d.clerk d.clerk u.owns (its.start).stands u.session u.session

  pub session-is : session d ≡ s
  session-is = ap (or_else 0) u.session

  pub mine : IsOf here c (session d)
  mine = subst (IsOf here c) (sym session-is) (u.age, u.owns)

  -- it's under way still
  pub under : (e : Doing) → ClerkStands g c b e γ → e.clerk.session ≡ Some s → IsUnderWay g c b s e γ
  under e st p = record { stands = st; age = u.age; owns = u.owns; boot = u.boot; session = p; before = u.before }

  pub spends : (n : Counter) → IsUnderWay g c b s (spend n d) γ
  spends n = under (spend n d) (record { runs = ((u.stands).0).runs; shown = ((u.stands).0).shown; invariant = ((u.stands).0).invariant }, (u.stands).1, (u.stands).2, (u.stands).3) u.session

  -- the facts on tokens, as a step goes on
  abbrev pub w : View
  w = view (record g { ghost = γ })

  pub goes : steps.Goes w c s d d
  goes = begins g c b s d γ own (all.0).tokens

  pub tokens-behind : (e : Doing) → e.clerk.session ≡ Some s → TokensAgree (acting w c s e) → TokensAgree (view (doing_in c b e γ g))
  tokens-behind e p agree = subst TokensAgree (sym (view-is g c b s e γ (record { session = p; age = u.age; owner = u.owns; boot = u.boot; before = u.before }))) agree

  abbrev pub said : List Msg → List (ℕ × Msg)
  said ms = map (λ m. (c, m)) ms

  -- the clerk changes, and sends these
  pub does : (now : Clerk) → SessionGoesOn d.clerk now → (ms : List Msg) → AreSent here (said ms) → TokensAgree (acting w c s (sending now ms d)) → LogsAndImages (with_clerk here c (u.age).boot now here.calls (said ms))
      → IsUnderWay g c b s (sending now ms d) γ
  does now on ms sent agree both = under (sending now ms d) (goes-on-stand g c b s d γ u.stands u.age u.owns u.boot u.session now on ms sent (tokens-behind (sending now ms d) (on.session ∙ u.session) agree)
      (subst LogsAndImages (going.system-is g c b s d γ u.stands u.age u.owns u.boot u.session now on ms) both)) (on.session ∙ u.session)

  -- it sends one message
  pub says : (m : Msg) → sessions.Fits here c m → T (is_sound m) → Greets here c m → TokensAgree (acting w c s (send m d)) → log.Fits (doing_in c b (send m d) γ g) m → IsUnderWay g c b s (send m d) γ
  says m fits sound greets agree logs =
      let path = going.system-is g c b s d γ u.stands u.age u.owns u.boot u.session d.clerk on-same (m ∷ []) in
      does d.clerk on-same (m ∷ []) ((fits, sound, greets), tt) agree
      (rests-both here all c s u.age d.clerk d.clerk its on-same refl refl refl here.calls ((c, m) ∷ []) (subst (λ h. Each {A = ℕ × Msg} (λ m. log.Fits h m.1) ((c, m) ∷ [])) (sym path) (logs, tt)))

  -- it changes
  pub changes : (now : Clerk) → SessionGoesOn d.clerk now → TokensAgree (acting w c s (record d { clerk = now })) → LogsAndImages (with_clerk here c (u.age).boot now here.calls []) → IsUnderWay g c b s (record d { clerk = now }) γ
  changes now on agree both =
      let quiet : sending now [] d ≡ record d { clerk = now } = ap (λ os. record d { clerk = now; outs = os }) (append-nil d.outs) in
      subst (λ e. IsUnderWay g c b s e γ) quiet (does now on [] tt (subst (λ e. TokensAgree (acting w c s e)) (sym quiet) agree) both)
