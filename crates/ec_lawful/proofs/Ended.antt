-- A clerk leaves its session: the step under way goes on with all facts.
use Rattle.std.proofs.Common.{◌≡◌, refl, sym, ap, subst, ◌∙◌, inl, inr, ◌⊎◌, ℕ, Bool, true, false, ◌==◌, ◌||◌, T, List, [], ◌∷◌, ◌++◌, None, Some}
use Rattle.std.specs.Prelude.{Contains, is_some, nat_le}
use Rattle.std.specs.List.{list_any}
use Rattle.std.proofs.lemmas.List.Folds.{list_any-append}
use Rattle.ec_base.specs.Tables.{keys}
use Rattle.ec_base.specs.declared.counter.Counter.TheVariants as counter
use Rattle.ec_history.specs.History.{Each}
use Rattle.ec_history.specs.Placing.{is_numbered}
use Rattle.ec_history.specs.declared.shown.Shown.TheVariants as show
use Rattle.ec_sessions.specs.Limits.{last_round}
use Rattle.ec_sessions.specs.declared.window.Window.{Window}
use Rattle.ec_wire.specs.declared.msg.Msg.TheVariants.{Ended}
use Rattle.ec_log.specs.Log as log
use Rattle.ec_protocol.specs.Clerk.{Doing, doing, emit, hello, lose, spend, take_ended, with_clerk}
use Rattle.ec_protocol.specs.declared.clerk.Clerk.{Clerk}
use Rattle.ec_protocol.specs.declared.clerk.Out.TheVariants as out
use Rattle.ec_coherence.specs.System.{System, Ghost, with_start}
use Rattle.ec_coherence.specs.Events.{EventsAgree}
use Rattle.ec_coherence.specs.Steps.{call_of, calls_after, doing_in, sends}
use Rattle.ec_coherence.specs.ChangeLaws.{Calls}
use Rattle.ec_lawful.specs.OfClerkSteps.Calls.{CallsAgree}
use Rattle.ec_lawful.specs.OfClerkSteps.Waits.{HasLine}
use Rattle.ec_lawful.proofs.OfClerkSteps.ForCalls.Told.{told-calls}
use Rattle.ec_lawful.specs.OfClerkSteps.Orderly.{IsOrderly}
use Rattle.ec_lawful.proofs.OfClerkSteps.ForDoings.Calling.{order-stays}
use Rattle.ec_lawful.proofs.OfClerkSteps.ForNames.NamesChanging.{ended-keeps}
use Rattle.ec_lawful.specs.OfClerkSteps.Trying.{IsTrying}
use Rattle.ec_lawful.proofs.OfClerkSteps.ForNames.ZerosBehind.{steps-keep}
use Rattle.ec_lawful.proofs.OfClerkSteps.ForNames.Parts.{have-no-zero}
use Rattle.ec_lawful.proofs.OfClerkSteps.ForDoings.FreesStored.{ended-keeps-frees}
use Rattle.ec_lawful.specs.OfClerkSteps.JoinLaws.{IsGoing, tell_loss}
use Rattle.ec_lawful.proofs.OfClerkSteps.ForJoins.Wholes as wholes
use Rattle.ec_coherence.specs.CommitLaws.{AllAgree}
use Rattle.ec_coherence.specs.StandLaws.{ClerkStands}
use Rattle.ec_lawful.proofs.ForWhole.FreshSteps.{step-fresh}
use Rattle.ec_lawful.specs.Whole.{Whole}
use Rattle.ec_lawful.proofs.Telling.{line-step-tells}
use Rattle.ec_lawful.specs.SettleLaws.{IsLined}
use Rattle.ec_lawful.proofs.Same.{first, lined-so, no-zero}
use Rattle.ec_history.proofs.OfLaws.ForPlacing.BasesAlike.{each-map}

module _ (g : System) (whole : Whole g) (c b : ℕ) (k : Clerk) (runs : g.running c ≡ Some b) (at-start : g.clerks c b ≡ Some k) (s : ℕ) (within : k.session ≡ Some s) (low mask : ℕ) (sent : Contains g.pool (c, Ended s low mask)) where
  abbrev w : Window
  w = record { low = low; mask = mask }

  abbrev d : Doing
  d = doing k

  abbrev γ : Ghost
  γ = g.ghost

  abbrev e : Doing
  e = take_ended w d

  abbrev ns : List ℕ
  ns = keys (log.lost w k.log)

  abbrev δ : Ghost
  δ = tell_loss c ns γ

  was : IsLined g c b d γ
  was = first g whole c b k runs at-start

  t : IsTrying g c b d γ
  t = was.trying

  all-of : (d : Doing) (γ : Ghost) → ClerkStands g c b d γ → AllAgree (doing_in c b d γ g)
  all-of d γ st = ((st.0).invariant, st.1, st.2, st.3)

  same-calls : calls_after c e.outs g.calls ≡ g.calls
  same-calls = wholes.ended-out g whole.all whole.cuts c b k runs at-start w

  module _ (z : IsGoing g c b k e δ) (goes : nat_le last_round k.age.round ≡ false) where
    abbrev leaves : Doing
    leaves = hello (emit (out.Told ns) (with_clerk (lose (log.lost w k.log)) d))

    is : e ≡ leaves
    is = ap (λ y. elim y as (λ x. Doing) [ true ↦ spend counter.Round d | false ↦ leaves ]) goes

    abbrev now : Calls → System
    now cs = record g { clerks = with_start c b e.clerk g.clerks; calls = cs; pool = g.pool ++ sends c e.outs; ghost = δ }

    events : EventsAgree (now g.calls)
    events = subst (λ cs. EventsAgree (now cs)) same-calls ((z.stands.0).invariant).events

    calls : CallsAgree (doing_in c b e δ g)
    calls = subst (λ cs. CallsAgree (now cs)) (sym same-calls) (told-calls g (whole.all.0).events c b k e.clerk runs at-start (now g.calls).pool δ ns refl events (z.calls).waiting (z.calls).calls (z.calls).next
        (subst (λ x. x.clerk.log.first ≡ x.clerk.log.next) (sym is) refl) (subst (λ x. x.clerk.log.undurable ≡ []) (sym is) refl) whole.calls)

    shown-on : (l : ℕ) → list_any (is_numbered l) γ.shown ≡ true → list_any (is_numbered l) δ.shown ≡ true
    shown-on l p = list_any-append (is_numbered l) γ.shown (show.Told c ns ∷ []) ∙ ap (λ y. y || list_any (is_numbered l) (show.Told c ns ∷ [])) p

    lines : Each (HasLine (doing_in c b e δ g) c) e.clerk.waiting
    lines = subst (Each (HasLine (doing_in c b e δ g) c)) (sym (z.calls).waiting)
        (each-map (HasLine (doing_in c b d γ g) c) (HasLine (doing_in c b e δ g) c) (λ v x. (x.0, ap (call_of c v.no) same-calls ∙ x.1, shown-on x.0 x.2)) k.waiting was.lines)

    orderly : IsOrderly e.clerk
    orderly = inside (order-stays.taken (Ended s low mask) tt d t.orderly)
      where
        inside : IsOrderly (Rattle.ec_protocol.specs.Clerk.or_hello s (take_ended w) d).clerk → IsOrderly e.clerk
        inside q = subst (λ x. IsOrderly (elim (Rattle.ec_protocol.specs.Clerk.is_session s x) as (λ y. Doing) [ true ↦ e | false ↦ d ]).clerk → IsOrderly e.clerk) (sym within) (own (Rattle.ec_base.proofs.Numbers.same-self s))
            (subst (λ x. IsOrderly (elim (is_some x) as (λ y. Doing) [ false ↦ hello d | true ↦ elim (Rattle.ec_protocol.specs.Clerk.is_session s k.session) as (λ y. Doing) [ true ↦ e | false ↦ d ] ]).clerk) within q)
          where
            own : (s == s) ≡ true → IsOrderly (elim (s == s) as (λ y. Doing) [ true ↦ e | false ↦ d ]).clerk → IsOrderly e.clerk
            own p = subst (λ y. IsOrderly (elim y as (λ y. Doing) [ true ↦ e | false ↦ d ]).clerk → IsOrderly e.clerk) (sym p) (λ q. q)

    leaves-so : IsLined g c b e δ
    leaves-so = lined-so g c b k e δ z calls lines orderly (ended-keeps g c b d γ t.names w δ.shown)
        (steps-keep g c b d e γ δ (record { origin = refl; kept = refl; frozen = refl; next_id = refl; grants = refl; first = refl }) (have-no-zero.ended w d (no-zero g whole c b k runs at-start)) t.zeros)
        (ended-keeps-frees g c b d γ t.frees w δ.shown)
        (record {
          tells = line-step-tells g c b d e γ δ (show.Told c ns) (all-of d γ t.stands) (all-of e δ z.stands) refl (λ p le. refl) was.shows.tells;
          fresh = step-fresh g c b d e γ δ (all-of d γ t.stands) (all-of e δ z.stands) t.names (show.Told c ns ∷ []) tt refl refl refl refl (inr (subst (λ x. x.clerk.session ≡ None) (sym is) refl)) was.shows.fresh;
        })

  abbrev pub Ends : Type 0
  Ends = T (is_some e.spent) ⊎ IsLined g c b e δ

  pub ends : Ends
  ends = elim (wholes.own-end g whole.all whole.cuts c b k runs at-start s within low mask sent) [ inl n ↦ inl n | inr z ↦ by-round (nat_le last_round k.age.round) refl z ]
    where
      by-round : (y : Bool) → nat_le last_round k.age.round ≡ y → IsGoing g c b k e δ → Ends
      by-round true q z = inl (subst (λ y. T (is_some (elim y as (λ x. Doing) [ true ↦ spend counter.Round d | false ↦ hello (emit (out.Told ns) (with_clerk (lose (log.lost w k.log)) d)) ]).spent)) (sym q) tt)
      by-round false q z = inr (leaves-so z q)
