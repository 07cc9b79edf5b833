-- A try of a call that waits on: the step stands with the same ghosts.
use Rattle.std.proofs.Common.{◌≡◌, refl, sym, ap, subst, ◌∙◌, inl, inr, ◌⊎◌, ℕ, Bool, true, false, not, ◌&&◌, T, List, Option, Some, None}
use Rattle.std.specs.Prelude.{is_none, is_some, ⊤}
use Rattle.ec_base.specs.declared.counter.Counter.{Counter}
use Rattle.ec_base.specs.declared.counter.Counter.TheVariants as counter
use Rattle.ec_base.specs.declared.ids.Hold.{Hold}
use Rattle.ec_volume.specs.declared.update.Update.{Update}
use Rattle.ec_plain.specs.declared.call.Outcome.{Outcome}
use Rattle.ec_history.specs.History.{Each}
use Rattle.ec_wire.specs.Messages.{is_held_mode}
use Rattle.std.specs.List.{filter, list_any}
use Rattle.ec_base.specs.Tables.{keys}
use Rattle.ec_volume.specs.Update.{member}
use Rattle.ec_order.specs.Order.{closure}
use Rattle.ec_log.specs.Log.{is_asked, is_full, ops_are_spent, first, pick_from}
use Rattle.ec_log.specs.declared.state.Asked.{Asked}
use Rattle.ec_log.specs.declared.state.Asked.TheVariants.{All}
use Rattle.ec_cache.specs.declared.resolve.verdict.Verdict.{Verdict}
use Rattle.ec_cache.specs.declared.resolve.verdict.Verdict.TheVariants.{Need, Lost, NeedIds, Done}
use Rattle.ec_protocol.specs.Server.{first_spent}
use Rattle.ec_protocol.specs.Clerk.{Doing, Tried, Waits, Answered, answer_with, ask_for, ask_room, await, awaited, has_session, is_owing, is_wanted, issue_if_room, may_want, need_of, send_picked, settle_outcome, spend, suits, try, try_verdict, verdict, want, wanted}
use Rattle.ec_protocol.specs.declared.clerk.Waiting.{Waiting}
use Rattle.ec_coherence.specs.System.{System, Ghost, with_start}
use Rattle.ec_coherence.specs.Sessions.{HasNone}
use Rattle.ec_coherence.specs.Tokens.{Names, view}
use Rattle.ec_coherence.specs.Steps.{call_of, doing_in}
use Rattle.ec_coherence.proofs.ForBatches.ClerkIn.{start-same}
use Rattle.ec_coherence.proofs.ForServer.Lists.{each-turn}
use Rattle.ec_coherence.specs.StandLaws.{IsUnderWay}
use Rattle.ec_lawful.specs.OfClerkSteps.CallLaws.{IsStill}
use Rattle.ec_lawful.specs.OfClerkSteps.Waits.{HasLine, does_wait}
use Rattle.ec_lawful.proofs.OfClerkSteps.ForCalls.Quiet.{quiet-calls, quiet-lines, split-start}
use Rattle.ec_lawful.proofs.OfClerkSteps.ForCalls.Still.{still-ask, still-room, still-waits, still-want}
use Rattle.ec_lawful.specs.OfClerkSteps.DoingLaws.{IsInHand}
use Rattle.ec_lawful.proofs.OfClerkSteps.ForDoings.Hand as hand
use Rattle.ec_lawful.proofs.OfClerkSteps.ForDoings.Moving as moving
use Rattle.ec_lawful.proofs.OfClerkSteps.ForDoings.Naming.{needs-named}
use Rattle.ec_lawful.proofs.OfClerkSteps.ForDoings.Order.{ids-are-out}
use Rattle.ec_lawful.specs.OfClerkSteps.Frames.{IsCalm}
use Rattle.ec_lawful.proofs.OfClerkSteps.ForJoins.Calm.{are-calm}
use Rattle.ec_lawful.proofs.OfClerkSteps.ForJoins.Going.{calm-keeps}
use Rattle.ec_lawful.specs.OfClerkSteps.Frees.{FreesAgree}
use Rattle.ec_lawful.specs.OfClerkSteps.Trying.{IsTrying}
use Rattle.ec_lawful.specs.OfClerkSteps.Zeros.{HasNoZero, ZerosAgree}
use Rattle.ec_lawful.proofs.OfClerkSteps.SameStores.{frees-stay, session-store}
use Rattle.ec_lawful.proofs.OfClerkSteps.Target.{with-twice}

module _ (g : System) (c b : ℕ) (d : Doing) (γ : Ghost) (t : IsTrying g c b d γ) where
  abbrev here : System
  here = doing_in c b d γ g

  -- In a session, with the step in hand.

  module _ (s : ℕ) (u : IsUnderWay g c b s d γ) (e : Doing) (still : IsStill d e) (h : IsInHand g c b s e γ) (calm : IsCalm d e) (got : e.clerk.got ≡ d.clerk.got) where
    abbrev on : System
    on = doing_in c b e γ g

    zeros-on : ZerosAgree on
    zeros-on = record {
      origin = (t.zeros).origin;
      kept = (t.zeros).kept;
      frozen = (t.zeros).frozen;
      next = (t.zeros).next;
      first = (t.zeros).first;
      clerks = λ f a m q. split-start c b f a m e.clerk g.clerks (λ x y z. HasNoZero z) q own (λ n p. (t.zeros).clerks f a m (Rattle.ec_lawful.proofs.OfClerkSteps.ForCalls.Quiet.other-start c b f a d.clerk g.clerks n ∙ p));
    }
      where
        own : HasNoZero e.clerk
        own =
            let z = (t.zeros).clerks c b d.clerk (start-same c b d.clerk g.clerks) in
            record {
              ids = subst (λ y. T (not (Rattle.ec_volume.specs.Update.member 0 y))) (sym still.ids) z.ids;
              undurable = subst (Each (λ o. T (not (Rattle.ec_volume.specs.Update.has_operand 0 o.1)))) (sym still.undurable) z.undurable;
              owed = subst (λ y. Rattle.ec_coherence.specs.Answers.IsUnowed y 0) (sym still.owed) z.owed;
            }

    frees-on : FreesAgree on
    frees-on = subst (λ f. FreesAgree (record on { clerks = f })) (with-twice c b d.clerk e.clerk g.clerks)
        (frees-stay here (record on { clerks = with_start c b e.clerk here.clerks })
        (subst (λ z. Rattle.ec_lawful.proofs.OfClerkSteps.SameStores.SameStore here (record on { clerks = with_start c z e.clerk here.clerks })) u.boot
        (session-store here c s u.age d.clerk e.clerk u.owns (subst (λ z. here.clerks c z ≡ Some d.clerk) (sym u.boot) (start-same c b d.clerk g.clerks)) u.session (h.under_way).session got
        (λ x i. subst (λ y. T (Rattle.ec_volume.specs.Update.member x y)) still.ids i) (λ z. subst (λ y. T (Rattle.ec_volume.specs.Update.distinct y)) (sym still.ids) z) on.calls on.pool γ.kept γ.frozen γ.shown γ.history γ.fresh))
        t.frees (λ v x m q i f. f))

    pub stays : IsTrying g c b e γ
    stays = record {
      stands = (h.under_way).stands;
      place = inr (s, h.under_way);
      calls = quiet-calls g c b d e γ still.quiet t.calls;
      turn = elim t.turn [
        | inl f ↦ inl (quiet-lines g c b d e γ still.quiet f)
        | inr f ↦ inr (
          f.0,
          f.1,
          (still.quiet).waiting ∙ f.2,
          each-turn (λ v. T (does_wait v d.clerk) × HasLine here c v) (λ v. T (does_wait v e.clerk) × HasLine on c v) f.0
              (λ v x. (subst T (sym (still-waits d e still v)) x.0, ((x.1).0, ap (call_of c v.no) ((still.quiet).outs c g.calls) ∙ (x.1).1, (x.1).2))) f.3,
        )
      ];
      orderly = h.orderly;
      names = h.names;
      zeros = zeros-on;
      frees = frees-on;
      cuts = calm-keeps g c b d e γ calm t.cuts;
    }

  -- What waits.

  abbrev pub StaysOn : Tried → Type 0
  StaysOn (Waits e) = T (is_some e.spent) ⊎ (IsTrying g c b e γ × (e.clerk.waiting ≡ d.clerk.waiting))
  StaysOn (Answered e) = ⊤

  spent-on : (n : Counter) → StaysOn (Waits (spend n d))
  spent-on n = inl (go d.spent)
    where
      go : (o : Option Counter) → T (is_some (first_spent o n))
      go None = tt
      go (Some m) = tt

  -- What it asks for.
  Asks : Type 0
  Asks = (a : Asked) → StaysOn (Waits (ask_for a d))

  on-await : (asks : (a : Asked) → StaysOn (Waits (ask_for a d))) (w : Waiting) (o : Outcome) (a : Option Asked) → StaysOn (await w o a d)
  on-await asks w o None = tt
  on-await asks w o (Some a) = go (is_owing w.begun (first a d.clerk.log))
    where
      go : (z : Bool) → StaysOn (elim z as (λ y. Tried) [ true ↦ Waits (ask_for a d) | false ↦ answer_with w (Rattle.ec_history.specs.declared.entry.Answer.TheVariants.Reply o.reply) None o.touched d ])
      go true = asks a
      go false = tt

  on-issue : (asks : (a : Asked) → StaysOn (Waits (ask_for a d))) (w : Waiting) (o : Outcome) (u : Update) → StaysOn (issue_if_room w o u d)
  on-issue asks w o u = go (suits u d.clerk.cache) (is_full d.clerk.log) (ops_are_spent d.clerk.log)
    where
      go : (x y z : Bool) → StaysOn (elim x as (λ a. Tried) [
        | false ↦ Waits d
        | true ↦ elim y as (λ a. Tried) [
          | true ↦ Waits (ask_for All d)
          | false ↦ elim z as (λ a. Tried) [
            | true ↦ Waits (spend counter.Op d)
            | false ↦ answer_with w (Rattle.ec_history.specs.declared.entry.Answer.TheVariants.Reply o.reply) (Some d.clerk.log.next) o.touched (Rattle.ec_protocol.specs.Clerk.with_clerk (Rattle.ec_protocol.specs.Clerk.with_update u) d)
          ]
        ]
      ])
      go false y z = inr (t, refl)
      go true true z = asks All
      go true false true = spent-on counter.Op
      go true false false = tt

  module _ (w : Waiting) (asks : (a : Asked) → StaysOn (Waits (ask_for a d))) (wants : (x : ℕ) (h : Hold) → verdict w.call d.clerk ≡ Need x h → StaysOn (Waits (want x h d)))
      (rooms : (xs : List ℕ) → verdict w.call d.clerk ≡ NeedIds xs → StaysOn (Waits (ask_room d))) where
    on-outcome : (o : Outcome) (u : Option Update) → StaysOn (settle_outcome w o u d)
    on-outcome o None = on-await asks w o (awaited w.call o)
    on-outcome o (Some u) = on-issue asks w o u

    on-verdict : (v : Verdict) → verdict w.call d.clerk ≡ v → StaysOn (try_verdict w v d)
    on-verdict (Need x h) q = wants x h q
    on-verdict (NeedIds xs) q = rooms xs q
    on-verdict (Lost ns xs) q = tt
    on-verdict (Done o) q = on-outcome o o.update

  -- In a session.
  module _ (s : ℕ) (u : IsUnderWay g c b s d γ) (w : Waiting) where
    in-hand : IsInHand g c b s d γ
    in-hand = record { under_way = u; orderly = t.orderly; names = t.names }

    same-waiting : (e : Doing) → IsStill d e → IsInHand g c b s e γ → IsCalm d e → e.clerk.got ≡ d.clerk.got → StaysOn (Waits e)
    same-waiting e still h calm got = inr (stays s u e still h calm got, (still.quiet).waiting)

    pub within : StaysOn (try w d)
    within = on-verdict w
        (λ a. same-waiting (ask_for a d) (still-ask a d).0 (hand.asks g c b s d γ in-hand a) (are-calm.asks a d) (hand.ask-clerk (λ k. k.got ≡ d.clerk.got) d a (λ l. refl)))
        (λ x m q.
        let n = subst (λ v. Each (λ p. T (is_held_mode p.1) × Names (view here) p.0) (need_of v)) q (needs-named here t.names ((moving.all g c b s d γ u).0).images s d.clerk (moving.there g c b s d γ u) w.call) in
        same-waiting (want x m d) (still-want x m d).0 (hand.wants g c b s d γ in-hand x m (n.0).0 (n.0).1) (are-calm.wants x m d) (hand.want-clerk (λ k. k.got ≡ d.clerk.got) x m d refl refl))
        (λ xs q. same-waiting (ask_room d) (still-room d).0 (hand.rooms g c b s d γ in-hand (ids-are-out w.call d.clerk xs q)) (are-calm.rooms d) (hand.room-clerk (λ k. k.got ≡ d.clerk.got) d (λ o n. refl)))
        (verdict w.call d.clerk) refl

  -- Outside: nothing is asked for.
  module _ (out : d.clerk.session ≡ None) (none : HasNone d.clerk) (w : Waiting) where
    as-is : (e : Doing) → e ≡ d → StaysOn (Waits e)
    as-is e q = subst (λ z. StaysOn (Waits z)) (sym q) (inr (t, refl))

    no-pick : (a : Asked) → ask_for a d ≡ d
    no-pick a = ap (λ os. send_picked (pick_from (closure (λ n. member n (keys (filter (is_asked a) os))) os) d.clerk.log) d) none.undurable

    pub outside : StaysOn (try w d)
    outside = on-verdict w
        (λ a. as-is (ask_for a d) (no-pick a))
        (λ x m q. as-is (want x m d) (ap (λ z. elim (is_some z && not (Rattle.ec_protocol.specs.Clerk.under_recall x d.clerk) && Rattle.ec_base.specs.Holds.is_below (Rattle.ec_cache.specs.Cache.mode x d.clerk.cache) m && not (list_any (is_wanted (wanted x m d.clerk)) d.clerk.wanted)) as (λ y. Doing) [
          | true ↦ Rattle.ec_protocol.specs.Clerk.send_want x m d
          | false ↦ d
        ]) out))
        (λ xs q. as-is (ask_room d) (ap (λ z. elim (is_some z && is_none d.clerk.asking) as (λ y. Doing) [ true ↦ Rattle.ec_protocol.specs.Clerk.ask_anew d | false ↦ d ]) out))
        (verdict w.call d.clerk) refl

  pub stays-on : (w : Waiting) → StaysOn (try w d)
  stays-on w = elim t.place [
    | inl out ↦ outside out (((((t.stands).0).invariant).sessions).without c b d.clerk (start-same c b d.clerk g.clerks) out) w
    | inr u ↦ within u.0 u.1 w
  ]
