-- The whole invariant behind sixteen ids that a session is given.
use Rattle.std.proofs.Common.{◌≡◌, refl, sym, ap, subst, ◌∙◌, inl, inr, arith, ℕ, Bool, true, false, T, List, [], ◌++◌, Some, None}
use Rattle.std.specs.Prelude.{◌+◌, ◌≤◌, ◌==◌, ◌||◌, zero, suc, nat_le, nat_lt, Ok}
use Rattle.std.proofs.lemmas.Bool.{cases_eq, true≢false}
use Rattle.ec_volume.specs.Update.{member}
use Rattle.ec_sessions.specs.Limits.{last_first_id, last_grants}
use Rattle.ec_sessions.specs.Slots.{with_ids}
use Rattle.ec_sessions.specs.declared.slot.Slot.{Slot}
use Rattle.ec_wire.specs.declared.msg.Msg.TheVariants.{Ids}
use Rattle.ec_durable.specs.Durable.{is_full, slot, step}
use Rattle.ec_durable.specs.declared.record.Record.TheVariants as record_of
use Rattle.ec_sessions.specs.OfTokens.Tokens as tokens
use Rattle.ec_protocol.specs.Server.{Serving, grant_ids, ids_are_spent, is_last_number}
use Rattle.ec_protocol.specs.declared.clerk.Clerk.{Clerk}
use Rattle.ec_history.specs.History.{Op}
use Rattle.ec_coherence.specs.System.{System, Ghost, clerk_in, eff_from, is_open}
use Rattle.ec_coherence.specs.Tokens.{eff, view}
use Rattle.ec_coherence.specs.Events.{EventsAgree}
use Rattle.ec_coherence.specs.Invariant.{Invariant}
use Rattle.ec_coherence.specs.Steps.{Committed, give_ids, record_lines, serving_in, Under}
use Rattle.ec_coherence.specs.BatchLaws.{BatchFacts}
use Rattle.ec_coherence.proofs.ForBatches.GiveAgrees as giving
use Rattle.ec_coherence.proofs.ForBatches.GiveAgrees.{give-agrees}
use Rattle.ec_coherence.proofs.ForBatches.OpenSlots.{at-open, open-at}
use Rattle.ec_coherence.proofs.ForServer.Tables.{same_some}
use Rattle.ec_coherence.specs.Starts.{StartsAgree}
use Rattle.ec_coherence.specs.Watches.{FirstsAgree, WatchesAgree, still_in}
use Rattle.ec_coherence.proofs.ForCommits.Framed.{framed-events}
use Rattle.ec_coherence.proofs.ForCommits.Starting.{quiet-with, starts-behind}
use Rattle.ec_coherence.proofs.ForCommits.Stopping.{stops-behind}
use Rattle.ec_coherence.proofs.ForCommits.Watched.{reslotted-watches}
use Rattle.ec_base.proofs.Options.{none_some}
use Rattle.ec_base.proofs.Bools.{holds-true as holds}

-- an ended session has no token but the ones before its end
pub ended-unclaimed : (g : System) (γ : Ghost) (t : Serving) → Invariant (serving_in t γ g) → (s : ℕ) (fs : List Op) → γ.frozen s ≡ Some fs → member s t.server.claimed ≡ false
ended-unclaimed g γ t i s fs f = go (member s t.server.claimed) refl
  where
    go : (b : Bool) → member s t.server.claimed ≡ b → member s t.server.claimed ≡ false
    go true e = absurd (none_some (sym (i.images.unfrozen s (i.tokens.tables.are_open s (holds (member s t.server.claimed) e))) ∙ f))
    go false e = e

-- the ids that are given are in their range

pub ids-in-range : (got : ℕ) (t : Serving) → ids_are_spent got t ≡ false → T (nat_le t.server.durable.next_id last_first_id)
ids-in-range got t e = holds (nat_le t.server.durable.next_id last_first_id) (low last_first_id t.server.durable.next_id (first-off (nat_lt last_first_id t.server.durable.next_id) (nat_le last_grants got) e))
  where
    first-off : (a b : Bool) → (a || b) ≡ false → a ≡ false
    first-off true b e = absurd (true≢false e)
    first-off false b e = refl

    low : (a b : ℕ) → nat_lt a b ≡ false → nat_le b a ≡ true
    low a b e = grind arith

pub give-firsts : (γ : Ghost) (s first : ℕ) → T (nat_le first last_first_id) → FirstsAgree γ → FirstsAgree (give_ids s first γ)
give-firsts γ s first small f r = go (r == s) (f r)
  where
    go : (b : Bool) → (suc zero ≤ γ.grants r → T (nat_le (γ.first r) last_first_id)) → suc zero ≤ (elim b as (λ z. ℕ) [ true ↦ γ.grants s + 1 | false ↦ γ.grants r ])
        → T (nat_le (elim b as (λ z. ℕ) [ true ↦ first | false ↦ γ.first r ]) last_first_id)
    go true h l = small
    go false h l = h l

-- behind a step without a record there is the first durable state, and no line
pub before-record : (g : System) (γ : Ghost) (t : Serving) → Under g t γ → t.rec ≡ None → t.server.durable ≡ g.durable
before-record g γ t u none = subst (λ r. Committed g.durable r t.server.durable) none u.committed

pub before-lines : (g : System) (γ : Ghost) (t : Serving) → Under g t γ → t.rec ≡ None → γ.shown ≡ g.ghost.shown ++ []
before-lines g γ t u none = subst (λ r. γ.shown ≡ g.ghost.shown ++ record_lines g r) none u.shown

module _ (g : System) (γ : Ghost) (t : Serving) (u : Under g t γ) (none : t.rec ≡ None) (c : ℕ) (sl : Slot) (in_slot : slot t.server.durable c ≡ Some sl) (opened : T sl.is_open)
    (k : Clerk) (there : clerk_in (serving_in t γ g) sl.session ≡ Some k) (claimed : T (member sl.session t.server.claimed)) (taken : T (γ.taken sl.session)) (current : k.got ≡ sl.grants)
    (ask : ℕ) (room : is_full t.server.durable ≡ false) (enough : ids_are_spent sl.grants t ≡ false) (small : is_last_number t ≡ false) where
  abbrev here : System
  here = serving_in t γ g

  abbrev now : Serving
  now = giving.given g γ t u c sl in_slot opened k there claimed taken current ask room enough small sl.grants

  abbrev γ' : Ghost
  γ' = give_ids sl.session t.server.durable.next_id γ

  abbrev behind : System
  behind = serving_in now γ' g

  was-open : (s : ℕ) → T (is_open behind s) → T (is_open here s)
  was-open s o =
      let q = open-at s now.server.durable.sessions o in
      elim (cases_eq q.0 c) [
        | inl e ↦
            let is = same_some (sym (ap (slot now.server.durable) (sym e) ∙ (q.2).0) ∙ giving.own g γ t u c sl in_slot opened k there claimed taken current ask room enough small) in
            at-open s t.server.durable.sessions c sl (in_slot, sym (ap (λ w. w.session) is) ∙ (q.2).1, opened)
        | inr n ↦ at-open s t.server.durable.sessions q.0 q.1 (sym (giving.others g γ t u c sl in_slot opened k there claimed taken current ask room enough small q.0 n) ∙ (q.2).0, (q.2).1, (q.2).2)
      ]

  same-tokens : (s : ℕ) (fs : List Op) → γ.frozen s ≡ Some fs → (x : ℕ) → eff (view behind) s x ≡ eff (view here) s x
  same-tokens s fs f x =
      let out = ended-unclaimed g γ t u.invariant s fs f in
      ap (λ b. eff_from b (tokens.token now.server.tokens s x) t.server.durable.epoch (γ.old s x)) out ∙ sym (ap (λ b. eff_from b (tokens.token t.server.tokens s x) t.server.durable.epoch (γ.old s x)) out)

  events : EventsAgree behind
  events = framed-events here now.server.durable (Some now.server) behind.pool γ.owner γ.taken γ'.grants γ'.first u.invariant.events refl (λ s o. inl (was-open s o, refl)) same-tokens (λ s o p. p) u.invariant.images.unopened

  agrees : BatchFacts behind
  agrees = subst (λ z. BatchFacts (serving_in z γ' g)) (giving.grant-is g γ t u c sl in_slot opened k there claimed taken current ask room enough small)
      (give-agrees g γ t u c sl in_slot opened k there claimed taken current ask room enough small)

  given : Under g now γ'
  given = record {
    committed = subst (λ d. step (record_of.Ids c sl.session sl.grants t.server.durable.next_id) d ≡ Ok now.server.durable) (before-record g γ t u none)
        (giving.steps g γ t u c sl in_slot opened k there claimed taken current ask room enough small);
    shown = before-lines g γ t u none;
    invariant = record { sessions = agrees.sessions; tokens = agrees.tokens; logs = agrees.logs; images = agrees.images; events = events; stops = stops-behind g γ γ' t now u agrees.images };
  }

  pub give-stands : Under g (grant_ids c sl.session sl.grants ask t) γ'
  give-stands = subst (λ z. Under g z γ') (sym (giving.grant-is g γ t u c sl in_slot opened k there claimed taken current ask room enough small)) given

  pub give-starts : StartsAgree here → StartsAgree (serving_in (grant_ids c sl.session sl.grants ask t) γ' g)
  give-starts st = subst (λ z. StartsAgree (serving_in z γ' g)) (sym (giving.grant-is g γ t u c sl in_slot opened k there claimed taken current ask room enough small))
      (starts-behind g γ t st γ' now (quiet-with g γ t st c (Ids sl.session t.server.durable.epoch sl.grants (t.server.number + 1) t.server.durable.next_id) tt) st.owned st.above st.alike)

  module _ (wa : WatchesAgree here) where
    given-watches : WatchesAgree behind
    given-watches = reslotted-watches here now.server.durable (Some now.server) behind.pool γ.owner γ.taken γ'.grants γ'.first wa c
        (λ j n. let e = giving.others g γ t u c sl in_slot opened k there claimed taken current ask room enough small j n in (e, ap (still_in γ') e))
        (ap (still_in γ') (giving.own g γ t u c sl in_slot opened k there claimed taken current ask room enough small) ∙ sym (ap (still_in γ) in_slot))
        (λ b so p o. (
          record sl { grants = sl.grants + 1; last_first = Some (t.server.durable.next_id); unspent = with_ids t.server.durable.next_id sl.unspent },
          giving.own g γ t u c sl in_slot opened k there claimed taken current ask room enough small,
          opened,
          ap (λ w. w.age) (same_some (sym in_slot ∙ p)),
        ))

    pub give-watches : WatchesAgree (serving_in (grant_ids c sl.session sl.grants ask t) γ' g)
    give-watches = subst (λ z. WatchesAgree (serving_in z γ' g)) (sym (giving.grant-is g γ t u c sl in_slot opened k there claimed taken current ask room enough small)) given-watches
