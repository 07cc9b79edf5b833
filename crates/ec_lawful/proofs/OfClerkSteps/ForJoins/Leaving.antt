-- The step under way in which a clerk learns that its session has ended.
use Rattle.std.proofs.Common.{◌≡◌, refl, sym, ap, subst, ◌∙◌, inl, inr, ◌⊎◌, ℕ, Bool, true, false, T, List, [], ◌∷◌, ◌++◌, Option, Some, None, append_assoc}
use Rattle.std.specs.Prelude.{is_some, nat_le}
use Rattle.ec_base.specs.Tables.{keys}
use Rattle.ec_base.specs.declared.counter.Counter.{Counter}
use Rattle.ec_base.specs.declared.counter.Counter.TheVariants as counter
use Rattle.ec_history.specs.declared.shown.Shown.TheVariants as show
use Rattle.ec_order.specs.Order.{Issued}
use Rattle.ec_sessions.specs.Limits.{last_round}
use Rattle.ec_sessions.specs.declared.window.Window.{Window}
use Rattle.ec_wire.specs.declared.msg.Msg.TheVariants.{Ended, Hello}
use Rattle.ec_log.specs.Log.{lost}
use Rattle.ec_protocol.specs.Clerk.{Doing, emit, hello, lose, spend, take_ended, with_clerk}
use Rattle.ec_protocol.specs.Server.{first_spent}
use Rattle.ec_protocol.specs.declared.clerk.Out.{Out}
use Rattle.ec_protocol.specs.declared.clerk.Out.TheVariants as out
use Rattle.ec_coherence.specs.System.{System, Ghost}
use Rattle.ec_coherence.specs.Sessions as sessions
use Rattle.ec_coherence.specs.Tokens.{TokensAgree, view}
use Rattle.ec_coherence.specs.Steps.{doing_in, out_lines}
use Rattle.ec_coherence.proofs.ForClerk.Acting.{IsIn}
use Rattle.ec_coherence.proofs.ForBatches.ClerkIn.{start-same}
use Rattle.ec_coherence.proofs.ForClerk.Taken.{ended-agrees}
use Rattle.ec_coherence.specs.CommitLaws.{AllAgree}
use Rattle.ec_coherence.specs.StandLaws.{ClerkStands, IsUnderWay}
use Rattle.ec_lawful.specs.OfClerkSteps.Cuts.{CutsAgree}
use Rattle.ec_lawful.specs.OfClerkSteps.JoinLaws.{tell_loss}
use Rattle.ec_lawful.proofs.OfClerkSteps.ForJoins.SessionLeft as left
use Rattle.ec_lawful.proofs.OfClerkSteps.ForJoins.Outs.{goes-on, lines-on}

module _ (g : System) (c b s : ℕ) (d : Doing) (γ : Ghost) (u : IsUnderWay g c b s d γ) (cuts : CutsAgree (doing_in c b d γ g)) (w : Window) (fits : sessions.Fits (doing_in c b d γ g) c (Ended s w.low w.mask)) where
  abbrev here : System
  here = doing_in c b d γ g

  abbrev ops : Issued
  ops = lost w d.clerk.log

  abbrev leaves : Doing
  leaves = hello (emit (out.Told (keys ops)) (with_clerk (lose ops) d))

  abbrev δ : Ghost
  δ = tell_loss c (keys ops) γ

  abbrev more : List Out
  more = out.Told (keys ops) ∷ out.Send (Hello (lose ops d.clerk).id (lose ops d.clerk).age) ∷ []

  all : AllAgree here
  all = ((u.stands.0).invariant, u.stands.1, u.stands.2, u.stands.3)

  there : here.clerks c b ≡ Some d.clerk
  there = start-same c b d.clerk g.clerks

  outs-are : d.outs ++ more ≡ leaves.outs
  outs-are = sym (append_assoc d.outs (out.Told (keys ops) ∷ []) (out.Send (Hello (lose ops d.clerk).id (lose ops d.clerk).age) ∷ []))

  leaves-is : left.h here all cuts c b s d.clerk (u.stands.0).runs there u.session w fits ≡ doing_in c b leaves δ g
  leaves-is = goes-on g c d.outs more δ b d.clerk (lose ops d.clerk) ∙ ap (λ os. doing_in c b (record leaves { outs = os }) δ g) outs-are

  test-agrees : (z : Bool) → TokensAgree (view (doing_in c b (elim z as (λ y. Doing) [ true ↦ spend counter.Round d | false ↦ leaves ]) γ g)) → z ≡ false → TokensAgree (view (doing_in c b leaves γ g))
  test-agrees z t e = subst (λ y. TokensAgree (view (doing_in c b (elim y as (λ y. Doing) [ true ↦ spend counter.Round d | false ↦ leaves ]) γ g))) e t

  own : IsIn g γ c b s d.clerk
  own = record { session = u.session; age = u.age; owner = u.owns; boot = u.boot; before = u.before }

  module _ (few : nat_le last_round d.clerk.age.round ≡ false) where
    tokens-now : TokensAgree (view (doing_in c b leaves δ g))
    tokens-now = test-agrees (nat_le last_round d.clerk.age.round) (ended-agrees g c b s d γ w own fits.1 (all.0).tokens) few

    left-now : AllAgree (doing_in c b leaves δ g)
    left-now = subst AllAgree leaves-is (left.left-all here all cuts c b s d.clerk (u.stands.0).runs there u.session w fits (subst (λ z. TokensAgree (view z)) (sym leaves-is) tokens-now))

    shown-now : δ.shown ≡ g.ghost.shown ++ out_lines c leaves.outs g.calls
    shown-now = ap (λ ss. ss ++ show.Told c (keys ops) ∷ []) (u.stands.0).shown ∙ append_assoc g.ghost.shown (out_lines c d.outs g.calls) (show.Told c (keys ops) ∷ [])
        ∙ ap (λ ls. g.ghost.shown ++ ls) (sym (lines-on c d.outs more g.calls) ∙ ap (λ os. out_lines c os g.calls) outs-are)

    leaves-stand : ClerkStands g c b leaves δ
    leaves-stand = (record { runs = (u.stands.0).runs; shown = shown-now; invariant = left-now.0 }, left-now.1, left-now.2, left-now.3)

    leaves-cuts : CutsAgree (doing_in c b leaves δ g)
    leaves-cuts = subst CutsAgree leaves-is (left.left-cuts here all cuts c b s d.clerk (u.stands.0).runs there u.session w fits)

  abbrev Leaves : Doing → Type 0
  Leaves e = T (is_some e.spent) ⊎ (ClerkStands g c b e δ × CutsAgree (doing_in c b e δ g) × (e.clerk.session ≡ None))

  pub ended-stands : Leaves (take_ended w d)
  ended-stands = go (nat_le last_round d.clerk.age.round) refl
    where
      spent : (o : Option Counter) → T (is_some (first_spent o counter.Round))
      spent None = tt
      spent (Some n) = tt

      go : (z : Bool) → nat_le last_round d.clerk.age.round ≡ z → Leaves (elim z as (λ y. Doing) [ true ↦ spend counter.Round d | false ↦ leaves ])
      go true e = inl (spent d.spent)
      go false e = inr (leaves-stand e, leaves-cuts e, refl)
