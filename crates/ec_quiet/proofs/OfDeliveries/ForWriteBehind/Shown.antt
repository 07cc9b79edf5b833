-- What the lines of a delivery name, and what a clerk waits for whose cache shows a volume.
use Rattle.std.proofs.Common.{◌≡◌, refl, sym, ap, ◌∙◌, subst, ℕ, T, cond, List, [], ◌∷◌}
use Rattle.std.specs.Prelude.{None, Some}
use Rattle.std.specs.Cmp.{unsigned_ties}
use Rattle.std.proofs.lemmas.Bool.{eq-eqb}
use Rattle.ec_base.specs.Tables.{at, keys, or_else}
use Rattle.ec_volume.specs.Update.{member}
use Rattle.ec_volume.specs.Volume.{Images}
use Rattle.ec_history.specs.History.{Each}
use Rattle.ec_history.specs.declared.shown.Shown.{Shown}
use Rattle.ec_history.specs.declared.shown.Shown.TheVariants as show
use Rattle.ec_order.specs.Order.{Issued}
use Rattle.ec_sessions.specs.declared.slot.Slot.{Slot}
use Rattle.ec_log.specs.Log as log
use Rattle.ec_log.specs.declared.state.LogState.{LogState}
use Rattle.ec_protocol.specs.World.{deliver, runs}
use Rattle.ec_protocol.specs.declared.clerk.Clerk.{Clerk}
use Rattle.ec_protocol.specs.declared.world.Sent.{Sent}
use Rattle.ec_protocol.specs.declared.world.World.{World}
use Rattle.ec_quiet.specs.Facts.{IsIn, IsSending}
use Rattle.ec_quiet.specs.Phases.{Phase, Flushes, Saves, Greets, Opens, Claims, Wants, Recalls, Keeps, Grants, Asks, Gives, Refuses, Saved, Ends, InPhase}
use Rattle.ec_quiet.specs.Scenes.{Mail, Scene}
use Rattle.ec_quiet.specs.Works.{Work}
use Rattle.ec_machine_laws.proofs.Holding.{held-by, holds-passed}
use Rattle.ec_quiet.specs.OfDeliveries.Coming.{IsBatchOf, IsLineOf}
use Rattle.ec_quiet.proofs.OfDeliveries.Batched.{lines-of-phases}
use Rattle.ec_quiet.specs.OfDeliveries.PhasesBehind.{AreAsked, BatchesAreAsked, IsBehind, IsLineBehind}
use Rattle.ec_history.proofs.OfLaws.ForPlacing.BasesAlike.{each-map as each-turn}

-- The operations of the one batch that is under way are those of its numbers.
module _ (v : Images) (j : Work) (c b : ℕ) (l : LogState) (s : IsSending l b) (fine : BatchesAreAsked v j c l) where
  ops-are : log.ops_in b l ≡ s.numbers
  ops-are = ap (λ bs. or_else [] (at b bs)) s.alone ∙ ap (λ z. or_else [] (cond z (Some s.numbers) None)) (sym (unsigned_ties b b) ∙ eq-eqb b b refl)

  numbers-of : (n : ℕ) → T (member n (keys (log.batch b l))) → T (member n s.numbers)
  numbers-of n m =
      let f = held-by (log.batch b l) n m in
      subst (λ ns. T (member n ns)) ops-are (subst T (sym (holds-passed (λ op. member op.0 (log.ops_in b l)) l.undurable n f.0 f.1)) tt)

  batch-asked : AreAsked v j c l s.numbers
  batch-asked = (subst (Each {A = ℕ × List ℕ} (λ b. AreAsked v j c l b.1)) s.alone fine).0

  pub batch-behind : (ns : List ℕ) → ns ≡ keys (log.batch b l) → AreAsked v j c l ns
  batch-behind ns e =
      let q = batch-asked in
      record { what = q.what; asks = q.asks; inside = λ n m. q.inside n (numbers-of n (subst (λ ns. T (member n ns)) e m)) }

module _ (v : Images) (j : Work) (sc : Scene) (fine : IsBehind v j sc) where
  of-batch : (p : Phase) → InPhase j sc p → (c s b : ℕ) (ops : Issued) (ns : List ℕ) → IsBatchOf j sc p c s b ops → ns ≡ keys ops → (k : Clerk) × (sl : Slot) × (at c sc.clerks ≡ Some k) × IsIn sc.server c sl k × AreAsked v j c k.log ns
  of-batch (Flushes x h r b ops more) ip c s n others ns (clerk, own, number, same) e =
      let q = ip.facts.1 in
      let there : at c sc.clerks ≡ Some q.clerk = ap (λ z. at z sc.clerks) clerk ∙ q.there in
      (q.clerk, q.slot, there, subst (λ z. IsIn sc.server z q.slot q.clerk) (sym clerk) q.inside, batch-behind v j c b q.clerk.log q.sending (fine c q.clerk there) ns (e ∙ ap keys (same ∙ ip.facts.2)))
  of-batch (Saves b ops more) ip c s n others ns (clerk, own, number, same) e =
      let q = ip.facts.1 in
      let there : at c sc.clerks ≡ Some q.clerk = ap (λ z. at z sc.clerks) clerk ∙ q.working.there in
      (q.clerk, q.slot, there, subst (λ z. IsIn sc.server z q.slot q.clerk) (sym clerk) q.working.inside, batch-behind v j c b q.clerk.log q.sending (fine c q.clerk there) ns (e ∙ ap keys (same ∙ ip.facts.2)))
  of-batch (Greets age) ip c s n others ns o e = absurd o
  of-batch (Opens age) ip c s n others ns o e = absurd o
  of-batch (Claims w) ip c s n others ns o e = absurd o
  of-batch (Wants x h l) ip c s n others ns o e = absurd o
  of-batch (Recalls x h rs bs) ip c s n others ns o e = absurd o
  of-batch (Keeps x h r b more) ip c s n others ns o e = absurd o
  of-batch (Grants x h l) ip c s n others ns o e = absurd o
  of-batch (Asks again got ask) ip c s n others ns o e = absurd o
  of-batch (Gives got l first) ip c s n others ns o e = absurd o
  of-batch (Refuses again ask live reserved) ip c s n others ns o e = absurd o
  of-batch (Saved b more) ip c s n others ns o e = absurd o
  of-batch Ends ip c s n others ns o e = absurd o

  module _ (p : Phase) (ip : InPhase j sc p) where
    line-behind : (l : Shown) → IsLineOf j sc p l → IsLineBehind v j sc l
    line-behind (show.Durable c ns) f = of-batch p ip c f.0 f.1 f.2 ns f.3 f.4
    line-behind (show.Waits l c cl) f = tt
    line-behind (show.Answered l c cl a op) f = tt
    line-behind (show.Ended c ns) f = tt
    line-behind (show.Unseen c) f = tt
    line-behind (show.Told c ns) f = tt
    line-behind (show.Crashed c) f = tt
    line-behind show.Stopped f = tt
    line-behind show.Started f = tt
    line-behind show.Nothing f = tt
    line-behind show.Unsettled f = tt
    line-behind (show.Bad l k) f = tt
    line-behind (show.DiskBad k) f = tt
    line-behind (show.Limit n k) f = tt
    line-behind (show.Spent n) f = tt

    pub lines-behind : (w : World) (i : ℕ) (x : Sent) (rest : Mail) → at i w.pool ≡ Some x → sc.mail ≡ (x.clerk, x.msg) ∷ rest → Each (IsLineBehind v j sc) (deliver runs i w).shown
    lines-behind w i x rest there mail = each-turn (IsLineOf j sc p) (IsLineBehind v j sc) line-behind (deliver runs i w).shown (lines-of-phases j sc p w i x rest ip there mail)
