-- All facts behind a change of what no family reads of a clerk, with messages of which they hold: wants, pushes, askings and waiting calls.
use Rattle.std.proofs.Common.{◌≡◌, sym, ap, subst, ◌∙◌, ◌⊎◌, ◌<◌, ◌≤◌, ◌+◌, ℕ, T, List, ◌++◌, Some}
use Rattle.ec_base.specs.Tables.{at}
use Rattle.ec_base.specs.declared.ids.Age.{Age}
use Rattle.ec_volume.specs.Update.{distinct, member, operands}
use Rattle.ec_history.specs.History.{Each, Op, updates}
use Rattle.ec_sessions.specs.declared.slot.Slot.{Slot}
use Rattle.ec_wire.specs.declared.msg.Msg.{Msg}
use Rattle.ec_protocol.specs.declared.clerk.Clerk.{Clerk}
use Rattle.ec_coherence.specs.System.{System, clerk_in, undurable}
use Rattle.ec_coherence.specs.Tokens as tokens
use Rattle.ec_coherence.specs.Tokens.{TokensAgree, side, view}
use Rattle.ec_coherence.specs.Log as log
use Rattle.ec_coherence.specs.Log.{IdsAgree, made_by}
use Rattle.ec_coherence.specs.ChangeLaws.{Calls, IsInIt, LogsAndImages, with_clerk}
use Rattle.ec_coherence.proofs.ForBatches.ClerkIn.{was-in}
use Rattle.ec_coherence.proofs.ForBatches.HeldChange as held
use Rattle.ec_coherence.proofs.ForClerk.Sends.{pool-agrees}
use Rattle.ec_coherence.proofs.ForServer.Lists.{each-more}
use Rattle.ec_coherence.specs.CommitLaws.{AllAgree}
use Rattle.ec_coherence.specs.StandLaws.{AreSent, SessionGoesOn}
use Rattle.ec_coherence.proofs.GoesOn.{changes-stand}
use Rattle.ec_coherence.proofs.Same.{view-with}

module _ (g : System) (all : AllAgree g) (c s : ℕ) (age : Age) (k now : Clerk) (in-it : IsInIt g c s age k) (on : SessionGoesOn k now) (same_side : side now ≡ side k) (same_ids : now.ids ≡ k.ids) (same_log : now.log ≡ k.log)
    (calls : Calls) (ms : List (ℕ × Msg)) (fits : Each (λ m. log.Fits (with_clerk g c age.boot now calls ms) m.1) ms) where
  owns : g.ghost.owner s ≡ Some (c, age)
  owns = (in-it.start).owns

  stands : g.clerks c age.boot ≡ Some k
  stands = (in-it.start).stands

  still : now.session ≡ Some s
  still = on.session ∙ in-it.session

  ids-stay : (sl : Slot) (grants first : ℕ) (os : List Op) → IdsAgree k sl grants first os → IdsAgree now sl grants first os
  ids-stay sl grants first os f = record {
    granted = f.granted;
    last = f.last;
    distinct_ids = subst (λ z. T (distinct (z ++ made_by (updates os)))) (sym same_ids) f.distinct_ids;
    free = subst (λ z. Each (λ x. T (member x sl.unspent)) (z ++ made_by (updates os))) (sym same_ids) f.free;
    earlier = λ q. subst (λ z. Each (λ x. x < first) (z ++ made_by (updates os))) (sym same_ids) (f.earlier (ap (λ z. z.got + 1) (sym same_side) ∙ q));
    all = subst (λ z. Each (λ x. T (member x (z ++ made_by (updates os))) ⊎ ((now.got + 1 ≡ grants) × (first ≤ x) × (x < first + 16))) sl.unspent) (sym same_ids)
        (subst (λ z. Each (λ x. T (member x (k.ids ++ made_by (updates os))) ⊎ ((z.got + 1 ≡ grants) × (first ≤ x) × (x < first + 16))) sl.unspent) (sym same_side) f.all);
  }

  there : clerk_in g s ≡ Some k
  there = was-in g.ghost.owner g.clerks c s age k k owns stands in-it.session in-it.session

  may : held.Holds g (all.0).tokens (all.0).logs (all.0).images c s age k now owns stands in-it.session still same_log calls ms
  may = record {
    writes = λ o d w f. subst (λ z. Each (λ x. tokens.IsWrite (at x z.cache.held)) (operands o.update)) (sym same_side) f;
    ids = λ j sl p q r f. ids-stay sl (g.ghost.grants s) (g.ghost.first s) (undurable g.ghost s) f;
    rooms = λ e got j sl p q r a b i. same_ids ∙ i;
    got = λ j sl p q r a. ap (λ z. z.got + 1) (sym same_side) ∙ a;
    images = λ x o e. (all.0).images.licences s x k there o (ap (λ z. at x z.cache.held) (sym same_side) ∙ e);
    messages = fits;
  }

  -- logs and images
  pub rests-both : LogsAndImages (with_clerk g c age.boot now calls ms)
  rests-both = (held.held-logs g (all.0).tokens (all.0).logs (all.0).images c s age k now owns stands in-it.session still same_log calls ms may, held.held-images g (all.0).tokens (all.0).logs (all.0).images c s age k now owns stands in-it.session still same_log calls ms may)

  module _ (sent : AreSent g ms) (told : Each (λ m. tokens.Fits (view g) m.1) ms) where
    tokens-stay : TokensAgree (view (with_clerk g c age.boot now calls ms))
    tokens-stay = subst TokensAgree (sym (view-with g c s age k now in-it on.session same_side calls ms))
        (pool-agrees (view g) (g.pool ++ ms) (all.0).tokens (each-more (λ m. tokens.Fits (view g) m.1) g.pool ms ((all.0).tokens).messages told))

    pub rests-stand : AllAgree (with_clerk g c age.boot now calls ms)
    rests-stand = changes-stand g all c s age k now in-it on calls ms sent tokens-stay rests-both
