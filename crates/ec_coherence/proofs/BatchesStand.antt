-- All facts behind what a clerk does with its batches: one is passed, sent again, or picked and sent.
use Rattle.std.proofs.Common.{◌≡◌, refl, sym, ap, ◌∙◌, arith, ℕ, false, T, List, [], ◌∷◌, Some}
use Rattle.std.specs.Prelude.{is_some}
use Rattle.ec_base.specs.Tables.{at}
use Rattle.ec_base.specs.declared.ids.Age.{Age}
use Rattle.ec_sessions.specs.Windows.{has}
use Rattle.ec_volume.specs.declared.update.Update.{Update}
use Rattle.ec_wire.specs.Messages.{is_sound}
use Rattle.ec_wire.specs.declared.msg.Msg.TheVariants.{Flush}
use Rattle.ec_log.specs.Log.{after_pick, batch, batches_are_spent, kept, pick}
use Rattle.ec_log.specs.declared.state.Asked.{Asked}
use Rattle.ec_log.specs.declared.state.Pick.TheVariants.{Batch}
use Rattle.ec_protocol.specs.declared.clerk.Clerk.{Clerk}
use Rattle.ec_coherence.specs.System.{System}
use Rattle.ec_coherence.specs.Tokens.{Fits, side, side_in, view}
use Rattle.ec_coherence.specs.Log.{OfOpen}
use Rattle.ec_coherence.specs.ChangeLaws.{Calls, IsInIt, with_clerk}
use Rattle.ec_coherence.proofs.ForBatches.Answered.{again-images, again-logs}
use Rattle.ec_coherence.proofs.ForBatches.ClerkIn.{was-in}
use Rattle.ec_coherence.proofs.ForBatches.LogChange.{kept-images, kept-logs, pick-images, pick-logs}
use Rattle.ec_coherence.proofs.ForServer.Tables.{same_some}
use Rattle.ec_coherence.specs.CommitLaws.{AllAgree}
use Rattle.ec_coherence.specs.StandLaws.{AreSent}
use Rattle.ec_coherence.proofs.GoesOn.{changes-stand}
use Rattle.ec_coherence.proofs.Same.{sent-tokens, silent-tokens}

module _ (g : System) (all : AllAgree g) (c s : ℕ) (age : Age) (k : Clerk) (in-it : IsInIt g c s age k) (calls : Calls) where
  owns : g.ghost.owner s ≡ Some (c, age)
  owns = (in-it.start).owns

  stands : g.clerks c age.boot ≡ Some k
  stands = (in-it.start).stands

  pub passes-stand : (b : ℕ) → OfOpen g s (λ sl. T (has sl.window b)) → AllAgree (with_clerk g c age.boot (record k { log = kept b k.log }) calls [])
  passes-stand b marked = changes-stand g all c s age k (record k { log = kept b k.log }) in-it (record { id = refl; age = refl; session = refl; owed = refl; next = refl }) calls [] tt
      (silent-tokens g c s age k (record k { log = kept b k.log }) in-it refl refl calls (all.0).tokens)
      (kept-logs g (all.0).logs (all.0).images c s age k owns stands in-it.session calls b marked, kept-images g (all.0).logs (all.0).images c s age k owns stands in-it.session calls b marked)

  -- a message of the clerk's epoch passes
  passes : (b : ℕ) (ops : List (ℕ × Update)) → Fits (view g) (Flush s k.epoch b ops)
  passes b ops =
      let there : (view g).clerk s ≡ Some (side k) = ap side_in (was-in g.ghost.owner g.clerks c s age k k owns stands in-it.session in-it.session) in
      let q = (all.0).tokens.got s (side k) there in
      (q.1, q.0, λ m i. let e : k.epoch ≡ m.epoch = ap (λ z. z.epoch) (same_some (sym there ∙ i)) in omega arith)

  flush-sent : (b : ℕ) (ops : List (ℕ × Update)) → T (is_sound (Flush s k.epoch b ops)) → AreSent g ((c, Flush s k.epoch b ops) ∷ [])
  flush-sent b ops sound = (((age, owns), sound, tt), tt)

  pub again-stands : (b : ℕ) → T (is_some (at b k.log.batches)) → T (is_sound (Flush s k.epoch b (batch b k.log))) → AllAgree (with_clerk g c age.boot k calls ((c, Flush s k.epoch b (batch b k.log)) ∷ []))
  again-stands b under sound = changes-stand g all c s age k k in-it (record { id = refl; age = refl; session = refl; owed = refl; next = refl }) calls ((c, Flush s k.epoch b (batch b k.log)) ∷ []) (flush-sent b (batch b k.log) sound)
      (sent-tokens g c s age k k in-it refl refl calls (Flush s k.epoch b (batch b k.log)) (all.0).tokens (passes b (batch b k.log)))
      (again-logs g (all.0).logs (all.0).images c s age k owns stands in-it.session calls b k.epoch under, again-images g (all.0).logs (all.0).images c s age k owns stands in-it.session calls b k.epoch under)

  pub picks-stand : (a : Asked) (b : ℕ) (ns : List ℕ) → pick a k.log ≡ Batch b ns → batches_are_spent k.log ≡ false → T (is_sound (Flush s k.epoch b (batch b (after_pick (Batch b ns) k.log))))
      → AllAgree (with_clerk g c age.boot (record k { log = after_pick (Batch b ns) k.log }) calls ((c, Flush s k.epoch b (batch b (after_pick (Batch b ns) k.log))) ∷ []))
  picks-stand a b ns picked unspent sound =
      let ops = batch b (after_pick (Batch b ns) k.log) in
      changes-stand g all c s age k (record k { log = after_pick (Batch b ns) k.log }) in-it (record { id = refl; age = refl; session = refl; owed = refl; next = refl }) calls ((c, Flush s k.epoch b ops) ∷ []) (flush-sent b ops sound)
      (sent-tokens g c s age k (record k { log = after_pick (Batch b ns) k.log }) in-it refl refl calls (Flush s k.epoch b ops) (all.0).tokens (passes b ops))
      (pick-logs g (all.0).logs (all.0).images c s age k owns stands in-it.session calls a b ns picked unspent k.epoch, pick-images g (all.0).logs (all.0).images c s age k owns stands in-it.session calls a b ns picked unspent k.epoch)
