-- A clerk greets, and a step that says or shows something stands with all facts.
use Rattle.std.proofs.Common.{◌≡◌, sym, ap, subst, ◌∙◌, ◌<◌, ◌≤◌, arith, ℕ, T, [], ◌∷◌, ◌++◌, Some, append-nil}
use Rattle.ec_base.specs.declared.ids.Age.{Age}
use Rattle.ec_wire.specs.Messages.{is_sound}
use Rattle.ec_wire.specs.declared.msg.Msg.{Msg}
use Rattle.ec_wire.specs.declared.msg.Msg.TheVariants.{Hello}
use Rattle.ec_protocol.specs.Clerk.{Doing, emit, hello, send}
use Rattle.ec_protocol.specs.declared.clerk.Out.TheVariants as out
use Rattle.ec_coherence.specs.System.{System, Ghost}
use Rattle.ec_coherence.specs.Sessions as sessions
use Rattle.ec_coherence.specs.Sessions.{IsReached}
use Rattle.ec_coherence.specs.Tokens as tokens
use Rattle.ec_coherence.specs.Tokens.{view}
use Rattle.ec_coherence.specs.Log as log
use Rattle.ec_coherence.specs.Steps.{doing_in, out_lines}
use Rattle.ec_coherence.proofs.ForBatches.ClerkIn.{start-same}
use Rattle.ec_coherence.proofs.ForServer.Tables.{same_some}
use Rattle.ec_coherence.specs.CommitLaws.{AllAgree}
use Rattle.ec_coherence.specs.Starts.{Greets}
use Rattle.ec_coherence.specs.StandLaws.{ClerkStands}
use Rattle.ec_lawful.specs.OfClerkSteps.Cuts.{CutsAgree}
use Rattle.ec_lawful.proofs.OfClerkSteps.ForJoins.Outs.{lines-on, says-on}
use Rattle.ec_lawful.proofs.OfClerkSteps.ForJoins.Said.{sent-cuts, sent-stand}

module _ (g : System) (c b : ℕ) (d : Doing) (γ : Ghost) (st : ClerkStands g c b d γ) where
  abbrev here : System
  here = doing_in c b d γ g

  all : AllAgree here
  all = ((st.0).invariant, st.1, st.2, st.3)

  pub stands-at : here.clerks c b ≡ Some d.clerk
  stands-at = start-same c b d.clerk g.clerks

  -- a message is sent of which each family holds
  module _ (m : Msg) (of-sessions : sessions.Fits here c m) (sound : T (is_sound m)) (greets : Greets here c m) (fits : tokens.Fits (view here) m) (of-logs : log.Fits here m) where
    sent-is : record here { pool = here.pool ++ (c, m) ∷ [] } ≡ doing_in c b (send m d) γ g
    sent-is = says-on g c d.outs (out.Send m ∷ []) γ here.clerks

    pub says-stand : ClerkStands g c b (send m d) γ
    says-stand =
        let after = subst AllAgree sent-is (sent-stand here all ((c, m) ∷ []) ((of-sessions, sound, greets), tt) (fits, tt) (of-logs, tt)) in
        (record { runs = (st.0).runs; shown = (st.0).shown ∙ ap (λ z. g.ghost.shown ++ z) (sym (append-nil (out_lines c d.outs g.calls)) ∙ sym (lines-on c d.outs (out.Send m ∷ []) g.calls)); invariant = after.0 }, after.1, after.2, after.3)

    pub says-cuts : CutsAgree here → CutsAgree (doing_in c b (send m d) γ g)
    says-cuts f = subst CutsAgree sent-is (sent-cuts here all ((c, m) ∷ []) ((of-sessions, sound, greets), tt) (fits, tt) (of-logs, tt) f)

  -- its greeting

  of-clerk : (d.clerk.id ≡ c) × (d.clerk.age.boot ≡ b) × (b ≤ g.boots c) × (c < 16)
  of-clerk = (all.0).sessions.starts c b d.clerk stands-at

  reached : IsReached here c d.clerk.age
  reached = (
    subst (λ z. z ≤ g.boots c) (sym of-clerk.1) of-clerk.2,
    λ k q. subst (λ m. d.clerk.age.round ≤ m.age.round) (same_some (sym stands-at ∙ sym (ap (here.clerks c) of-clerk.1) ∙ q)) (omega arith),
  )

  above : g.first_boot c < d.clerk.age.boot
  above = subst (λ z. g.first_boot c < z) (sym of-clerk.1) ((all.3).started c b d.clerk stands-at)

  pub hello-stands : ClerkStands g c b (hello d) γ
  hello-stands = says-stand (Hello d.clerk.id d.clerk.age) (of-clerk.0, of-clerk.3, reached) tt above tt tt

  pub hello-cuts : CutsAgree here → CutsAgree (doing_in c b (hello d) γ g)
  hello-cuts = says-cuts (Hello d.clerk.id d.clerk.age) (of-clerk.0, of-clerk.3, reached) tt above tt tt

  -- an old boot is no message, and shows no line
  pub old-boot-stands : (a : Age) → ClerkStands g c b (emit (out.OldBoot a) d) γ
  old-boot-stands a =
      let after = subst AllAgree (silent-is a) (subst (λ p. AllAgree (record here { pool = p })) (sym (append-nil here.pool)) all) in
      (record { runs = (st.0).runs; shown = (st.0).shown ∙ ap (λ z. g.ghost.shown ++ z) (sym (append-nil (out_lines c d.outs g.calls)) ∙ sym (lines-on c d.outs (out.OldBoot a ∷ []) g.calls)); invariant = after.0 }, after.1, after.2, after.3)
    where
      silent-is : (a : Age) → record here { pool = here.pool ++ [] } ≡ doing_in c b (emit (out.OldBoot a) d) γ g
      silent-is a = says-on g c d.outs (out.OldBoot a ∷ []) γ here.clerks

  pub old-boot-cuts : (a : Age) → CutsAgree here → CutsAgree (doing_in c b (emit (out.OldBoot a) d) γ g)
  old-boot-cuts a f = subst CutsAgree (says-on g c d.outs (out.OldBoot a ∷ []) γ here.clerks) (subst (λ p. CutsAgree (record here { pool = p })) (sym (append-nil here.pool)) f)
